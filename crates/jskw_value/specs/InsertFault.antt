-- What a refused insertion hands back.
use Rattle.std.specs.Prelude.{◌≡◌, Bool, true, false, String}
use Rattle.std.specs.declared.alloc.Global.{Global}
use Rattle.jskw_value.specs.declared.members.InsertFault.{InsertFault}
use Rattle.jskw_value.specs.declared.members.InsertFault.TheVariants.{Repeated, Memory}

-- the name and the value come back
abbrev pub HandsBack : {V : Type 0} → String Global → V → InsertFault V → Type 0
HandsBack name value (Repeated n v) = (n ≡ name) × (v ≡ value)
HandsBack name value (Memory n v) = (n ≡ name) × (v ≡ value)

-- whether the name was there
abbrev pub is_repeated : {V : Type 0} → InsertFault V → Bool
is_repeated (Repeated n v) = true
is_repeated (Memory n v) = false
