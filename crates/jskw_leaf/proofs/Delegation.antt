-- What is not asked where no case applies.
use Rattle.std.proofs.Common.{◌≡◌, Bool, true, false, ◌&&◌, refl}

pub and_false : (b : Bool) → (b && false) ≡ false
and_false true = refl
and_false false = refl
