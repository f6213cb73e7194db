-- What a handle owns.
use Rattle.std.specs.Prelude.{Option, None, Some}
use base.Fml.{Fml, fex, feq}
use denote.RattleType.{RattleType}
use denote.RawPtr.{Ptr, null_ptr}
use Rattle.std.specs.declared.alloc.Global.{Global}
use Rattle.std.specs.contracts.impls.GlobalAllocator.TheImpl.{ghosts}
use Rattle.std_alloc.specs.Box.Ownership.{box_owns}

-- a value in a block of the heap
abbrev pub boxed : (R : RattleType) → Ptr → R.Denot → Global → Fml
boxed R p x a = box_owns (ghosts.dealloc_token a) R p x

-- nothing where it is null, or a value in a block of the heap
abbrev pub slot_owns : (R : RattleType) → Ptr → Option R.Denot → Fml
slot_owns R p None = feq Ptr p null_ptr
slot_owns R p (Some x) = fex Global (boxed R p x)
