-- A slice of no bytes is had of nothing at each place: with the size 0 an export asks nothing of the pointer. NULL is
-- no place. Assumes `Logic`.
use Rattle.std.proofs.Common.{Bor, ℕ, List, [], ◌∷◌, lit<, refl}
use seplogic.Ra.Ura.{Ura}
use mir.Syntax.{Lifetime}
use base.Fml.{Lft}
use base.Logic.{ent, emp, ex}
use types.Logic.{Logic, sem}
use types.Kit.{◌$◌, ◌∵◌, !, qed, fjoin, done}
use denote.Builtin.{u8}
use denote.Lend.{Lent, lends_slice}
use denote.Shadow.{pure_i}
use denote.Steps.{nothing}
use denote.Slice.{ShrSlice, shr_slice_at, slice_val}

module _ {M : Type 1} {𝓤 : Ura M} (𝓛 : Logic 𝓤) (ℓ : Lifetime) (κ : Lft) (b o : ℕ) where
  abbrev none : Bor (List ℕ)
  none = record { ref_ptr = (b, o); now = [] }

  -- bytes that are read
  pub read_anywhere : ent 𝓤 (emp 𝓤) (sem 𝓛 ((ShrSlice ℓ κ u8).own_val none (slice_val (b, o) 0 ∷ [])))
  read_anywhere =
      qed 𝓛 [] ∵ nothing ! $ pure_i ! (shr_slice_at u8 none (slice_val (b, o) 0 ∷ [])) (tt, (tt, tt))
      (refl, (lit< tt, lit< tt)) $ fjoin ! $ done !

  -- a buffer
  pub written_anywhere : ent 𝓤 (emp 𝓤) (𝓛.H.⇛ (ex 𝓤 (Lent 𝓛 u8 ℓ κ [] b o)))
  written_anywhere = lends_slice 𝓛 u8 ℓ κ [] b o (lit< tt, lit< tt)
