use Rattle.std.proofs.Common.{◌≡◌, ℕ, List, Bool, true, false, refl, sym}
use Rattle.std.proofs.lemmas.Slice.Eq.{bytes_eq-Decides}
use Rattle.std.specs.Str.{bytes_eq}
use Rattle.jskw_value.proofs.types.JsonTypeFromStr.from_str.Goals as goal

-- another name is not this one
other : (name : List ℕ) (known : List ℕ) → (name ≡ known → ⊥) → bytes_eq known name ≡ false
other name known h = go (bytes_eq known name) refl
  where
    go : (b : Bool) → bytes_eq known name ≡ b → bytes_eq known name ≡ false
    go true e = absurd (h (sym ((bytes_eq-Decides known name).0 e)))
    go false e = e

pub returns-in_default : goal.returns-in_default
returns-in_default c =
    let n = c.args.name.now in
    let d = c.in_default in
    rw (
      other n _ d.not-array,
      other n _ d.not-boolean,
      other n _ d.not-integer,
      other n _ d.not-null,
      other n _ d.not-number,
      other n _ d.not-object,
      other n _ d.not-string,
    ) refl
