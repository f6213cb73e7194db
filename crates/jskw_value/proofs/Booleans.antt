-- Parts of conjunctions, and tests that are the same.
use Rattle.std.proofs.Common.{◌≡◌, Bool, true, ◌&&◌, ap, ◌∙◌}
use Rattle.std.proofs.lemmas.Bool.{and_parts}
use Rattle.std.proofs.lemmas.Bool.Decides.{same_from_decides}

-- the left side of a conjunction that holds
pub left_of : (a b : Bool) → (a && b) ≡ true → a ≡ true
left_of a b h = (and_parts a b h).0

-- the right side of a conjunction that holds
pub right_of : (a b : Bool) → (a && b) ≡ true → b ≡ true
right_of a b h = (and_parts a b h).1

-- conjunctions of equal sides are equal
pub both : {a b c d : Bool} → a ≡ c → b ≡ d → (a && b) ≡ (c && d)
both {b} {c} e f = ap (λ a. a && b) e ∙ ap (λ b. c && b) f

-- two tests that imply one another
pub each_way : (a b : Bool) → (a ≡ true → b ≡ true) → (b ≡ true → a ≡ true) → a ≡ b
each_way a b f g = same_from_decides {P = b ≡ true} a b (f, g) (λ h. h, λ h. h)
