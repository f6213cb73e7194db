-- The numbers by which items are sorted: equal items have one.
use Rattle.std.proofs.Common.{◌≡◌, ℕ, zero, suc, ◌==◌, ◌<◌, ◌&&◌, ◌||◌, not, List, length, Bool, true, false, None}
use Rattle.std.proofs.Common.{Some, if◌then◌else◌, refl, ap, arith}
use Rattle.std.proofs.lemmas.Bool.{and_from, and_parts}
use Rattle.std.proofs.lemmas.Option.{same_Some}
use Rattle.jskw_value.specs.Doubt.{beginning, is_distinct_for, key, undoubted}
use Rattle.jskw_value.specs.Equality.{equal}
use Rattle.jskw_value.specs.Fingerprint.{fingerprint, is_distinct_within, unlimited}
use Rattle.jskw_value.specs.Sketch.{is_marked}
use Rattle.jskw_value.specs.Tree.{Tree}
use Rattle.jskw_value.proofs.Fingerprints.{equal_fingerprint}

-- a length that is not 0
positive : (n : ℕ) → (n == 0) ≡ false → 0 < n
positive zero e = absurd (cc)
positive (suc n) e = omega arith

-- the key of an item that is not in doubt: there are marks, and none of it
first_key : (n f d w : Bool) (p x y : ℕ) → Some p ≡ (if n || f then None else Some x) → (n ≡ false → d ≡ true)
    → (p ≡ (if n || f then y else x)) × (((n || d) && (not (n || f) || w)) ≡ true)
first_key true f d w p x y e h = absurd (cc)
first_key false true d w p x y e h = absurd (cc)
first_key false false d w p x y e h = (same_Some p x e, and_from d true (h refl) refl)

-- of one that is
whole_key : (n f d w : Bool) (p x y : ℕ) → None ≡ (if n || f then None else Some x) → (n ≡ false → d ≡ true) → w ≡ true
    → p ≡ y → (p ≡ (if n || f then y else x)) × (((n || d) && (not (n || f) || w)) ≡ true)
whole_key true f d w p x y e h k q = (q, k)
whole_key false true d w p x y e h k q = (q, and_from d w (h refl) k)
whole_key false false d w p x y e h k q = absurd (cc)

-- the fingerprint of a beginning is the key of an item that is not in doubt
pub of_beginning : (seed : ℕ) (marks : List ℕ) (t : Tree) (p : ℕ) → Some p ≡ undoubted marks t
    → (0 < length marks → is_distinct_within beginning t ≡ true)
    → (p ≡ key seed marks t) × (is_distinct_for marks t ≡ true)
of_beginning seed marks t p e d =
    first_key (length marks == 0) (is_marked marks (fingerprint 0 beginning t)) (is_distinct_within beginning t)
    (is_distinct_within unlimited t)
    p (fingerprint 0 beginning t) (fingerprint seed unlimited t) e (λ q. d (positive (length marks) q))

-- that of all of it is the key of one that is
pub of_all : (seed : ℕ) (marks : List ℕ) (t : Tree) (p : ℕ) → None ≡ undoubted marks t
    → (0 < length marks → is_distinct_within beginning t ≡ true) → is_distinct_within unlimited t ≡ true
    → p ≡ fingerprint seed unlimited t
    → (p ≡ key seed marks t) × (is_distinct_for marks t ≡ true)
of_all seed marks t p e d w same =
    whole_key (length marks == 0) (is_marked marks (fingerprint 0 beginning t)) (is_distinct_within beginning t)
    (is_distinct_within unlimited t)
    p (fingerprint 0 beginning t) (fingerprint seed unlimited t) e (λ q. d (positive (length marks) q)) w same

-- keys of two items whose beginnings have one fingerprint, and so have the two, as far as they count
same_key : (n f g c d v w : Bool) (x y s r : ℕ) → ((n || c) && (not (n || f) || v)) ≡ true
    → ((n || d) && (not (n || g) || w)) ≡ true
    → (c ≡ true → d ≡ true → (x ≡ y) × (f ≡ g)) → (v ≡ true → w ≡ true → s ≡ r)
    → (if n || f then s else x) ≡ (if n || g then r else y)
same_key true f g c d v w x y s r h k begun whole = whole h k
same_key false true true c d v w x y s r h k begun whole = whole (and_parts c v h).1 (and_parts d w k).1
same_key false false false c d v w x y s r h k begun whole = (begun (and_parts c true h).0 (and_parts d true k).0).0
same_key false true false c d v w x y s r h k begun whole =
    let e = (begun (and_parts c v h).0 (and_parts d true k).0).1 in absurd (cc)
same_key false false true c d v w x y s r h k begun whole =
    let e = (begun (and_parts c true h).0 (and_parts d w k).0).1 in absurd (cc)

-- equal items have one key
pub equal_key : (seed : ℕ) (marks : List ℕ) (t u : Tree) → is_distinct_for marks t ≡ true
    → is_distinct_for marks u ≡ true
    → equal t u ≡ true → key seed marks t ≡ key seed marks u
equal_key seed marks t u d e h =
    same_key (length marks == 0) (is_marked marks (fingerprint 0 beginning t))
    (is_marked marks (fingerprint 0 beginning u))
    (is_distinct_within beginning t) (is_distinct_within beginning u) (is_distinct_within unlimited t)
    (is_distinct_within unlimited u)
    (fingerprint 0 beginning t) (fingerprint 0 beginning u) (fingerprint seed unlimited t)
    (fingerprint seed unlimited u) d e
    (λ a b. let same = equal_fingerprint 0 beginning t u a b h in (same, ap (is_marked marks) same))
    (λ a b. equal_fingerprint seed unlimited t u a b h)
