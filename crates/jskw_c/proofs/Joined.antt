-- A name joins a set of names.
use Rattle.std.proofs.Common.{◌≡◌, ◌∙◌, ◌++◌, ℕ, List, Bool, true, false, not, cond, ap, refl, sym}
use Rattle.std.proofs.lemmas.List.{append_assoc}
use Rattle.json.specs.Json.{Json, Members, member}
use Rattle.jskw_value.specs.Pointer.{Pointer, member_location}
use Rattle.jskw_c.specs.Repeated.{has_member_named, repeated_in, repeated_in_members, repeated_line}
use Rattle.std.proofs.lemmas.Map.Text.{is_eq-slice_cmp}
use Rattle.std.proofs.lemmas.Slice.Eq.{bytes_eq-Decides}
use Rattle.std.specs.Cmp.Lexicographic.{slice_cmp}
use Rattle.std.specs.Ordering.{is_eq, nat_cmp}
use Rattle.std.specs.Prelude.{◌||◌, bytes_eq}

two_ways : (x y : Bool) → (x ≡ true → y ≡ true) → (y ≡ true → x ≡ true) → x ≡ y
two_ways true y f g = sym (f refl)
two_ways false true f g = g refl
two_ways false false f g = refl

turned : (a b : List ℕ) → bytes_eq a b ≡ bytes_eq b a
turned a b =
    two_ways (bytes_eq a b) (bytes_eq b a) (λ e. (bytes_eq-Decides b a).1 (sym ((bytes_eq-Decides a b).0 e)))
    (λ e. (bytes_eq-Decides a b).1 (sym ((bytes_eq-Decides b a).0 e)))

either : (b x : Bool) → cond b true x ≡ (b || x)
either true x = refl
either false x = refl

pub joined : (old new has : Bool) (name q : List ℕ) → new ≡ cond (is_eq (slice_cmp nat_cmp name q)) true old → old ≡ has
    → new ≡ (bytes_eq q name || has)
joined old new has name q step is =
    step ∙ (ap (λ b. cond b true old) (is_eq-slice_cmp name q ∙ turned name q)
    ∙ (either (bytes_eq q name) old ∙ ap (λ x. bytes_eq q name || x) is))

chosen : {A : Type 0} (x y : A) (has last : Bool) → last ≡ not has → cond last x y ≡ cond has y x
chosen x y true last e = ap (λ b. cond b x y) e
chosen x y false last e = ap (λ b. cond b x y) e

-- the lines of one member more, which is the last of its name or is not
pub goes_on : (initial old new : List ℕ) (p : Pointer) (k : List ℕ) (j : Json) (ms : Members) (last : Bool)
    → old ≡ initial ++ repeated_in_members p ms → last ≡ not (has_member_named k ms)
    → new ≡ old ++ cond last (repeated_in (member_location p k) j) (repeated_line (member_location p k))
    → new ≡ initial ++ repeated_in_members p (member k j ms)
goes_on initial old new p k j ms last was is step =
    let x = repeated_in (member_location p k) j in
    let y = repeated_line (member_location p k) in
    step ∙ (ap (λ t. t ++ cond last x y) was ∙ (append_assoc initial (repeated_in_members p ms) (cond last x y)
    ∙ ap (λ o. initial ++ (repeated_in_members p ms ++ o)) (chosen x y (has_member_named k ms) last is)))
