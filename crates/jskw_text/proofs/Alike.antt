-- Where each number is an integer, a text is read as `serde_json` reads it.
use Rattle.std.proofs.Common.{◌≡◌, ℕ, zero, suc, ◌^◌, ◌<◌, ◌≤◌, ◌==◌, ◌&&◌, Bool, true, false, cond, List, [], length}
use Rattle.std.proofs.Common.{drop, get_or, None, Some, Ok, option_map, option_and_then, Ordering, Less, Equal, Greater}
use Rattle.std.proofs.Common.{nat_cmp, refl, sym, ap, ◌∙◌, arith, not, nat_lt, nat_le, eqb-true, ltb-true, leb-true}
use Rattle.std.proofs.Common.{lt-ltb, true≢false}
use Rattle.std.specs.Cmp.Lexicographic.{slice_cmp}
use Rattle.std.specs.Option.{option_map_or}
use Rattle.std.specs.Ordering.{match_ordering}
use Rattle.std.specs.Float.{binary64, float_is_finite}
use Rattle.fast_float.specs.Text.{Parts, digits_of, tens_down, nearest, with_sign}
use Rattle.std.specs.Float.Numeral.{scan_numeral as scan}
use Rattle.json.specs.Json as json
use Rattle.serde_json.specs.Data as known
use Rattle.serde_json.specs.Data.{Data}
use Rattle.serde_json.specs.Read as serde
use Rattle.jskw_value.specs.Number.{is_exact}
use Rattle.jskw_value.specs.Serde as values
use Rattle.jskw_text.specs.Laws.{reads_as_integer, has_integers, items_have_integers, members_have_integers}
use Rattle.jskw_text.specs.Laws.{ReadsIntegersAlike}
use Rattle.jskw_text.specs.NumberText.{number_of, decimal_from, at_scale, scaled, decimal_of}
use Rattle.jskw_text.proofs.Numbers.{digits_alone, no_value, none_either}
use Rattle.jskw_text.specs.Reading.{document, put, tree_of, items_of, members_of}

-- both hold
pub both : (a b : Bool) → (a && b) ≡ true → (a ≡ true) × (b ≡ true)
both true true h = (refl, refl)
both true false h = absurd (cc)
both false b h = absurd (cc)

-- ---- numbers

-- a test and its negation
pub cases_of : {C : Type 0} (b : Bool) → (b ≡ true → C) → (b ≡ false → C) → C
cases_of true f g = f refl
cases_of false f g = g refl

not_true : (b : Bool) → not b ≡ true → b ≡ false
not_true true h = absurd (cc)
not_true false h = refl

-- where there is no point, no digit stands behind one
cond_none : (b : Bool) (xs : List ℕ) → b ≡ false → cond b xs [] ≡ []
cond_none b xs e = rw e

no_fraction : (s : List ℕ) → (scan s).point ≡ false → (scan s).fraction ≡ []
unfolding scan
no_fraction s e = cond_none _ _ e

-- and no tens divide an integer
pub tens_of_integer : (s : List ℕ) → serde.is_integer (scan s) ≡ true → tens_down (scan s) ≡ 0
tens_of_integer s h =
    let some = both (nat_lt 0 (length (scan s).whole) && not (scan s).point) (length (scan s).exponent == 0) h in
    let point = both (nat_lt 0 (length (scan s).whole)) (not (scan s).point) some.0 in
    let none : length (scan s).fraction ≡ 0 = ap length (no_fraction s (not_true _ point.1)) in
    omega (arith, (none_either (scan s).exponent_negative _ (no_value (scan s).exponent (eqb-true _ _ some.1))).1)

-- an integer is its digits
whole_is : (s : List ℕ) → serde.is_integer (scan s) ≡ true → scaled (scan s) 0 ≡ Some (digits_of (scan s))
whole_is s h =
    let some = both (nat_lt 0 (length (scan s).whole) && not (scan s).point) (length (scan s).exponent == 0) h in
    let point = both (nat_lt 0 (length (scan s).whole)) (not (scan s).point) some.0 in
    digits_alone (scan s) 0 (eqb-true _ _ some.1) (ap length (no_fraction s (not_true _ point.1)))

-- the size of a negative integer is in range
in_range : (d : ℕ) → 0 < d → d ≤ 2 ^ 63
    → decimal_of (with_sign true d) 0 ≡ Some (values.num_of (known.negative (with_sign true d)))
unfolding decimal_of
in_range zero some fits = absurd (omega arith)
in_range (suc d) some fits = let less : d < 2 ^ 63 = omega arith in rw (lt-ltb d (2 ^ 63) less) refl

unlawful : (negative : Bool) (p : Parts)
    → option_map_or (λ n. is_exact (values.num_of n)) (serde.float_of negative p) false ≡ true → ⊥
unlawful negative p h =
    cases_of (float_is_finite (nearest binary64 negative p)) (λ e. absurd (true≢false (sym (rw e at h))))
    (λ e. absurd (true≢false (sym (rw e at h))))

-- where a number behind its sign has a value, it is read alike
abbrev IsReadAlike : Bool → List ℕ → Type 0
IsReadAlike negative s =
    option_map_or (λ n. is_exact (values.num_of n)) (serde.number_from negative (scan s)) false ≡ true
    → (n : known.Num) × (serde.number_from negative (scan s) ≡ Some n)
    × (decimal_from negative (scan s) ≡ Some (values.num_of n))

positive_alike : (s : List ℕ) → IsReadAlike false s
unfolding at_scale decimal_of
positive_alike s h =
    let d = digits_of (scan s) in
    cases_of (serde.is_integer (scan s) && nat_lt d (2 ^ 64))
    (λ e. let t = both (serde.is_integer (scan s)) (nat_lt d (2 ^ 64)) e in
    (known.unsigned d, rw e refl, rw (t.0, whole_is s t.0, t.1) refl))
    (λ e. absurd (unlawful false (scan s) (rw e at h)))

negative_alike : (s : List ℕ) → IsReadAlike true s
unfolding at_scale decimal_of
negative_alike s h =
    let d = digits_of (scan s) in
    cases_of (serde.is_integer (scan s) && nat_lt 0 d && nat_le d (2 ^ 63))
    (λ e. let t = both (serde.is_integer (scan s) && nat_lt 0 d) (nat_le d (2 ^ 63)) e in
    let u = both (serde.is_integer (scan s)) (nat_lt 0 d) t.0 in (
      known.negative (with_sign true d),
      rw e refl,
      rw (u.0, whole_is s u.0) (in_range d (ltb-true _ _ u.1) (leb-true _ _ t.1)),
    ))
    (λ e. absurd (unlawful true (scan s) (rw e at h)))

number_alike : (s : List ℕ) → reads_as_integer s ≡ true
    → (n : known.Num) × (serde.number_of s ≡ Some n) × (number_of s ≡ Some (values.num_of n))
unfolding serde.number_of number_of
number_alike s h = cases_of (get_or s 0 0 == 45)
    (λ e. let n = negative_alike (drop 1 s) (rw e at h) in (n.0, rw e n.1, rw e n.2))
    (λ e. let n = positive_alike s (rw e at h) in (n.0, rw e n.1, rw e n.2))

-- ---- members

put_in_order : (o : Ordering) (a b c : known.Members) → values.members_of (match_ordering o a b c)
    ≡ match_ordering o (values.members_of a) (values.members_of b) (values.members_of c)
put_in_order Less a b c = refl
put_in_order Equal a b c = refl
put_in_order Greater a b c = refl

put_alike : (k : List ℕ) (d : Data) (ms : known.Members)
    → values.members_of (known.put k d ms) ≡ put k (values.tree_of d) (values.members_of ms)
put_alike k d known.no_members = refl
put_alike k d (known.member l e ms) = put_in_order (slice_cmp nat_cmp k l) _ _ _ ∙ rw (put_alike k d ms)

-- ---- values

mutual
  json_alike : (j : json.Json) → has_integers j ≡ true
      → (d : Data) × (serde.of_json j ≡ Some d) × (tree_of j ≡ Ok (values.tree_of d))
  json_alike json.null h = (known.null, refl, refl)
  json_alike (json.boolean b) h = (known.boolean b, refl, refl)
  json_alike (json.number s) h = let n = number_alike s h in (known.number n.0, rw n.1 refl, rw n.2 refl)
  json_alike (json.string s) h = (known.string s, refl, refl)
  json_alike (json.array js) h = let ds = items_alike 0 js h in (known.array ds.0, rw ds.1 refl, rw ds.2 refl)
  json_alike (json.object ms) h = let ds = members_alike known.no_members ms h in
      (known.object ds.0, rw ds.1 refl, rw ds.2 refl)

  items_alike : (i : ℕ) (js : json.Items) → items_have_integers js ≡ true
      → (ds : known.Items) × (serde.of_items js ≡ Some ds) × (items_of i js ≡ Ok (values.items_of ds))
  items_alike i json.no_items h = (known.no_items, refl, refl)
  items_alike i (json.item j js) h =
      let parts = both (has_integers j) (items_have_integers js) h in
      let d = json_alike j parts.0 in
      let ds = items_alike (suc i) js parts.1 in
      (known.item d.0 ds.0, rw (d.1, ds.1) refl, rw (d.2, ds.2) refl)

  members_alike : (found : known.Members) (ms : json.Members) → members_have_integers ms ≡ true
      → (ds : known.Members) × (serde.of_members ms found ≡ Some ds)
      × (members_of (values.members_of found) ms ≡ Ok (values.members_of ds))
  members_alike found json.no_members h = (found, refl, refl)
  members_alike found (json.member k j ms) h =
      let parts = both (has_integers j) (members_have_integers ms) h in
      let d = json_alike j parts.0 in
      let ds = members_alike (known.put k d.0 found) ms parts.1 in
      (ds.0, rw d.1 ds.1, rw (d.2, ← put_alike k d.0 found) ds.2)

pub read_alike : ReadsIntegersAlike
read_alike text j utf8 is h =
    let d = json_alike j h in (
      d.0,
      ap (option_and_then serde.of_json) is ∙ d.1,
      ap (λ b. option_map tree_of (cond b (document text) None)) utf8
          ∙ ap (option_map tree_of) is ∙ ap Some d.2,
    )
