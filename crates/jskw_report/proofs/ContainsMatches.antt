-- What `contains` asks for by the bounds that are read.
use Rattle.std.specs.Prelude.{◌≡◌, ℕ, ◌+◌, ◌||◌, ◌&&◌, not, nat_le, List, [], ◌∷◌, count_by, Bool, true, false, cond}
use Rattle.std.specs.Prelude.{IsTrue, Option, Some, None, Result, Ok, Err}
use Rattle.std.specs.List.{list_any}
use Rattle.std.proofs.Common.{refl, sym, ◌∙◌, ap, subst, arith, zero-add, ap₂}
use Rattle.std.proofs.Math.Bool.{and-true}
use Rattle.std.proofs.Math.Dec.{leb-zero}
use Rattle.std.proofs.lemmas.Bool.{and_from, and_parts, or_right, le-leb}
use Rattle.std.proofs.lemmas.List.Sums.{sum_by-cons}
use Rattle.serde_json.specs.Data.{Data, Members, number, unsigned}
use Rattle.jskw_value.specs.Pointer.{Pointer, member_location}
use Rattle.jskw_value.specs.Tree.{Tree, items, is_array}
use Rattle.jskw_report.specs.KeywordValue.{Refusal, join_ok}
use Rattle.jskw_report.specs.Holds.{holds, keyword_holds}
use Rattle.jskw_report.specs.Keyword.{Schema, Keyword, contains, Bounds}
use Rattle.jskw_report.specs.Laws.{ContainsMatches, IsKeywordOf, has_match}
use Rattle.jskw_report.specs.Read.{Asserts, ValueReadings, Reading, readings_named, bounds_between, bound_value}
use Rattle.jskw_report.specs.Read.{bound_beside, read_bounds, keyword_location, min_contains, max_contains, asserted}
use Rattle.jskw_report.specs.Read.{read_keyword}
use Rattle.jskw_report.proofs.AssertedKeywords.{asserted_if_read, same_keyword}
use Rattle.jskw_report.specs.Setting.{Setting, name_of}
use Rattle.jskw_report.specs.declared.keyword.KeywordName.TheVariants as keyword_name

-- ---- one match

-- at least one item matches where some item does
one_or_any : (h : Tree → Bool) (ts : List Tree) → nat_le 1 (count_by h ts) ≡ list_any h ts
one_or_any h [] = refl
one_or_any h (t ∷ ts) = ap (nat_le 1) (sum_by-cons (λ x. cond (h x) 1 0) t ts) ∙ one_more (h t) (one_or_any h ts)
  where
    one_more : (b : Bool) → nat_le 1 (count_by h ts) ≡ list_any h ts
        → nat_le 1 (cond b 1 0 + count_by h ts) ≡ (b || list_any h ts)
    one_more true e = le-leb 1 (1 + count_by h ts) (omega arith)
    one_more false e = ap (nat_le 1) (zero-add (count_by h ts)) ∙ e

-- ---- `contains` of given bounds

-- with the lower bound 0 and no upper one it holds of every tree
none_needed : (p : Pointer) (sub : Schema) (t : Tree)
    → IsTrue (keyword_holds (contains sub (bounds_between p (Some 0) None)) t)
none_needed p sub t = or_right (not (is_array t)) _ (and_from _ true (leb-zero (count_by (holds sub) (items t))) refl)

-- with neither bound it holds of an array where some item matches
one_needed : (p : Pointer) (sub : Schema) (t : Tree) → is_array t ≡ true
    → keyword_holds (contains sub (bounds_between p None None)) t ≡ list_any (holds sub) (items t)
one_needed p sub t a =
    ap (λ b. not b || (nat_le 1 (count_by (holds sub) (items t)) && true)) a
    ∙ and-true (nat_le 1 (count_by (holds sub) (items t))) ∙ one_or_any (holds sub) (items t)

-- without the lower bound it needs a match in an array
some_needed : (p : Pointer) (sub : Schema) (u : Option ℕ) (t : Tree) → is_array t ≡ true
    → IsTrue (keyword_holds (contains sub (bounds_between p None u)) t) → IsTrue (list_any (holds sub) (items t))
some_needed p sub None t a h = sym (one_needed p sub t a) ∙ h
some_needed p sub (Some u) t a h =
    sym (one_or_any (holds sub) (items t))
    ∙ (and_parts (nat_le 1 n) (nat_le n u) (subst (λ b. IsTrue (not b || (nat_le 1 n && nat_le n u))) a h)).0
  where
    n : ℕ
    n = count_by (holds sub) (items t)

-- ---- the keyword that is read

-- a `contains` that is asserted has the bounds that were read
of_contains : (read : Result Bounds Refusal) (r : Reading) (k : Keyword)
    → ◌≡◌ {A = Asserts} (Some (join_ok (λ b sub. contains sub b) read r)) (Some (Ok k))
    → (b : Bounds) × (sub : Schema) × (read ≡ Ok b) × (k ≡ contains sub b)
of_contains (Ok b) (Ok sub) k e = (b, sub, refl, sym (same_keyword (contains sub b) k e))
of_contains (Ok b) (Err f) k e = absurd (cc)
of_contains (Err f) r k e = absurd (cc)

-- a `contains` that is read has the bounds that are read beside it
with_bounds : (s : Setting) (p : Pointer) (ms : Members) (k : Keyword) → IsKeywordOf keyword_name.Contains s p ms k
    → (b : Bounds) × (sub : Schema) × (read_bounds s p ms ≡ Ok b) × (k ≡ contains sub b)
unfolding asserted read_keyword
with_bounds s p ms k = go (readings_named (name_of keyword_name.Contains) ms)
  where
    go : (o : Option ValueReadings) → read_keyword keyword_name.Contains s p ms o ≡ Some (Ok k)
        → (b : Bounds) × (sub : Schema) × (read_bounds s p ms ≡ Ok b) × (k ≡ contains sub b)
    go None e = absurd (cc)
    go (Some part) e =
        of_contains (read_bounds s p ms) (part.schema s (keyword_location p keyword_name.Contains)) k
        (asserted_if_read keyword_name.Contains s p ms part k e)

-- the bounds are read from the members beside `contains`
bounds_beside : (s : Setting) (p : Pointer) (ms : Members) {l u : Option Data} → bound_beside s ms min_contains ≡ l
    → bound_beside s ms max_contains ≡ u
    → read_bounds s p ms ≡ join_ok (bounds_between p) (bound_value (member_location p min_contains) l)
    (bound_value (member_location p max_contains) u)
bounds_beside s p ms e f =
    ap₂ (λ l u. join_ok (bounds_between p) (bound_value (member_location p min_contains) l)
    (bound_value (member_location p max_contains) u)) e f

-- bounds that are read are the same
same_bounds : (b c : Bounds) → ◌≡◌ {A = Result Bounds Refusal} (Ok b) (Ok c) → b ≡ c
same_bounds b c e = ap bounds_in e
  where
    bounds_in : Result Bounds Refusal → Bounds
    bounds_in (Ok a) = a
    bounds_in (Err f) = b

-- without `minContains` the lower bound is left out, whatever is read of the upper one
without_lower : (p : Pointer) (r : Result (Option ℕ) Refusal) (b : Bounds)
    → join_ok (bounds_between p) (Ok None) r ≡ Ok b → (u : Option ℕ) × (bounds_between p None u ≡ b)
without_lower p (Ok u) b e = (u, same_bounds _ b e)
without_lower p (Err f) b e = absurd (cc)

-- with `minContains` 0 and no `maxContains`
none_matches : (s : Setting) (p : Pointer) (ms : Members) (k : Keyword) (t : Tree)
    → IsKeywordOf keyword_name.Contains s p ms k
    → bound_beside s ms min_contains ≡ Some (number (unsigned 0)) → bound_beside s ms max_contains ≡ None
    → IsTrue (keyword_holds k t)
none_matches s p ms k t e l u = let a = with_bounds s p ms k e in
    subst (λ k. IsTrue (keyword_holds k t))
    (ap (contains a.1) (same_bounds _ a.0 (sym (bounds_beside s p ms l u) ∙ a.2)) ∙ sym a.3) (none_needed p a.1 t)

-- without `minContains`
some_matches : (s : Setting) (p : Pointer) (ms : Members) (k : Keyword) (t : Tree)
    → IsKeywordOf keyword_name.Contains s p ms k
    → bound_beside s ms min_contains ≡ None → is_array t ≡ true → IsTrue (keyword_holds k t) → IsTrue (has_match k t)
some_matches s p ms k t e l a h = let b = with_bounds s p ms k e in
    let v =
    without_lower p (bound_value (member_location p max_contains) (bound_beside s ms max_contains)) b.0
    (sym (bounds_beside s p ms l refl) ∙ b.2) in
    let same : contains b.1 (bounds_between p None v.0) ≡ k = ap (contains b.1) v.1 ∙ sym b.3 in
    subst (λ k. IsTrue (has_match k t)) same
    (some_needed p b.1 v.0 t a (subst (λ k. IsTrue (keyword_holds k t)) (sym same) h))

-- with neither `minContains` nor `maxContains`
one_matches : (s : Setting) (p : Pointer) (ms : Members) (k : Keyword) (t : Tree)
    → IsKeywordOf keyword_name.Contains s p ms k
    → bound_beside s ms min_contains ≡ None → bound_beside s ms max_contains ≡ None → is_array t ≡ true
    → keyword_holds k t ≡ has_match k t
one_matches s p ms k t e l u a = let b = with_bounds s p ms k e in
    subst (λ k. keyword_holds k t ≡ has_match k t)
    (ap (contains b.1) (same_bounds _ b.0 (sym (bounds_beside s p ms l u) ∙ b.2)) ∙ sym b.3) (one_needed p b.1 t a)

-- the law
pub contains_matches : ContainsMatches
contains_matches = record { no_match_needed = none_matches; match_needed = some_matches; match_suffices = one_matches }
