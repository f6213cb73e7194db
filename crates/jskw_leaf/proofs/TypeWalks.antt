-- What a walk over items has left at an item, and what it may pass over.
use Rattle.std.proofs.Common.{◌≡◌, ℕ, zero, suc, ◌+◌, ◌<◌, ◌≤◌, ◌%◌, List, [], ◌∷◌, ◌++◌, length, get_or, drop, nat_eq}
use Rattle.std.proofs.Common.{Bool, true, false, Result, Ok, Err, IsErrAnd, ◌&&◌, if◌then◌else◌, refl, ap, subst, sym}
use Rattle.std.proofs.Common.{◌∙◌, arith, unsigned_abs}
use Rattle.std.proofs.Math.Dec.{eqb-suc-zero}
use Rattle.std.proofs.lemmas.Bool.{and_parts, true≢false}
use Rattle.std.proofs.lemmas.List.{drop-drop}
use Rattle.std.specs.List.{list_all}
use Rattle.jskw_value.specs.Pointer.{Pointer, item_location}
use Rattle.jskw_value.specs.Number.{exact, float}
use Rattle.jskw_value.specs.Tree.{Tree, array, boolean, null, number, object, string}
use Rattle.jskw_value.specs.declared.types.JsonType.{JsonType}
use Rattle.jskw_value.specs.declared.types.JsonType.TheVariants.{Integer}
use Rattle.jskw_report.specs.Fail.{Failure, each_item, fail, keyword_fail}
use Rattle.jskw_report.specs.Holds.{assertion_holds, is_integer_by}
use Rattle.jskw_report.specs.Keyword.{Integers, as_written, by_value, type_is}
use Rattle.jskw_report.specs.Meaning.{as_keyword}
use Rattle.jskw_report.specs.Observe.{Reports}
use Rattle.jskw_report.specs.Paths.{path_of}
use Rattle.jskw_report.specs.declared.error.Stop.{Stop}
use Rattle.jskw_report.specs.declared.error.TypeKind.TheVariants.{Single}
use Rattle.jskw_report.specs.declared.report.Report.{Report}
use Rattle.jskw_report.proofs.GatheredNodes.{drop_here}
use Rattle.jskw_report.proofs.Pointers.{path_of_push}
use Rattle.jskw_report.proofs.ReportedFailures.{Reported, reported_more, reported_nothing, reported_stopped}
use Rattle.jskw_number.specs.QuickSet.{leading}
use Rattle.jskw_number.proofs.QuickSets.{leading_next}
use Rattle.jskw_leaf.specs.Items.{bare_schema}
use Rattle.jskw_leaf.specs.Meaning.{type_at}
use Rattle.jskw_leaf.proofs.BareTypeChecks.{bare_fail, type_fails_not}

-- what is written as an integer is one by each rule
pub written_is_integer : (k : JsonType) → k ≡ Integer → (rule : Integers) (t : Tree)
    → is_integer_by as_written t ≡ true → assertion_holds (type_is (Single k) rule) t ≡ true
written_is_integer k is rule t h = ap (λ j. assertion_holds (type_is (Single j) rule) t) is ∙ go rule t h
  where
    go : (rule : Integers) (t : Tree) → is_integer_by as_written t ≡ true
        → assertion_holds (type_is (Single Integer) rule) t ≡ true
    go by_value (number (exact c zero)) h = let none : unsigned_abs c % 1 ≡ 0 = omega arith in rw none refl
    go as_written (number (exact c zero)) h = refl
    go rule (number (exact c (suc n))) h = absurd (true≢false (sym h ∙ eqb-suc-zero n))
    go rule (number float) h = absurd (true≢false (sym h))
    go rule null h = absurd (true≢false (sym h))
    go rule (boolean b) h = absurd (true≢false (sym h))
    go rule (string x) h = absurd (true≢false (sym h))
    go rule (array ts) h = absurd (true≢false (sym h))
    go rule (object ms) h = absurd (true≢false (sym h))

-- one of the items from the index j on, and four from i on
module _ (k : JsonType) (is : k ≡ Integer) (rule : Integers) (ts : List Tree) where
  abbrev check : Tree → Bool
  check = assertion_holds (type_is (Single k) rule)

  one_more : (j n : ℕ) (t : Tree) → n ≡ j + 1 → j < length ts → t ≡ get_or ts j t
      → is_integer_by as_written t ≡ true → n + leading check (drop n ts) ≡ j + leading check (drop j ts)
  one_more j n t next within at h =
      subst (λ m. m + leading check (drop m ts) ≡ j + leading check (drop j ts)) (sym next)
      (leading_next check ts j t within (ap check (sym at) ∙ written_is_integer k is rule t h))

  pub four_more : (i : ℕ) (a b c d : Tree) → i + 4 ≤ length ts → a ≡ get_or ts i a → b ≡ get_or ts (i + 1) b
      → c ≡ get_or ts (i + 2) c → d ≡ get_or ts (i + 3) d
      → {all : Bool} → all ≡ (is_integer_by as_written a && is_integer_by as_written b && is_integer_by as_written c
      && is_integer_by as_written d) → all ≡ true → leading check (drop i ts) ≡ 4 + leading check (drop (i + 4) ts)
  four_more i a b c d within at_a at_b at_c at_d whole h =
      let three = and_parts _ _ (sym whole ∙ h) in
      let two = and_parts _ _ three.0 in
      let one = and_parts _ _ two.0 in
      let first = one_more i (i + 1) a (omega arith) (omega arith) at_a one.0 in
      let second = one_more (i + 1) (i + 2) b (omega arith) (omega arith) at_b one.1 in
      let third = one_more (i + 2) (i + 3) c (omega arith) (omega arith) at_c two.1 in
      let fourth = one_more (i + 3) (i + 4) d (omega arith) (omega arith) at_d three.1 in
      omega (arith, first, second, third, fourth)

-- where an item stands that was entered
pub entered : {new now old : List ℕ} (i : ℕ) → new ≡ now ++ i ∷ [] → now ≡ old
    → path_of new ≡ item_location (path_of old) i
entered {old = old} i pushed same = ap path_of (pushed ∙ ap (λ is. is ++ i ∷ []) same) ∙ path_of_push old i

-- at an item
pub fails_at : (ts : List Tree) (i : ℕ) (t : Tree) → i < length ts → t ≡ get_or ts i t
    → (f : Tree → Pointer → List Failure) (p : Pointer)
    → each_item f i (drop i ts) p ≡ f t (item_location p i) ++ each_item f (i + 1) (drop (i + 1) ts) p
fails_at ts i t within is f p = ap (λ us. each_item f i us p) (drop_here ts i t within is)
    ∙ ap (λ j. f t (item_location p i) ++ each_item f j (drop (i + 1) ts) p) (omega arith)

-- ---- the items before the first that fails a check

same_behind : (m n : ℕ) → nat_eq (suc m) (suc n) ≡ nat_eq m n
same_behind m n = grind arith

module _ {A : Type 0} (check : A → Bool) where
  -- all pass where none fails
  pub all_leading : (xs : List A) → nat_eq (leading check xs) (length xs) ≡ list_all check xs
  all_leading [] = refl
  all_leading (x ∷ xs) = go (check x) (all_leading xs)
    where
      go : (b : Bool) → nat_eq (leading check xs) (length xs) ≡ list_all check xs
          → nat_eq (if b then suc (leading check xs) else 0) (suc (length xs)) ≡ (b && list_all check xs)
      go true rest = same_behind (leading check xs) (length xs) ∙ rest
      go false rest = grind arith

-- a walk passes over them, where nothing that passes the check fails
module _ (check : Tree → Bool) (f : Tree → Pointer → List Failure) (p : Pointer)
    (quiet : (t : Tree) (q : Pointer) → check t ≡ true → f t q ≡ []) where
  each_from : (ts : List Tree) (n : ℕ)
      → each_item f n ts p ≡ each_item f (n + leading check ts) (drop (leading check ts) ts) p
  each_from [] n = ap (λ m. each_item f m [] p) {x = n} {y = n + 0} (omega arith)
  each_from (t ∷ ts) n = go (check t) refl (each_from ts (suc n))
    where
      go : (b : Bool) → check t ≡ b
          → each_item f (suc n) ts p ≡ each_item f (suc n + leading check ts) (drop (leading check ts) ts) p
          → each_item f n (t ∷ ts) p
          ≡ each_item f (n + (if b then suc (leading check ts) else 0))
          (drop (if b then suc (leading check ts) else 0) (t ∷ ts)) p
      go true e rest = ap (λ fs. fs ++ each_item f (suc n) ts p) (quiet t (item_location p n) e) ∙ rest
          ∙ ap (λ m. each_item f m (drop (leading check ts) ts) p) {x = suc n + leading check ts}
          {y = n + suc (leading check ts)} (omega arith)
      go false e rest = ap (λ m. each_item f m (t ∷ ts) p) {x = n} {y = n + 0} (omega arith)

  pub passed_over : (ts : List Tree) (i j : ℕ) → j ≡ i + leading check (drop i ts)
      → each_item f i (drop i ts) p ≡ each_item f j (drop j ts) p
  passed_over ts i j is =
      each_from (drop i ts) i
      ∙ ap (λ us. each_item f (i + leading check (drop i ts)) us p) (drop-drop (leading check (drop i ts)) i ts)
      ∙ ap (λ m. each_item f m (drop m ts) p) (sym is)

-- ---- a walk over the items of an array at p, by the schema at q that has the type check alone

module _ (j : JsonType) (rule : Integers) (q r : Pointer) (ts : List Tree) (p : Pointer) where
  -- what fails from an index on
  abbrev fails_from : ℕ → List Failure
  fails_from i = each_item (fail (bare_schema q (type_at j rule r))) i (drop i ts) p

  -- what fails of an item at a place
  abbrev fails_of : Tree → Pointer → List Failure
  fails_of t place = keyword_fail (as_keyword (type_at j rule r)) t place

  -- it passes over what is of the type
  pub of_type_passed : (i n : ℕ) → n ≡ i + leading (assertion_holds (type_is (Single j) rule)) (drop i ts)
      → fails_from i ≡ fails_from n
  of_type_passed i n is =
      passed_over (assertion_holds (type_is (Single j) rule)) (fail (bare_schema q (type_at j rule r))) p
      (λ t place h. type_fails_not j rule q r t place h) ts i n is

  -- at an item
  type_at_item : (i : ℕ) (t : Tree) (place : Pointer) → i < length ts → t ≡ get_or ts i t → place ≡ item_location p i
      → fails_from i ≡ fails_of t place ++ fails_from (i + 1)
  type_at_item i t place within is at = fails_at ts i t within is (fail (bare_schema q (type_at j rule r))) p
      ∙ ap (λ fs. fs ++ fails_from (i + 1))
      (bare_fail q (type_at j rule r) t (item_location p i) ∙ ap (fails_of t) (sym at))

  module _ {F Node Number Key : Type 0} (tree : Node → Tree) where
    -- before the first item that is not of the type
    pub type_begins : (old : Report F Node Number Key) (n : ℕ)
        → n ≡ 0 + leading (assertion_holds (type_is (Single j) rule)) (drop 0 ts)
        → Reported tree old old (fails_from n) (fails_from 0)
    type_begins old n is =
        subst (λ fs. Reported tree old old fs (fails_from 0)) (of_type_passed 0 n is)
        (reported_nothing tree old (fails_from 0))

    left_at_item : {old now : Report F Node Number Key} (i : ℕ) (t : Tree) (place : Pointer) → i < length ts
        → t ≡ get_or ts i t → place ≡ item_location p i
        → Reported tree old now (fails_from i) (fails_from 0)
        → Reported tree old now (fails_of t place ++ fails_from (i + 1)) (fails_from 0)
    left_at_item {old} {now} i t place within is at left =
        subst (λ fs. Reported tree old now fs (fails_from 0)) (type_at_item i t place within is at) left

    -- the errors of an item are reported, and it goes on to the next that is not of the type
    pub type_reported : {old now new : Report F Node Number Key} (i n : ℕ) (t : Tree) (place : Pointer) → i < length ts
        → t ≡ get_or ts i t → place ≡ item_location p i
        → n ≡ i + 1 + leading (assertion_holds (type_is (Single j) rule)) (drop (i + 1) ts)
        → Reported tree old now (fails_from i) (fails_from 0) → Reports tree now new (fails_of t place) (Ok tt)
        → Reported tree old new (fails_from n) (fails_from 0)
    type_reported {old} {new = new} i n t place within is at next left item =
        subst (λ fs. Reported tree old new fs (fails_from 0)) (of_type_passed (i + 1) n next)
        (reported_more tree (fails_of t place) (fails_from (i + 1)) (left_at_item i t place within is at left) item)

    -- the walk is stopped at an item
    pub type_stopped : {old now new : Report F Node Number Key} (i : ℕ) (t : Tree) (place : Pointer)
        (r : Result Unit Stop) (x : Stop) → i < length ts → t ≡ get_or ts i t → place ≡ item_location p i
        → Reported tree old now (fails_from i) (fails_from 0) → IsErrAnd r (λ y. y ≡ x)
        → Reports tree now new (fails_of t place) (Err x) → Reports tree old new (fails_from 0) r
    type_stopped i t place r x within is at left gives item =
        reported_stopped tree (fails_of t place) (fails_from (i + 1)) r x
        (left_at_item i t place within is at left) gives item
