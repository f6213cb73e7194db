-- A walk that passes over items: over none, over one more, over those of two walks, over those that a stricter test
-- takes, and what is left behind them.
use Rattle.std.proofs.Common.{◌≡◌, ◌∙◌, ℕ, ◌+◌, ◌-◌, ◌<◌, ◌≤◌, min, List, [], ◌∷◌, ◌++◌, length, get_or, take, drop}
use Rattle.std.proofs.Common.{sum_by, ◌^◌, Bool, true, ◌&&◌, refl, sym, subst, ap, ap₂, arith}
use Rattle.std.proofs.Math.Seq.{take-add}
use Rattle.std.proofs.lemmas.Bool.{and_parts}
use Rattle.std.proofs.lemmas.List.{get_or-drop, length-drop, length-take-le, take_more}
use Rattle.std.proofs.lemmas.List.Folds.{list_all-append}
use Rattle.std.proofs.lemmas.List.Sums.{sum_by-append, sum_by_push}
use Rattle.jskw_array.specs.Words.{CountsBetween, PassesOver, Pointer, Schema, Tree, each_item, fail, holds, items}
use Rattle.jskw_array.specs.Words.{items_between, list_all, needed}
use Rattle.jskw_array.proofs.ItemsTaken.{drop_behind, taken_fails, taken_holds, leading_valid, taken_least}
use Rattle.jskw_number.specs.QuickSet.{leading}
use Rattle.jskw_array.proofs.ReportingWalks.{items_applications, taken_applied}

-- ---- over none, and over one more

pub passes_none : (valid : Tree → Bool) (t : Tree) (start : ℕ) → PassesOver valid t start start
passes_none valid t start = record {
  from = omega arith;
  in_range = omega arith;
  valid = ap (λ n. list_all valid (take n (drop start (items t)))) {x = start - start} {y = 0} (omega arith);
}

module _ (t : Tree) (start i : ℕ) (u : Tree) (from : start ≤ i) (within : i < length (items t))
    (is : u ≡ get_or (items t) i u) where
  one_more : items_between start (i + 1) t ≡ items_between start i t ++ u ∷ []
  one_more =
      let ts = drop start (items t) in
      let inside : i - start < length ts = omega (arith, from, within, length-drop start (items t)) in
      let there : get_or ts (i - start) u ≡ u =
      get_or-drop start (items t) (i - start) u
      ∙ ap (λ n. get_or (items t) n u) {x = start + (i - start)} {y = i} (omega (arith, from)) ∙ sym is in
      ap (λ n. take n ts) {x = i + 1 - start} {y = i - start + 1} (omega (arith, from))
      ∙ take_more ts (i - start) u inside ∙ ap (λ v. take (i - start) ts ++ v ∷ []) there

  pub passes_more : (valid : Tree → Bool) → PassesOver valid t start i → valid u ≡ true
      → PassesOver valid t start (i + 1)
  passes_more valid passed here = record {
    from = omega (arith, from);
    in_range = omega (arith, from, within, length-drop start (items t));
    valid =
        ap (list_all valid) one_more ∙ list_all-append valid (items_between start i t) (u ∷ [])
        ∙ ap₂ (λ a b. a && (b && true)) passed.valid here;
  }

  pub more_cost : (cost : Tree → ℕ)
      → sum_by cost (items_between start (i + 1) t) ≡ sum_by cost (items_between start i t) + cost u
  more_cost cost = ap (sum_by cost) one_more ∙ sum_by_push cost (items_between start i t) u

-- a walk over all items from `start` on, which has come to the index i, and counted from `old` to `now`
pub record Passing (valid : Tree → Bool) (cost : Tree → ℕ) (t : Tree) (start count i old now : ℕ) : Type 0 where
  pub last : count ≡ length (items t)
  pub passed : PassesOver valid t start i
  pub counted : CountsBetween old now (sum_by cost (items_between start i t)) (sum_by cost (items_between start i t))

pub passing_on : {valid : Tree → Bool} {cost : Tree → ℕ} {t : Tree} {start count i old now : ℕ}
    → Passing valid cost t start count i old now → (u : Tree) → i < count → u ≡ get_or (items t) i u → valid u ≡ true
    → {n next : ℕ} → min (cost u) (2 ^ 64 - 1) ≤ n → n ≤ cost u → old ≤ next → min (now + n) (2 ^ 64 - 1) ≤ next
    → next ≤ now + n → Passing valid cost t start count (i + 1) old next
passing_on {valid} {cost} {t} {start} {count} {i} p u within is here least most from applied to =
    let inside : i < length (items t) = omega (arith, within, p.last) in
    let more = more_cost t start i u p.passed.from inside is cost in
    record {
      last = p.last;
      passed = passes_more t start i u p.passed.from inside is valid p.passed here;
      counted = record {
        applied = omega (arith, more, least, p.counted.applied, applied);
        counted = record { from = from; to = omega (arith, more, most, p.counted.counted.to, to) };
      };
    }

-- ---- over those of two walks

module _ (t : Tree) (start middle end : ℕ) (from : start ≤ middle) (to : middle ≤ end) where
  both : items_between start end t ≡ items_between start middle t ++ items_between middle end t
  both =
      let ts = drop start (items t) in
      ap (λ n. take n ts) {x = end - start} {y = middle - start + (end - middle)} (omega (arith, from, to))
      ∙ take-add (middle - start) (end - middle) ts
      ∙ ap (λ us. items_between start middle t ++ take (end - middle) us) (drop_behind start middle (items t) from)

  pub passes_both : (valid : Tree → Bool) → PassesOver valid t start middle → PassesOver valid t middle end
      → PassesOver valid t start end
  passes_both valid first second = record {
    from = omega (arith, from, to);
    in_range = omega (arith, from, to, second.in_range, length-drop start (items t), length-drop middle (items t));
    valid =
        ap (list_all valid) both
        ∙ list_all-append valid (items_between start middle t) (items_between middle end t)
        ∙ ap₂ (λ a b. a && b) first.valid second.valid;
  }

  pub both_cost : (cost : Tree → ℕ) → sum_by cost (items_between start end t)
      ≡ sum_by cost (items_between start middle t) + sum_by cost (items_between middle end t)
  both_cost cost =
      ap (sum_by cost) both ∙ sum_by-append cost (items_between start middle t) (items_between middle end t)

-- ---- over those that a stricter test takes

-- what holds of all by one check holds by a weaker one
all_too : {A : Type 0} (p q : A → Bool) → ((x : A) → p x ≡ true → q x ≡ true) → (xs : List A)
    → list_all p xs ≡ true → list_all q xs ≡ true
all_too p q weaker [] all = refl
all_too p q weaker (x ∷ xs) all =
    let one = and_parts (p x) (list_all p xs) all in
    ap₂ (λ a b. a && b) (weaker x one.0) (all_too p q weaker xs one.1)

pub passes_too : (p q : Tree → Bool) → ((u : Tree) → p u ≡ true → q u ≡ true) → (t : Tree) (start end : ℕ)
    → PassesOver p t start end → PassesOver q t start end
passes_too p q weaker t start end passed = record {
  from = passed.from;
  in_range = passed.in_range;
  valid = all_too p q weaker (items_between start end t) passed.valid;
}

-- there are as many of them as the indices say
pub passed_length : (valid : Tree → Bool) (t : Tree) (start end : ℕ) → PassesOver valid t start end
    → length (items_between start end t) ≡ end - start
passed_length valid t start end passed = length-take-le (end - start) (drop start (items t)) passed.in_range

-- those that pass a check before the first that fails it, if all that pass it are valid
pub leading_passed : (s : Schema) (check : Tree → Bool) → ((t : Tree) → check t ≡ true → holds s t ≡ true) → (t : Tree)
    (start end : ℕ) → start ≤ length (items t) → end ≡ start + leading check (drop start (items t))
    → end ≤ length (items t) → PassesOver (holds s) t start end
leading_passed s check valid t start end from first within = record {
  from = omega (arith, first);
  in_range = omega (arith, first, within, from, length-drop start (items t));
  valid =
      subst (λ n. list_all (holds s) (take n (drop start (items t))) ≡ true)
      {x = leading check (drop start (items t))} {y = end - start} (omega (arith, first))
      (leading_valid s check valid (drop start (items t)));
}

-- ---- what is left behind items that are valid against one schema

module _ (s : Schema) (t : Tree) (start i : ℕ) (passed : PassesOver (holds s) t start i) where
  behind : drop (i - start) (drop start (items t)) ≡ drop i (items t)
  behind = drop_behind start i (items t) passed.from

  pub passed_holds : list_all (holds s) (drop start (items t)) ≡ list_all (holds s) (drop i (items t))
  passed_holds =
      taken_holds s (i - start) (drop start (items t)) passed.in_range passed.valid ∙ ap (list_all (holds s)) behind

  pub passed_fails : (p : Pointer)
      → each_item (fail s) start (drop start (items t)) p ≡ each_item (fail s) i (drop i (items t)) p
  passed_fails p =
      taken_fails s (i - start) (drop start (items t)) start p passed.in_range passed.valid
      ∙ ap₂ (λ j us. each_item (fail s) j us p) {x = start + (i - start)} {y = i} (omega (arith, passed.from)) behind

  pub passed_applied : (wanted : Bool) → sum_by (needed s) (items_between start i t)
      + items_applications wanted s (drop i (items t)) ≤ items_applications wanted s (drop start (items t))
  passed_applied wanted =
      subst (λ us. sum_by (needed s) (items_between start i t) + items_applications wanted s us
      ≤ items_applications wanted s (drop start (items t))) behind
      (taken_applied wanted s (i - start) (drop start (items t)) passed.in_range passed.valid)

  -- each of them is an application at least
  pub passed_least : i - start ≤ sum_by (needed s) (items_between start i t)
  passed_least = taken_least s (i - start) (drop start (items t)) passed.in_range
