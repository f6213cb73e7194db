-- A walk that reports the errors of items or keywords one after another, and the applications that it takes.
use Rattle.std.proofs.Common.{◌≡◌, ℕ, ◌+◌, ◌≤◌, List, [], ◌++◌, length, get_or, take, drop, sum_by, Bool, true, false}
use Rattle.std.proofs.Common.{Result, Ok, Err, IsErrAnd, if◌then◌else◌, refl, sym, subst, ap, ◌∙◌, arith, ◌<◌}
use Rattle.std.proofs.lemmas.Bool.{true≢false}
use Rattle.jskw_array.specs.Words.{CountsUpTo, Each, Failure, Pointer, Reports, Rest, Schema, Schemas, Part, Tree}
use Rattle.jskw_array.specs.Words.{all_applications, all_fail, all_needed, all_pairs, applications, each_fails}
use Rattle.jskw_array.specs.Words.{each_item, each_keyword, each_needed, each_pairs, fail, holds, is_empty}
use Rattle.jskw_array.specs.Words.{item_location, items, keeps_list, keywords_of, list_all, meaning_applications}
use Rattle.jskw_array.specs.Words.{meaning_fail, meaning_holds, meaning_needed, meaning_pairs, needed, one_keyword}
use Rattle.jskw_array.specs.Words.{pairs, rest_keyword, schemas_of, sum_to_failure, part_meaning}
use Rattle.jskw_report.specs.declared.error.Stop.{Stop}
use Rattle.jskw_report.specs.declared.report.Report.{Report}
use Rattle.jskw_report.proofs.HoldsIsNoFailure.{holds_empty}
use Rattle.jskw_report.proofs.ReportedFailures.{Reported, none_found, reported_more, reported_nothing, reported_stopped}
use Rattle.jskw_array.proofs.AcceptedValues.{one_needed}
use Rattle.jskw_leaf.proofs.TypeWalks.{fails_at}
use Rattle.jskw_array.proofs.WalksOverParts.{fail_at, needed_at, one_pair, pairs_at, part_empty}
use Rattle.jskw_array.proofs.WalksOverItems.{each_fails_at, each_needed_at, each_pairs_at, sum_at, until_at}
use Rattle.jskw_array.proofs.ItemsTaken.{taken_needed, taken_pairs}

-- ---- the walk

-- `left` of `all` is still to be reported, and the applications for it are within what the walk may take from `before`
-- on
pub record Walk {F Node Number Key : Type 0} (tree : Node → Tree) (old now : Report F Node Number Key)
    (left all : List Failure) (before ctx cost bound : ℕ) : Type 0 where
  pub reported : Reported tree old now left all
  pub from : before ≤ ctx
  pub to : ctx + cost ≤ before + bound

-- it begins with what is left behind parts that hold
pub walk_begun : {F Node Number Key : Type 0} (tree : Node → Tree) (old : Report F Node Number Key)
    {left all : List Failure} {before ctx taken cost bound : ℕ} → all ≡ left → CountsUpTo before ctx taken
    → taken + cost ≤ bound → Walk tree old old left all before ctx cost bound
walk_begun tree old {left} {all} is counted within = record {
  reported = subst (λ fs. Reported tree old old fs all) is (reported_nothing tree old all);
  from = counted.from;
  to = omega (arith, counted.to, within);
}

-- what is left begins with `first`, for which `here` applications are taken, and `less` for the rest; where the first
-- failure alone is wanted, the rest is looked at only if there was none
pub record Step (left first rest : List Failure) (here less cost : Bool → ℕ) : Type 0 where
  pub is : left ≡ first ++ rest
  pub within : (wanted : Bool) → here wanted ≤ cost wanted
  pub behind : (wanted : Bool) → (wanted ≡ false → first ≡ []) → here wanted + less wanted ≤ cost wanted

module _ {F Node Number Key : Type 0} (tree : Node → Tree) {old now : Report F Node Number Key}
    {left all first rest : List Failure} {before ctx bound : ℕ} {here less cost : Bool → ℕ}
    (walk : Walk tree old now left all before ctx (cost (keeps_list old)) bound)
    (step : Step left first rest here less cost) where
  reported_here : Reported tree old now (first ++ rest) all
  reported_here = subst (λ fs. Reported tree old now fs all) step.is walk.reported

  counted_here : {next : ℕ} → CountsUpTo ctx next (here (keeps_list now)) → CountsUpTo ctx next (here (keeps_list old))
  counted_here {next} counted = subst (λ w. CountsUpTo ctx next (here w)) walk.reported.same counted

  -- `first` was reported, and more is wanted
  pub walk_on : {new : Report F Node Number Key} {next : ℕ} → Reports tree now new first (Ok tt)
      → CountsUpTo ctx next (here (keeps_list now))
      → Walk tree old new rest all before next (less (keeps_list old)) bound
  walk_on reports counted =
      let c = counted_here counted in
      let h =
      step.behind (keeps_list old) (λ one. none_found tree first reports (walk.reported.same ∙ one)) in
      record {
        reported = reported_more tree first rest reported_here reports;
        from = omega (arith, walk.from, c.from);
        to = omega (arith, walk.to, c.to, h);
      }

  -- it stopped in `first`
  pub walk_stopped : {new : Report F Node Number Key} {r : Result Unit Stop} {x : Stop} → IsErrAnd r (λ y. y ≡ x)
      → Reports tree now new first (Err x) → Reports tree old new all r
  walk_stopped {new} {r} {x} gives reports = reported_stopped tree first rest r x reported_here gives reports

  pub walk_counted : {next : ℕ} → CountsUpTo ctx next (here (keeps_list now)) → CountsUpTo before next bound
  walk_counted counted =
      let c = counted_here counted in
      let h = step.within (keeps_list old) in
      record { from = omega (arith, walk.from, c.from); to = omega (arith, walk.to, c.to, h) }

-- ---- what it takes

pub one_applied : (wanted : Bool) (s : Schema) (t : Tree) → 1 ≤ applications wanted s t
one_applied true s t = one_pair s t
one_applied false s t = one_needed s t

-- for items by one schema
abbrev pub items_applications : Bool → Schema → List Tree → ℕ
items_applications true s ts = sum_by (pairs s) ts
items_applications false s ts = sum_to_failure (holds s) (needed s) ts

-- for each item by its schema
abbrev pub each_applications : Bool → Schemas → List Tree → ℕ
each_applications true ss ts = each_pairs ss ts
each_applications false ss ts = each_needed ss ts

pub rest_applied : {F Node Number Key : Type 0} (wanted : Bool) (v : Rest F Node Number Key) (t : Tree)
    → meaning_applications wanted (one_keyword (rest_keyword v)) t
    ≡ items_applications wanted v.node (drop v.start (items t))
rest_applied true v t = refl
rest_applied false v t = refl

pub each_applied : {F Node Number Key : Type 0} (wanted : Bool) (v : Each F Node Number Key) (t : Tree)
    → meaning_applications wanted (one_keyword (each_keyword v)) t
    ≡ each_applications wanted (schemas_of v.nodes.items) (items t)
each_applied true v t = refl
each_applied false v t = refl

-- the first items, which are valid, take an application each
pub taken_applied : (wanted : Bool) (s : Schema) (n : ℕ) (ts : List Tree) → n ≤ length ts
    → list_all (holds s) (take n ts) ≡ true
    → sum_by (needed s) (take n ts) + items_applications wanted s (drop n ts) ≤ items_applications wanted s ts
taken_applied true s n ts within valid = taken_pairs s n ts within
taken_applied false s n ts within valid = taken_needed s n ts within valid

-- where the first failure alone is wanted, an item or a part that was passed holds
passed : (holds_here : Bool) (first : List Failure) → holds_here ≡ is_empty first → (false ≡ false → first ≡ [])
    → holds_here ≡ true
passed holds_here first is none = is ∙ ap is_empty (none refl)

-- with what is behind, or without it
branch : (b : Bool) (here rest whole : ℕ) → whole ≡ here + (if b then rest else 0) → b ≡ true → here + rest ≤ whole
branch true here rest whole is e = omega (arith, is)
branch false here rest whole is e = absurd (true≢false (sym e))

at_least : (b : Bool) (here rest whole : ℕ) → whole ≡ here + (if b then rest else 0) → here ≤ whole
at_least true here rest whole is = omega (arith, is)
at_least false here rest whole is = omega (arith, is)

-- at an item
pub item_step : (ts : List Tree) (i : ℕ) (t : Tree) → i < length ts → t ≡ get_or ts i t → (s : Schema) (p : Pointer)
    → Step (each_item (fail s) i (drop i ts) p) (fail s t (item_location p i))
    (each_item (fail s) (i + 1) (drop (i + 1) ts) p) (λ w. applications w s t)
    (λ w. items_applications w s (drop (i + 1) ts)) (λ w. items_applications w s (drop i ts))
item_step ts i t within is s p = record { is = fails_at ts i t within is (fail s) p; within = one; behind = more }
  where
    all : sum_by (pairs s) (drop i ts) ≡ pairs s t + sum_by (pairs s) (drop (i + 1) ts)
    all = sum_at ts i t within is (pairs s)

    some : sum_to_failure (holds s) (needed s) (drop i ts)
        ≡ needed s t + (if holds s t then sum_to_failure (holds s) (needed s) (drop (i + 1) ts) else 0)
    some = until_at ts i t within is (holds s) (needed s)

    one : (wanted : Bool) → applications wanted s t ≤ items_applications wanted s (drop i ts)
    one true = omega (arith, all)
    one false = at_least (holds s t) _ _ _ some

    more : (wanted : Bool) → (wanted ≡ false → fail s t (item_location p i) ≡ []) → applications wanted s t
        + items_applications wanted s (drop (i + 1) ts) ≤ items_applications wanted s (drop i ts)
    more true none = omega (arith, all)
    more false none = branch (holds s t) _ _ _ some (passed (holds s t) _ (holds_empty s t (item_location p i)) none)

pub each_step : (ss : List Schema) (ts : List Tree) (i : ℕ) (s : Schema) (t : Tree) → i < length ss → i < length ts
    → s ≡ get_or ss i s → t ≡ get_or ts i t → (p : Pointer)
    → Step (each_fails (schemas_of (drop i ss)) i (drop i ts) p) (fail s t (item_location p i))
    (each_fails (schemas_of (drop (i + 1) ss)) (i + 1) (drop (i + 1) ts) p) (λ w. applications w s t)
    (λ w. each_applications w (schemas_of (drop (i + 1) ss)) (drop (i + 1) ts))
    (λ w. each_applications w (schemas_of (drop i ss)) (drop i ts))
each_step ss ts i s t schema_within within schema_is is p = record {
  is = each_fails_at ss ts i s t schema_within within schema_is is p;
  within = one;
  behind = more;
}
  where
    all : each_pairs (schemas_of (drop i ss)) (drop i ts)
        ≡ pairs s t + each_pairs (schemas_of (drop (i + 1) ss)) (drop (i + 1) ts)
    all = each_pairs_at ss ts i s t schema_within within schema_is is

    some : each_needed (schemas_of (drop i ss)) (drop i ts)
        ≡ needed s t + (if holds s t then each_needed (schemas_of (drop (i + 1) ss)) (drop (i + 1) ts) else 0)
    some = each_needed_at ss ts i s t schema_within within schema_is is

    one : (wanted : Bool) → applications wanted s t ≤ each_applications wanted (schemas_of (drop i ss)) (drop i ts)
    one true = omega (arith, all)
    one false = at_least (holds s t) _ _ _ some

    more : (wanted : Bool) → (wanted ≡ false → fail s t (item_location p i) ≡ []) → applications wanted s t
        + each_applications wanted (schemas_of (drop (i + 1) ss)) (drop (i + 1) ts)
        ≤ each_applications wanted (schemas_of (drop i ss)) (drop i ts)
    more true none = omega (arith, all)
    more false none = branch (holds s t) _ _ _ some (passed (holds s t) _ (holds_empty s t (item_location p i)) none)

-- at a part
pub part_step : {F Node Number Key : Type 0} (us : List (Part F Node Number Key)) (i : ℕ) (u : Part F Node Number Key)
    → i < length us → u ≡ get_or us i u → (t : Tree) (p : Pointer)
    → Step (all_fail (keywords_of (drop i us)) t p) (meaning_fail (part_meaning u) t p)
    (all_fail (keywords_of (drop (i + 1) us)) t p) (λ w. meaning_applications w (part_meaning u) t)
    (λ w. all_applications w (keywords_of (drop (i + 1) us)) t) (λ w. all_applications w (keywords_of (drop i us)) t)
part_step us i u within is t p = record { is = fail_at us i u within is t p; within = one; behind = more }
  where
    all : all_pairs (keywords_of (drop i us)) t
        ≡ meaning_pairs (part_meaning u) t + all_pairs (keywords_of (drop (i + 1) us)) t
    all = pairs_at us i u within is t

    some : all_needed (keywords_of (drop i us)) t ≡ meaning_needed (part_meaning u) t
        + (if meaning_holds (part_meaning u) t then all_needed (keywords_of (drop (i + 1) us)) t else 0)
    some = needed_at us i u within is t

    one : (wanted : Bool)
        → meaning_applications wanted (part_meaning u) t ≤ all_applications wanted (keywords_of (drop i us)) t
    one true = omega (arith, all)
    one false = at_least (meaning_holds (part_meaning u) t) _ _ _ some

    more : (wanted : Bool) → (wanted ≡ false → meaning_fail (part_meaning u) t p ≡ [])
        → meaning_applications wanted (part_meaning u) t + all_applications wanted (keywords_of (drop (i + 1) us)) t
        ≤ all_applications wanted (keywords_of (drop i us)) t
    more true none = omega (arith, all)
    more false none =
        branch (meaning_holds (part_meaning u) t) _ _ _ some
        (passed (meaning_holds (part_meaning u) t) _ (part_empty u t p) none)
