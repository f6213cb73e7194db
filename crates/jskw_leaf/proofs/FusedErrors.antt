-- The keywords of the fused shape of an array.
use Rattle.std.proofs.Common.{◌≡◌, List, ◌++◌, Result, Ok, Err, IsErrAnd, subst, sym, ap, ◌∙◌, append_assoc}
use Rattle.jskw_value.specs.Pointer.{Pointer}
use Rattle.jskw_value.specs.Tree.{Tree}
use Rattle.jskw_report.specs.Fail.{Failure, all_fail, keyword_fail}
use Rattle.jskw_report.specs.Meaning.{as_keyword}
use Rattle.jskw_report.specs.Observe.{Reports}
use Rattle.jskw_report.specs.declared.error.Stop.{Stop}
use Rattle.jskw_report.specs.declared.report.Report.{Report}
use Rattle.jskw_report.proofs.AppendedKeywords.{fail_appended}
use Rattle.jskw_report.proofs.ReportedFailures.{reports_begun, reports_behind}
use Rattle.jskw_number.specs.Meaning.{max_items, min_items}
use Rattle.jskw_leaf.specs.Items.{AppendsItems, absorbed_bounds, absorbed_keywords, absorbed_type, optional}
use Rattle.jskw_leaf.specs.declared.in_place.absorbed.AbsorbedKeywords.{AbsorbedKeywords}

-- ---- the errors of `type`, and those of the bounds behind them

module _ (a : AbsorbedKeywords) (t : Tree) (p : Pointer) where
  abbrev of_type : List Failure
  of_type = keyword_fail (as_keyword (absorbed_type a)) t p

  abbrev of_least : List Failure
  of_least = all_fail (optional min_items a.min_items) t p

  abbrev of_most : List Failure
  of_most = all_fail (optional max_items a.max_items) t p

  module _ {F Node Number Key : Type 0} (tree : Node → Tree) where
    -- it stopped at `type`
    pub stopped_at_type : {old now : Report F Node Number Key} (r : Result Unit Stop) (x : Stop)
        → IsErrAnd r (λ y. y ≡ x) → Reports tree old now of_type (Err x)
        → Reports tree old now (all_fail (absorbed_keywords a) t p) r
    stopped_at_type r x gives type_ = reports_begun tree of_type (all_fail (absorbed_bounds a) t p) r x gives type_

    bounds_behind : {old now new : Report F Node Number Key} (r : Result Unit Stop)
        → Reports tree old now of_type (Ok tt) → Reports tree now new (of_least ++ of_most) r
        → Reports tree old new (all_fail (absorbed_keywords a) t p) r
    bounds_behind {old} {now} {new} r type_ bounds =
        reports_behind tree of_type (all_fail (absorbed_bounds a) t p) r type_
        (subst (λ fs. Reports tree now new fs r)
        (sym (fail_appended t p (optional min_items a.min_items) (optional max_items a.max_items))) bounds)

    -- it stopped at `minItems`
    pub stopped_at_least : {old now new : Report F Node Number Key} (r : Result Unit Stop) (x : Stop)
        → Reports tree old now of_type (Ok tt) → IsErrAnd r (λ y. y ≡ x) → Reports tree now new of_least (Err x)
        → Reports tree old new (all_fail (absorbed_keywords a) t p) r
    stopped_at_least r x type_ gives least = bounds_behind r type_ (reports_begun tree of_least of_most r x gives least)

    -- it went on to `maxItems`
    pub reported_most : {old now next new : Report F Node Number Key} (r : Result Unit Stop)
        → Reports tree old now of_type (Ok tt) → Reports tree now next of_least (Ok tt)
        → Reports tree next new of_most r → Reports tree old new (all_fail (absorbed_keywords a) t p) r
    reported_most r type_ least most = bounds_behind r type_ (reports_behind tree of_least of_most r least most)

-- ---- nodes that are appended

-- the first part was begun
pub extends_before : {A E : Type 0} (old new first second : List A) (r : Result Unit E) (x : E)
    → IsErrAnd r (λ y. y ≡ x)
    → (done : List A) × (rest : List A) × (new ≡ old ++ done) × (done ++ rest ≡ first)
    → AppendsItems old new (first ++ second) r
extends_before old new first second (Ok u) x is begun = absurd is
extends_before old new first second (Err e) x is (done, rest, now, all) =
    (done, rest ++ second, now, sym (append_assoc done rest second) ∙ ap (λ xs. xs ++ second) all)
