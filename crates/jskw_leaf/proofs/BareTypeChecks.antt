-- What a bare type check says: the schema of its items what its assertion says, and the whole what its variant says.
use Rattle.std.proofs.Common.{◌≡◌, List, [], ◌∷◌, IfOk, Result, Some, true, false, ◌&&◌, refl, ap, subst, sym, ◌∙◌}
use Rattle.std.proofs.Common.{append-nil, map}
use Rattle.jskw_report.specs.Keyword.{Integers, type_is}
use Rattle.jskw_value.specs.declared.types.JsonType.{JsonType}
use Rattle.jskw_report.specs.Meaning.{LocatedAssertion, as_keyword}
use Rattle.jskw_value.specs.Pointer.{Pointer}
use Rattle.jskw_report.specs.declared.error.TypeKind.TheVariants.{Single}
use Rattle.jskw_value.specs.Tree.{Tree}
use Rattle.jskw_report.specs.Kind.{WrongType}
use Rattle.jskw_report.specs.Holds.{assertion_holds, holds}
use Rattle.jskw_report.specs.Evaluation.{unit}
use Rattle.jskw_report.specs.EvaluationView.{result_of}
use Rattle.jskw_report.specs.declared.evaluation.EvaluationResult.{EvaluationResult}
use Rattle.jskw_leaf.specs.Items.{bare_keyword, bare_schema}
use Rattle.jskw_leaf.specs.declared.in_place.bare.BareItems.{BareItems}
use Rattle.jskw_report.specs.Fail.{fail, keyword_fail, unless}
use Rattle.std.specs.List.{list_all}
use Rattle.jskw_leaf.specs.Meaning.{type_at}

module _ (q : Pointer) (a : LocatedAssertion) where
  pub bare_holds : (t : Tree) → holds (bare_schema q a) t ≡ assertion_holds a.assertion t
  bare_holds t = go (assertion_holds a.assertion t)
    where
      go : (b : _) → (b && true) ≡ b
      go true = refl
      go false = refl

  pub bare_all_hold : (ts : List Tree)
      → list_all (holds (bare_schema q a)) ts ≡ list_all (assertion_holds a.assertion) ts
  bare_all_hold [] = refl
  bare_all_hold (t ∷ ts) =
      ap (λ b. b && list_all (holds (bare_schema q a)) ts) (bare_holds t)
      ∙ ap (λ b. assertion_holds a.assertion t && b) (bare_all_hold ts)

  pub bare_fail : (t : Tree) (p : Pointer) → fail (bare_schema q a) t p ≡ keyword_fail (as_keyword a) t p
  bare_fail t p = append-nil (keyword_fail (as_keyword a) t p)

-- a type check does not fail of what is of the type
pub type_fails_not : (j : JsonType) (rule : Integers) (q r : Pointer) (t : Tree) (p : Pointer)
    → assertion_holds (type_is (Single j) rule) t ≡ true → fail (bare_schema q (type_at j rule r)) t p ≡ []
type_fails_not j rule q r t p h = bare_fail q (type_at j rule r) t p
    ∙ ap (λ b. map (λ k. record { kind = k; instance_location = p; keyword_location = r; tree = t })
    (unless b (Some (WrongType (Single j))))) h

-- ---- whichever type it is

-- the unit of one is that of all
pub unit_of : {F Node Number Key E : Type 0} {v w : BareItems F Node Number Key} (made : Result EvaluationResult E)
    (t : Tree) (p : Pointer) → v ≡ w → IfOk made (λ r. result_of r ≡ unit (bare_keyword w) t p)
    → IfOk made (λ r. result_of r ≡ unit (bare_keyword v) t p)
unit_of made t p is = subst (λ k. IfOk made (λ r. result_of r ≡ unit (bare_keyword k) t p)) (sym is)
