-- Failures of an assertion that is not `required`.
use Rattle.std.proofs.Common.{◌≡◌, ◌≤◌, ◌∙◌, [], length, map, Bool, true, false, Some, ap, sym, subst, arith}
use Rattle.jskw_value.specs.Pointer.{Pointer}
use Rattle.jskw_value.specs.Tree.{Tree}
use Rattle.jskw_report.specs.Fail.{error_kinds, keyword_fail, kind_for, unless}
use Rattle.jskw_report.specs.Holds.{assertion_holds}
use Rattle.jskw_report.specs.Keyword.{Assertion, assertion, required}
use Rattle.jskw_report.specs.Kind.{ErrorKind}
use Rattle.jskw_report.specs.Meaning.{LocatedAssertion, as_keyword}
use Rattle.jskw_report.specs.Observe.{failures_unless}
use Rattle.jskw_report.proofs.HoldsIsNoFailure.{keyword_empty, no_element}

-- there is at most one
once : (holds : Bool) (kind : ErrorKind) (q : Pointer) (t : Tree) (p : Pointer)
    → length (failures_unless holds kind q t p) ≤ 1
once true kind q t p = omega arith
once false kind q t p = omega arith

-- an assertion with a kind of its own fails by that kind
as_unless : (a : Assertion) (k : ErrorKind) → kind_for a ≡ Some k
    → (q : Pointer) (t : Tree) (p : Pointer)
    → keyword_fail (assertion q a) t p ≡ failures_unless (assertion_holds a t) k q t p
as_unless a k e q t p =
    ap (λ ks. map (λ k. record { kind = k; instance_location = p; keyword_location = q; tree = t }) ks) (kinds a e)
  where
    kinds : (a : Assertion) → kind_for a ≡ Some k → error_kinds a t ≡ unless (assertion_holds a t) (Some k)
    kinds (required names) e = cc
    kinds a e = ap (unless (assertion_holds a t)) e

-- so it fails at most once
pub fails_at_most_once : (a : LocatedAssertion) (k : ErrorKind) → kind_for a.assertion ≡ Some k
    → (t : Tree) (p : Pointer) → length (keyword_fail (as_keyword a) t p) ≤ 1
fails_at_most_once a k e t p =
    subst (λ fs. length fs ≤ 1) (sym (as_unless a.assertion k e a.location t p))
    (once (assertion_holds a.assertion t) k a.location t p)

-- by that kind where it does not hold
pub fails_unless : (a : LocatedAssertion) (k : ErrorKind) → kind_for a.assertion ≡ Some k
    → (t : Tree) (p : Pointer) (b : Bool) → b ≡ assertion_holds a.assertion t
    → keyword_fail (as_keyword a) t p ≡ failures_unless b k a.location t p
fails_unless a k e t p b is =
    as_unless a.assertion k e a.location t p ∙ ap (λ h. failures_unless h k a.location t p) (sym is)

-- and not at all where it holds
pub fails_never : (a : LocatedAssertion) (t : Tree) (p : Pointer) → true ≡ assertion_holds a.assertion t
    → keyword_fail (as_keyword a) t p ≡ []
fails_never a t p h = no_element _ (sym (h ∙ keyword_empty (as_keyword a) t p))
