-- What a validator stands for, and what that says of an instance.
use Rattle.std.specs.Prelude.{ℕ, List, Bool, true, false}
use Rattle.jskw_value.specs.Pointer.{Pointer}
use Rattle.jskw_value.specs.Tree.{Tree}
use Rattle.jskw_report.specs.Applications.{keyword_needed, keyword_pairs, all_needed, all_pairs}
use Rattle.jskw_report.specs.Evaluation.{Result, unit}
use Rattle.jskw_report.specs.Fail.{Failure, keyword_fail, all_fail}
use Rattle.jskw_report.specs.Holds.{keyword_holds, all_hold}
use Rattle.jskw_report.specs.Keyword.{Keyword, Keywords, Assertion, assertion}

-- an assertion with the keyword location of its failures
pub record LocatedAssertion : Type 0 where
  pub location : Pointer
  pub assertion : Assertion

-- the assertion as a keyword
abbrev pub as_keyword : LocatedAssertion → Keyword
as_keyword a = assertion a.location a.assertion

-- one keyword; or several keywords of one schema at once, with the one among them whose unit is given
pub data Meaning : Type 0 where
  one_keyword : Keyword → Meaning
  shape : Keywords → Keyword → Meaning

-- it is one keyword without subschemas
abbrev pub is_assertion : Meaning → Bool
is_assertion (one_keyword (assertion q a)) = true
is_assertion _ = false

-- it holds of the tree
abbrev pub meaning_holds : Meaning → Tree → Bool
meaning_holds (one_keyword k) t = keyword_holds k t
meaning_holds (shape ks k) t = all_hold ks t

-- its errors over the tree t at p
abbrev pub meaning_fail : Meaning → Tree → Pointer → List Failure
meaning_fail (one_keyword k) t p = keyword_fail k t p
meaning_fail (shape ks k) t p = all_fail ks t p

-- its unit in the evaluation of the tree t at p
abbrev pub meaning_unit : Meaning → Tree → Pointer → Result
meaning_unit (one_keyword k) t p = unit k t p
meaning_unit (shape ks k) t p = unit k t p

-- how many pairs of a subschema and an item it makes meet
abbrev pub meaning_pairs : Meaning → Tree → ℕ
meaning_pairs (one_keyword k) t = keyword_pairs k t
meaning_pairs (shape ks k) t = all_pairs ks t

-- how many of them up to its first failure
abbrev pub meaning_needed : Meaning → Tree → ℕ
meaning_needed (one_keyword k) t = keyword_needed k t
meaning_needed (shape ks k) t = all_needed ks t

-- how many of them: all, or up to its first failure
abbrev pub meaning_applications : Bool → Meaning → Tree → ℕ
meaning_applications true m t = meaning_pairs m t
meaning_applications false m t = meaning_needed m t
