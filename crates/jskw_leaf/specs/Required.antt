-- Which names an object has, and the errors of those that it lacks.
use Rattle.std.specs.Prelude.{◌≡◌, ℕ, List, Bool, Some, Result, Ok, cond, slice_get}
use Rattle.std.specs.Int.{bit_at}
use Rattle.std.specs.List.{list_any}
use Rattle.std.specs.Str.{bytes_eq}
use Rattle.serde_json.specs.Data.{Data, string}
use Rattle.jskw_value.specs.Pointer.{Pointer}
use Rattle.jskw_value.specs.Tree.{Tree, has_name}
use Rattle.jskw_value.specs.declared.types.JsonType.TheVariants.{String}
use Rattle.jskw_report.specs.Fail.{Failure, keyword_fail}
use Rattle.jskw_report.specs.KeywordValue.{Refusal, of_type, wrong}
use Rattle.jskw_report.specs.Keyword.{assertion, required}
use Rattle.jskw_report.specs.Kind.{Required}

-- the name is one of the list
abbrev pub is_among : List (List ℕ) → List ℕ → Bool
is_among names name = list_any (bytes_eq name) names

-- bit i of the mask is whether the tree has the name at index i
abbrev pub MarksNames : ℕ → Tree → List (List ℕ) → Type 0
MarksNames mask t names =
    (i : ℕ) (name : List ℕ) → slice_get names i ≡ Some name → bit_at mask i ≡ cond (has_name t name) 1 0

-- the error of a name that the tree t at p lacks, by the keyword at q
abbrev pub required_fail : Pointer → Tree → Pointer → List ℕ → Failure
required_fail q t p name = record { kind = Required name; instance_location = p; keyword_location = q; tree = t }

-- the errors of `required` of the names
abbrev pub required_fails : Pointer → Tree → Pointer → List (List ℕ) → List Failure
required_fails q t p names = keyword_fail (assertion q (required names)) t p

-- the name that an item is
abbrev pub name_value : Pointer → Data → Result (List ℕ) Refusal
name_value p (string s) = Ok s
name_value p d = wrong (of_type String) p d
