-- What the definitions have in common. Each law is the contract of a function.
use Rattle.std.specs.Prelude.{⊤, List, ◌≡◌, ◌≢◌, ℕ, suc, ◌++◌, [], ◌∷◌, map, find, ◌↔◌, IsTrue, Bool, true, false}
use Rattle.std.specs.Prelude.{codes, Option, Some, None, option_map, Ok, Err, ◌≤◌, ◌*◌}
use Rattle.std.specs.List.{list_any}
use Rattle.serde_json.specs.Data.{Data, unsigned, float, number, array, object, Items, no_items, item, Members}
use Rattle.serde_json.specs.Data.{no_members, member}
use Rattle.serde_json.specs.Find.{get_member}
use Rattle.jskw_value.specs.Equality.{same}
use Rattle.jskw_value.specs.FirstFloat as location_of
use Rattle.jskw_value.specs.Pointer.{Pointer, name_token, index_token}
use Rattle.jskw_value.specs.Serde.{tree_of}
use Rattle.jskw_value.specs.Tree.{Tree, is_array, items, has_distinct_names}
use Rattle.jskw_value.specs.Types.{json_type}
use Rattle.jskw_value.specs.declared.types.JsonType.{JsonType}
use Rattle.jskw_report.specs.Applications.{needed, pairs, pairs_at, height, sum_below, schemas_at, trees_at}
use Rattle.jskw_report.specs.Evaluation.{tree, unit, is_valid}
use Rattle.jskw_report.specs.Fail.{Failure, fail, keyword_fail}
use Rattle.jskw_report.specs.KeywordValue.{first_float}
use Rattle.jskw_report.specs.Holds.{holds, keyword_holds}
use Rattle.jskw_report.specs.Keyword.{Schema, Keyword, contains}
use Rattle.jskw_report.specs.Read.{Reading, read, read_keyword, readings_named, bound_beside, min_contains}
use Rattle.jskw_report.specs.Read.{max_contains}
use Rattle.jskw_report.specs.Setting.{Setting, name_of, concerns, is_active}
use Rattle.jskw_report.specs.declared.keyword.KeywordName.{KeywordName}
use Rattle.jskw_report.specs.declared.keyword.KeywordName.TheVariants as keyword_name

-- ---- verdicts, errors and evaluations

-- a tree is valid exactly where nothing is wrong with it, wherever it stands
abbrev pub HoldsWhereNothingFails : Type 0
HoldsWhereNothingFails = (s : Schema) (t : Tree) (p : Pointer) → IsTrue (holds s t) ↔ (fail s t p ≡ [])

-- a keyword holds of a tree exactly where it has no errors, wherever the tree stands
abbrev pub KeywordHoldsWhereNothingFails : Type 0
KeywordHoldsWhereNothingFails =
    (k : Keyword) (t : Tree) (p : Pointer) → IsTrue (keyword_holds k t) ↔ (keyword_fail k t p ≡ [])

-- the evaluation tree is valid exactly where the schema holds
abbrev pub TreeIsValidWhereHolds : Type 0
TreeIsValidWhereHolds = (s : Schema) (t : Tree) (p : Pointer) → is_valid (tree s t p) ≡ holds s t

-- a keyword's result is valid exactly where the keyword holds
abbrev pub UnitIsValidWhereHolds : Type 0
UnitIsValidWhereHolds = (k : Keyword) (t : Tree) (p : Pointer) → (unit k t p).valid ≡ keyword_holds k t

-- the error of a tree that stands below r
abbrev pub below : Pointer → Failure → Failure
below r f = record f { instance_location = r ++ f.instance_location }

-- where the tree stands shows in the beginning of the instance locations alone
abbrev pub FailsAlikeBelow : Type 0
FailsAlikeBelow = (s : Schema) (t : Tree) (r p : Pointer) → fail s t (r ++ p) ≡ map (below r) (fail s t p)

-- ---- what keywords hold of

-- k is what the keyword w of the object schema ms at p asserts under s
abbrev pub IsKeywordOf : KeywordName → Setting → Pointer → Members → Keyword → Type 0
IsKeywordOf w s p ms k = read_keyword w s p ms (readings_named (name_of w) ms) ≡ Some (Ok k)

-- a keyword that concerns the instances of one type holds of every other (Core 7.6.1)
abbrev pub HoldsElsewhere : Type 0
HoldsElsewhere = (w : KeywordName) (j : JsonType) (s : Setting) (p : Pointer) (ms : Members) (k : Keyword) (t : Tree)
    → concerns w ≡ Some j → IsKeywordOf w s p ms k → json_type t ≢ j → IsTrue (keyword_holds k t)

-- whether the schema that was read holds of the tree
abbrev pub reading_accepts : Reading → Tree → Option Bool
reading_accepts (Ok s) t = Some (holds s t)
reading_accepts (Err e) t = None

-- whether the schema d holds of the tree, if d is a schema
abbrev pub accepts : Setting → Data → Tree → Option Bool
accepts s d t = reading_accepts (read d s []) t

-- `const` accepts what `enum` of that one value accepts (Validation 6.1.2, 6.1.3)
pub record ConstIsOneOption : Type 0 where
  -- wherever the two keywords stand, and whatever stands beside them
  pub anywhere : (r s : Setting) (p q : Pointer) (ms ns : Members) (d : Data) (k j : Keyword) (t : Tree)
      → get_member (name_of keyword_name.Const) ms ≡ Some d
      → get_member (name_of keyword_name.Enum) ns ≡ Some (array (item d no_items))
      → IsKeywordOf keyword_name.Const r p ms k → IsKeywordOf keyword_name.Enum s q ns j
      → keyword_holds k t ≡ keyword_holds j t
  -- and where each is all that a schema has, both are schemas or neither is
  pub alone : (s : Setting) (d : Data) (t : Tree) → IsTrue (is_active s keyword_name.Const)
      → IsTrue (is_active s keyword_name.Enum)
      → accepts s (object (member (codes "const") d no_members)) t
      ≡ accepts s (object (member (codes "enum") (array (item d no_items)) no_members)) t

-- some item is valid against the schema of `contains`
abbrev pub has_match : Keyword → Tree → Bool
has_match (contains s b) t = list_any (holds s) (items t)
has_match _ t = false

-- what `contains` asks for by the bounds that are read beside it (Core 10.3.1.3, Validation 6.4.4, 6.4.5)
pub record ContainsMatches : Type 0 where
  -- with `minContains` 0 and no `maxContains` it holds of every tree
  pub no_match_needed : (s : Setting) (p : Pointer) (ms : Members) (k : Keyword) (t : Tree)
      → IsKeywordOf keyword_name.Contains s p ms k
      → bound_beside s ms min_contains ≡ Some (number (unsigned 0)) → bound_beside s ms max_contains ≡ None
      → IsTrue (keyword_holds k t)
  -- without `minContains` it needs a match in every array
  pub match_needed : (s : Setting) (p : Pointer) (ms : Members) (k : Keyword) (t : Tree)
      → IsKeywordOf keyword_name.Contains s p ms k
      → bound_beside s ms min_contains ≡ None → is_array t ≡ true → IsTrue (keyword_holds k t) → IsTrue (has_match k t)
  -- with neither bound it needs no more than that match
  pub match_suffices : (s : Setting) (p : Pointer) (ms : Members) (k : Keyword) (t : Tree)
      → IsKeywordOf keyword_name.Contains s p ms k
      → bound_beside s ms min_contains ≡ None → bound_beside s ms max_contains ≡ None → is_array t ≡ true
      → keyword_holds k t ≡ has_match k t

-- ---- the first float

-- a value that stands in another, and its location there
pub record Found : Type 0 where
  pub location : Pointer
  pub value : Data

-- the value, found in itself
abbrev pub here : Data → Found
here d = record { location = []; value = d }

-- what was found, seen from one level up: its location begins with the token
abbrev pub under_token : Pointer → Found → Found
under_token token f = record f { location = token ++ f.location }

abbrev mutual
  -- the value and all that stand in it, depth first
  pub found_in : Data → List Found
  found_in (array ds) = here (array ds) ∷ found_in_items 0 ds
  found_in (object ms) = here (object ms) ∷ found_in_members ms
  found_in d = here d ∷ []

  -- the items and all that stand in them, depth first, the first item having index i
  pub found_in_items : ℕ → Items → List Found
  found_in_items i no_items = []
  found_in_items i (item d ds) = map (under_token (index_token i)) (found_in d) ++ found_in_items (suc i) ds

  -- the members' values and all that stand in them, depth first
  pub found_in_members : Members → List Found
  found_in_members no_members = []
  found_in_members (member k d ms) = map (under_token (name_token k)) (found_in d) ++ found_in_members ms

-- the value is a float
abbrev pub is_float_value : Data → Bool
is_float_value (number (float x)) = true
is_float_value _ = false

-- the first float in a value
abbrev pub found_float : Data → Option Found
found_float d = find (λ f. is_float_value f.value) (found_in d)

-- the float for which a keyword's value is refused and the float for which an instance is refused are the same one
pub record FirstFloatIsOne : Type 0 where
  pub value : (d : Data) → first_float d ≡ option_map (λ f. f.value) (found_float d)
  pub location : (d : Data) → location_of.first_float (tree_of d) ≡ option_map (λ f. f.location) (found_float d)

-- ---- applications

-- what is needed up to the first failure is part of all pairs
abbrev pub NeedsSomePairs : Type 0
NeedsSomePairs = (s : Schema) (t : Tree) → needed s t ≤ pairs s t

-- a subschema and an item that meet lie equally deep: each pair lies at one depth
pub record PairsMeetAtOneDepth : Type 0 where
  -- the pairs of all depths are all pairs
  pub over_depths : (s : Schema) (t : Tree) → sum_below (height s) (pairs_at s t) ≡ pairs s t
  -- at each depth no more pairs lie than schemas times trees
  pub at_each : (s : Schema) (t : Tree) (d : ℕ) → pairs_at s t d ≤ schemas_at s d * trees_at t d
  -- there are no more pairs than schemas times trees at each depth, summed over the depths
  pub at_all : (s : Schema) (t : Tree) → pairs s t ≤ sum_below (height s) (λ d. schemas_at s d * trees_at t d)

-- ---- one tree in two representations

-- of one kind, at the same locations, with trees that are the same
pub record SameFailure (f g : Failure) : Type 0 where
  pub kind : f.kind ≡ g.kind
  pub instance_location : f.instance_location ≡ g.instance_location
  pub keyword_location : f.keyword_location ≡ g.keyword_location
  pub tree : IsTrue (same f.tree g.tree)

-- the failures are the same, one by one
abbrev pub SameFailures : List Failure → List Failure → Type 0
SameFailures [] [] = ⊤
SameFailures (f ∷ fs) (g ∷ gs) = SameFailure f g × SameFailures fs gs
SameFailures _ _ = ⊥

-- the schema says of t what it says of u
pub record SaysTheSame (s : Schema) (t u : Tree) : Type 0 where
  pub verdict : holds s t ≡ holds s u
  pub failures : (p : Pointer) → SameFailures (fail s t p) (fail s u p)
  pub evaluation : (p : Pointer) → tree s t p ≡ tree s u p
  pub applications : pairs s t ≡ pairs s u
  pub to_failure : needed s t ≡ needed s u

-- every schema says of t what it says of u
abbrev pub CannotBeToldApart : Tree → Tree → Type 0
CannotBeToldApart t u = (s : Schema) → SaysTheSame s t u

-- trees written alike, whatever the order of their members
abbrev pub SameTreesAreOne : Type 0
SameTreesAreOne =
    (t u : Tree) → IsTrue (has_distinct_names t) → IsTrue (has_distinct_names u) → IsTrue (same t u)
    → CannotBeToldApart t u
