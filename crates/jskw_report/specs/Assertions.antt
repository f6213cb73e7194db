-- What a keyword without subschemas says of an instance (Validation 6): whether it holds, and its errors.
use Rattle.std.specs.Prelude.{ℕ, ◌^◌, ℤ, pos, ◌*ℤ◌, int_le, int_lt, nat_le, List, [], ◌∷◌, length, map, filter, Bool}
use Rattle.std.specs.Prelude.{true, false, not, ◌&&◌, ◌||◌, Option, Some, None, if◌then◌else◌}
use Rattle.std.specs.List.{list_all}
use Rattle.std.specs.Option.{option_map_or}
use Rattle.serde_json.specs.Data as value
use Rattle.serde_json.specs.Data.{Items, no_items, item}
use Rattle.jskw_value.specs.Equality as equality
use Rattle.jskw_value.specs.Equality.{equal}
use Rattle.jskw_value.specs.Number.{exact, is_written_as_integer, is_multiple_of}
use Rattle.jskw_value.specs.Serde.{tree_of}
use Rattle.jskw_value.specs.Tree.{Tree, number, items, is_array, is_object, members, has_name, as_number}
use Rattle.jskw_value.specs.Types as types
use Rattle.jskw_value.specs.Types.{json_type, holds_integer}
use Rattle.jskw_value.specs.declared.types.JsonType.{JsonType}
use Rattle.jskw_value.specs.declared.types.JsonType.TheVariants.{Array, Integer, Number, Object}
use Rattle.jskw_value.specs.declared.types.JsonTypeSet.{JsonTypeSet}
use Rattle.jskw_report.specs.Keyword.{Integers, by_value, as_written, Assertion, never, type_is, size, constant, among}
use Rattle.jskw_report.specs.Keyword.{limit, multiple_of, unique, required, at_most, Size, MinItems, MaxItems}
use Rattle.jskw_report.specs.Keyword.{MinProperties, MaxProperties, Relation, Minimum, Maximum, ExclusiveMinimum}
use Rattle.jskw_report.specs.Keyword.{ExclusiveMaximum}
use Rattle.jskw_report.specs.Kind.{ErrorKind, Listed, WrongType, types_of}
use Rattle.jskw_report.specs.Kind as kind

-- ---- by keyword

-- the tree is an integer by the rule
abbrev pub is_integer_by : Integers → Tree → Bool
is_integer_by by_value t = holds_integer t
is_integer_by as_written t = option_map_or is_written_as_integer (as_number t) false

-- the tree is of some type of the set (Validation 6.1.1)
abbrev pub is_of : Integers → JsonTypeSet → Tree → Bool
is_of rule s t = types.contains s (json_type t) || (types.contains s Integer && is_integer_by rule t)

-- the number of items of an array (Validation 6.4.1, 6.4.2), or of members of an object (Validation 6.5.1, 6.5.2), is
-- within the bound; other trees have no such number
abbrev pub size_holds : Size → ℕ → Tree → Bool
size_holds MinItems n t = not (is_array t) || nat_le n (length (items t))
size_holds MaxItems n t = not (is_array t) || nat_le (length (items t)) n
size_holds MinProperties n t = not (is_object t) || nat_le n (length (members t))
size_holds MaxProperties n t = not (is_object t) || nat_le (length (members t)) n

-- the number c / 10^k stands in the relation to n
abbrev pub stands_in : Relation → ℤ → ℕ → ℤ → Bool
stands_in Minimum c k n = int_le (n *ℤ pos (10 ^ k)) c
stands_in Maximum c k n = int_le c (n *ℤ pos (10 ^ k))
stands_in ExclusiveMinimum c k n = int_lt (n *ℤ pos (10 ^ k)) c
stands_in ExclusiveMaximum c k n = int_lt c (n *ℤ pos (10 ^ k))

-- a number is within the limit (Validation 6.2.2 to 6.2.5)
abbrev pub limit_holds : Relation → ℤ → Tree → Bool
limit_holds r n (number (exact c k)) = stands_in r c k n
limit_holds r n _ = true

-- a number divided by m is an integer (Validation 6.2.1)
abbrev pub multiple_holds : ℕ → Tree → Bool
multiple_holds m (number (exact c k)) = is_multiple_of c k m
multiple_holds m _ = true

-- the tree equals some value of the list (Validation 6.1.2)
abbrev pub is_option : Items → Tree → Bool
is_option no_items t = false
is_option (item d ds) t = equal (tree_of d) t || is_option ds t

-- an object has every name (Validation 6.5.3)
abbrev pub required_holds : List (List ℕ) → Tree → Bool
required_holds names t = not (is_object t) || list_all (has_name t) names

-- the kind of a bound on a size
abbrev pub size_kind : Size → ℕ → ErrorKind
size_kind MinItems n = kind.MinItems n
size_kind MaxItems n = kind.MaxItems n
size_kind MinProperties n = kind.MinProperties n
size_kind MaxProperties n = kind.MaxProperties n

-- the kind of a limit
abbrev pub limit_kind : Relation → ℤ → ErrorKind
limit_kind Minimum n = kind.Minimum n
limit_kind Maximum n = kind.Maximum n
limit_kind ExclusiveMinimum n = kind.ExclusiveMinimum n
limit_kind ExclusiveMaximum n = kind.ExclusiveMaximum n

-- the type that a bound on a size is about
abbrev pub size_subject : Size → JsonType
size_subject MinItems = Array
size_subject MaxItems = Array
size_subject MinProperties = Object
size_subject MaxProperties = Object

-- ---- any of them

-- what an assertion checks: when it holds of a tree, the kind of its error, if it has no more than one, and the type of
-- the instances that it is about, if it isn't all of them
pub record Check : Type 0 where
  pub holds : Tree → Bool
  pub kind : Option ErrorKind
  pub subject : Option JsonType

-- these three
abbrev pub checks : (Tree → Bool) → Option ErrorKind → Option JsonType → Check
checks holds kind subject = record { holds = holds; kind = kind; subject = subject }

-- what each assertion checks; `required` has an error for each name that is missing
abbrev pub check_of : Assertion → Check
check_of never = checks (λ t. false) (Some kind.FalseSchema) None
check_of (type_is k rule) = checks (is_of rule (types_of k)) (Some (WrongType k)) None
check_of (size which n) = checks (size_holds which n) (Some (size_kind which n)) (Some (size_subject which))
check_of (constant d) = checks (equal (tree_of d)) (Some (kind.Constant d)) None
check_of (among ds) = checks (is_option ds) (Some (kind.Enum (Listed (value.array ds)))) None
check_of (limit r n) = checks (limit_holds r n) (Some (limit_kind r n)) (Some Number)
check_of (multiple_of m) = checks (multiple_holds m) (Some (kind.MultipleOf m)) (Some Number)
check_of unique = checks (λ t. equality.unique (items t)) (Some kind.UniqueItems) (Some Array)
check_of (required names) = checks (required_holds names) None (Some Object)
check_of (at_most n) = checks (λ t. nat_le (length (items t)) n) (Some (kind.AdditionalItems n)) (Some Array)

-- the assertion holds of the tree; one that is about numbers, arrays or objects holds of every other tree
abbrev pub assertion_holds : Assertion → Tree → Bool
assertion_holds a t = (check_of a).holds t

-- the kind of the one error of an assertion
abbrev pub kind_for : Assertion → Option ErrorKind
kind_for a = (check_of a).kind

-- the type of the instances that the assertion is about, if it isn't all of them
abbrev pub assertion_subject : Assertion → Option JsonType
assertion_subject a = (check_of a).subject

-- ---- errors

-- no error if the keyword holds, else the one of the kind
abbrev pub unless : Bool → Option ErrorKind → List ErrorKind
unless true k = []
unless false None = []
unless false (Some k) = k ∷ []

-- one error for each name that an object lacks, in their order
abbrev pub missing : List (List ℕ) → Tree → List ErrorKind
missing names t = if is_object t then map kind.Required (filter (λ name. not (has_name t name)) names) else []

-- the kinds of an assertion's errors: none where it holds, else one, but for `required`
abbrev pub error_kinds : Assertion → Tree → List ErrorKind
error_kinds (required names) t = missing names t
error_kinds a t = unless (assertion_holds a t) (kind_for a)
