-- The value that each keyword takes in a schema, and how every other is refused.
use Rattle.std.specs.Prelude.{ℕ, zero, suc, ℤ, pos, List, [], ◌∷◌, filter, not, codes, bytes_eq, Option, Some, None}
use Rattle.std.specs.Prelude.{Result, Ok, Err, ok_or}
use Rattle.std.specs.Option.{option_or}
use Rattle.serde_json.specs.Data.{unsigned, negative, float, Data, number, string, array, object, Items, no_items, item}
use Rattle.serde_json.specs.Data.{Members, no_members, member}
use Rattle.jskw_value.specs.Pointer.{Pointer}
use Rattle.jskw_value.specs.Types.{no_types, insert, type_named}
use Rattle.jskw_value.specs.declared.types.JsonType.{JsonType}
use Rattle.jskw_value.specs.declared.types.JsonType.TheVariants.{Array, Integer, Number, String}
use Rattle.jskw_value.specs.declared.types.JsonTypeSet.{JsonTypeSet}
use Rattle.jskw_report.specs.Kind.{ErrorKind, TypeKind, Single, Multiple, CompileError, Enum, TypeNames, WrongType}
use Rattle.jskw_report.specs.Kind as kind

-- ---- refusals

-- a value of a schema that its keyword does not take: the kind of the error, the keyword location, and the value
pub record Refusal : Type 0 where
  pub kind : ErrorKind
  pub location : Pointer
  pub value : Data

-- the value d at p is refused
abbrev pub wrong : {A : Type 0} → ErrorKind → Pointer → Data → Result A Refusal
wrong k p d = Err (record { kind = k; location = p; value = d })

-- f of the value, or its refusal
abbrev pub map_ok : {A B : Type 0} → (A → B) → Result A Refusal → Result B Refusal
map_ok f (Ok a) = Ok (f a)
map_ok f (Err e) = Err e

-- f of both values, or the first refusal
abbrev pub join_ok : {A B C : Type 0} → (A → B → C) → Result A Refusal → Result B Refusal → Result C Refusal
join_ok f (Ok a) r = map_ok (f a) r
join_ok f (Err e) r = Err e

-- the value was to be of the type
abbrev pub of_type : JsonType → ErrorKind
of_type j = WrongType (Single j)

-- the value was to be of one of the two types
abbrev pub of_types : JsonType → JsonType → ErrorKind
of_types i j = WrongType (Multiple (insert i (insert j no_types)))

-- the value is a float
abbrev pub not_whole : ErrorKind
not_whole = CompileError (codes "Not a whole number of 64 bits")

-- the value is the name of no type
abbrev pub unknown_type : ErrorKind
unknown_type = CompileError (codes "Unexpected type")

-- ---- numbers

-- a bound on a number of items or members: a whole number that isn't negative
-- (Validation 6.4.1, 6.4.2, 6.4.4, 6.4.5, 6.5.1, 6.5.2)
abbrev pub size_value : Pointer → Data → Result ℕ Refusal
size_value p (number (unsigned n)) = Ok n
size_value p (number (negative z)) = wrong (kind.Minimum (pos 0)) p (number (negative z))
size_value p d = wrong (of_type Integer) p d

-- a limit: a number (Validation 6.2.2 to 6.2.5), here a whole one
abbrev pub limit_value : Pointer → Data → Result ℤ Refusal
limit_value p (number (unsigned n)) = Ok (pos n)
limit_value p (number (negative z)) = Ok z
limit_value p (number (float x)) = wrong not_whole p (number (float x))
limit_value p d = wrong (of_type Number) p d

-- a divisor: a number above 0 (Validation 6.2.1), here a whole one
abbrev pub divisor_value : Pointer → Data → Result ℕ Refusal
divisor_value p (number (unsigned (suc n))) = Ok (suc n)
divisor_value p (number (unsigned zero)) = wrong (kind.ExclusiveMinimum (pos 0)) p (number (unsigned zero))
divisor_value p (number (negative z)) = wrong (kind.ExclusiveMinimum (pos 0)) p (number (negative z))
divisor_value p (number (float x)) = wrong not_whole p (number (float x))
divisor_value p d = wrong (of_type Number) p d

-- ---- `type` (Validation 6.1.1)

-- the type that the value names; the name of no type is refused with an error of the given kind
abbrev pub named_type : ErrorKind → Pointer → Data → Result JsonType Refusal
named_type unknown p (string s) = ok_or (type_named s) (record { kind = unknown; location = p; value = string s })
named_type unknown p d = wrong (of_type String) p d

-- the value as the name of the only type
abbrev pub one_type : Pointer → Data → Result TypeKind Refusal
one_type p d = map_ok Single (named_type unknown_type p d)

-- the set with one type more
abbrev pub with_type : Result JsonType Refusal → Result JsonTypeSet Refusal → Result JsonTypeSet Refusal
with_type j r = join_ok insert j r

-- the types of a list of names
abbrev pub type_set : Pointer → Items → Result JsonTypeSet Refusal
type_set p no_items = Ok no_types
type_set p (item d ds) = with_type (named_type (Enum TypeNames) p d) (type_set p ds)

-- an array of one name says what the name says
abbrev pub array_types : Pointer → Items → Result TypeKind Refusal
array_types p (item d no_items) = one_type p d
array_types p ds = map_ok Multiple (type_set p ds)

-- a name, or an array of names
abbrev pub type_value : Pointer → Data → Result TypeKind Refusal
type_value p (string s) = one_type p (string s)
type_value p (array ds) = array_types p ds
type_value p d = wrong (of_types String Array) p d

-- ---- `required` (Validation 6.5.3)

-- the items, each a string
abbrev pub texts : Pointer → Items → Result (List (List ℕ)) Refusal
texts p no_items = Ok []
texts p (item (string s) ds) = map_ok (λ names. s ∷ names) (texts p ds)
texts p (item d ds) = wrong (of_type String) p d

-- each name once, where it is first
abbrev pub distinct : List (List ℕ) → List (List ℕ)
distinct [] = []
distinct (n ∷ ns) = n ∷ filter (λ m. not (bytes_eq n m)) (distinct ns)

-- an array of names
abbrev pub required_value : Pointer → Data → Result (List (List ℕ)) Refusal
required_value p (array ds) = map_ok distinct (texts p ds)
required_value p d = wrong (of_type Array) p d

-- ---- `const` (Validation 6.1.3) and `enum` (6.1.2)

abbrev mutual
  -- the first float of a value, depth first, members in the order in which they stand
  pub first_float : Data → Option Data
  first_float (number (float x)) = Some (number (float x))
  first_float (array ds) = first_float_item ds
  first_float (object ms) = first_float_member ms
  first_float _ = None

  -- the first float of the items
  pub first_float_item : Items → Option Data
  first_float_item no_items = None
  first_float_item (item d ds) = option_or (first_float d) (first_float_item ds)

  -- the first float of the members' values
  pub first_float_member : Members → Option Data
  first_float_member no_members = None
  first_float_member (member k d ms) = option_or (first_float d) (first_float_member ms)

-- a, but for a float that was found
abbrev pub unless_float : {A : Type 0} → Pointer → Option Data → A → Result A Refusal
unless_float p None a = Ok a
unless_float p (Some d) a = wrong not_whole p d

-- any value, here one without a float
abbrev pub const_value : Pointer → Data → Result Data Refusal
const_value p d = unless_float p (first_float d) d

-- an array of any values, here without a float
abbrev pub enum_value : Pointer → Data → Result Items Refusal
enum_value p (array ds) = unless_float p (first_float_item ds) ds
enum_value p d = wrong (of_type Array) p d
