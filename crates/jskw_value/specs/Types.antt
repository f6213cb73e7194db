-- The types of JSON Schema (Validation 6.1.1, "type"), and sets of them.
use Rattle.std.specs.Prelude.{ℕ, Bool, true, false, ◌&&◌, ◌||◌, List, [], ◌∷◌, codes, Option, bytes_eq}
use Rattle.std.specs.List.{find}
use Rattle.std.specs.Option.{option_map_or}
use Rattle.jskw_value.specs.Number.{is_integer}
use Rattle.jskw_value.specs.Tree.{Tree, null, boolean, number, string, array, object, as_number}
use Rattle.jskw_value.specs.declared.types.JsonType.{JsonType}
use Rattle.jskw_value.specs.declared.types.JsonType.TheVariants.{Array, Boolean, Integer, Null, Number, Object, String}
use Rattle.jskw_value.specs.declared.types.JsonTypeSet.{JsonTypeSet}

-- the empty set
abbrev pub no_types : JsonTypeSet
no_types =
    record {
      arrays =
          false;
      booleans = false;
      integers = false;
      nulls = false;
      numbers = false;
      objects = false;
      strings = false;
    }

-- the set with one type more
abbrev pub insert : JsonType → JsonTypeSet → JsonTypeSet
insert Array s = record s { arrays = true }
insert Boolean s = record s { booleans = true }
insert Integer s = record s { integers = true }
insert Null s = record s { nulls = true }
insert Number s = record s { numbers = true }
insert Object s = record s { objects = true }
insert String s = record s { strings = true }

-- whether a type is in the set
abbrev pub contains : JsonTypeSet → JsonType → Bool
contains s Array = s.arrays
contains s Boolean = s.booleans
contains s Integer = s.integers
contains s Null = s.nulls
contains s Number = s.numbers
contains s Object = s.objects
contains s String = s.strings

-- the name of a type
abbrev pub type_name : JsonType → List ℕ
type_name Array = codes "array"
type_name Boolean = codes "boolean"
type_name Integer = codes "integer"
type_name Null = codes "null"
type_name Number = codes "number"
type_name Object = codes "object"
type_name String = codes "string"

-- the type of a name, if it is one of the seven
abbrev pub type_named : List ℕ → Option JsonType
type_named s = find (λ j. bytes_eq (type_name j) s) (Array ∷ Boolean ∷ Integer ∷ Null ∷ Number ∷ Object ∷ String ∷ [])

-- the type of a tree, an integer's being `number`
abbrev pub json_type : Tree → JsonType
json_type null = Null
json_type (boolean b) = Boolean
json_type (number n) = Number
json_type (string s) = String
json_type (array ts) = Array
json_type (object ms) = Object

-- a number with a zero fractional part
abbrev pub holds_integer : Tree → Bool
holds_integer t = option_map_or is_integer (as_number t) false

-- the set has the type of the tree, or `integer` where the tree is one
abbrev pub has_type_of : JsonTypeSet → Tree → Bool
has_type_of s t = contains s (json_type t) || (s.integers && holds_integer t)
