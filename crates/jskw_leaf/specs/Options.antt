-- The options of an `enum`, and tables of them.
use Rattle.std.specs.Prelude.{◌≡◌, ℕ, zero, ◌^◌, ℤ, pos, ◌*ℤ◌, List, [], ◌∷◌, Bool, true, false, ◌&&◌, ◌||◌, Option}
use Rattle.std.specs.Prelude.{is_some, option_and_then, String, string_bytes}
use Rattle.std.specs.Cmp.Lexicographic.{slice_cmp}
use Rattle.std.specs.List.{list_any}
use Rattle.std.specs.Option.{option_map_or}
use Rattle.std.specs.Ordering.{nat_cmp, int_cmp, on, then_cmp}
use Rattle.std.specs.Str.{bytes_eq}
use Rattle.std.specs.declared.alloc.Global.{Global}
use Rattle.std.specs.declared.cmp.Ordering.{Ordering}
use Rattle.serde_json.specs.Data.{Data, array, Items, no_items, item}
use Rattle.serde_json.specs.Find as json
use Rattle.serde_json.specs.Find.{as_null, as_str, as_i64}
use Rattle.jskw_value.specs.Number.{Num, exact, num_equal}
use Rattle.jskw_value.specs.PropertyName.{hash, head_of}
use Rattle.jskw_value.specs.Serde.{tree_of}
use Rattle.jskw_value.specs.Tree.{Tree, as_number, as_string, is_null}
use Rattle.jskw_value.specs.Types.{insert, json_type}
use Rattle.jskw_value.specs.declared.types.JsonTypeSet.{JsonTypeSet}
use Rattle.jskw_report.specs.Holds.{is_option}
use Rattle.jskw_report.specs.Kind.{ErrorKind, Enum, Listed}

-- the options that a value lists: it is an array
abbrev pub options_of : Data → Items
options_of (array ds) = ds
options_of _ = no_items

-- the error where an instance is none of the options that a value lists
abbrev pub not_among : Data → ErrorKind
not_among d = Enum (Listed (array (options_of d)))

-- one of the texts
abbrev pub some_text : List (List ℕ) → List ℕ → Bool
some_text names s = list_any (λ n. bytes_eq n s) names

-- the hash of a text: of its length, and its first and last eight bytes
abbrev pub hash_of : List ℕ → ℕ
hash_of s = hash (head_of s)

-- texts by their hashes, and by their bytes where two have the same hash
abbrev pub text_order : List ℕ → List ℕ → Ordering
text_order = then_cmp (on hash_of nat_cmp) (slice_cmp nat_cmp)

-- a string that is one of the texts
abbrev pub has_text : List (List ℕ) → Tree → Bool
has_text names t = option_map_or (some_text names) (as_string t) false

-- one of the integers, by its mathematical value
abbrev pub some_integer : List ℤ → Num → Bool
some_integer zs n = list_any (λ z. num_equal (exact z zero) n) zs

-- a number that is one of the integers
abbrev pub has_integer : List ℤ → Tree → Bool
has_integer zs t = option_map_or (some_integer zs) (as_number t) false

-- the options are those trees that pass the test, and null where it is listed
abbrev pub AreOptions : (Tree → Bool) → Bool → Items → Type 0
AreOptions test null ds = (t : Tree) → is_option ds t ≡ (test t || (null && is_null t))

-- what `pick` takes of the options
abbrev pub picked : {X : Type 0} → (Data → Option X) → Items → List X
picked pick no_items = []
picked pick (item d ds) = option_map_or (λ x. x ∷ picked pick ds) (pick d) (picked pick ds)

-- an integer from -2^63 to 2^63 - 1
abbrev pub integer_of : Data → Option ℤ
integer_of d = option_and_then as_i64 (json.as_number d)

abbrev pub is_text : Data → Bool
is_text d = is_some (as_str d)

abbrev pub is_integer_option : Data → Bool
is_integer_option d = is_some (integer_of d)

-- null is an option
abbrev pub has_null : Items → Bool
has_null no_items = false
has_null (item d ds) = is_some (as_null d) || has_null ds

-- each option passes the test, or it is null
abbrev pub only : (Data → Bool) → Items → Bool
only test no_items = true
only test (item d ds) = (test d || is_some (as_null d)) && only test ds

-- the set with the types of the options
abbrev pub option_types : JsonTypeSet → Items → JsonTypeSet
option_types s no_items = s
option_types s (item d ds) = option_types (insert (json_type (tree_of d)) s) ds

-- how an entry of a table of texts stands to s
abbrev pub text_against : List ℕ → String Global → Ordering
text_against s entry = slice_cmp nat_cmp (string_bytes entry) s

-- how an entry of a table of integers stands to the number c / 10^k
abbrev pub integer_against : ℤ → ℕ → ℤ → Ordering
integer_against c k entry = int_cmp (entry *ℤ pos (10 ^ k)) c
