-- What a keyword expected, as JSON without spaces.
use Rattle.std.specs.Prelude.{◌≡◌, ℕ, List, [], ◌∷◌, ◌++◌, false, codes, decimal, filter, if◌then◌else◌, leb, length}
use Rattle.std.specs.Prelude.{map}
use Rattle.std.specs.Fmt.{signed_decimal}
use Rattle.json.specs.Print.{quoted}
use Rattle.serde_json.specs.Data.{Data}
use Rattle.serde_json.specs.Written.{compact_text, has_float}
use Rattle.jskw_value.specs.Types.{contains, type_name}
use Rattle.jskw_value.specs.declared.types.JsonType.{JsonType}
use Rattle.jskw_value.specs.declared.types.JsonType.TheVariants.{Array, Boolean, Integer, Null, Number, Object, String}
use Rattle.jskw_report.specs.Kind.{ErrorKind, EnumOptions, Payload, payload_of}
use Rattle.jskw_report.specs.Kind as kind
use Rattle.jskw_report.specs.declared.error.TypeKind.{TypeKind}
use Rattle.jskw_report.specs.declared.error.TypeKind.TheVariants.{Single, Multiple}
use Rattle.jskw_c.specs.Evaluated.{strings_text}

-- the types, in alphabetical order
abbrev pub all_types : List JsonType
all_types = Array ∷ Boolean ∷ Integer ∷ Null ∷ Number ∷ Object ∷ String ∷ []

-- an array of the names of types
abbrev pub names_text : List JsonType → List ℕ
names_text types = codes "[" ++ (strings_text false (map type_name types) ++ codes "]")

-- the name of the one type, or an array of the names of several
abbrev pub types_text : TypeKind → List ℕ
types_text (Single j) = quoted (type_name j)
types_text (Multiple s) = names_text (filter (contains s) all_types)

-- a text of at most 1,024 bytes, or nothing in place of a longer one
abbrev pub if_short : List ℕ → List ℕ
if_short text = if leb (length text) 1024 then text else []

-- a value of the schema, if its text is short: who asks has the schema. One with a float has no text here; the schemas
-- that compile expect none
abbrev pub IsCompact : Data → List ℕ → Type 0
IsCompact d text = has_float d ≡ false → text ≡ if_short (compact_text d)

-- the options of `enum`, or the names that `type` takes
abbrev pub IsOptionsText : EnumOptions → List ℕ → Type 0
IsOptionsText (kind.Listed d) text = IsCompact d text
IsOptionsText kind.TypeNames text = text ≡ names_text all_types

-- the limit, divisor, constant, options or name, or the type or types; nothing where there is none of these
abbrev pub IsPayloadText : Payload → List ℕ → Type 0
IsPayloadText kind.Nothing text = text ≡ []
IsPayloadText (kind.Message m) text = text ≡ []
IsPayloadText (kind.Count n) text = text ≡ decimal n
IsPayloadText (kind.Limit z) text = text ≡ signed_decimal z
IsPayloadText (kind.Value d) text = IsCompact d text
IsPayloadText (kind.Options o) text = IsOptionsText o text
IsPayloadText (kind.Name name) text = text ≡ quoted name
IsPayloadText (kind.Types k) text = text ≡ types_text k

-- what the keyword of an error of the kind expected
abbrev pub IsExpected : ErrorKind → List ℕ → Type 0
IsExpected k text = IsPayloadText (payload_of k) text
