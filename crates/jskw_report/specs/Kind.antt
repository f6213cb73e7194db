-- What an error reports: its kind, with what the keyword asked for.
use Rattle.std.specs.Prelude.{ℕ, ℤ, List, codes}
use Rattle.serde_json.specs.Data.{Data}
use Rattle.serde_json.specs.View.{view}
pub use Rattle.jskw_report.specs.declared.error.TypeKind.{TypeKind}
pub use Rattle.jskw_report.specs.declared.error.TypeKind.TheVariants.{Single, Multiple}
use Rattle.jskw_value.specs.Types.{no_types, insert}
use Rattle.jskw_value.specs.declared.types.JsonTypeSet.{JsonTypeSet}
use Rattle.jskw_report.specs.Setting.{name_of}
use Rattle.jskw_report.specs.declared.keyword.KeywordName.TheVariants as keyword_name
use Rattle.jskw_report.specs.declared.error.EnumOptions as declared_options
use Rattle.jskw_report.specs.declared.error.EnumOptions.TheVariants as options
use Rattle.jskw_report.specs.declared.error.Payload as declared_payload
use Rattle.jskw_report.specs.declared.error.Payload.TheVariants as payload
use Rattle.jskw_report.specs.declared.error.ValidationErrorKind.{ValidationErrorKind}
use Rattle.jskw_report.specs.declared.error.ValidationErrorKind.TheVariants as code

-- the types that an instance is to be one of
abbrev pub types_of : TypeKind → JsonTypeSet
types_of (Single j) = insert j no_types
types_of (Multiple s) = s

-- the array of `enum`, or the names of the seven types
pub data EnumOptions : Type 0 where
  Listed : Data → EnumOptions
  TypeNames : EnumOptions

-- one kind for each keyword that fails of its own, one for the schema `false`, and `CompileError` for a value that a
-- schema may not have and that no keyword tells: a float, or the name of no type where it is the only one
pub data ErrorKind : Type 0 where
  AdditionalItems : ℕ → ErrorKind
  CompileError : List ℕ → ErrorKind
  Constant : Data → ErrorKind
  Contains : ErrorKind
  Enum : EnumOptions → ErrorKind
  ExclusiveMaximum : ℤ → ErrorKind
  ExclusiveMinimum : ℤ → ErrorKind
  FalseSchema : ErrorKind
  MaxItems : ℕ → ErrorKind
  Maximum : ℤ → ErrorKind
  MaxProperties : ℕ → ErrorKind
  MinItems : ℕ → ErrorKind
  Minimum : ℤ → ErrorKind
  MinProperties : ℕ → ErrorKind
  MultipleOf : ℕ → ErrorKind
  Required : List ℕ → ErrorKind
  WrongType : TypeKind → ErrorKind
  UniqueItems : ErrorKind

-- what a keyword asked for
pub data Payload : Type 0 where
  Nothing : Payload
  Message : List ℕ → Payload
  Count : ℕ → Payload
  Limit : ℤ → Payload
  Value : Data → Payload
  Options : EnumOptions → Payload
  Name : List ℕ → Payload
  Types : TypeKind → Payload

-- what an error of the kind tells: its keyword, and what that asked for
abbrev pub told : ErrorKind → List ℕ × Payload
told (AdditionalItems n) = (name_of keyword_name.AdditionalItems, Count n)
told (CompileError m) = (codes "compileError", Message m)
told (Constant d) = (name_of keyword_name.Const, Value d)
told Contains = (name_of keyword_name.Contains, Nothing)
told (Enum o) = (name_of keyword_name.Enum, Options o)
told (ExclusiveMaximum z) = (name_of keyword_name.ExclusiveMaximum, Limit z)
told (ExclusiveMinimum z) = (name_of keyword_name.ExclusiveMinimum, Limit z)
told FalseSchema = (codes "falseSchema", Nothing)
told (MaxItems n) = (name_of keyword_name.MaxItems, Count n)
told (Maximum z) = (name_of keyword_name.Maximum, Limit z)
told (MaxProperties n) = (name_of keyword_name.MaxProperties, Count n)
told (MinItems n) = (name_of keyword_name.MinItems, Count n)
told (Minimum z) = (name_of keyword_name.Minimum, Limit z)
told (MinProperties n) = (name_of keyword_name.MinProperties, Count n)
told (MultipleOf n) = (name_of keyword_name.MultipleOf, Count n)
told (Required name) = (name_of keyword_name.Required, Name name)
told (WrongType k) = (name_of keyword_name.TypeKeyword, Types k)
told UniqueItems = (name_of keyword_name.UniqueItems, Nothing)

-- the keyword of an error of the kind
abbrev pub keyword_of : ErrorKind → List ℕ
keyword_of k = (told k).0

-- what the keyword asked for
abbrev pub payload_of : ErrorKind → Payload
payload_of k = (told k).1

-- ---- of the code

-- the options that an error names
abbrev pub enum_options_of : declared_options.EnumOptions → EnumOptions
enum_options_of (options.Listed v) = Listed (view v.now)
enum_options_of options.TypeNames = TypeNames

-- the kind of an error, with what the keyword asked for
abbrev pub kind_of : ValidationErrorKind → ErrorKind
kind_of (code.AdditionalItems n) = AdditionalItems n
kind_of (code.CompileError m) = CompileError m.now
kind_of (code.Constant v) = Constant (view v.now)
kind_of code.Contains = Contains
kind_of (code.Enum o) = Enum (enum_options_of o)
kind_of (code.ExclusiveMaximum n) = ExclusiveMaximum n
kind_of (code.ExclusiveMinimum n) = ExclusiveMinimum n
kind_of code.FalseSchema = FalseSchema
kind_of (code.MaxItems n) = MaxItems n
kind_of (code.Maximum n) = Maximum n
kind_of (code.MaxProperties n) = MaxProperties n
kind_of (code.MinItems n) = MinItems n
kind_of (code.Minimum n) = Minimum n
kind_of (code.MinProperties n) = MinProperties n
kind_of (code.MultipleOf n) = MultipleOf n
kind_of (code.Required name) = Required name.now
kind_of (code.WrongType k) = WrongType k
kind_of code.UniqueItems = UniqueItems

-- what a keyword asked for
abbrev pub payload_view : declared_payload.Payload → Payload
payload_view payload.Nothing = Nothing
payload_view (payload.Message m) = Message m.now
payload_view (payload.Count n) = Count n
payload_view (payload.Limit z) = Limit z
payload_view (payload.Value v) = Value (view v.now)
payload_view (payload.Options o) = Options (enum_options_of o)
payload_view (payload.Name name) = Name name.now
payload_view (payload.Types k) = Types k
