-- What the schemas of one level ask for.
use Rattle.std.specs.Prelude.{◌≡◌, ⊤, List, [], ◌∷◌, ℕ, Bool, true, false, map, Option, Some, None, codes, bytes_eq}
use Rattle.std.specs.Prelude.{if◌then◌else◌}
use Rattle.std.specs.Borrow.{Bor}
use Rattle.serde_json.specs.Data.{Data, string, array, object, Items, no_items, item, Members}
use Rattle.serde_json.specs.Find.{get_member}
use Rattle.serde_json.specs.View.{view}
use Rattle.serde_json.specs.declared.value.Value.{Value}
use Rattle.jskw_text.specs.Wanted.{wants_name}
use Rattle.jskw_text.specs.declared.wanted.Level.{Level}
use Rattle.jskw_text.specs.declared.wanted.Names.{Names}
use Rattle.jskw_text.specs.declared.wanted.Names.TheVariants.{All, Those}
use Rattle.jskw_report.specs.Setting.{name_of}
use Rattle.jskw_report.specs.declared.keyword.KeywordName.{KeywordName}
use Rattle.jskw_report.specs.declared.keyword.KeywordName.TheVariants as keyword_name
use Rattle.jskw_wanted.specs.Enough.{IsEnough}
use Rattle.jskw_wanted.specs.declared.asked.Asked.{Asked}

-- ---- levels below

-- the values that references point to
abbrev pub schemas_seen : List (Bor Value) → List Data
schemas_seen vs = map (λ v. view v.now) vs

-- the levels are enough for each of the schemas
abbrev pub AreEnough : List Data → List Level → Type 0
AreEnough [] ls = ⊤
AreEnough (d ∷ ds) ls = IsEnough d ls × AreEnough ds ls

-- for each item of an array
abbrev pub EachEnough : Items → List Level → Type 0
EachEnough no_items ls = ⊤
EachEnough (item d ds) ls = IsEnough d ls × EachEnough ds ls

-- for a schema, and for each of an array
abbrev pub ValueEnough : Data → List Level → Type 0
ValueEnough (array ds) ls = IsEnough (array ds) ls × EachEnough ds ls
ValueEnough d ls = IsEnough d ls × ⊤

-- ---- what was asked for

-- these are all names
abbrev pub are_all : Names → Bool
are_all All = true
are_all (Those names) = false

-- what a comparison with the value looks at is asked for
abbrev pub AsksOption : Asked → Data → Type 0
AsksOption a (string s) = a.has_text ≡ true
AsksOption a (array ds) = a.are_items_whole ≡ true
AsksOption a (object ms) = a.is_whole ≡ true
AsksOption a d = ⊤

abbrev pub AsksOptions : Asked → Items → Type 0
AsksOptions a no_items = ⊤
AsksOptions a (item d ds) = AsksOption a d × AsksOptions a ds

-- the strings of an array are among the names
abbrev pub AsksNames : Names → Items → Type 0
AsksNames names no_items = ⊤
AsksNames names (item (string s) ds) = (wants_name names s ≡ true) × AsksNames names ds
AsksNames names (item d ds) = AsksNames names ds

-- the schemas of a keyword are among those below
abbrev pub AsksSchemas : Asked → Data → Type 0
AsksSchemas a d = (ls : List Level) → AreEnough (schemas_seen a.below.items) ls → ValueEnough d ls

-- the schemas of a list are, or one is
abbrev pub AsksEach : Asked → Items → Type 0
AsksEach a ds = (ls : List Level) → AreEnough (schemas_seen a.below.items) ls → EachEnough ds ls

abbrev pub AsksOne : Asked → Data → Type 0
AsksOne a d = (ls : List Level) → AreEnough (schemas_seen a.below.items) ls → IsEnough d ls

-- what a keyword of this value looks at is asked for
abbrev pub AsksKeyword : Asked → KeywordName → Data → Type 0
AsksKeyword a keyword_name.MinProperties d = are_all a.names ≡ true
AsksKeyword a keyword_name.MaxProperties d = are_all a.names ≡ true
AsksKeyword a keyword_name.Required (array ds) = AsksNames a.names ds
AsksKeyword a keyword_name.Const d = AsksOption a d
AsksKeyword a keyword_name.Enum (array ds) = AsksOptions a ds
AsksKeyword a keyword_name.UniqueItems d = a.are_items_whole ≡ true
AsksKeyword a keyword_name.Items d = AsksSchemas a d
AsksKeyword a keyword_name.PrefixItems d = AsksSchemas a d
AsksKeyword a keyword_name.AdditionalItems d = AsksSchemas a d
AsksKeyword a keyword_name.Contains d = AsksSchemas a d
AsksKeyword a w d = ⊤

-- the keyword of a name, if it looks at more of a value than its outline
abbrev pub asking_keyword : List ℕ → Option KeywordName
asking_keyword s =
    if bytes_eq s (codes "items") then Some keyword_name.Items
    else (if bytes_eq s (codes "prefixItems") then Some keyword_name.PrefixItems
    else (if bytes_eq s (codes "additionalItems") then Some keyword_name.AdditionalItems
    else (if bytes_eq s (codes "contains") then Some keyword_name.Contains
    else (if bytes_eq s (codes "uniqueItems") then Some keyword_name.UniqueItems
    else (if bytes_eq s (codes "const") then Some keyword_name.Const
    else (if bytes_eq s (codes "enum") then Some keyword_name.Enum
    else (if bytes_eq s (codes "minProperties") then Some keyword_name.MinProperties
    else (if bytes_eq s (codes "maxProperties") then Some keyword_name.MaxProperties
    else (if bytes_eq s (codes "required") then Some keyword_name.Required
    else None)))))))))

-- what the keyword of this name looks at is
abbrev pub AsksNamed : Asked → List ℕ → Data → Type 0
AsksNamed a k d = (w : KeywordName) → name_of w ≡ k → AsksKeyword a w d

-- of a keyword of an object, if it is there
abbrev pub AsksMember : Asked → Members → KeywordName → Type 0
AsksMember a ms w = (d : Data) → get_member (name_of w) ms ≡ Some d → AsksKeyword a w d

abbrev pub AsksMembers : Asked → Members → Type 0
AsksMembers a ms = (w : KeywordName) → AsksMember a ms w

-- of a schema
abbrev pub Asks : Asked → Data → Type 0
Asks a (object ms) = AsksMembers a ms
Asks a d = ⊤

-- of each of these
abbrev pub AsksAll : Asked → List Data → Type 0
AsksAll a [] = ⊤
AsksAll a (d ∷ ds) = Asks a d × AsksAll a ds

-- ---- more that is asked for

abbrev pub GrowNames : Names → Names → Type 0
GrowNames old new =
    (are_all old ≡ true → are_all new ≡ true)
    × ((k : List ℕ) → wants_name old k ≡ true → wants_name new k ≡ true)

-- nothing is asked for no more
pub record Grows (old new : Asked) : Type 0 where
  pub whole : old.is_whole ≡ true → new.is_whole ≡ true
  pub text : old.has_text ≡ true → new.has_text ≡ true
  pub names : GrowNames old.names new.names
  pub items_whole : old.are_items_whole ≡ true → new.are_items_whole ≡ true
  pub below : (ls : List Level) → AreEnough (schemas_seen new.below.items) ls
      → AreEnough (schemas_seen old.below.items) ls
