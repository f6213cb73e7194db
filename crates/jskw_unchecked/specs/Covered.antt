-- What it means that a plain schema covers a schema whole, and that it does where nothing is unchecked.
use Rattle.std.specs.Prelude.{◌≡◌, ⊤, ◌⊎◌, ℕ, suc, List, [], Bool, false, ◌||◌, bytes_eq, IsTrue, Option, Some, None}
use Rattle.std.specs.Prelude.{Ok, if◌then◌else◌}
use Rattle.serde_json.specs.Data.{Data, array, object, Items, no_items, item, Members}
use Rattle.serde_json.specs.Find.{get_member}
use Rattle.jskw_value.specs.Pointer.{Pointer, member_location}
use Rattle.jskw_report.specs.Found.{keyword_named}
use Rattle.jskw_report.specs.Keyword.{Schema, false_schema, schema_object, Keywords, no_keywords, keyword, Keyword}
use Rattle.jskw_report.specs.Keyword.{assertion, contains, each_of, rest_of, Schemas, no_schemas, schema}
use Rattle.jskw_report.specs.Read.{read}
use Rattle.jskw_report.specs.Setting.{Setting, name_of}
use Rattle.jskw_report.specs.declared.keyword.KeywordName.{KeywordName}
use Rattle.jskw_report.specs.declared.keyword.KeywordName.TheVariants as keyword_name
use Rattle.jskw_unchecked.specs.Names.{is_annotation}
use Rattle.jskw_unchecked.specs.Reason.{asks_for_nothing}
use Rattle.jskw_unchecked.specs.Unchecked.{unchecked}

-- the keyword fails at the member at m: the member bounds it, or is a part of it
abbrev pub fails_at : Pointer → Keyword → Bool
fails_at m (assertion f a) = bytes_eq m f
fails_at m (contains sub b) = bytes_eq m b.few || bytes_eq m b.many
fails_at m _ = false

-- the keyword with the keyword location q asserts the member at m: it is that member, or fails there
abbrev pub asserts_member : Pointer → Pointer → Keyword → Bool
asserts_member m q k = bytes_eq m q || fails_at m k

-- how many of the keywords assert the member at m
abbrev pub count_at : Pointer → Keywords → ℕ
count_at m no_keywords = 0
count_at m (keyword q k ks) = if asserts_member m q k then suc (count_at m ks) else count_at m ks

-- the keyword, if it is one of this library, accepts everything with this value, by the standard
abbrev pub accepts_everything : Option KeywordName → Setting → Members → Data → Bool
accepts_everything (Some w) s ms d = asks_for_nothing w s ms d
accepts_everything None s ms d = false

-- the member of this name and value, of an object at p with the members ms and the plain keywords ks, is an annotation
-- of the draft, or accepts everything, or is asserted by exactly one of the keywords
abbrev pub IsCovered : Setting → Pointer → Members → Keywords → List ℕ → Data → Type 0
IsCovered s p ms ks name d =
    IsTrue (is_annotation s.draft name) ⊎ IsTrue (accepts_everything (keyword_named name) s ms d)
    ⊎ (count_at (member_location p name) ks ≡ 1)

-- so are all members of the object
abbrev pub AreCovered : Setting → Pointer → Members → Keywords → Type 0
AreCovered s p ms ks = (name : List ℕ) (d : Data) → get_member name ms ≡ Some d → IsCovered s p ms ks name d

-- the keyword that has a list of schemas: `prefixItems`, or `items`
abbrev pub list_name : Bool → KeywordName
list_name prefix = if prefix then keyword_name.PrefixItems else keyword_name.Items

-- the keyword that has a schema for the rest of the items: `additionalItems`, or `items`
abbrev pub rest_name : Bool → KeywordName
rest_name additional = if additional then keyword_name.AdditionalItems else keyword_name.Items

abbrev mutual
  -- the plain schema covers the schema: all members of an object are covered, and those of each subschema that its
  -- keywords apply. A boolean has no members
  pub Covers : Schema → Setting → Data → Type 0
  Covers (schema_object p marks ks) s (object ms) = AreCovered s p ms ks × AllCover ks s ms
  Covers (false_schema q) s (object ms) = ⊥
  Covers _ s d = ⊤

  -- the subschemas of the keywords cover those of the members of an object
  pub AllCover : Keywords → Setting → Members → Type 0
  AllCover no_keywords s ms = ⊤
  AllCover (keyword q k ks) s ms = KeywordCovers k s ms × AllCover ks s ms

  -- those of one keyword cover what stands in its value
  pub KeywordCovers : Keyword → Setting → Members → Type 0
  KeywordCovers (assertion f a) s ms = ⊤
  KeywordCovers (contains sub b) s ms =
      (d : Data) × (get_member (name_of keyword_name.Contains) ms ≡ Some d) × Covers sub s d
  KeywordCovers (each_of prefix subs) s ms =
      (ds : Items) × (get_member (name_of (list_name prefix)) ms ≡ Some (array ds)) × CoverEach subs s ds
  KeywordCovers (rest_of additional n sub bare) s ms =
      (d : Data) × (get_member (name_of (rest_name additional)) ms ≡ Some d) × Covers sub s d

  -- each covers the item at its index
  pub CoverEach : Schemas → Setting → Items → Type 0
  CoverEach no_schemas s no_items = ⊤
  CoverEach (schema sub subs) s (item d ds) = Covers sub s d × CoverEach subs s ds
  CoverEach _ s _ = ⊥

-- where no member is unchecked, the plain schema that is read covers the schema whole
abbrev pub EmptyListCovers : Type 0
EmptyListCovers =
    (s : Setting) (d : Data) (p : Pointer) (sch : Schema) → unchecked d s p ≡ [] → read d s p ≡ Ok sch → Covers sch s d
