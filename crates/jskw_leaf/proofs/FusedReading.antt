-- How the keywords are read that the fused shape has beside `items`.
use Rattle.std.proofs.Common.{◌≡◌, ◌∙◌, ℕ, [], ◌∷◌, Option, Some, None, Result, Ok, Err, Bool, true, false, ◌&&◌, ◌||◌}
use Rattle.std.proofs.Common.{refl, ap, ap₂, sym, is_none}
use Rattle.std.proofs.lemmas.Bool.{and_parts}
use Rattle.std.proofs.lemmas.Slice.Eq.{bytes_eq-Decides}
use Rattle.jskw_value.specs.declared.types.JsonType.TheVariants.{Array}
use Rattle.serde_json.specs.Data.{Data, Members, string}
use Rattle.jskw_report.specs.Keyword.{Keyword, Keywords, Size, append_keywords, assertion, by_value, keyword}
use Rattle.jskw_report.specs.Keyword.{no_keywords, size, type_is}
use Rattle.jskw_report.specs.declared.keyword.KeywordName.{KeywordName}
use Rattle.jskw_report.specs.Meaning.{as_keyword}
use Rattle.jskw_value.specs.Pointer.{Pointer}
use Rattle.jskw_report.specs.KeywordValue.{Refusal, join_ok, map_ok, size_value}
use Rattle.jskw_report.specs.Setting.{Setting, name_of, is_active}
use Rattle.jskw_report.specs.declared.error.TypeKind.TheVariants.{Single}
use Rattle.jskw_report.specs.Read.{asserted, before, integers_of, keyword_location, readings, readings_named}
use Rattle.jskw_report.specs.Read.{read_keyword, read_keywords, keyword_by, size_rule, type_rule}
use Rattle.serde_json.specs.Find.{get_member}
use Rattle.jskw_report.specs.Sibling.{has_keyword, is_absent, is_fused, is_items_schema, is_size, is_string}
use Rattle.jskw_report.specs.Sibling.{member_passes, takes_size, unfused_names}
use Rattle.std.specs.List.{list_all}
use Rattle.std.specs.Option.{option_map_or}
use Rattle.jskw_leaf.specs.Items.{optional}
use Rattle.jskw_leaf.specs.Meaning.{type_at}
use Rattle.jskw_value.specs.Types.{type_name}
use Rattle.jskw_number.specs.Meaning.{sized}
use Rattle.jskw_number.specs.Size.{size_of, size_keyword_name}
use Rattle.jskw_number.specs.declared.sizes.SizeLimit.{SizeLimit}
use Rattle.jskw_report.proofs.AppendedKeywords.{read_appended}
use Rattle.jskw_report.proofs.SchemaMembers.{read_absent, read_standing}
use Rattle.jskw_report.specs.declared.keyword.KeywordName.TheVariants as keyword_name
use Rattle.jskw_report.specs.declared.settings.Draft.{Draft}
use Rattle.jskw_report.specs.declared.settings.Draft.TheVariants.{Draft4}

-- ---- what holds of a fused schema

module _ (s : Setting) (ms : Members) where
  abbrev type_passes : Bool
  type_passes = has_keyword s ms keyword_name.TypeKeyword (is_string (type_name Array))

  abbrev items_passes : Bool
  items_passes = has_keyword s ms keyword_name.Items is_items_schema

  abbrev others_lack : Bool
  others_lack = list_all (λ name. is_absent name ms) unfused_names

  abbrev min_passes : Bool
  min_passes = takes_size s ms keyword_name.MinItems

  abbrev max_passes : Bool
  max_passes = takes_size s ms keyword_name.MaxItems

  parts : is_fused s ms ≡ (type_passes && items_passes && min_passes && max_passes && others_lack)
  unfolding is_fused
  parts = refl

  module _ (h : is_fused s ms ≡ true) where
    keywords_pass : (type_passes && items_passes && min_passes && max_passes) ≡ true
    keywords_pass = (and_parts (type_passes && items_passes && min_passes && max_passes) others_lack (sym parts ∙ h)).0

    pub fused_max : max_passes ≡ true
    fused_max = (and_parts (type_passes && items_passes && min_passes) max_passes keywords_pass).1

    first_pass : (type_passes && items_passes && min_passes) ≡ true
    first_pass = (and_parts (type_passes && items_passes && min_passes) max_passes keywords_pass).0

    pub fused_min : min_passes ≡ true
    fused_min = (and_parts (type_passes && items_passes) min_passes first_pass).1

    pub fused_type : type_passes ≡ true
    fused_type =
        (and_parts type_passes items_passes (and_parts (type_passes && items_passes) min_passes first_pass).0).0

    pub fused_items : items_passes ≡ true
    fused_items =
        (and_parts type_passes items_passes (and_parts (type_passes && items_passes) min_passes first_pass).0).1

-- ---- a keyword that is there

-- the value of a keyword that has one passes the test, and the keyword is active
pub passed : (s : Setting) (ms : Members) (w : KeywordName) (test : Data → Bool) (d : Data)
    → has_keyword s ms w test ≡ true → get_member (name_of w) ms ≡ Some d
    → (test d ≡ true) × (is_active s w ≡ true)
passed s ms w test d h at =
    let both = and_parts (member_passes test (name_of w) ms) (is_active s w) h in
    (sym (ap (λ o. option_map_or test o false) at) ∙ both.0, both.1)

-- it has one
pub is_there : (s : Setting) (ms : Members) (w : KeywordName) (test : Data → Bool) → has_keyword s ms w test ≡ true
    → get_member (name_of w) ms ≡ None → ⊥
is_there s ms w test h at =
    let both = and_parts (member_passes test (name_of w) ms) (is_active s w) h in
    let lost : false ≡ true = sym (ap (λ o. option_map_or test o false) at) ∙ both.0 in
    cc

-- a bound that is there is active
pub size_stands : (s : Setting) (ms : Members) (w : KeywordName) (d : Data) → takes_size s ms w ≡ true
    → get_member (name_of w) ms ≡ Some d → is_active s w ≡ true
size_stands s ms w d h at =
    let present : is_absent (name_of w) ms ≡ false = ap is_none at in
    let there : has_keyword s ms w is_size ≡ true = sym (ap (λ b. b || has_keyword s ms w is_size) present) ∙ h in
    (passed s ms w is_size d there at).1

-- ---- `type`

rule_of_array : (draft : Draft) → integers_of draft (Single Array) ≡ by_value
rule_of_array Draft4 = refl
rule_of_array _ = refl

pub type_read : (s : Setting) (p : Pointer) (ms : Members)
    → has_keyword s ms keyword_name.TypeKeyword (is_string (type_name Array)) ≡ true
    → read_keyword keyword_name.TypeKeyword s p ms (readings_named (name_of keyword_name.TypeKeyword) ms)
    ≡ Some (Ok (as_keyword (type_at Array by_value (keyword_location p keyword_name.TypeKeyword))))
unfolding asserted
type_read s p ms h = go (get_member (name_of keyword_name.TypeKeyword) ms) refl
  where
    of : (d : Data) → is_string (type_name Array) d ≡ true
        → ◌≡◌ {A = Option (Result Keyword Refusal)}
        (Some (keyword_by (type_rule (integers_of s.draft)) (keyword_location p keyword_name.TypeKeyword) d))
        (Some (Ok (as_keyword (type_at Array by_value (keyword_location p keyword_name.TypeKeyword)))))
    of (string r) e =
        ap (λ x. Some (keyword_by (type_rule (integers_of s.draft)) (keyword_location p keyword_name.TypeKeyword)
        (string x)))
        (sym ((bytes_eq-Decides (type_name Array) r).0 e))
        ∙ ap (λ rule. Some (Ok (assertion (keyword_location p keyword_name.TypeKeyword) (type_is (Single Array) rule))))
        (rule_of_array s.draft)
    of _ e = cc

    go : (o : Option Data) → get_member (name_of keyword_name.TypeKeyword) ms ≡ o
        → read_keyword keyword_name.TypeKeyword s p ms (readings_named (name_of keyword_name.TypeKeyword) ms)
        ≡ Some (Ok (as_keyword (type_at Array by_value (keyword_location p keyword_name.TypeKeyword))))
    go None at = absurd (is_there s ms keyword_name.TypeKeyword (is_string (type_name Array)) h at)
    go (Some d) at =
        let both = passed s ms keyword_name.TypeKeyword (is_string (type_name Array)) d h at in
        read_standing keyword_name.TypeKeyword s p ms d at both.1 ∙ of d both.0

-- ---- a bound: `minItems` where it is the least, else `maxItems`

bound_read : (least : Bool) (s : Setting) (p : Pointer) (ms : Members) (d : Data)
    → asserted (size_keyword_name (size_of true least)) s p ms (readings d)
    ≡ Some (keyword_by (size_rule (size_of true least)) (keyword_location p (size_keyword_name (size_of true least))) d)
unfolding asserted
bound_read true s p ms d = refl
bound_read false s p ms d = refl

module _ (least : Bool) (s : Setting) (p : Pointer) (ms : Members) where
  abbrev which : Size
  which = size_of true least

  abbrev w : KeywordName
  w = size_keyword_name which

  abbrev alone : Result Keywords Refusal
  alone = read_keywords (w ∷ []) s p ms (λ name. readings_named name ms)

  pub size_absent : get_member (name_of w) ms ≡ None → alone ≡ Ok no_keywords
  size_absent at = ap (λ a. before (keyword_location p w) a (Ok no_keywords)) (read_absent w s p ms at)

  size_there : (d : Data) → takes_size s ms w ≡ true → get_member (name_of w) ms ≡ Some d
      → alone ≡ map_ok (λ k. keyword (keyword_location p w) k no_keywords)
      (keyword_by (size_rule which) (keyword_location p w) d)
  size_there d h at =
      ap (λ a. before (keyword_location p w) a (Ok no_keywords))
      (read_standing w s p ms d at (size_stands s ms w d h at) ∙ bound_read least s p ms d)
      ∙ go (keyword_by (size_rule which) (keyword_location p w) d)
    where
      go : (r : Result Keyword Refusal) → before (keyword_location p w) (Some r) (Ok no_keywords)
          ≡ map_ok (λ k. keyword (keyword_location p w) k no_keywords) r
      go (Ok k) = refl
      go (Err e) = refl

  -- the validator that was made stands where the keyword does
  size_made : {A L : ℕ} (d : Data) (v : SizeLimit A L)
      → keyword_by (size_rule which) (keyword_location p w) d ≡ Ok (as_keyword (sized which v))
      → map_ok (λ k. keyword (keyword_location p w) k no_keywords)
      (keyword_by (size_rule which) (keyword_location p w) d)
      ≡ Ok (optional (sized which) (Some v))
  size_made d v e =
      ap (map_ok (λ k. keyword (keyword_location p w) k no_keywords)) e ∙ ap
      (λ q. Ok (keyword q (as_keyword (sized which v)) no_keywords)) (place (size_value (keyword_location p w) d) e)
    where
      place : (r : Result _ Refusal)
          → map_ok (assertion (keyword_location p w)) (map_ok (size which) r) ≡ Ok (as_keyword (sized which v))
          → keyword_location p w ≡ v.location
      place (Ok n) f = ap location_of f
        where
          location_of : Result Keyword Refusal → Pointer
          location_of (Ok (assertion q a)) = q
          location_of _ = []
      place (Err e) f = cc

  pub size_reads : {A L : ℕ} (d : Data) (v : SizeLimit A L) → takes_size s ms w ≡ true
      → get_member (name_of w) ms ≡ Some d
      → keyword_by (size_rule which) (keyword_location p w) d ≡ Ok (as_keyword (sized which v))
      → alone ≡ Ok (optional (sized which) (Some v))
  size_reads d v h at e = size_there d h at ∙ size_made d v e

-- ---- all of them

-- `type`, and the two bounds behind it
pub absorbed_read : (s : Setting) (p : Pointer) (ms : Members)
    → has_keyword s ms keyword_name.TypeKeyword (is_string (type_name Array)) ≡ true
    → read_keywords (keyword_name.TypeKeyword ∷ keyword_name.MinItems ∷ keyword_name.MaxItems ∷ []) s p ms
    (λ name. readings_named name ms)
    ≡ map_ok (keyword (keyword_location p keyword_name.TypeKeyword)
    (as_keyword (type_at Array by_value (keyword_location p keyword_name.TypeKeyword))))
    (join_ok append_keywords (read_keywords (keyword_name.MinItems ∷ []) s p ms (λ name. readings_named name ms))
    (read_keywords (keyword_name.MaxItems ∷ []) s p ms (λ name. readings_named name ms)))
absorbed_read s p ms h =
    let bounds =
    read_keywords (keyword_name.MinItems ∷ keyword_name.MaxItems ∷ []) s p ms (λ name. readings_named name ms) in
    ap (λ a. before (keyword_location p keyword_name.TypeKeyword) a bounds) (type_read s p ms h)
    ∙ ap (map_ok (keyword (keyword_location p keyword_name.TypeKeyword)
    (as_keyword (type_at Array by_value (keyword_location p keyword_name.TypeKeyword)))))
    (read_appended (keyword_name.MinItems ∷ []) (keyword_name.MaxItems ∷ []) s p ms
    (λ name. readings_named name ms))

-- where a bound is refused all of them are
pub absorbed_refused : (s : Setting) (p : Pointer) (ms : Members)
    → has_keyword s ms keyword_name.TypeKeyword (is_string (type_name Array)) ≡ true → (e : Refusal)
    → (read_keywords (keyword_name.MinItems ∷ []) s p ms (λ name. readings_named name ms) ≡ Err e)
    → read_keywords (keyword_name.TypeKeyword ∷ keyword_name.MinItems ∷ keyword_name.MaxItems ∷ []) s p ms
    (λ name. readings_named name ms) ≡ Err e
absorbed_refused s p ms h e min =
    absorbed_read s p ms h
    ∙ ap (λ r. map_ok (keyword (keyword_location p keyword_name.TypeKeyword)
    (as_keyword (type_at Array by_value (keyword_location p keyword_name.TypeKeyword))))
    (join_ok append_keywords r
    (read_keywords (keyword_name.MaxItems ∷ []) s p ms (λ name. readings_named name ms)))) min

-- or the one behind it
pub absorbed_refused_next : (s : Setting) (p : Pointer) (ms : Members)
    → has_keyword s ms keyword_name.TypeKeyword (is_string (type_name Array)) ≡ true → (ks : Keywords) → (e : Refusal)
    → read_keywords (keyword_name.MinItems ∷ []) s p ms (λ name. readings_named name ms) ≡ Ok ks
    → read_keywords (keyword_name.MaxItems ∷ []) s p ms (λ name. readings_named name ms) ≡ Err e
    → read_keywords (keyword_name.TypeKeyword ∷ keyword_name.MinItems ∷ keyword_name.MaxItems ∷ []) s p ms
    (λ name. readings_named name ms) ≡ Err e
absorbed_refused_next s p ms h ks e min max =
    absorbed_read s p ms h
    ∙ ap₂ (λ r t. map_ok (keyword (keyword_location p keyword_name.TypeKeyword)
    (as_keyword (type_at Array by_value (keyword_location p keyword_name.TypeKeyword))))
    (join_ok append_keywords r t)) min max

pub absorbed_made : (s : Setting) (p : Pointer) (ms : Members)
    → has_keyword s ms keyword_name.TypeKeyword (is_string (type_name Array)) ≡ true → (js ks : Keywords)
    → read_keywords (keyword_name.MinItems ∷ []) s p ms (λ name. readings_named name ms) ≡ Ok js
    → read_keywords (keyword_name.MaxItems ∷ []) s p ms (λ name. readings_named name ms) ≡ Ok ks
    → read_keywords (keyword_name.TypeKeyword ∷ keyword_name.MinItems ∷ keyword_name.MaxItems ∷ []) s p ms
    (λ name. readings_named name ms)
    ≡ Ok (keyword (keyword_location p keyword_name.TypeKeyword)
    (as_keyword (type_at Array by_value (keyword_location p keyword_name.TypeKeyword))) (append_keywords js ks))
absorbed_made s p ms h js ks min max =
    absorbed_read s p ms h
    ∙ ap₂ (λ r t. map_ok (keyword (keyword_location p keyword_name.TypeKeyword)
    (as_keyword (type_at Array by_value (keyword_location p keyword_name.TypeKeyword))))
    (join_ok append_keywords r t)) min max
