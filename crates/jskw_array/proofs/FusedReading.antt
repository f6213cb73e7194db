-- How the keywords of the fused shape are read.
use Rattle.std.proofs.Common.{◌≡◌, ◌∙◌, List, [], ◌∷◌, ◌++◌, Some, Result, Ok, Err, true, refl, ap}
use Rattle.jskw_array.specs.Words.{CompilePoint, Data, Keyword, KeywordName, Keywords, Members, Pointer, Refusal}
use Rattle.jskw_array.specs.Words.{Setting, append_keywords, before, fused_keywords, get_member, is_bare, is_fused}
use Rattle.jskw_array.specs.Words.{is_items_schema, items_from, items_start, join_ok, keyword, keyword_location, map_ok}
use Rattle.jskw_array.specs.Words.{name_of, no_keywords, readings_named, read, read_keywords, keyword_reading}
use Rattle.jskw_array.specs.Words.{is_active}
use Rattle.jskw_report.proofs.AppendedKeywords.{read_appended}
use Rattle.jskw_report.proofs.SchemaMembers.{read_standing}
use Rattle.jskw_report.specs.declared.keyword.KeywordName.TheVariants as keyword_name
use Rattle.jskw_leaf.proofs.FusedReading.{fused_items, passed}
use Rattle.jskw_array.proofs.KeywordReadings.{items_of_one}

-- ---- `items`

-- `items` of the schema of these members, whose value is d
abbrev pub items_value : Setting → Pointer → Members → Data → Result Keyword Refusal
items_value s p ms d =
    map_ok (λ sub. items_from (items_start s ms) sub (is_bare s ms d))
    (read d s (keyword_location p keyword_name.Items))

module _ (point : CompilePoint) (ms : Members) (d : Data) (h : is_fused point.setting ms ≡ true)
    (at : get_member (name_of keyword_name.Items) ms ≡ Some d) where
  pub is_one : (is_items_schema d ≡ true) × (is_active point.setting keyword_name.Items ≡ true)
  is_one = passed point.setting ms keyword_name.Items is_items_schema d (fused_items point.setting ms h) at

  pub items_reads : keyword_reading keyword_name.Items point ms d ≡ Some (items_value point.setting point.location ms d)
  items_reads = items_of_one point ms d is_one.0

  pub items_alone : read_keywords (keyword_name.Items ∷ []) point.setting point.location ms
      (λ name. readings_named name ms)
      ≡ map_ok (λ k. keyword (keyword_location point.location keyword_name.Items) k no_keywords)
      (items_value point.setting point.location ms d)
  items_alone =
      ap (λ a. before (keyword_location point.location keyword_name.Items) a (Ok no_keywords))
      (read_standing keyword_name.Items point.setting point.location ms d at is_one.1 ∙ items_reads)
      ∙ go (items_value point.setting point.location ms d)
    where
      go : (r : Result Keyword Refusal) → before (keyword_location point.location keyword_name.Items)
          (Some r) (Ok no_keywords)
          ≡ map_ok (λ k. keyword (keyword_location point.location keyword_name.Items) k no_keywords) r
      go (Ok k) = refl
      go (Err e) = refl

-- ---- the whole

-- what is read of them, where what stands before is read
pub fused_behind : (ws vs : List KeywordName) (s : Setting) (p : Pointer) (ms : Members) (js : Keywords)
    → read_keywords ws s p ms (λ name. readings_named name ms) ≡ Ok js
    → read_keywords (ws ++ vs) s p ms (λ name. readings_named name ms)
    ≡ map_ok (append_keywords js) (read_keywords vs s p ms (λ name. readings_named name ms))
fused_behind ws vs s p ms js first =
    read_appended ws vs s p ms (λ name. readings_named name ms)
    ∙ ap (λ r. join_ok append_keywords r (read_keywords vs s p ms (λ name. readings_named name ms))) first

-- nothing is read where what stands before is refused
pub fused_refused : (ws vs : List KeywordName) (s : Setting) (p : Pointer) (ms : Members) (e : Refusal)
    → read_keywords ws s p ms (λ name. readings_named name ms) ≡ Err e
    → read_keywords (ws ++ vs) s p ms (λ name. readings_named name ms) ≡ Err e
fused_refused ws vs s p ms e first =
    read_appended ws vs s p ms (λ name. readings_named name ms)
    ∙ ap (λ r. join_ok append_keywords r (read_keywords vs s p ms (λ name. readings_named name ms))) first

-- the shape is that of `items` behind the others
pub shape_reads : (point : CompilePoint) (ms : Members) (d : Data) → is_fused point.setting ms ≡ true
    → get_member (name_of keyword_name.Items) ms ≡ Some d → (js : Keywords)
    → read_keywords (keyword_name.TypeKeyword ∷ keyword_name.MinItems ∷ keyword_name.MaxItems ∷ []) point.setting
    point.location ms (λ name. readings_named name ms) ≡ Ok js
    → read_keywords fused_keywords point.setting point.location ms (λ name. readings_named name ms)
    ≡ map_ok (λ k. append_keywords js (keyword (keyword_location point.location keyword_name.Items) k no_keywords))
    (items_value point.setting point.location ms d)
shape_reads point ms d h at js first =
    fused_behind (keyword_name.TypeKeyword ∷ keyword_name.MinItems ∷ keyword_name.MaxItems ∷ [])
    (keyword_name.Items ∷ []) point.setting point.location ms js first
    ∙ ap (map_ok (append_keywords js)) (items_alone point ms d h at)
    ∙ go (items_value point.setting point.location ms d)
  where
    go : (r : Result Keyword Refusal) → map_ok (append_keywords js)
        (map_ok (λ k. keyword (keyword_location point.location keyword_name.Items) k no_keywords) r)
        ≡ map_ok (λ k. append_keywords js (keyword (keyword_location point.location keyword_name.Items) k no_keywords))
        r
    go (Ok k) = refl
    go (Err e) = refl
