-- What is read of the keywords with subschemas, by the forms of their values.
use Rattle.std.proofs.Common.{◌≡◌, ℕ, Bool, true, false, Option, Some, None, Ok, refl, ap}
use Rattle.std.proofs.Common.{◌∙◌, rules}
use Rattle.jskw_array.specs.Words.{Array, Bounds, CompilePoint, Data, Items, KeywordName, Members, Pointer, Setting}
use Rattle.jskw_array.specs.Words.{additional_items, additional_keyword, array, as_array, as_bool, asserted, assertion}
use Rattle.jskw_array.specs.Words.{asserts, at_most, boolean, boolean_schema, contains, get_member, is_bare}
use Rattle.jskw_array.specs.Words.{is_items_schema, is_leaf, items_from}
use Rattle.jskw_array.specs.Words.{items_len, items_list, items_start, join_ok, keyword_location}
use Rattle.jskw_array.specs.Words.{name_of, object, of_type, option_map_or, readings, prefix_items, read, read_bounds}
use Rattle.jskw_array.specs.Words.{read_each, keyword_reading, array_schema_count, view, wrong}
use Rattle.serde_json.specs.declared.value.Value.{the_lemmas}
use Rattle.serde_json.specs.declared.value.Value.TheVariants as value
use Rattle.jskw_report.specs.declared.keyword.KeywordName.TheVariants as keyword_name
use Rattle.jskw_array.proofs.Depths.{same_items}

-- what is so of the items of every array is so of those of this one
of_array : {A : Type 0} (f : Data → A) (g : Items → A) → ((es : Items) → f (array es) ≡ g es) → (d : Data) (ds : Items)
    → as_array d ≡ Some ds → f d ≡ g ds
of_array f g h (array es) ds e = h es ∙ ap g (same_items es ds e)
of_array f g h _ ds e = cc

-- ---- `items`

-- an array is a list of schemas
pub items_of_array : (point : CompilePoint) (ms : Members) (d : Data) (ds : Items) → as_array d ≡ Some ds
    → keyword_reading keyword_name.Items point ms d
    ≡ asserts items_list (read_each ds point.setting (keyword_location point.location keyword_name.Items) 0)
unfolding asserted
items_of_array point ms = of_array (keyword_reading keyword_name.Items point ms) _ (λ es. refl)

-- what is neither an array nor a schema says nothing
pub items_silent : (point : CompilePoint) (ms : Members) (d : Data) → as_array d ≡ None → is_items_schema d ≡ false
    → keyword_reading keyword_name.Items point ms d ≡ None
unfolding asserted
items_silent point ms (array es) e h = cc
items_silent point ms (object ns) e h = cc
items_silent point ms (boolean false) e h = cc
items_silent point ms (boolean true) e h = refl
items_silent point ms _ e h = refl

-- a schema is for the items from `items_start` on
pub items_of_one : (point : CompilePoint) (ms : Members) (d : Data) → is_items_schema d ≡ true
    → keyword_reading keyword_name.Items point ms d ≡ asserts
    (λ sub. items_from (items_start point.setting ms) sub (is_bare point.setting ms d))
    (read d point.setting (keyword_location point.location keyword_name.Items))
unfolding asserted
items_of_one point ms (object ns) h = refl
items_of_one point ms (boolean false) h = refl
items_of_one point ms (boolean true) h = cc
items_of_one point ms _ h = cc

-- ---- `prefixItems`

-- an array is a list of schemas
pub prefix_of_array : (point : CompilePoint) (ms : Members) (d : Data) (ds : Items) → as_array d ≡ Some ds
    → keyword_reading keyword_name.PrefixItems point ms d
    ≡ asserts prefix_items (read_each ds point.setting (keyword_location point.location keyword_name.PrefixItems) 0)
unfolding asserted
prefix_of_array point ms = of_array (keyword_reading keyword_name.PrefixItems point ms) _ (λ es. refl)

-- what is no array is refused
pub prefix_refused : (point : CompilePoint) (ms : Members) (d : Data) → as_array d ≡ None
    → keyword_reading keyword_name.PrefixItems point ms d
    ≡ Some (wrong (of_type Array) (keyword_location point.location keyword_name.PrefixItems) d)
unfolding asserted
prefix_refused point ms (array es) e = cc
prefix_refused point ms _ e = refl

-- ---- `additionalItems`

module _ (s : Setting) (q : Pointer) where
  absent : (o : Option Data) (d : Data) → array_schema_count o ≡ None → additional_keyword s q o (readings d) d ≡ None
  absent None d e = refl
  absent (Some (array ds)) d e = cc
  absent (Some _) d e = refl

  of_true : (o : Option Data) (d : Data) → as_bool d ≡ Some true → additional_keyword s q o (readings d) d ≡ None
  of_true None d e = refl
  of_true (Some (array ds)) (boolean true) e = refl
  of_true (Some (array ds)) (boolean false) e = cc
  of_true (Some (array ds)) _ e = cc
  of_true (Some _) d e = refl

  same_count : (m n : ℕ) → Some m ≡ Some n → m ≡ n
  same_count m n e = ap (λ o. option_map_or (λ k. k) o m) e

  of_false : (o : Option Data) (n : ℕ) (d : Data) → array_schema_count o ≡ Some n → as_bool d ≡ Some false
      → additional_keyword s q o (readings d) d ≡ Some (Ok (assertion q (at_most n)))
  of_false None n d c e = cc
  of_false (Some (array ds)) n (boolean false) c e =
      ap (λ k. Some (Ok (assertion q (at_most k)))) (same_count (items_len ds) n c)
  of_false (Some (array ds)) n (boolean true) c e = cc
  of_false (Some (array ds)) n _ c e = cc
  of_false (Some _) n d c e = cc

  of_schema : (o : Option Data) (n : ℕ) (d : Data) → array_schema_count o ≡ Some n → as_bool d ≡ None
      → additional_keyword s q o (readings d) d ≡ asserts (additional_items n) (read d s q)
  of_schema None n d c e = cc
  of_schema (Some (array ds)) n (boolean b) c e = cc
  of_schema (Some (array ds)) n d c e =
      ap (λ k. asserts (additional_items k) (read d s q)) (same_count (items_len ds) n c)
  of_schema (Some _) n d c e = cc

module _ (point : CompilePoint) (ms : Members) (d : Data) where
  -- beside no array of schemas it says nothing
  pub additional_absent : array_schema_count (get_member (name_of keyword_name.Items) ms) ≡ None
      → keyword_reading keyword_name.AdditionalItems point ms d ≡ None
  unfolding asserted
  additional_absent e =
      absent point.setting (keyword_location point.location keyword_name.AdditionalItems)
      (get_member (name_of keyword_name.Items) ms) d e

  -- `true` says nothing
  pub additional_true : as_bool d ≡ Some true → keyword_reading keyword_name.AdditionalItems point ms d ≡ None
  unfolding asserted
  additional_true e =
      of_true point.setting (keyword_location point.location keyword_name.AdditionalItems)
      (get_member (name_of keyword_name.Items) ms) d e

  -- `false` limits the number of items
  pub additional_false : (n : ℕ) → array_schema_count (get_member (name_of keyword_name.Items) ms) ≡ Some n
      → as_bool d ≡ Some false
      → keyword_reading keyword_name.AdditionalItems point ms d
      ≡ Some (Ok (assertion (keyword_location point.location keyword_name.AdditionalItems) (at_most n)))
  unfolding asserted
  additional_false n c e =
      of_false point.setting (keyword_location point.location keyword_name.AdditionalItems)
      (get_member (name_of keyword_name.Items) ms) n d c e

  -- a schema is for the items behind the others
  pub additional_of_schema : (n : ℕ) → array_schema_count (get_member (name_of keyword_name.Items) ms) ≡ Some n
      → as_bool d ≡ None
      → keyword_reading keyword_name.AdditionalItems point ms d ≡ asserts (additional_items n)
      (read d point.setting (keyword_location point.location keyword_name.AdditionalItems))
  unfolding asserted
  additional_of_schema n c e =
      of_schema point.setting (keyword_location point.location keyword_name.AdditionalItems)
      (get_member (name_of keyword_name.Items) ms) n d c e

  -- ---- `contains`

  -- its value is a schema, beside the bounds
  pub contains_read : keyword_reading keyword_name.Contains point ms d
      ≡ Some (join_ok (λ b sub. contains sub b) (read_bounds point.setting point.location ms)
      (read d point.setting (keyword_location point.location keyword_name.Contains)))
  unfolding asserted
  contains_read = refl

  -- where the bounds are read, it says what its schema says
  pub contains_of_schema : (b : Bounds) → read_bounds point.setting point.location ms ≡ Ok b
      → keyword_reading keyword_name.Contains point ms d ≡ asserts (λ sub. contains sub b)
      (read d point.setting (keyword_location point.location keyword_name.Contains))
  contains_of_schema b e =
      contains_read
      ∙ ap (λ r. Some (join_ok (λ bounds sub. contains sub bounds) r
      (read d point.setting (keyword_location point.location keyword_name.Contains)))) e

-- ---- booleans

-- a boolean of `serde_json` is that boolean
pub view-Bool : (b : Bool) → view (value.Bool b) ≡ boolean b
view-Bool b = search (rules, the_lemmas)

-- a boolean is a schema, whatever the setting
pub read_boolean : (b : Bool) (s : Setting) (p : Pointer) → read (boolean b) s p ≡ Ok (boolean_schema p b)
read_boolean true s p = refl
read_boolean false s p = refl

-- a keyword other than these four has no subschemas
pub others_are_leaves : (w : KeywordName) → (w ≡ keyword_name.Items → ⊥) → (w ≡ keyword_name.PrefixItems → ⊥)
    → (w ≡ keyword_name.AdditionalItems → ⊥) → (w ≡ keyword_name.Contains → ⊥) → is_leaf w ≡ true
others_are_leaves keyword_name.Items not_items not_prefix not_additional not_contains = absurd (not_items refl)
others_are_leaves keyword_name.PrefixItems not_items not_prefix not_additional not_contains = absurd (not_prefix refl)
others_are_leaves keyword_name.AdditionalItems not_items not_prefix not_additional not_contains =
    absurd (not_additional refl)
others_are_leaves keyword_name.Contains not_items not_prefix not_additional not_contains = absurd (not_contains refl)
others_are_leaves _ not_items not_prefix not_additional not_contains = refl
