-- How a schema is read that is a bare type check.
use Rattle.std.proofs.Common.{◌≡◌, ℕ, List, Option, Some, None, option_map, unwrap_or, Ok, Bool, true, false, ◌&&◌}
use Rattle.std.proofs.Common.{◌||◌, bytes_eq, if◌then◌else◌, not, refl, sym, ap, ◌∙◌}
use Rattle.std.proofs.lemmas.Bool.{and_parts, and_right, false≢true}
use Rattle.std.proofs.lemmas.Slice.Eq.{bytes_eq-Decides}
use Rattle.std.specs.List.{list_all}
use Rattle.std.specs.Option.{option_map_or}
use Rattle.serde_json.specs.Data.{Data, Members, array, member, no_members, object, string}
use Rattle.serde_json.specs.Find.{as_str, get, get_member}
use Rattle.jskw_value.specs.Pointer.{Pointer}
use Rattle.jskw_value.specs.Types.{type_name, type_named}
use Rattle.jskw_value.specs.declared.types.JsonType.{JsonType}
use Rattle.jskw_value.specs.declared.types.JsonType.TheVariants.{Array, Boolean, Integer, Number, String}
use Rattle.jskw_report.specs.Keyword.{Integers, Keyword, by_value, items_from}
use Rattle.jskw_report.specs.KeywordValue.{map_ok}
use Rattle.jskw_report.specs.Read.{asserted, integers_of, items_start, keyword_location, read, read_keyword}
use Rattle.jskw_report.specs.Setting.{Setting, is_2020_12, name_of, is_active}
use Rattle.jskw_report.specs.Sibling.{has_keyword, is_absent, is_array_value, is_bare, is_fused, is_handed_on}
use Rattle.jskw_report.specs.Sibling.{is_inlined_type, is_items_schema, is_only_type, is_string, item_count}
use Rattle.jskw_report.specs.Sibling.{member_passes, takes_size, unfused_names}
use Rattle.jskw_report.specs.declared.error.TypeKind.TheVariants.{Single}
use Rattle.jskw_leaf.specs.Items.{bare_items, bare_schema}
use Rattle.jskw_leaf.specs.Meaning.{type_at}
use Rattle.jskw_report.specs.declared.keyword.KeywordName.TheVariants.{Items, MaxItems, MinItems, PrefixItems}
use Rattle.jskw_report.specs.declared.keyword.KeywordName.TheVariants.{TypeKeyword}
use Rattle.jskw_report.specs.declared.settings.Draft.{Draft}
use Rattle.jskw_report.specs.declared.settings.Draft.TheVariants.{Draft4}

-- ---- what a bare type check is

start_of : (b : Bool) (o : Option Data) → not (b && option_map_or is_array_value o false) ≡ true
    → (if b then option_map_or item_count o 0 else 0) ≡ 0
start_of false o h = refl
start_of true None h = refl
start_of true (Some (array ds)) h = cc
start_of true (Some _) h = refl

-- a bare type check begins at the first item
module _ (s : Setting) (ms : Members) (d : Data) (bare : is_bare s ms d ≡ true) where
  both : (a b c : Bool) → (a && b && c) ≡ true → (a ≡ true) × (b ≡ true) × (c ≡ true)
  both true true true e = (refl, refl, refl)
  both true true false e = cc
  both true false c e = cc
  both false b c e = cc

  parts : (is_only_type d ≡ true) × (is_active s TypeKeyword ≡ true)
      × (not (is_2020_12 s.draft && member_passes is_array_value (name_of PrefixItems) ms) ≡ true)
  parts =
      both (is_only_type d) (is_active s TypeKeyword)
      (not (is_2020_12 s.draft && member_passes is_array_value (name_of PrefixItems) ms)) bare

  pub bare_is_type : is_only_type d ≡ true
  bare_is_type = parts.0

  bare_stands : is_active s TypeKeyword ≡ true
  bare_stands = parts.1

  bare_start : items_start s ms ≡ 0
  bare_start = start_of (is_2020_12 s.draft) (get_member (name_of PrefixItems) ms) parts.2

-- the object whose one member is `type` with that name
abbrev pub typed : List ℕ → Data
typed s = object (member (name_of TypeKeyword) (string s) no_members)

-- a bare type check has one member, with the name of a type
pub only_named : (d : Data) → is_only_type d ≡ true → (s : List ℕ) × (d ≡ typed s) × (is_inlined_type (string s) ≡ true)
only_named (object (member k (string s) no_members)) h =
    let both = and_parts _ _ h in
    (s, ap (λ n. object (member n (string s) no_members)) ((bytes_eq-Decides k (name_of TypeKeyword)).0 both.0), both.1)
only_named (object (member k d no_members)) h = absurd-of (and_parts _ _ h).1
  where
    absurd-of : {X : Type 0} → is_inlined_type d ≡ true → X
    absurd-of e = cc
only_named _ h = cc

-- `required` is not among the members
not_delegated : (st : Setting) (s : List ℕ)
    → is_handed_on st (member (name_of TypeKeyword) (string s) no_members) ≡ false
unfolding is_handed_on
not_delegated st s = and_right _ false refl

-- nor is `items`
not_fused : (st : Setting) (s : List ℕ) → is_fused st (member (name_of TypeKeyword) (string s) no_members) ≡ false
unfolding is_fused
not_fused st s =
    let ms = member (name_of TypeKeyword) (string s) no_members in
    ap (λ b. b && takes_size st ms MinItems && takes_size st ms MaxItems
    && list_all (λ name. is_absent name ms) unfused_names)
    (and_right (has_keyword st ms TypeKeyword (is_string (type_name Array)))
    (has_keyword st ms Items is_items_schema) refl)

pub typed_reads : (st : Setting) (q : Pointer) (s : List ℕ) (j : JsonType) → is_active st TypeKeyword ≡ true
    → type_named s ≡ Some j
    → read (typed s) st q
    ≡ Ok (bare_schema q (type_at j (integers_of st.draft (Single j)) (keyword_location q TypeKeyword)))
unfolding read_keyword asserted
typed_reads st q s j h e = rw h (rw e (rw (not_delegated st s) (rw (not_fused st s) refl)))

-- ---- the name

named_as : (j : JsonType) (s : List ℕ) → bytes_eq (type_name j) s ≡ true → type_named (type_name j) ≡ Some j
    → type_named s ≡ Some j
named_as j s e is = ap type_named (sym ((bytes_eq-Decides (type_name j) s).0 e)) ∙ is

-- it is that of a type
pub inlined_named : (s : List ℕ) → is_inlined_type (string s) ≡ true → (j : JsonType) × (type_named s ≡ Some j)
inlined_named s h =
    go (bytes_eq (type_name Number) s) (bytes_eq (type_name String) s) (bytes_eq (type_name Boolean) s)
    (bytes_eq (type_name Integer) s) refl refl refl refl h
  where
    go : (a b c d : Bool) → bytes_eq (type_name Number) s ≡ a → bytes_eq (type_name String) s ≡ b
        → bytes_eq (type_name Boolean) s ≡ c → bytes_eq (type_name Integer) s ≡ d
        → (a || (b || (c || (d || false)))) ≡ true → (j : JsonType) × (type_named s ≡ Some j)
    go true b c d e f g k h = (Number, named_as Number s e refl)
    go false true c d e f g k h = (String, named_as String s f refl)
    go false false true d e f g k h = (Boolean, named_as Boolean s g refl)
    go false false false true e f g k h = (Integer, named_as Integer s k refl)
    go false false false false e f g k h = absurd (false≢true h)

-- and that of integers where it is none of the others
else_integer : (s : List ℕ) → is_inlined_type (string s) ≡ true → (s ≡ type_name Number → ⊥)
    → (s ≡ type_name String → ⊥) → (s ≡ type_name Boolean → ⊥)
    → s ≡ type_name Integer
else_integer s h no_number no_string no_boolean =
    go (bytes_eq (type_name Number) s) (bytes_eq (type_name String) s) (bytes_eq (type_name Boolean) s)
    (bytes_eq (type_name Integer) s) refl refl refl refl h
  where
    is : (j : JsonType) → bytes_eq (type_name j) s ≡ true → s ≡ type_name j
    is j e = sym ((bytes_eq-Decides (type_name j) s).0 e)

    go : (a b c d : Bool) → bytes_eq (type_name Number) s ≡ a → bytes_eq (type_name String) s ≡ b
        → bytes_eq (type_name Boolean) s ≡ c → bytes_eq (type_name Integer) s ≡ d
        → (a || (b || (c || (d || false)))) ≡ true → s ≡ type_name Integer
    go true b c d e f g k h = absurd (no_number (is Number e))
    go false true c d e f g k h = absurd (no_string (is String f))
    go false false true d e f g k h = absurd (no_boolean (is Boolean g))
    go false false false true e f g k h = is Integer k
    go false false false false e f g k h = absurd (false≢true h)

-- ---- the rule on integers

-- only Draft 4 tells them as they are written
pub integers_by_value : (draft : Draft) → (draft ≡ Draft4 → ⊥) → integers_of draft (Single Integer) ≡ by_value
integers_by_value Draft4 other = absurd (other refl)
integers_by_value _ other = refl

pub integer_items : (s : List ℕ) (j : JsonType) (draft : Draft) (rule : Integers) (q r : Pointer)
    → is_inlined_type (string s) ≡ true → (s ≡ type_name Number → ⊥) → (s ≡ type_name String → ⊥)
    → (s ≡ type_name Boolean → ⊥) → type_named s ≡ Some j
    → integers_of draft (Single Integer) ≡ rule
    → bare_items q (type_at Integer rule r) ≡ bare_items q (type_at j (integers_of draft (Single j)) r)
integer_items s j draft rule q r inlined no_number no_string no_boolean named e =
    let is : s ≡ type_name Integer = else_integer s inlined no_number no_string no_boolean in
    let j_is : Some Integer ≡ Some j = sym (ap type_named is) ∙ named in
    ap (λ x. bare_items q (type_at Integer x r)) (sym e) ∙ ap (λ o. option_map_or
    (λ i. bare_items q (type_at i (integers_of draft (Single i)) r)) o (bare_items q (type_at Integer rule r))) j_is

-- ---- the whole

-- the name is that of a type
pub bare_inlined : (st : Setting) (ms : Members) (d : Data) (s : List ℕ) → is_bare st ms d ≡ true → d ≡ typed s
    → is_inlined_type (string s) ≡ true
bare_inlined st ms d s bare is = ap is_only_type (sym is) ∙ bare_is_type st ms d bare

-- `items` at q of the name's type
pub bare_reads : (st : Setting) (ms : Members) (q : Pointer) (d : Data) (s : List ℕ) (k : Keyword)
    → is_bare st ms d ≡ true → d ≡ typed s
    → ((j : JsonType) → type_named s ≡ Some j
    → k ≡ bare_items q (type_at j (integers_of st.draft (Single j)) (keyword_location q TypeKeyword)))
    → map_ok (λ sub. items_from (items_start st ms) sub true) (read d st q) ≡ Ok k
bare_reads st ms q d s k bare is made =
    let named = inlined_named s (bare_inlined st ms d s bare is) in
    ap (λ n. map_ok (λ sub. items_from n sub true) (read d st q)) (bare_start st ms d bare)
    ∙ ap (λ e. map_ok (λ sub. items_from 0 sub true) (read e st q)) is
    ∙ ap (map_ok (λ sub. items_from 0 sub true)) (typed_reads st q s named.0 (bare_stands st ms d bare) named.1)
    ∙ ap Ok (sym (made named.0 named.1))

-- at these places under this draft
pub placed_items : {k : Keyword} {l m q r : Pointer} {old draft : Draft} (j : JsonType)
    → k ≡ bare_items l (type_at j (integers_of old (Single j)) m)
    → l ≡ q → m ≡ r → old ≡ draft → k ≡ bare_items q (type_at j (integers_of draft (Single j)) r)
placed_items {m = m} {q = q} {r = r} {old = old} j is at type_at_place same =
    is ∙ ap (λ l. bare_items l (type_at j (integers_of old (Single j)) m)) at
    ∙ ap (λ m. bare_items q (type_at j (integers_of old (Single j)) m)) type_at_place
    ∙ ap (λ d. bare_items q (type_at j (integers_of d (Single j)) r)) same

-- ---- the text of the one member

pub only_text : {A : Type 0} (now : A → List ℕ) (d e : Data) (o : Option A) (x : A) → is_only_type d ≡ true
    → Some e ≡ get (name_of TypeKeyword) d
    → option_map now o ≡ as_str e → d ≡ typed (now (unwrap_or o x))
only_text {A} now d e o x h at text =
    let found = only_named d h in
    let here : Some e ≡ Some (string found.0) = at ∙ ap (get (name_of TypeKeyword)) found.1 in
    let is : option_map now o ≡ Some found.0 = text ∙ ap (λ y. option_map_or as_str y None) here in
    found.1 ∙ ap typed (sym (read_of o found.0 is))
  where
    read_of : (o : Option A) (s : List ℕ) → option_map now o ≡ Some s → now (unwrap_or o x) ≡ s
    read_of None s is = cc
    read_of (Some a) s is = ap (λ y. option_map_or (λ z. z) y s) is
