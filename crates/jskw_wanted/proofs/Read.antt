-- What is read of a schema looks at no more than was asked for.
use Rattle.std.proofs.Common.{◌≡◌, ℕ, suc, List, [], ◌∷◌, Bool, true, false, not, ◌&&◌, ◌||◌, Option, Some, None}
use Rattle.std.proofs.Common.{Result}
use Rattle.std.proofs.Common.{Ok, Err, if◌then◌else◌, option_map, bytes_eq, refl, sym, ap, subst, ◌∙◌}
use Rattle.std.proofs.lemmas.Bool.{true≢false, and_parts}
use Rattle.std.proofs.lemmas.Cmp.{nat_list_eq_equiv}
use Rattle.std.proofs.lemmas.Map.Made.{is_member-filter}
use Rattle.std.proofs.lemmas.Slice.Eq.{bytes_eq-Decides}
use Rattle.std.specs.List.{filter}
use Rattle.std.specs.Prelude.{⊤}
use Rattle.std.specs.Set.{is_member}
use Rattle.serde_json.specs.Data as value
use Rattle.serde_json.specs.Data.{Data, boolean, number, string, array, object, Items, no_items, item, Members}
use Rattle.serde_json.specs.Events.{items_len}
use Rattle.serde_json.specs.Find.{get_member}
use Rattle.jskw_value.specs.Pointer.{Pointer, item_location}
use Rattle.jskw_report.proofs.SchemaMembers.{readings_named-get}
use Rattle.jskw_report.specs.Keyword.{Schema, false_schema, schema_object, Keywords, no_keywords, keyword, Keyword}
use Rattle.jskw_report.specs.Keyword.{assertion, contains, each_of, rest_of, Schemas, no_schemas, schema, Bounds}
use Rattle.jskw_report.specs.Keyword.{Assertion, never, type_is, size, constant, among, limit, multiple_of, unique}
use Rattle.jskw_report.specs.Keyword.{required, at_most, Size, MinItems, MaxItems, MinProperties, MaxProperties}
use Rattle.jskw_report.specs.Keyword as plain
use Rattle.jskw_report.specs.KeywordValue.{Refusal, map_ok, join_ok, texts, distinct, unless_float, first_float}
use Rattle.jskw_report.specs.KeywordValue.{first_float_item, type_value, size_value, limit_value, divisor_value}
use Rattle.jskw_report.specs.KeywordValue.{required_value, const_value, enum_value}
use Rattle.jskw_report.specs.Read.{Asserts, Reading, asserted, before, additional_keyword, items_keyword}
use Rattle.jskw_report.specs.Read.{items_start, prefix_keyword, keyword_location, readings, readings_named, read}
use Rattle.jskw_report.specs.Read.{asserted_by, required_rule, unique_rule, read_bounds, read_each, read_keyword}
use Rattle.jskw_report.specs.Read.{read_keywords, marks_of}
use Rattle.jskw_report.specs.Setting.{Setting, keywords, name_of, is_active}
use Rattle.jskw_report.specs.Sibling.{is_bare, is_true, is_handed_on}
use Rattle.jskw_report.specs.declared.keyword.KeywordName.{KeywordName}
use Rattle.jskw_report.specs.declared.keyword.KeywordName.TheVariants as keyword_name
use Rattle.jskw_text.specs.Wanted.{is_whole, wants_name}
use Rattle.jskw_text.specs.declared.wanted.Level.{Level}
use Rattle.jskw_text.specs.declared.wanted.Level.TheVariants.{Whole, Part}
use Rattle.jskw_text.specs.declared.wanted.Names.{Names}
use Rattle.jskw_text.specs.declared.wanted.Names.TheVariants.{All, Those}
use Rattle.jskw_wanted.specs.Asked.{AreEnough, Asks, AsksAll, AsksMember, AsksNames, AsksOption, AsksOptions}
use Rattle.jskw_wanted.specs.Asked.{EachEnough}
use Rattle.jskw_wanted.specs.Asked.{ValueEnough, are_all, schemas_seen}
use Rattle.jskw_wanted.specs.Enough.{IsEnough}
use Rattle.jskw_wanted.specs.Seen.{Sees, SeesAll, SeesAssertion, SeesEach, SeesKeyword, SeesOption, SeesOptions}
use Rattle.jskw_wanted.specs.Seen.{are_names_wanted}
use Rattle.jskw_wanted.specs.declared.asked.Asked.{Asked}

-- ---- values in one

abbrev kept : {A : Type 0} → A → Result A Refusal → A
kept a (Ok b) = b
kept a (Err x) = a

same_ok : {A : Type 0} (a b : A) → ◌≡◌ {A = Result A Refusal} (Ok a) (Ok b) → a ≡ b
same_ok a b e = ap (kept a) e

-- ---- where all is wanted

whole_option : (d : Data) (ls : List Level) → SeesOption d (Whole ∷ ls)
whole_option value.null ls = tt
whole_option (boolean b) ls = tt
whole_option (number n) ls = tt
whole_option (string s) ls = refl
whole_option (array ds) ls = refl
whole_option (object ms) ls = refl

whole_options : (ds : Items) (ls : List Level) → SeesOptions ds (Whole ∷ ls)
whole_options no_items ls = tt
whole_options (item d ds) ls = (whole_option d ls, whole_options ds ls)

whole_assertion : (a : Assertion) (ls : List Level) → SeesAssertion a (Whole ∷ ls)
whole_assertion never ls = tt
whole_assertion (type_is k rule) ls = tt
whole_assertion (size MinItems n) ls = refl
whole_assertion (size MaxItems n) ls = refl
whole_assertion (size MinProperties n) ls = refl
whole_assertion (size MaxProperties n) ls = refl
whole_assertion (constant d) ls = whole_option d ls
whole_assertion (among ds) ls = whole_options ds ls
whole_assertion (limit r n) ls = tt
whole_assertion (multiple_of m) ls = tt
whole_assertion unique ls = refl
whole_assertion (required names) ls = λ n h. refl
whole_assertion (at_most n) ls = refl

mutual
  whole_schema : (s : Schema) (ls : List Level) → Sees s (Whole ∷ ls)
  whole_schema (false_schema q) ls = tt
  whole_schema (schema_object q marks ks) ls = whole_all ks ls

  whole_all : (ks : Keywords) (ls : List Level) → SeesAll ks (Whole ∷ ls)
  whole_all no_keywords ls = tt
  whole_all (keyword q k ks) ls = (whole_keyword k ls, whole_all ks ls)

  whole_keyword : (k : Keyword) (ls : List Level) → SeesKeyword k (Whole ∷ ls)
  whole_keyword (assertion q a) ls = whole_assertion a ls
  whole_keyword (contains s b) ls = (refl, whole_schema s ls)
  whole_keyword (each_of prefix ss) ls = (refl, whole_each ss ls)
  whole_keyword (rest_of additional n s bare) ls = (refl, whole_schema s ls)

  whole_each : (ss : Schemas) (ls : List Level) → SeesEach ss (Whole ∷ ls)
  whole_each no_schemas ls = tt
  whole_each (schema s ss) ls = (whole_schema s ls, whole_each ss ls)

pub whole_enough : (d : Data) (ls : List Level) → IsEnough d (Whole ∷ ls)
whole_enough d ls s p sch e = whole_schema sch ls

pub whole_for_all : (ds : List Data) (ls : List Level) → AreEnough ds (Whole ∷ ls)
whole_for_all [] ls = tt
whole_for_all (d ∷ ds) ls = (whole_enough d ls, whole_for_all ds ls)

-- ---- items

each_seen : (ds : Items) (ls : List Level) → EachEnough ds ls → (s : Setting) (q : Pointer) (i : ℕ) (subs : Schemas)
    → read_each ds s q i ≡ Ok subs → SeesEach subs ls
each_seen no_items ls enough s q i no_schemas e = tt
each_seen no_items ls enough s q i (schema sub subs) e = cc
each_seen (item d ds) ls enough s q i subs e =
    go (read d s (item_location q i)) (read_each ds s q (suc i)) refl refl (enough.0 s (item_location q i))
    (each_seen ds ls enough.1 s q (suc i)) e
  where
    go : (r : Reading) (rs : Result Schemas Refusal) → read d s (item_location q i) ≡ r → read_each ds s q (suc i) ≡ rs
        → ((sub : Schema) → read d s (item_location q i) ≡ Ok sub → Sees sub ls)
        → ((others : Schemas) → read_each ds s q (suc i) ≡ Ok others → SeesEach others ls)
        → join_ok schema r rs ≡ Ok subs → SeesEach subs ls
    go (Err x) rs made others first rest e = cc
    go (Ok sub) (Err x) made others first rest e = cc
    go (Ok sub) (Ok more) made others first rest e =
        subst (λ x. SeesEach x ls) (same_ok (schema sub more) subs e) (first sub made, rest more others)

of_value : (d : Data) (ls : List Level) → ValueEnough d ls → IsEnough d ls
of_value value.null ls e = e.0
of_value (boolean b) ls e = e.0
of_value (number n) ls e = e.0
of_value (string s) ls e = e.0
of_value (array ds) ls e = e.0
of_value (object ms) ls e = e.0

-- ---- names

distinct_among : (ns : List (List ℕ)) (n : List ℕ) → is_member bytes_eq (distinct ns) n ≡ true
    → is_member bytes_eq ns n ≡ true
distinct_among [] n e = e
distinct_among (k ∷ ns) n e =
    go (bytes_eq n k) (is_member bytes_eq (filter test (distinct ns)) n) (λ h.
    distinct_among ns n (and_parts (is_member bytes_eq (distinct ns) n) (test n) (sym filtered ∙ h)).0) e
  where
    test : List ℕ → Bool
    test m = not (bytes_eq k m)

    filtered : is_member bytes_eq (filter test (distinct ns)) n ≡ (is_member bytes_eq (distinct ns) n && test n)
    filtered =
        is_member-filter nat_list_eq_equiv test n (λ x h. ap test ((bytes_eq-Decides n x).0 h)) (distinct ns)

    go : (b c : Bool) → (c ≡ true → is_member bytes_eq ns n ≡ true) → (b || c) ≡ true
        → (b || is_member bytes_eq ns n) ≡ true
    go true c behind e = refl
    go false c behind e = behind e

texts_wanted : (names : Names) (ds : Items) → AsksNames names ds → (p : Pointer) (ns : List (List ℕ))
    → texts p ds ≡ Ok ns → (n : List ℕ) → is_member bytes_eq ns n ≡ true → wants_name names n ≡ true
texts_wanted names no_items asks p [] e n h = absurd (true≢false (sym h))
texts_wanted names no_items asks p (k ∷ ns) e n h = cc
texts_wanted names (item value.null ds) asks p ns e n h = cc
texts_wanted names (item (boolean b) ds) asks p ns e n h = cc
texts_wanted names (item (number x) ds) asks p ns e n h = cc
texts_wanted names (item (array es) ds) asks p ns e n h = cc
texts_wanted names (item (object ms) ds) asks p ns e n h = cc
texts_wanted names (item (string s) ds) asks p ns e n h =
    go (texts p ds) refl (texts_wanted names ds asks.1 p) e
  where
    one : (b c : Bool) → bytes_eq n s ≡ b → (c ≡ true → wants_name names n ≡ true) → (b || c) ≡ true
        → wants_name names n ≡ true
    one true c same rest e = ap (wants_name names) ((bytes_eq-Decides n s).0 same) ∙ asks.0
    one false c same rest e = rest e

    go : (r : Result (List (List ℕ)) Refusal) → texts p ds ≡ r
        → ((ms : List (List ℕ)) → texts p ds ≡ Ok ms → (m : List ℕ) → is_member bytes_eq ms m ≡ true
        → wants_name names m ≡ true)
        → map_ok (λ ks. s ∷ ks) r ≡ Ok ns → wants_name names n ≡ true
    go (Err x) made rest e = cc
    go (Ok ms) made rest e =
        one (bytes_eq n s) (is_member bytes_eq ms n) refl (rest ms made n)
        (subst (λ ks. is_member bytes_eq ks n ≡ true) (sym (same_ok (s ∷ ms) ns e)) h)

-- ---- an object

abbrev IfAsserts : (Keyword → Type 0) → Asserts → Type 0
IfAsserts P (Some (Ok k)) = P k
IfAsserts P _ = ⊤

if_map : {A : Type 0} (P : Keyword → Type 0) (f : A → Keyword) (r : Result A Refusal)
    → ((a : A) → r ≡ Ok a → P (f a)) → IfAsserts P (Some (map_ok f r))
if_map P f (Ok a) h = h a refl
if_map P f (Err e) h = tt

if_rule : {A : Type 0} (P : Keyword → Type 0) (q : Pointer) (f : A → Assertion) (r : Result A Refusal)
    → ((x : A) → r ≡ Ok x → P (assertion q (f x))) → IfAsserts P (Some (map_ok (assertion q) (map_ok f r)))
if_rule P q f (Ok x) h = h x refl
if_rule P q f (Err e) h = tt

if_either : (P : Keyword → Type 0) (b : Bool) (a : Asserts) → IfAsserts P a → IfAsserts P (if b then a else None)
if_either P true a h = h
if_either P false a h = tt

unless_same : {A : Type 0} (p : Pointer) (o : Option Data) (a x : A) → unless_float p o a ≡ Ok x → a ≡ x
unless_same p None a x e = same_ok a x e
unless_same p (Some d) a x e = cc

module _ (a : Asked) (ls : List Level) (part : a.is_whole ≡ false)
    (whole : a.are_items_whole ≡ true → is_whole ls ≡ true) (enough : AreEnough (schemas_seen a.below.items) ls) where
  abbrev Level-here : List Level
  Level-here = Part a.has_text a.names ∷ ls

  option_seen : (d : Data) → AsksOption a d → SeesOption d Level-here
  option_seen value.null asks = tt
  option_seen (boolean b) asks = tt
  option_seen (number n) asks = tt
  option_seen (string s) asks = asks
  option_seen (array ds) asks = whole asks
  option_seen (object ms) asks = absurd (true≢false (sym asks ∙ part))

  options_seen : (ds : Items) → AsksOptions a ds → SeesOptions ds Level-here
  options_seen no_items asks = tt
  options_seen (item d ds) asks = (option_seen d asks.0, options_seen ds asks.1)

  all_named : (names : Names) → are_all names ≡ true → are_names_wanted (Part a.has_text names ∷ ls) ≡ true
  all_named All e = refl
  all_named (Those names) e = absurd (true≢false (sym e))

  module _ (ms : Members) (asks : (w : KeywordName) → AsksMember a ms w) (s : Setting) (p : Pointer) where
    abbrev Fits : Keyword → Type 0
    Fits k = SeesKeyword k Level-here

    items_fit : (d : Data) → ValueEnough d ls
        → IfAsserts Fits (items_keyword s (keyword_location p keyword_name.Items) ms (readings d) d)
    items_fit (array ds) e =
        if_map Fits _ (read_each ds s (keyword_location p keyword_name.Items) 0)
        (λ subs made. (refl, each_seen ds ls e.1 s (keyword_location p keyword_name.Items) 0 subs made))
    items_fit (object ns) e =
        if_map Fits (λ sub. plain.items_from (items_start s ms) sub (is_bare s ms (object ns)))
        (read (object ns) s (keyword_location p keyword_name.Items))
        (λ sub made. (refl, e.0 s (keyword_location p keyword_name.Items) sub made))
    items_fit (boolean false) e =
        if_map Fits (λ sub. plain.items_from (items_start s ms) sub (is_bare s ms (boolean false)))
        (read (boolean false) s (keyword_location p keyword_name.Items))
        (λ sub made. (refl, e.0 s (keyword_location p keyword_name.Items) sub made))
    items_fit (boolean true) e = tt
    items_fit _ e = tt

    prefix_fit : (d : Data) → ValueEnough d ls
        → IfAsserts Fits (prefix_keyword s (keyword_location p keyword_name.PrefixItems) (readings d) d)
    prefix_fit (array ds) e =
        if_map Fits _ (read_each ds s (keyword_location p keyword_name.PrefixItems) 0)
        (λ subs made. (refl, each_seen ds ls e.1 s (keyword_location p keyword_name.PrefixItems) 0 subs made))
    prefix_fit _ e = tt

    additional_fit : (o : Option Data) (d : Data) → ValueEnough d ls
        → IfAsserts Fits (additional_keyword s (keyword_location p keyword_name.AdditionalItems) o (readings d) d)
    additional_fit (Some (array ds)) (boolean true) e = tt
    additional_fit (Some (array ds)) (boolean false) e = refl
    additional_fit (Some (array ds)) d e =
        if_map Fits (plain.additional_items (items_len ds))
        (read d s (keyword_location p keyword_name.AdditionalItems))
        (λ sub made. (refl, of_value d ls e s (keyword_location p keyword_name.AdditionalItems) sub made))
    additional_fit (Some _) d e = tt
    additional_fit None d e = tt

    contains_fit : (b : Result Bounds Refusal) (d : Data) → ValueEnough d ls → IfAsserts Fits
        (Some (join_ok (λ b sub. contains sub b) b (read d s (keyword_location p keyword_name.Contains))))
    contains_fit (Err x) d e = tt
    contains_fit (Ok b) d e =
        if_map Fits _ (read d s (keyword_location p keyword_name.Contains))
        (λ sub made. (refl, of_value d ls e s (keyword_location p keyword_name.Contains) sub made))

    required_fit : (q : Pointer) (d : Data) → ((ds : Items) → d ≡ array ds → AsksNames a.names ds)
        → IfAsserts Fits (Some (map_ok (assertion q) (map_ok required (required_value q d))))
    required_fit q (array ds) h =
        if_rule Fits q required (required_value q (array ds)) (λ names made n has.
        go (texts q ds) refl names made n has)
      where
        go : (r : Result (List (List ℕ)) Refusal) → texts q ds ≡ r → (names : List (List ℕ))
            → map_ok distinct r ≡ Ok names → (n : List ℕ) → is_member bytes_eq names n ≡ true
            → wants_name a.names n ≡ true
        go (Err x) found names made n has = cc
        go (Ok ns) found names made n has =
            texts_wanted a.names ds (h ds refl) q ns found n
            (distinct_among ns n
            (subst (λ ks. is_member bytes_eq ks n ≡ true) (sym (same_ok (distinct ns) names made)) has))
    required_fit q value.null h = tt
    required_fit q (boolean b) h = tt
    required_fit q (number n) h = tt
    required_fit q (string t) h = tt
    required_fit q (object ns) h = tt

    enum_fit : (q : Pointer) (d : Data) → ((ds : Items) → d ≡ array ds → AsksOptions a ds)
        → IfAsserts Fits (Some (map_ok (assertion q) (map_ok among (enum_value q d))))
    enum_fit q (array ds) h =
        if_rule Fits q among (enum_value q (array ds)) (λ es made.
        subst (λ x. SeesOptions x Level-here) (unless_same q (first_float_item ds) ds es made)
        (options_seen ds (h ds refl)))
    enum_fit q value.null h = tt
    enum_fit q (boolean b) h = tt
    enum_fit q (number n) h = tt
    enum_fit q (string t) h = tt
    enum_fit q (object ns) h = tt

    unique_fit : (b : Bool) (q : Pointer) (d : Data) → (is_whole ls ≡ true)
        → IfAsserts Fits (asserted_by (if b then Some unique_rule else None) q d)
    unique_fit true q d e = e
    unique_fit false q d e = tt

    -- a keyword that asserts something
    asserted_fit : (w : KeywordName) (d : Data) → get_member (name_of w) ms ≡ Some d
        → IfAsserts Fits (asserted w s p ms (readings d))
    unfolding asserted
    asserted_fit keyword_name.Items d at = items_fit d (asks keyword_name.Items d at ls enough)
    asserted_fit keyword_name.PrefixItems d at = prefix_fit d (asks keyword_name.PrefixItems d at ls enough)
    asserted_fit keyword_name.AdditionalItems d at =
        additional_fit (get_member (name_of keyword_name.Items) ms) d
        (asks keyword_name.AdditionalItems d at ls enough)
    asserted_fit keyword_name.Contains d at =
        contains_fit (read_bounds s p ms) d (asks keyword_name.Contains d at ls enough)
    asserted_fit keyword_name.TypeKeyword d at = if_rule Fits _ _ (type_value _ d) (λ x e. tt)
    asserted_fit keyword_name.MinItems d at = if_rule Fits _ (size MinItems) (size_value _ d) (λ x e. refl)
    asserted_fit keyword_name.MaxItems d at = if_rule Fits _ (size MaxItems) (size_value _ d) (λ x e. refl)
    asserted_fit keyword_name.MinProperties d at =
        if_rule Fits _ (size MinProperties) (size_value _ d)
        (λ x e. all_named a.names (asks keyword_name.MinProperties d at))
    asserted_fit keyword_name.MaxProperties d at =
        if_rule Fits _ (size MaxProperties) (size_value _ d)
        (λ x e. all_named a.names (asks keyword_name.MaxProperties d at))
    asserted_fit keyword_name.UniqueItems d at =
        unique_fit (is_true d) (keyword_location p keyword_name.UniqueItems) d
        (whole (asks keyword_name.UniqueItems d at))
    asserted_fit keyword_name.Const d at =
        if_rule Fits _ constant (const_value _ d) (λ x e.
        subst (λ y. SeesOption y Level-here) (unless_same _ (first_float d) d x e)
        (option_seen d (asks keyword_name.Const d at)))
    asserted_fit keyword_name.Enum d at =
        enum_fit _ d (λ ds is. asks keyword_name.Enum (array ds) (at ∙ ap Some is))
    asserted_fit keyword_name.Required d at =
        handed (is_handed_on s ms) (λ ds is. asks keyword_name.Required (array ds) (at ∙ ap Some is))
      where
        handed : (b : Bool) → ((ds : Items) → d ≡ array ds → AsksNames a.names ds) → IfAsserts Fits
            (asserted_by (if b then None else Some required_rule) (keyword_location p keyword_name.Required) d)
        handed true h = tt
        handed false h = required_fit (keyword_location p keyword_name.Required) d h
    asserted_fit keyword_name.Minimum d at = if_rule Fits _ _ (limit_value _ d) (λ x e. tt)
    asserted_fit keyword_name.Maximum d at = if_rule Fits _ _ (limit_value _ d) (λ x e. tt)
    asserted_fit keyword_name.ExclusiveMinimum d at = if_rule Fits _ _ (limit_value _ d) (λ x e. tt)
    asserted_fit keyword_name.ExclusiveMaximum d at = if_rule Fits _ _ (limit_value _ d) (λ x e. tt)
    asserted_fit keyword_name.MultipleOf d at = if_rule Fits _ multiple_of (divisor_value _ d) (λ x e. tt)

    value_fit : (w : KeywordName) (o : Option Data) → get_member (name_of w) ms ≡ o
        → IfAsserts Fits (read_keyword w s p ms (option_map readings o))
    unfolding read_keyword
    value_fit w None at = tt
    value_fit w (Some d) at =
        if_either Fits (is_active s w) (asserted w s p ms (readings d)) (asserted_fit w d at)

    read_fit : (w : KeywordName) → IfAsserts Fits (read_keyword w s p ms (readings_named (name_of w) ms))
    read_fit w =
        subst (λ o. IfAsserts Fits (read_keyword w s p ms o)) (sym (readings_named-get (name_of w) ms))
        (value_fit w (get_member (name_of w) ms) refl)

    all_fit : (ws : List KeywordName) (ks : Keywords)
        → read_keywords ws s p ms (λ name. readings_named name ms) ≡ Ok ks → SeesAll ks Level-here
    all_fit [] no_keywords e = tt
    all_fit [] (keyword q k ks) e = cc
    all_fit (w ∷ ws) ks e =
        go (read_keyword w s p ms (readings_named (name_of w) ms))
        (read_keywords ws s p ms (λ name. readings_named name ms)) (read_fit w) (λ js f. all_fit ws js f) e
      where
        go : (x : Asserts) (r : Result Keywords Refusal) → IfAsserts Fits x
            → ((js : Keywords) → r ≡ Ok js → SeesAll js Level-here) → before (keyword_location p w) x r ≡ Ok ks
            → SeesAll ks Level-here
        go None r fit rest e = rest ks e
        go (Some (Err x)) r fit rest e = cc
        go (Some (Ok k)) (Err x) fit rest e = cc
        go (Some (Ok k)) (Ok js) fit rest e =
            subst (λ hs. SeesAll hs Level-here) (same_ok (keyword (keyword_location p w) k js) ks e)
            (fit, rest js refl)

    object_seen : (sch : Schema) → read (object ms) s p ≡ Ok sch → Sees sch Level-here
    object_seen sch =
        go (read_keywords keywords s p ms (λ name. readings_named name ms)) (λ ks made. all_fit keywords ks made)
      where
        go : (r : Result Keywords Refusal) → ((ks : Keywords) → r ≡ Ok ks → SeesAll ks Level-here)
            → map_ok (schema_object p (marks_of s ms)) r ≡ Ok sch → Sees sch Level-here
        go (Err x) seen e = cc
        go (Ok ks) seen e =
            subst (λ x. Sees x Level-here) (same_ok (schema_object p (marks_of s ms) ks) sch e) (seen ks refl)

  -- a schema
  schema_enough : (d : Data) → Asks a d → IsEnough d Level-here
  schema_enough (object ms) asks s p sch e = object_seen ms asks s p sch e
  schema_enough (boolean true) asks s p (false_schema q) e = cc
  schema_enough (boolean true) asks s p (schema_object q marks no_keywords) e = tt
  schema_enough (boolean true) asks s p (schema_object q marks (keyword r k ks)) e = cc
  schema_enough (boolean false) asks s p (false_schema q) e = tt
  schema_enough (boolean false) asks s p (schema_object q marks ks) e = cc
  schema_enough value.null asks s p sch e = cc
  schema_enough (number n) asks s p sch e = cc
  schema_enough (string t) asks s p sch e = cc
  schema_enough (array ds) asks s p sch e = cc

  pub level_enough : (ds : List Data) → AsksAll a ds → AreEnough ds Level-here
  level_enough [] asks = tt
  level_enough (d ∷ ds) asks = (schema_enough d asks.0, level_enough ds asks.1)
