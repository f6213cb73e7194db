-- What was asked for still is, where more is.
use Rattle.std.proofs.Common.{◌≡◌, ℕ, ◌+◌, ◌<◌, List, [], ◌∷◌, ◌++◌, length, get_or, drop, subst}
use Rattle.std.proofs.Common.{refl, sym, ap, Option, Some, None}
use Rattle.std.proofs.lemmas.Map.Lookups.{exact_bytes}
use Rattle.std.specs.Cmp.Lexicographic.{slice_cmp}
use Rattle.std.specs.Ordering.{nat_cmp, match_ordering}
use Rattle.std.specs.declared.cmp.Ordering.{Ordering}
use Rattle.std.specs.declared.cmp.Ordering.TheVariants.{Less, Equal, Greater}
use Rattle.serde_json.specs.Find.{as_array, get_member}
use Rattle.std.specs.Borrow.{Bor}
use Rattle.serde_json.specs.Data.{Data, null, boolean, number, string, array, object, Items, no_items, item, Members}
use Rattle.serde_json.specs.Data.{member}
use Rattle.serde_json.specs.View.{view, items_view}
use Rattle.serde_json.specs.declared.value.Value.{Value}
use Rattle.jskw_report.proofs.GatheredNodes.{drop_here}
use Rattle.jskw_report.specs.Setting.{name_of}
use Rattle.jskw_report.specs.declared.keyword.KeywordName.{KeywordName}
use Rattle.jskw_report.specs.declared.keyword.KeywordName.TheVariants as keyword_name
use Rattle.jskw_text.specs.declared.wanted.Level.{Level}
use Rattle.jskw_wanted.specs.Asked.{AreEnough, Asks, AsksAll, AsksKeyword, AsksMember, AsksMembers, AsksNamed}
use Rattle.jskw_wanted.specs.Asked.{AsksNames, AsksOption, AsksOne, AsksOptions, EachEnough, ValueEnough, Grows}
use Rattle.jskw_wanted.specs.Asked.{schemas_seen}
use Rattle.jskw_wanted.specs.Enough.{IsEnough}
use Rattle.jskw_wanted.specs.declared.asked.Asked.{Asked}

pub unchanged : (a : Asked) → Grows a a
unchanged a = record {
  whole = λ e. e;
  text = λ e. e;
  names = (λ e. e, λ k e. e);
  items_whole = λ e. e;
  below = λ ls e. e;
}

pub further : (a b c : Asked) → Grows a b → Grows b c → Grows a c
further a b c g h = record {
  whole = λ e. h.whole (g.whole e);
  text = λ e. h.text (g.text e);
  names = (λ e. h.names.0 (g.names.0 e), λ k e. h.names.1 k (g.names.1 k e));
  items_whole = λ e. h.items_whole (g.items_whole e);
  below = λ ls e. g.below ls (h.below ls e);
}

module _ (a b : Asked) (g : Grows a b) where
  pub option_grows : (d : Data) → AsksOption a d → AsksOption b d
  option_grows null asks = tt
  option_grows (boolean c) asks = tt
  option_grows (number n) asks = tt
  option_grows (string s) asks = g.text asks
  option_grows (array ds) asks = g.items_whole asks
  option_grows (object ms) asks = g.whole asks

  pub options_grow : (ds : Items) → AsksOptions a ds → AsksOptions b ds
  options_grow no_items asks = tt
  options_grow (item d ds) asks = (option_grows d asks.0, options_grow ds asks.1)

  pub names_grow : (ds : Items) → AsksNames a.names ds → AsksNames b.names ds
  names_grow no_items asks = tt
  names_grow (item null ds) asks = names_grow ds asks
  names_grow (item (boolean c) ds) asks = names_grow ds asks
  names_grow (item (number n) ds) asks = names_grow ds asks
  names_grow (item (string s) ds) asks = (g.names.1 s asks.0, names_grow ds asks.1)
  names_grow (item (array es) ds) asks = names_grow ds asks
  names_grow (item (object ms) ds) asks = names_grow ds asks

  pub keyword_grows : (w : KeywordName) (d : Data) → AsksKeyword a w d → AsksKeyword b w d
  keyword_grows keyword_name.MinProperties d asks = g.names.0 asks
  keyword_grows keyword_name.MaxProperties d asks = g.names.0 asks
  keyword_grows keyword_name.Required (array ds) asks = names_grow ds asks
  keyword_grows keyword_name.Const d asks = option_grows d asks
  keyword_grows keyword_name.Enum (array ds) asks = options_grow ds asks
  keyword_grows keyword_name.UniqueItems d asks = g.items_whole asks
  keyword_grows keyword_name.Items d asks = λ ls e. asks ls (g.below ls e)
  keyword_grows keyword_name.PrefixItems d asks = λ ls e. asks ls (g.below ls e)
  keyword_grows keyword_name.AdditionalItems d asks = λ ls e. asks ls (g.below ls e)
  keyword_grows keyword_name.Contains d asks = λ ls e. asks ls (g.below ls e)
  keyword_grows _ d asks = tt

  pub member_grows : (ms : Members) (w : KeywordName) → AsksMember a ms w → AsksMember b ms w
  member_grows ms w asks d at = keyword_grows w d (asks d at)

  pub schema_grows : (d : Data) → Asks a d → Asks b d
  schema_grows null asks = tt
  schema_grows (boolean c) asks = tt
  schema_grows (number n) asks = tt
  schema_grows (string s) asks = tt
  schema_grows (array ds) asks = tt
  schema_grows (object ms) asks = λ w. member_grows ms w (asks w)

-- ---- one of a list, and those behind it

-- if those from an index on are asked for by what is asked for in the end, all are
abbrev pub OptionsLeft : Asked → List Value → ℕ → Type 0
OptionsLeft a vs i =
    (b : Asked) → Grows a b → AsksOptions b (items_view (drop i vs)) → AsksOptions b (items_view vs)

pub next_option : (a b : Asked) (vs : List Value) (i : ℕ) (v : Value) → i < length vs → v ≡ get_or vs i v
    → OptionsLeft a vs i → Grows a b → AsksOption b (view v) → OptionsLeft b vs (i + 1)
next_option a b vs i v within is left g asks c h rest =
    left c (further a b c g h)
    (subst (λ xs. AsksOptions c (items_view xs)) (sym (drop_here vs i v within is))
    (option_grows b c h (view v) asks, rest))

abbrev pub SchemasLeft : Asked → List (Bor Value) → ℕ → Type 0
SchemasLeft a vs i = (b : Asked) → Grows a b → AsksAll b (schemas_seen (drop i vs)) → AsksAll b (schemas_seen vs)

pub next_schema : (a b : Asked) (vs : List (Bor Value)) (i : ℕ) (v : Bor Value) → i < length vs → v ≡ get_or vs i v
    → SchemasLeft a vs i → Grows a b → Asks b (view v.now) → SchemasLeft b vs (i + 1)
next_schema a b vs i v within is left g asks c h rest =
    left c (further a b c g h)
    (subst (λ xs. AsksAll c (schemas_seen xs)) (sym (drop_here vs i v within is))
    (schema_grows b c h (view v.now) asks, rest))

abbrev pub EachLeft : Asked → List Value → ℕ → Type 0
EachLeft a vs i =
    (ls : List Level) → AreEnough (schemas_seen a.below.items) ls → EachEnough (items_view (drop i vs)) ls
    → EachEnough (items_view vs) ls

abbrev pub NamesLeft : Asked → List Value → ℕ → Type 0
NamesLeft a vs i =
    (b : Asked) → Grows a b → AsksNames b.names (items_view (drop i vs)) → AsksNames b.names (items_view vs)

pub next_each : (a b : Asked) (vs : List Value) (i : ℕ) (v : Value) → i < length vs → v ≡ get_or vs i v
    → EachLeft a vs i → Grows a b → AsksOne b (view v) → EachLeft b vs (i + 1)
next_each a b vs i v within is left g asks ls e rest =
    left ls (g.below ls e)
    (subst (λ xs. EachEnough (items_view xs) ls) (sym (drop_here vs i v within is)) (asks ls e, rest))

-- ---- one schema more

enough_both : (xs ys : List (Bor Value)) (ls : List Level) → AreEnough (schemas_seen (xs ++ ys)) ls
    → AreEnough (schemas_seen xs) ls × AreEnough (schemas_seen ys) ls
enough_both [] ys ls e = (tt, e)
enough_both (x ∷ xs) ys ls e = let both = enough_both xs ys ls e.1 in ((e.0, both.0), both.1)

pub one_more : (xs more : List (Bor Value)) (v : Bor Value) → more ≡ xs ++ v ∷ [] → (ls : List Level)
    → AreEnough (schemas_seen more) ls → AreEnough (schemas_seen xs) ls × IsEnough (view v.now) ls
one_more xs more v pushed ls e =
    let both = enough_both xs (v ∷ []) ls (subst (λ ys. AreEnough (schemas_seen ys) ls) pushed e) in
    (both.0, both.1.0)

-- ---- members of a schema, one after another

abbrev held : {A : Type 0} → A → Option A → A
held is (Some a) = a
held is None = is

-- if those that are left are asked for by what is asked for in the end, all are
abbrev pub MembersLeft : Asked → Members → Members → Type 0
MembersLeft a ms rest =
    (b : Asked) → Grows a b → AsksMembers b rest → AsksMembers b ms

pub next_member : (a b : Asked) (ms : Members) (k : List ℕ) (e : Data) (rest : Members)
    → MembersLeft a ms (member k e rest) → Grows a b → AsksNamed b k e → MembersLeft b ms rest
next_member a b ms k e rest left g asks c h behind =
    left c (further a b c g h) (λ w d at. here w d (slice_cmp nat_cmp (name_of w) k) refl at)
  where
    here : (w : KeywordName) (d : Data) (o : Ordering) → slice_cmp nat_cmp (name_of w) k ≡ o
        → match_ordering o (get_member (name_of w) rest) (Some e) (get_member (name_of w) rest) ≡ Some d
        → AsksKeyword c w d
    here w d Less is at = behind w d at
    here w d Greater is at = behind w d at
    here w d Equal is at =
        subst (λ x. AsksKeyword c w x) (ap (held e) at)
        (keyword_grows b c h w e (asks w (exact_bytes (name_of w) k is)))

-- a value, and the items of an array
same_items : (es ds : Items) → ◌≡◌ {A = Option Items} (Some ds) (Some es) → es ≡ ds
same_items es ds e = ap (held es) (sym e)

pub value_and_items : (d : Data) (ds : Items) (ls : List Level) → Some ds ≡ as_array d → IsEnough d ls
    → EachEnough ds ls → ValueEnough d ls
value_and_items (array es) ds ls is e each =
    (e, subst (λ is. EachEnough is ls) (sym (same_items es ds is)) each)
value_and_items null ds ls is e each = cc
value_and_items (boolean b) ds ls is e each = cc
value_and_items (number n) ds ls is e each = cc
value_and_items (string s) ds ls is e each = cc
value_and_items (object ms) ds ls is e each = cc

pub value_alone : (d : Data) (ls : List Level) → None ≡ as_array d → IsEnough d ls → ValueEnough d ls
value_alone (array es) ls is e = cc
value_alone null ls is e = (e, tt)
value_alone (boolean b) ls is e = (e, tt)
value_alone (number n) ls is e = (e, tt)
value_alone (string s) ls is e = (e, tt)
value_alone (object ms) ls is e = (e, tt)
