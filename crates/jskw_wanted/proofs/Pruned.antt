-- What is left of a tree is valid where the tree is.
use Rattle.std.proofs.Common.{◌≡◌, ℕ, zero, suc, List, [], ◌∷◌, length, map, drop, filter, Bool, true, false, not, ◌&&◌}
use Rattle.std.proofs.Common.{◌||◌, ◌+◌, cond, string_bytes, refl, sym, ap, ap₂, ◌∙◌}
use Rattle.std.proofs.lemmas.Bool.{true≢false}
use Rattle.std.proofs.lemmas.Cmp.{nat_list_eq_equiv}
use Rattle.std.proofs.lemmas.Map.Made.{is_member-filter}
use Rattle.std.proofs.lemmas.Slice.Eq.{bytes_eq-Decides}
use Rattle.std.specs.List.{list_all, count_by, fold}
use Rattle.std.specs.Set.{is_member}
use Rattle.std.specs.Str.{bytes_eq}
use Rattle.serde_json.specs.Data as value
use Rattle.serde_json.specs.Data.{Data}
use Rattle.jskw_value.specs.Equality as equality
use Rattle.jskw_value.specs.Equality.{equal, items_alike}
use Rattle.jskw_value.specs.Number.{num_equal}
use Rattle.jskw_value.specs.Serde.{items_of, tree_of}
use Rattle.jskw_value.specs.Tree.{Tree, null, boolean, number, string, array, object, Items, no_items, item, Members}
use Rattle.jskw_value.specs.Tree.{no_members, member, items, item_list, member_list, members, is_array, is_object}
use Rattle.jskw_value.specs.Tree.{has_name}
use Rattle.jskw_report.specs.Assertions.{assertion_holds, is_option, required_holds, size_holds}
use Rattle.jskw_report.specs.Holds.{holds, all_hold, keyword_holds, each_holds, count_holds}
use Rattle.jskw_report.specs.Keyword.{Schema, false_schema, schema_object, Keywords, no_keywords, keyword, Keyword}
use Rattle.jskw_report.specs.Keyword.{assertion, contains, each_of, rest_of, Schemas, no_schemas, schema}
use Rattle.jskw_report.specs.Keyword.{by_value, as_written, Assertion, never, type_is, size, constant, among, limit}
use Rattle.jskw_report.specs.Keyword.{multiple_of, unique}
use Rattle.jskw_report.specs.Keyword.{required, at_most, Size, MinItems, MaxItems, MinProperties, MaxProperties}
use Rattle.jskw_text.specs.Wanted.{of_items, is_name_wanted, is_text_wanted, is_whole, map_items, named, names_in}
use Rattle.jskw_text.specs.Wanted.{prune}
use Rattle.jskw_text.specs.declared.wanted.Level.{Level}
use Rattle.jskw_text.specs.declared.wanted.Level.TheVariants.{Whole, Part}
use Rattle.jskw_text.specs.declared.wanted.Names.TheVariants.{All, Those}
use Rattle.jskw_wanted.specs.Seen.{PrunedAlike, Sees, SeesAll, SeesAssertion, SeesEach, SeesKeyword, SeesOption}
use Rattle.jskw_wanted.specs.Seen.{SeesOptions, has_level, are_names_wanted}

-- ---- what stays

array_stays : (ls : List Level) (t : Tree) → is_array (prune ls t) ≡ is_array t
array_stays [] null = refl
array_stays [] (boolean b) = refl
array_stays [] (number n) = refl
array_stays [] (string s) = refl
array_stays [] (array ts) = refl
array_stays [] (object ms) = refl
array_stays (Whole ∷ ls) t = refl
array_stays (Part text names ∷ ls) null = refl
array_stays (Part text names ∷ ls) (boolean b) = refl
array_stays (Part text names ∷ ls) (number n) = refl
array_stays (Part text names ∷ ls) (string s) = refl
array_stays (Part text names ∷ ls) (array ts) = refl
array_stays (Part text names ∷ ls) (object ms) = refl

-- a test that asks for the outline alone
abbrev OfOutline : {C : Type 0} → (Tree → C) → Type 0
OfOutline f =
    ((r s : List ℕ) → f (string r) ≡ f (string s)) × ((ts us : Items) → f (array ts) ≡ f (array us))
    × ((ms ns : Members) → f (object ms) ≡ f (object ns))

outline_stays : {C : Type 0} (f : Tree → C) → OfOutline f → (ls : List Level) (t : Tree) → f (prune ls t) ≡ f t
outline_stays f same [] null = refl
outline_stays f same [] (boolean b) = refl
outline_stays f same [] (number n) = refl
outline_stays f same [] (string s) = same.0 _ s
outline_stays f same [] (array ts) = same.1 _ ts
outline_stays f same [] (object ms) = same.2 _ ms
outline_stays f same (Whole ∷ ls) t = refl
outline_stays f same (Part text names ∷ ls) null = refl
outline_stays f same (Part text names ∷ ls) (boolean b) = refl
outline_stays f same (Part text names ∷ ls) (number n) = refl
outline_stays f same (Part text names ∷ ls) (string s) = same.0 _ s
outline_stays f same (Part text names ∷ ls) (array ts) = same.1 _ ts
outline_stays f same (Part text names ∷ ls) (object ms) = same.2 _ ms

-- ---- items

map_same : (xs : List Tree) → xs ≡ map (λ t. t) xs
map_same [] = refl
map_same (x ∷ xs) = ap (λ ys. x ∷ ys) (map_same xs)

items_mapped : (f : Tree → Tree) (ts : Items) → item_list (map_items f ts) ≡ map f (item_list ts)
items_mapped f no_items = refl
items_mapped f (item t ts) = ap (λ us. f t ∷ us) (items_mapped f ts)

items_pruned : (ls : List Level) (t : Tree) → has_level ls ≡ true
    → items (prune ls t) ≡ map (prune (of_items ls)) (items t)
items_pruned [] t e = absurd (true≢false (sym e))
items_pruned (Whole ∷ ls) t e = map_same (items t)
items_pruned (Part text names ∷ ls) null e = refl
items_pruned (Part text names ∷ ls) (boolean b) e = refl
items_pruned (Part text names ∷ ls) (number n) e = refl
items_pruned (Part text names ∷ ls) (string s) e = refl
items_pruned (Part text names ∷ ls) (array ts) e = items_mapped (prune ls) ts
items_pruned (Part text names ∷ ls) (object ms) e = refl

length_mapped : (f : Tree → Tree) (ts : List Tree) → length (map f ts) ≡ length ts
length_mapped f [] = refl
length_mapped f (t ∷ ts) = ap suc (length_mapped f ts)

items_counted : (ls : List Level) (t : Tree) → has_level ls ≡ true → length (items (prune ls t)) ≡ length (items t)
items_counted ls t e = ap length (items_pruned ls t e) ∙ length_mapped (prune (of_items ls)) (items t)

whole_items : (ls : List Level) (t : Tree) → is_whole (of_items ls) ≡ true → items (prune ls t) ≡ items t
whole_items [] t e = absurd (true≢false (sym e))
whole_items (Whole ∷ ls) t e = refl
whole_items (Part text names ∷ []) t e = absurd (true≢false (sym e))
whole_items (Part text names ∷ Whole ∷ ls) t e =
    items_pruned (Part text names ∷ Whole ∷ ls) t refl ∙ sym (map_same (items t))
whole_items (Part text names ∷ Part text' names' ∷ ls) t e = absurd (true≢false (sym e))

-- ---- names

names_named : (ks : List (List ℕ)) → names_in (named ks) ≡ ks
names_named [] = refl
names_named (k ∷ ks) = ap (λ ls. k ∷ ls) (names_named ks)

both : (a b : Bool) → a ≡ true → (a && b) ≡ b
both true b e = refl
both false b e = absurd (true≢false (sym e))

name_stays : (ls : List Level) (ms : Members) (n : List ℕ) → is_name_wanted ls n ≡ true
    → has_name (prune ls (object ms)) n ≡ has_name (object ms) n
name_stays [] ms n e = absurd (true≢false (sym e))
name_stays (Whole ∷ ls) ms n e = refl
name_stays (Part text All ∷ ls) ms n e = ap (λ ks. is_member bytes_eq ks n) (names_named (names_in ms))
name_stays (Part text (Those names) ∷ ls) ms n e =
    let test = is_member bytes_eq (names_in ms) in
    let list = map string_bytes names.items in
    ap (λ ks. is_member bytes_eq ks n) (names_named (filter test list))
    ∙ is_member-filter nat_list_eq_equiv test n (λ x h. ap test ((bytes_eq-Decides n x).0 h)) list
    ∙ both (is_member bytes_eq list n) (test n) e

-- tests that agree on the members of a list
all_alike : (p q : List ℕ → Bool) (ns : List (List ℕ))
    → ((n : List ℕ) → is_member bytes_eq ns n ≡ true → p n ≡ q n) → list_all p ns ≡ list_all q ns
all_alike p q [] same = refl
all_alike p q (n ∷ ns) same =
    ap₂ (λ a b. a && b) (same n (ap (λ b. b || is_member bytes_eq ns n) (nat_list_eq_equiv.refl n)))
    (all_alike p q ns (λ k h. same k (ap (λ b. bytes_eq k n || b) h ∙ either (bytes_eq k n))))
  where
    either : (b : Bool) → (b || true) ≡ true
    either true = refl
    either false = refl

required_stays : (names : List (List ℕ)) (ls : List Level) (t : Tree) → SeesAssertion (required names) ls
    → required_holds names (prune ls t) ≡ required_holds names t
required_stays names [] null sees = refl
required_stays names [] (boolean b) sees = refl
required_stays names [] (number n) sees = refl
required_stays names [] (string s) sees = refl
required_stays names [] (array ts) sees = refl
required_stays names [] (object ms) sees =
    all_alike _ _ names (λ n h. name_stays [] ms n (sees n h))
required_stays names (Whole ∷ ls) t sees = refl
required_stays names (Part text wanted ∷ ls) null sees = refl
required_stays names (Part text wanted ∷ ls) (boolean b) sees = refl
required_stays names (Part text wanted ∷ ls) (number n) sees = refl
required_stays names (Part text wanted ∷ ls) (string s) sees = refl
required_stays names (Part text wanted ∷ ls) (array ts) sees = refl
required_stays names (Part text wanted ∷ ls) (object ms) sees =
    all_alike _ _ names (λ n h. name_stays (Part text wanted ∷ ls) ms n (sees n h))

-- ---- sizes

length_keys : (ms : Members) → length (member_list (named (names_in ms))) ≡ length (member_list ms)
length_keys no_members = refl
length_keys (member k t ms) = ap suc (length_keys ms)

members_counted : (ls : List Level) (t : Tree) → are_names_wanted ls ≡ true
    → length (members (prune ls t)) ≡ length (members t)
members_counted [] t e = absurd (true≢false (sym e))
members_counted (Whole ∷ ls) t e = refl
members_counted (Part text All ∷ ls) null e = refl
members_counted (Part text All ∷ ls) (boolean b) e = refl
members_counted (Part text All ∷ ls) (number n) e = refl
members_counted (Part text All ∷ ls) (string s) e = refl
members_counted (Part text All ∷ ls) (array ts) e = refl
members_counted (Part text All ∷ ls) (object ms) e = length_keys ms
members_counted (Part text (Those names) ∷ ls) t e = absurd (true≢false (sym e))

size_stays : (which : Size) (n : ℕ) (ls : List Level) (t : Tree) → SeesAssertion (size which n) ls
    → size_holds which n (prune ls t) ≡ size_holds which n t
size_stays MinItems n ls t sees = rw (array_stays ls t, items_counted ls t sees) refl
size_stays MaxItems n ls t sees = rw (array_stays ls t, items_counted ls t sees) refl
size_stays MinProperties n ls t sees =
    rw (outline_stays is_object (λ r s. refl, λ ts us. refl, λ ms ns. refl) ls t, members_counted ls t sees) refl
size_stays MaxProperties n ls t sees =
    rw (outline_stays is_object (λ r s. refl, λ ts us. refl, λ ms ns. refl) ls t, members_counted ls t sees) refl

-- ---- options

text_stays : (ls : List Level) (t : Tree) (d : List ℕ) → is_text_wanted ls ≡ true
    → equal (string d) (prune ls t) ≡ equal (string d) t
text_stays [] t d e = absurd (true≢false (sym e))
text_stays (Whole ∷ ls) t d e = refl
text_stays (Part true names ∷ ls) null d e = refl
text_stays (Part true names ∷ ls) (boolean b) d e = refl
text_stays (Part true names ∷ ls) (number n) d e = refl
text_stays (Part true names ∷ ls) (string s) d e = refl
text_stays (Part true names ∷ ls) (array ts) d e = refl
text_stays (Part true names ∷ ls) (object ms) d e = refl
text_stays (Part false names ∷ ls) t d e = absurd (true≢false (sym e))

whole_stays : (ls : List Level) (t : Tree) → is_whole ls ≡ true → prune ls t ≡ t
whole_stays [] t e = absurd (true≢false (sym e))
whole_stays (Whole ∷ ls) t e = refl
whole_stays (Part text names ∷ ls) t e = absurd (true≢false (sym e))

option_stays : (d : Data) (ls : List Level) (t : Tree) → SeesOption d ls
    → equal (tree_of d) (prune ls t) ≡ equal (tree_of d) t
option_stays value.null ls t sees =
    outline_stays (equal null) (λ r s. refl, λ ts us. refl, λ ms ns. refl) ls t
option_stays (value.boolean b) ls t sees =
    outline_stays (equal (boolean b)) (λ r s. refl, λ ts us. refl, λ ms ns. refl) ls t
option_stays (value.number n) ls t sees =
    outline_stays (equal (tree_of (value.number n))) (λ r s. refl, λ ts us. refl, λ ms ns. refl) ls t
option_stays (value.string s) ls t sees = text_stays ls t s sees
option_stays (value.array ds) ls t sees =
    ap₂ (λ is us. is && items_alike num_equal (items_of ds) us) (array_stays ls t) (whole_items ls t sees)
option_stays (value.object ms) ls t sees = ap (equal (tree_of (value.object ms))) (whole_stays ls t sees)

options_stay : (ds : value.Items) (ls : List Level) (t : Tree) → SeesOptions ds ls
    → is_option ds (prune ls t) ≡ is_option ds t
options_stay value.no_items ls t sees = refl
options_stay (value.item d ds) ls t sees =
    ap₂ (λ a b. a || b) (option_stays d ls t sees.0) (options_stay ds ls t sees.1)

-- ---- any assertion

assertion_stays : (a : Assertion) (ls : List Level) (t : Tree) → SeesAssertion a ls
    → assertion_holds a (prune ls t) ≡ assertion_holds a t
assertion_stays never ls t sees = refl
assertion_stays (type_is k by_value) ls t sees =
    outline_stays (assertion_holds (type_is k by_value)) (λ r s. refl, λ ts us. refl, λ ms ns. refl) ls t
assertion_stays (type_is k as_written) ls t sees =
    outline_stays (assertion_holds (type_is k as_written)) (λ r s. refl, λ ts us. refl, λ ms ns. refl) ls t
assertion_stays (size which n) ls t sees = size_stays which n ls t sees
assertion_stays (constant d) ls t sees = option_stays d ls t sees
assertion_stays (among ds) ls t sees = options_stay ds ls t sees
assertion_stays (limit r n) ls t sees =
    outline_stays (assertion_holds (limit r n)) (λ r s. refl, λ ts us. refl, λ ms ns. refl) ls t
assertion_stays (multiple_of m) ls t sees =
    outline_stays (assertion_holds (multiple_of m)) (λ r s. refl, λ ts us. refl, λ ms ns. refl) ls t
assertion_stays unique ls t sees = ap equality.unique (whole_items ls t sees)
assertion_stays (required names) ls t sees = required_stays names ls t sees
assertion_stays (at_most n) ls t sees = rw (items_counted ls t sees) refl

-- ---- schemas

counted_from : (p : Tree → Bool) (f : Tree → Tree) (n : ℕ) (ts : List Tree) → ((t : Tree) → p (f t) ≡ p t)
    → fold (λ a x. a + cond (p x) 1 0) n (map f ts) ≡ fold (λ a x. a + cond (p x) 1 0) n ts
counted_from p f n [] same = refl
counted_from p f n (t ∷ ts) same =
    counted_from p f (n + cond (p (f t)) 1 0) ts same
    ∙ ap (λ b. fold (λ a x. a + cond (p x) 1 0) (n + cond b 1 0) ts) (same t)

count_mapped : (p : Tree → Bool) (f : Tree → Tree) (ts : List Tree) → ((t : Tree) → p (f t) ≡ p t)
    → count_by p (map f ts) ≡ count_by p ts
count_mapped p f ts same = counted_from p f 0 ts same

all_mapped : (p : Tree → Bool) (f : Tree → Tree) (n : ℕ) (ts : List Tree) → ((t : Tree) → p (f t) ≡ p t)
    → list_all p (drop n (map f ts)) ≡ list_all p (drop n ts)
all_mapped p f zero [] same = refl
all_mapped p f (suc n) [] same = refl
all_mapped p f zero (t ∷ ts) same = rw (same t, all_mapped p f zero ts same) refl
all_mapped p f (suc n) (t ∷ ts) same = all_mapped p f n ts same

mutual
  pub holds_pruned : (s : Schema) (ls : List Level) → Sees s ls → (t : Tree) → holds s (prune ls t) ≡ holds s t
  holds_pruned (false_schema q) ls sees t = refl
  holds_pruned (schema_object q marks ks) ls sees t = all_pruned ks ls sees t

  all_pruned : (ks : Keywords) (ls : List Level) → SeesAll ks ls → (t : Tree)
      → all_hold ks (prune ls t) ≡ all_hold ks t
  all_pruned no_keywords ls sees t = refl
  all_pruned (keyword q k ks) ls sees t =
      ap₂ (λ a b. a && b) (keyword_pruned k ls sees.0 t) (all_pruned ks ls sees.1 t)

  keyword_pruned : (k : Keyword) (ls : List Level) → SeesKeyword k ls → (t : Tree)
      → keyword_holds k (prune ls t) ≡ keyword_holds k t
  keyword_pruned (assertion q a) ls sees t = assertion_stays a ls t sees
  keyword_pruned (contains s b) ls sees t =
      ap₂ (λ is n. not is || count_holds b n) (array_stays ls t)
      (ap (count_by (holds s)) (items_pruned ls t sees.0)
      ∙ count_mapped (holds s) (prune (of_items ls)) (items t) (holds_pruned s (of_items ls) sees.1))
  keyword_pruned (each_of prefix ss) ls sees t =
      ap (each_holds ss) (items_pruned ls t sees.0) ∙ each_pruned ss (of_items ls) sees.1 (items t)
  keyword_pruned (rest_of additional n s bare) ls sees t =
      ap (λ ts. list_all (holds s) (drop n ts)) (items_pruned ls t sees.0)
      ∙ all_mapped (holds s) (prune (of_items ls)) n (items t) (holds_pruned s (of_items ls) sees.1)

  each_pruned : (ss : Schemas) (ls : List Level) → SeesEach ss ls → (ts : List Tree)
      → each_holds ss (map (prune ls) ts) ≡ each_holds ss ts
  each_pruned no_schemas ls sees ts = refl
  each_pruned (schema s ss) ls sees [] = refl
  each_pruned (schema s ss) ls sees (t ∷ ts) =
      ap₂ (λ a b. a && b) (holds_pruned s ls sees.0 t) (each_pruned ss ls sees.1 ts)

pub the_law : PrunedAlike
the_law s ls t sees = holds_pruned s ls sees t
