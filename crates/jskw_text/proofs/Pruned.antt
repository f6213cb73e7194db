-- What is left of what is read, beside what is left of what the text denotes.
use Rattle.std.proofs.Common.{◌≡◌, ℕ, ◌≤◌, length, List, [], ◌∷◌, ◌++◌, map, filter, Bool, true, false, ◌||◌}
use Rattle.std.proofs.Common.{string_bytes, refl, sym}
use Rattle.std.proofs.Common.{ap, ap₂, ◌∙◌, subst, Result, Ok, Err, IfOk, Option, Some, None, IfSome, IfNone}
use Rattle.std.proofs.lemmas.Bool.{true≢false}
use Rattle.std.proofs.lemmas.Cmp.{nat_list_eq_equiv}
use Rattle.std.proofs.lemmas.List.{map-append}
use Rattle.std.proofs.lemmas.Slice.Eq.{bytes_eq-Decides}
use Rattle.std.specs.Cmp.Lexicographic.{slice_cmp}
use Rattle.std.specs.Ordering.{nat_cmp, match_ordering}
use Rattle.std.specs.Prelude.{⊤}
use Rattle.std.specs.Set.{is_member}
use Rattle.std.specs.Str.{bytes_eq}
use Rattle.std.specs.declared.cmp.Ordering.{Ordering}
use Rattle.std.specs.declared.cmp.Ordering.TheVariants.{Less, Equal, Greater}
use Rattle.jskw_value.specs.DecimalTree.{items_from}
use Rattle.jskw_value.specs.Tree.{Tree, string, array, object, item, Members, no_members, member}
use Rattle.jskw_value.specs.declared.decimal_tree.DecimalTree.{DecimalTree}
use Rattle.jskw_value.proofs.LastMembers.{one_name}
use Rattle.jskw_text.specs.Passing.{Passes, PassesLeaf, PassesName, PassesText, PassesUnwanted, Reads, Skips}
use Rattle.jskw_text.specs.Passing.{ReadsWanted}
use Rattle.jskw_text.specs.Reading.{put}
use Rattle.jskw_text.specs.Wanted.{of_items, of_values, is_text_wanted, is_whole, map_items, named, names_in, prune}
use Rattle.jskw_text.specs.Wanted.{wanted_names}
use Rattle.jskw_text.specs.Wanted.{wants_name, is_name_wanted}
use Rattle.jskw_text.specs.declared.wanted.Level.{Level}
use Rattle.jskw_text.specs.declared.wanted.Level.TheVariants.{Whole, Part}
use Rattle.jskw_text.specs.declared.wanted.Names.{Names}
use Rattle.jskw_text.specs.declared.wanted.Names.TheVariants.{All, Those}
use Rattle.jskw_text.proofs.Passing.{leaf_read, text_read, read_behind}

-- ---- all of it

value_same : (w : List Level) (t u : Tree) → prune (of_values w) t ≡ prune (of_values w) u → is_whole w ≡ true → t ≡ u
value_same [] t u same e = absurd (true≢false (sym e))
value_same (Whole ∷ ls) t u same e = same
value_same (Part text names ∷ ls) t u same e = absurd (true≢false (sym e))

-- ---- strings, and other tokens

text_alike : (w : List Level) (b : Bool) (r s : List ℕ) → b ≡ is_text_wanted w → (b ≡ true → r ≡ s)
    → prune w (string r) ≡ prune w (string s)
text_alike [] b r s e same = refl
text_alike (Whole ∷ ls) b r s e same = ap string (same e)
text_alike (Part text names ∷ ls) b r s e same = go text e
  where
    go : (x : Bool) → b ≡ x → prune (Part x names ∷ ls) (string r) ≡ prune (Part x names ∷ ls) (string s)
    go true h = ap string (same h)
    go false h = refl

pub text_taken : (w : List Level) (b : Bool) (depth : ℕ) (old inner : List ℕ) (t : Tree) (new : List ℕ)
    → b ≡ is_text_wanted w → Passes old [] inner → PassesText b inner t new → ReadsWanted w depth old t new
text_taken w b depth old inner t new e spaces text = (
  string text.0,
  read_behind depth old inner (string text.0) new spaces (text_read depth inner text.0 new text.1),
  ap (prune w) text.3 ∙ text_alike w b text.2 text.0 e text.4,
)

pub leaf_taken : (w : List Level) (depth : ℕ) (old inner : List ℕ) (t : Tree) (new : List ℕ) → Passes old [] inner
    → PassesLeaf inner t new → ReadsWanted w depth old t new
leaf_taken w depth old inner t new spaces leaf =
    (t, read_behind depth old inner t new spaces (leaf_read depth inner t new leaf), refl)

-- ---- items

map_whole : (ls : List Level) (ts : List Tree) → map (prune (Whole ∷ ls)) ts ≡ ts
map_whole ls [] = refl
map_whole ls (t ∷ ts) = ap (λ us. t ∷ us) (map_whole ls ts)

items_mapped : (f : Tree → Tree) (ts : List Tree) → map_items f (items_from ts) ≡ items_from (map f ts)
items_mapped f [] = refl
items_mapped f (t ∷ ts) = ap (item (f t)) (items_mapped f ts)

-- of the items the same is left
abbrev pub AlikeItems : List Level → List Tree → List Tree → Type 0
AlikeItems w ts us = map (prune (of_items w)) ts ≡ map (prune (of_items w)) us

pub one_more_alike : (w : List Level) (ts us : List Tree) (t u : Tree) → AlikeItems w ts us
    → prune (of_items w) t ≡ prune (of_items w) u → AlikeItems w (ts ++ t ∷ []) (us ++ u ∷ [])
one_more_alike w ts us t u same e =
    map-append (prune (of_items w)) ts (t ∷ []) ∙ ap₂ (λ xs x. xs ++ x ∷ []) same e
    ∙ sym (map-append (prune (of_items w)) us (u ∷ []))

pub array_alike : (w : List Level) (ts us : List Tree) → (w ≡ [] → ⊥) → AlikeItems w ts us
    → prune w (array (items_from ts)) ≡ prune w (array (items_from us))
array_alike [] ts us some same = absurd (some refl)
array_alike (Whole ∷ ls) ts us some same =
    ap (λ xs. array (items_from xs)) (sym (map_whole ls ts) ∙ same ∙ map_whole ls us)
array_alike (Part text names ∷ ls) ts us some same =
    ap array (items_mapped (prune ls) ts ∙ ap items_from same ∙ sym (items_mapped (prune ls) us))

-- ---- names of members

-- a name among others in order
abbrev put_name : List ℕ → List (List ℕ) → List (List ℕ)
put_name k [] = k ∷ []
put_name k (l ∷ ls) = match_ordering (slice_cmp nat_cmp k l) (k ∷ l ∷ ls) (l ∷ ls) (l ∷ put_name k ls)

names_put : (k : List ℕ) (t : Tree) (ms : Members) → names_in (put k t ms) ≡ put_name k (names_in ms)
names_put k t no_members = refl
names_put k t (member l u ms) = go (slice_cmp nat_cmp k l) (names_put k t ms)
  where
    go : (o : Ordering) → names_in (put k t ms) ≡ put_name k (names_in ms)
        → names_in (match_ordering o (member k t (member l u ms)) (member l t ms) (member l u (put k t ms)))
        ≡ match_ordering o (k ∷ l ∷ names_in ms) (l ∷ names_in ms) (l ∷ put_name k (names_in ms))
    go Less behind = refl
    go Equal behind = refl
    go Greater behind = ap (λ ks. l ∷ ks) behind

twice : (b c : Bool) → (b || c) ≡ (b || (b || c))
twice true c = refl
twice false c = refl

turned : (a b c : Bool) → (a || (b || c)) ≡ (b || (a || c))
turned true true c = refl
turned true false c = refl
turned false b c = refl

among_put : (k n : List ℕ) (ks : List (List ℕ))
    → is_member bytes_eq (put_name k ks) n ≡ (bytes_eq n k || is_member bytes_eq ks n)
among_put k n [] = refl
among_put k n (l ∷ ls) = go (slice_cmp nat_cmp k l) refl (among_put k n ls)
  where
    go : (o : Ordering) → slice_cmp nat_cmp k l ≡ o
        → is_member bytes_eq (put_name k ls) n ≡ (bytes_eq n k || is_member bytes_eq ls n)
        → is_member bytes_eq (match_ordering o (k ∷ l ∷ ls) (l ∷ ls) (l ∷ put_name k ls)) n
        ≡ (bytes_eq n k || is_member bytes_eq (l ∷ ls) n)
    go Less e behind = refl
    go Equal e behind =
        ap (λ x. bytes_eq n x || is_member bytes_eq ls n) (sym (one_name k l e))
        ∙ twice (bytes_eq n k) (is_member bytes_eq ls n)
        ∙ ap (λ x. bytes_eq n k || (bytes_eq n x || is_member bytes_eq ls n)) (one_name k l e)
    go Greater e behind =
        ap (λ b. bytes_eq n l || b) behind
        ∙ turned (bytes_eq n l) (bytes_eq n k) (is_member bytes_eq ls n)

-- the wanted names are among both, or among none
abbrev pub SameNames : Names → List (List ℕ) → List (List ℕ) → Type 0
SameNames All ks ls = ks ≡ ls
SameNames (Those names) ks ls =
    (n : List ℕ) → is_member bytes_eq (map string_bytes names.items) n ≡ true
    → is_member bytes_eq ks n ≡ is_member bytes_eq ls n

-- tests that agree on the members of a list
filtered : (p q : List ℕ → Bool) (ns : List (List ℕ))
    → ((n : List ℕ) → is_member bytes_eq ns n ≡ true → p n ≡ q n) → filter p ns ≡ filter q ns
filtered p q [] same = refl
filtered p q (n ∷ ns) same =
    let here : p n ≡ q n = same n (ap (λ b. b || is_member bytes_eq ns n) (nat_list_eq_equiv.refl n)) in
    let behind = filtered p q ns (λ k h. same k (ap (λ b. bytes_eq k n || b) h ∙ either (bytes_eq k n))) in
    rw (here, behind) refl
  where
    either : (b : Bool) → (b || true) ≡ true
    either true = refl
    either false = refl

wanted_same : (names : Names) (ks ls : List (List ℕ)) → SameNames names ks ls
    → wanted_names names ks ≡ wanted_names names ls
wanted_same All ks ls same = same
wanted_same (Those names) ks ls same =
    filtered (is_member bytes_eq ks) (is_member bytes_eq ls) (map string_bytes names.items) same

put_in_both : (names : Names) (k : List ℕ) (ks ls : List (List ℕ)) → SameNames names ks ls
    → SameNames names (put_name k ks) (put_name k ls)
put_in_both All k ks ls same = ap (put_name k) same
put_in_both (Those names) k ks ls same = λ n h.
    among_put k n ks ∙ ap (λ b. bytes_eq n k || b) (same n h) ∙ sym (among_put k n ls)

other : (k n : List ℕ) (ns : List (List ℕ)) → is_member bytes_eq ns k ≡ false → is_member bytes_eq ns n ≡ true
    → bytes_eq n k ≡ false
other k n ns e h = go (bytes_eq n k) refl
  where
    go : (b : Bool) → bytes_eq n k ≡ b → b ≡ false
    go false s = refl
    go true s = absurd (true≢false (sym h ∙ ap (is_member bytes_eq ns) ((bytes_eq-Decides n k).0 s) ∙ e))

put_in_one : (names : Names) (k : List ℕ) (ks ls : List (List ℕ)) → wants_name names k ≡ false
    → SameNames names ks ls → SameNames names ks (put_name k ls)
put_in_one All k ks ls e same = absurd (true≢false e)
put_in_one (Those names) k ks ls e same = λ n h.
    same n h ∙ ap (λ b. b || is_member bytes_eq ls n) (sym (other k n (map string_bytes names.items) e h))
    ∙ sym (among_put k n ls)

-- ---- members

-- of the members the same is left
abbrev pub AlikeMembers : List Level → Members → Members → Type 0
AlikeMembers [] ms ns = ⊤
AlikeMembers (Whole ∷ ls) ms ns = ms ≡ ns
AlikeMembers (Part text names ∷ ls) ms ns = SameNames names (names_in ms) (names_in ns)

pub none_alike : (w : List Level) → AlikeMembers w no_members no_members
none_alike [] = tt
none_alike (Whole ∷ ls) = refl
none_alike (Part text All ∷ ls) = refl
none_alike (Part text (Those names) ∷ ls) = λ n h. refl

pub object_alike : (w : List Level) (ms ns : Members) → AlikeMembers w ms ns
    → prune w (object ms) ≡ prune w (object ns)
object_alike [] ms ns same = refl
object_alike (Whole ∷ ls) ms ns same = ap object same
object_alike (Part text names ∷ ls) ms ns same =
    ap (λ ks. object (named ks)) (wanted_same names (names_in ms) (names_in ns) same)

pub put_alike : (w : List Level) (k : List ℕ) (t u : Tree) (ms ns : Members) → AlikeMembers w ms ns
    → (is_whole w ≡ true → t ≡ u) → AlikeMembers w (put k t ms) (put k u ns)
put_alike [] k t u ms ns same e = tt
put_alike (Whole ∷ ls) k t u ms ns same e = ap₂ (put k) (e refl) same
put_alike (Part text names ∷ ls) k t u ms ns same e =
    rw (names_put k t ms, names_put k u ns) (put_in_both names k (names_in ms) (names_in ns) same)

pub passed_alike : (w : List Level) (k : List ℕ) (u : Tree) (ms ns : Members) → AlikeMembers w ms ns
    → is_name_wanted w k ≡ false → AlikeMembers w ms (put k u ns)
passed_alike [] k u ms ns same e = tt
passed_alike (Whole ∷ ls) k u ms ns same e = absurd (true≢false e)
passed_alike (Part text names ∷ ls) k u ms ns same e =
    rw (names_put k u ns) (put_in_one names k (names_in ms) (names_in ns) e same)

-- ---- results

abbrev held : {A : Type 0} → A → Option A → A
held a (Some b) = b
held a None = a

pub when_some : {A : Type 0} (P : A → Type 0) (o : Option A) (a : A) → o ≡ Some a → IfSome o P → P a
when_some P (Some b) a e p = subst P (ap (held b) e) p
when_some P None a e p = cc

pub when_none : {A : Type 0} (P : Type 0) (o : Option A) → o ≡ None → IfNone o P → P
when_none P (Some b) e p = cc
when_none P None e p = p

-- ---- the whole text

pub if_taken : {E : Type 0} {P Q : DecimalTree → Type 0} (r : Result DecimalTree E) → ((t : DecimalTree) → P t → Q t)
    → IfOk r P → IfOk r Q
if_taken (Ok t) f p = f t p
if_taken (Err e) f p = tt

-- ---- one member more

-- a name and a value come first, and the members that are kept then are alike
abbrev pub ReadsMember : List Level → ℕ → List ℕ → Members → Members → List ℕ → Type 0
ReadsMember w depth old ms ns new =
    (k : List ℕ) × (named : List ℕ) × (u : Tree) × PassesName old k named × Reads depth named u new
    × (length new ≤ length named) × AlikeMembers w ms (put k u ns)

pub member_kept : (w : List Level) (depth : ℕ) (old k named : List ℕ) (t : Tree) (inner new : List ℕ)
    (found more us : Members) → AlikeMembers w found us → PassesName old k named
    → ReadsWanted (of_values w) depth named t inner
    → length inner ≤ length named → more ≡ put k t found → new ≡ inner → ReadsMember w depth old more us new
member_kept w depth old k named t inner new found more us same name value shorter added is =
    rw (is, added) (
      k,
      named,
      value.0,
      name,
      value.1,
      shorter,
      put_alike w k t value.0 found us same (value_same w t value.0 value.2),
    )

pub member_skipped : (w : List Level) (depth : ℕ) (old named inner new : List ℕ) (found more us : Members)
    → AlikeMembers w found us → PassesUnwanted w old named → Skips depth named inner → length inner ≤ length named
    → more ≡ found → new ≡ inner → ReadsMember w depth old more us new
member_skipped w depth old named inner new found more us same name value shorter kept is =
    rw (is, kept) (
      name.0,
      named,
      value.0,
      name.1,
      value.1,
      shorter,
      passed_alike w name.0 value.0 found us same name.2,
    )
