-- Names that are put together item by item, each once.
use Rattle.std.proofs.Common.{◌≡◌, ℕ, ◌+◌, ◌<◌, ◌≤◌, List, [], ◌∷◌, ◌++◌, length, drop, get_or, filter, Bool, true}
use Rattle.std.proofs.Common.{false, not, ◌&&◌, ◌||◌, cond, Bor, Result, Ok, Err, refl, ap, subst, sym, ◌∙◌}
use Rattle.std.proofs.Common.{append_assoc}
use Rattle.std.proofs.Math.Bool.{or-false, or_comm}
use Rattle.std.proofs.lemmas.Bool.{cond_both}
use Rattle.std.proofs.lemmas.Cmp.{nat_list_eq_equiv}
use Rattle.std.proofs.lemmas.List.{append-nil, at_drop_all, at_drop_more}
use Rattle.std.proofs.lemmas.List.Folds.{list_any-append}
use Rattle.std.proofs.lemmas.Map.Keys.{IsDistinct-cons, IsDistinct-push}
use Rattle.std.proofs.lemmas.Map.Made.{alike_from_same}
use Rattle.std.proofs.lemmas.Map.Text.{is_eq-slice_cmp}
use Rattle.std.proofs.lemmas.Slice.Eq.{bytes_eq-Decides}
use Rattle.std.specs.BTreeSet.{BTreeSet, UpdatesBy, contains_by}
use Rattle.std.specs.Cmp.Lexicographic.{slice_cmp}
use Rattle.std.specs.Ordering.{nat_cmp}
use Rattle.std.specs.declared.cmp.Ordering.{Ordering}
use Rattle.std.specs.List.{IsDistinct, fold}
use Rattle.std.specs.Str.{bytes_eq}
use Rattle.serde_json.specs.Data.{Data, string, Items, item}
use Rattle.serde_json.specs.View.{view, items_view}
use Rattle.serde_json.specs.declared.value.Value.{Value}
use Rattle.jskw_value.specs.Pointer.{Pointer}
use Rattle.jskw_report.specs.KeywordValue.{Refusal, join_ok, map_ok, texts, distinct}
use Rattle.jskw_value.proofs.MembersByPlace.{distinct_none}
use Rattle.jskw_leaf.specs.Required.{is_among, name_value}

-- ---- one name after another

-- a name goes to the end, unless it is there
abbrev pub add : List (List ℕ) → List ℕ → List (List ℕ)
add done n = cond (is_among done n) done (done ++ n ∷ [])

-- the names that are there once a name was added
among_added : (done : List (List ℕ)) (n m : List ℕ) → is_among (add done n) m ≡ (bytes_eq n m || is_among done m)
among_added done n m =
    cond_both (is_among done n) done (done ++ n ∷ []) (λ ns. is_among ns m ≡ (bytes_eq n m || is_among done m))
    (λ h. absorbed (bytes_eq n m) (is_among done m)
    (λ e. sym (alike_from_same bytes_eq-Decides (is_among done) n m e) ∙ h))
    (λ h. list_any-append (bytes_eq m) done (n ∷ [])
    ∙ rw (or-false (bytes_eq m n), nat_list_eq_equiv.symm m n) (or_comm (is_among done m) (bytes_eq n m)))
  where
    absorbed : (a b : Bool) → (a ≡ true → b ≡ true) → b ≡ (a || b)
    absorbed true b h = h refl
    absorbed false b h = refl

-- two tests one after another are both
filter_both : (p q r : List ℕ → Bool) → ((n : List ℕ) → r n ≡ (q n && p n)) → (ns : List (List ℕ))
    → filter r ns ≡ filter p (filter q ns)
filter_both p q r h [] = refl
filter_both p q r h (n ∷ ns) = rw (h n, filter_both p q r h ns) (go (q n))
  where
    go : (b : Bool) → cond (b && p n) (n ∷ filter p (filter q ns)) (filter p (filter q ns))
        ≡ filter p (cond b (n ∷ filter q ns) (filter q ns))
    go true = refl
    go false = refl

-- the names that come after others are those of them that are none of the others, each once
after : (done ns : List (List ℕ)) → fold add done ns ≡ done ++ filter (λ m. not (is_among done m)) (distinct ns)
after done [] = sym (append-nil done)
after done (n ∷ ns) =
    after (add done n) ns
    ∙ ap (λ xs. add done n ++ xs) (filter_both (λ m. not (is_among done m)) (λ m. not (bytes_eq n m)) _
    (λ m. ap not (among_added done n m) ∙ neither (bytes_eq n m) (is_among done m)) (distinct ns))
    ∙ go (is_among done n) (filter (λ m. not (is_among done m)) (filter (λ m. not (bytes_eq n m)) (distinct ns)))
  where
    neither : (a b : Bool) → not (a || b) ≡ (not a && not b)
    neither true b = refl
    neither false b = refl

    go : (b : Bool) (rest : List (List ℕ)) → cond b done (done ++ n ∷ []) ++ rest ≡ done ++ cond (not b) (n ∷ rest) rest
    go true rest = refl
    go false rest = append_assoc done (n ∷ []) rest

-- put together from nothing, names are each once
pub from_none : (r : Result (List (List ℕ)) Refusal) → map_ok (fold add []) r ≡ map_ok distinct r
from_none (Ok ns) = ap Ok (after [] ns ∙ all (distinct ns))
  where
    all : (ns : List (List ℕ)) → filter (λ m. not (is_among [] m)) ns ≡ ns
    all [] = refl
    all (n ∷ ns) = ap (λ xs. n ∷ xs) (all ns)
from_none (Err x) = refl

-- ---- items

-- the items from index i on
at_item : (p : Pointer) (vs : List Value) (i : ℕ) (d : Value) → i < length vs → d ≡ get_or vs i d
    → texts p (items_view (drop i vs))
    ≡ join_ok (λ n ns. n ∷ ns) (name_value p (view d)) (texts p (items_view (drop (i + 1) vs)))
at_item p vs i d h e =
    at_drop_more (λ xs. texts p (items_view xs)) vs i d h ∙ ap (λ x. texts p (item (view x) rest)) (sym e)
    ∙ first (view d)
  where
    rest : Items
    rest = items_view (drop (i + 1) vs)

    first : (d : Data) → texts p (item d rest) ≡ join_ok (λ n ns. n ∷ ns) (name_value p d) (texts p rest)
    first (string s) = refl
    first _ = refl

-- the item at index i is a name
pub next_name : (p : Pointer) (vs : List Value) (i : ℕ) (d : Value) (done : List (List ℕ)) (n : List ℕ) → i < length vs
    → d ≡ get_or vs i d → name_value p (view d) ≡ Ok n
    → map_ok (fold add done) (texts p (items_view (drop i vs)))
    ≡ map_ok (fold add (add done n)) (texts p (items_view (drop (i + 1) vs)))
next_name p vs i d done n h e is = rw (at_item p vs i d h e, is) (go (texts p (items_view (drop (i + 1) vs))))
  where
    go : (r : Result (List (List ℕ)) Refusal)
        → map_ok (fold add done) (map_ok (λ ns. n ∷ ns) r) ≡ map_ok (fold add (add done n)) r
    go (Ok ns) = refl
    go (Err x) = refl

-- the item at index i is no name
pub next_fault : (p : Pointer) (vs : List Value) (i : ℕ) (d : Value) (done : List (List ℕ)) (f : Refusal)
    → i < length vs → d ≡ get_or vs i d → name_value p (view d) ≡ Err f
    → map_ok (fold add done) (texts p (items_view (drop i vs))) ≡ Err f
next_fault p vs i d done f h e is = rw (at_item p vs i d h e, is) refl

-- no item is left
pub none_after : (p : Pointer) (vs : List Value) (n : ℕ) (done : List (List ℕ)) → length vs ≤ n
    → map_ok (fold add done) (texts p (items_view (drop n vs))) ≡ Ok done
none_after p vs n done h = at_drop_all (λ xs. map_ok (fold add done) (texts p (items_view xs))) vs n h

-- ---- a set of the names that were met

-- the name is in the set
abbrev pub sees : BTreeSet (Bor (List ℕ)) → List ℕ → Bool
sees s n = contains_by (λ k. slice_cmp nat_cmp n k.now) s

-- how the set orders names
abbrev order : Bor (List ℕ) → Bor (List ℕ) → Ordering
order a b = slice_cmp nat_cmp a.now b.now

-- a set that sees the names so far sees them with one more, once that is put in
pub seen_added : (n : Bor (List ℕ)) (s t : BTreeSet (Bor (List ℕ))) (done : List (List ℕ))
    → UpdatesBy order (order n) s t true → ((m : List ℕ) → sees s m ≡ is_among done m)
    → (m : List ℕ) → sees t m ≡ is_among (add done n.now) m
seen_added n s t done u h m =
    u.0 (record { ref_ptr = (0, 0); now = m }) ∙ ap (λ b. cond b true (sees s m)) (is_eq-slice_cmp n.now m)
    ∙ go (bytes_eq n.now m) ∙ sym (among_added done n.now m)
  where
    go : (b : Bool) → cond b true (sees s m) ≡ (b || is_among done m)
    go true = refl
    go false = h m

-- ---- distinct names

-- distinct names stay so with one more
added_once : (done ns : List (List ℕ)) → IsDistinct bytes_eq done → IsDistinct bytes_eq (fold add done ns)
added_once done [] d = d
added_once done (n ∷ ns) d =
    added_once (add done n) ns (cond_both (is_among done n) done (done ++ n ∷ []) (IsDistinct bytes_eq) (λ h. d)
    (IsDistinct-push nat_list_eq_equiv done n d))

pub one_once : (n : List ℕ) → IsDistinct bytes_eq (n ∷ [])
one_once n = IsDistinct-cons bytes_eq n [] tt distinct_none

-- the names that were read are distinct
pub read_once : (r : Result (List (List ℕ)) Refusal) (ns : List (List ℕ)) → map_ok distinct r ≡ Ok ns
    → IsDistinct bytes_eq ns
read_once (Ok ms) ns e = let is : fold add [] ms ≡ ns = cc (from_none (Ok ms)) in
    subst (IsDistinct bytes_eq) is (added_once [] ms distinct_none)
read_once (Err f) ns e = cc
