-- Trees that are the same, and lists of such trees.
use Rattle.std.proofs.Common.{◌≡◌, ℕ, zero, suc, ◌+◌, List, [], ◌∷◌, drop, length, count_by, sum_by, Bool, true}
use Rattle.std.proofs.Common.{◌||◌, cond, if◌then◌else◌, refl, sym, ap, ap₂, subst, ◌∙◌}
use Rattle.std.proofs.lemmas.Bool.{true≢false, not-true}
use Rattle.std.proofs.lemmas.Cmp.{nat_list_eq_equiv}
use Rattle.std.proofs.lemmas.List.Sums.{sum_by-cons}
use Rattle.std.proofs.lemmas.Map.Entries.{length-keys_of}
use Rattle.std.proofs.lemmas.Map.Keys.{IsDistinct-cons}
use Rattle.std.proofs.lemmas.Map.Made.{length-from_same_keys}
use Rattle.std.proofs.lemmas.Slice.Eq.{bytes_eq-Decides}
use Rattle.std.proofs.Math.Seq.{drop-nil}
use Rattle.std.specs.Cmp.{booleans_Decides}
use Rattle.std.specs.List.{list_all, list_any, IsDistinct}
use Rattle.std.specs.Map.{keys_of}
use Rattle.std.specs.Str.{bytes_eq}
use Rattle.jskw_value.specs.Equality.{same, items_alike}
use Rattle.jskw_value.specs.Number.{num_same}
use Rattle.jskw_value.specs.Tree.{Tree, null, boolean, number, string, array, object, Items, no_items, item, Members}
use Rattle.jskw_value.specs.Tree.{no_members, member, item_list, member_list, items, members, names, has_name, is_array}
use Rattle.jskw_value.specs.Tree.{is_object, has_distinct_names, items_distinct, members_distinct}
use Rattle.jskw_value.proofs.AlikeTrees.{names_found}
use Rattle.jskw_value.proofs.Booleans.{left_of, right_of, both, each_way}
use Rattle.jskw_value.proofs.Numbers.{num_same_is}
use Rattle.jskw_value.proofs.SameNames.{among_all, apart}
use Rattle.jskw_report.specs.Applications.{sum_to_failure}

-- t and u are the same tree, and each has distinct names
pub record Twin (t u : Tree) : Type 0 where
  pub left : has_distinct_names t ≡ true
  pub right : has_distinct_names u ≡ true
  pub alike : same t u ≡ true

-- two lists of the same trees, in one order
pub data Twins : List Tree → List Tree → Type 0 where
  no_twins : Twins [] []
  twins : {t u : Tree} {ts us : List Tree} → Twin t u → Twins ts us → Twins (t ∷ ts) (u ∷ us)

-- ---- one level

-- what holds of a tree without items and itself, of two arrays and of two objects holds of two trees
pub by_shape : (R : Tree → Tree → Type 0) → ((t : Tree) → items t ≡ [] → R t t)
    → ((ts us : Items) → Twin (array ts) (array us) → R (array ts) (array us))
    → ((ms ns : Members) → Twin (object ms) (object ns) → R (object ms) (object ns)) → (t u : Tree) → Twin t u → R t u
by_shape R l a o null null w = l null refl
by_shape R l a o null _ w = absurd (true≢false (sym w.alike))
by_shape R l a o (boolean x) (boolean y) w =
    subst (λ b. R (boolean x) (boolean b)) ((booleans_Decides x y).0 w.alike) (l (boolean x) refl)
by_shape R l a o (boolean x) _ w = absurd (true≢false (sym w.alike))
by_shape R l a o (number m) (number n) w =
    subst (λ b. R (number m) (number b)) (num_same_is m n w.alike) (l (number m) refl)
by_shape R l a o (number m) _ w = absurd (true≢false (sym w.alike))
by_shape R l a o (string s) (string r) w =
    subst (λ b. R (string s) (string b)) ((bytes_eq-Decides s r).0 w.alike) (l (string s) refl)
by_shape R l a o (string s) _ w = absurd (true≢false (sym w.alike))
by_shape R l a o (array ts) (array us) w = a ts us w
by_shape R l a o (array ts) _ w = absurd (true≢false (sym w.alike))
by_shape R l a o (object ms) (object ns) w = o ms ns w
by_shape R l a o (object ms) _ w = absurd (true≢false (sym w.alike))

-- a test that tells neither arrays nor objects apart
pub on_leaves : {A : Type 0} (f : Tree → A) → ((ts us : Items) → f (array ts) ≡ f (array us))
    → ((ms ns : Members) → f (object ms) ≡ f (object ns)) → (t u : Tree) → Twin t u → f t ≡ f u
on_leaves f a o t u w = by_shape (λ t u. f t ≡ f u) (λ t e. refl) (λ ts us w. a ts us) (λ ms ns w. o ms ns) t u w

-- the same trees are arrays or neither is
pub array_same : (t u : Tree) → Twin t u → is_array t ≡ is_array u
array_same t u w = on_leaves is_array (λ ts us. refl) (λ ms ns. refl) t u w

-- the same trees are objects or neither is
pub object_same : (t u : Tree) → Twin t u → is_object t ≡ is_object u
object_same t u w = on_leaves is_object (λ ts us. refl) (λ ms ns. refl) t u w

-- arrays that are the same have the same items
pub items_twins : (ts us : Items) → items_distinct ts ≡ true → items_distinct us ≡ true
    → items_alike num_same ts (item_list us) ≡ true → Twins (item_list ts) (item_list us)
items_twins no_items no_items d e h = no_twins
items_twins (item t ts) (item u us) d e h =
    twins (record { left = left_of _ _ d; right = left_of _ _ e; alike = left_of _ _ h })
    (items_twins ts us (right_of _ _ d) (right_of _ _ e) (right_of _ _ h))
items_twins no_items (item u us) d e h = absurd (true≢false (sym h))
items_twins (item t ts) no_items d e h = absurd (true≢false (sym h))

-- the items of the same tree
pub twin_items : (t u : Tree) → Twin t u → Twins (items t) (items u)
twin_items t u w =
    by_shape (λ t u. Twins (items t) (items u)) (λ t e. subst (λ ts. Twins ts ts) (sym e) no_twins)
    (λ ts us w. items_twins ts us w.left w.right w.alike) (λ ms ns w. no_twins) t u w

-- the names of the members are distinct
pub distinct_names : (ms : Members) → members_distinct ms ≡ true → IsDistinct bytes_eq (keys_of (member_list ms))
unfolding IsDistinct
distinct_names no_members d = tt
distinct_names (member k t ms) d =
    IsDistinct-cons bytes_eq k _ (apart k _ (not-true (has_name (object ms) k) (left_of _ _ (left_of _ _ d))))
    (distinct_names ms (right_of _ _ d))

-- objects that are the same have the same names
pub names_same : (ms ns : Members) → Twin (object ms) (object ns) → (k : List ℕ)
    → has_name (object ms) k ≡ has_name (object ns) k
names_same ms ns w k = each_way (has_name (object ms) k) (has_name (object ns) k)
    (among_all (names (object ms)) (names (object ns)) (names_found num_same ms (object ns) (left_of _ _ w.alike)) k)
    (among_all (names (object ns)) (names (object ms)) (right_of _ _ w.alike) k)

-- trees that are the same have the same names
pub name_same : (k : List ℕ) (t u : Tree) → Twin t u → has_name t k ≡ has_name u k
name_same k t u w =
    by_shape (λ t u. has_name t k ≡ has_name u k) (λ t e. refl) (λ ts us w. refl)
    (λ ms ns w. names_same ms ns w k) t u w

-- trees that are the same have as many members
pub count_same : (t u : Tree) → Twin t u → length (members t) ≡ length (members u)
count_same t u w = by_shape (λ t u. length (members t) ≡ length (members u)) (λ t e. refl) (λ ts us w. refl)
    (λ ms ns w. sym (length-keys_of (member_list ms)) ∙ length-from_same_keys nat_list_eq_equiv (names (object ms))
    (names (object ns)) (distinct_names ms w.left) (distinct_names ns w.right) (names_same ms ns w)
    ∙ length-keys_of (member_list ns)) t u w

-- ---- lists

-- lists of the same trees are equally long
pub twins_length : (ts us : List Tree) → Twins ts us → length ts ≡ length us
twins_length _ _ no_twins = refl
twins_length _ _ (twins {t} {u} {ts} {us} w ws) = ap suc (twins_length ts us ws)

-- lists of the same trees are so from an index on
pub twins_drop : (n : ℕ) (ts us : List Tree) → Twins ts us → Twins (drop n ts) (drop n us)
twins_drop n _ _ no_twins = subst (λ ts. Twins ts ts) (sym (drop-nil n)) no_twins
twins_drop zero _ _ (twins {t} {u} {ts} {us} w ws) = twins w ws
twins_drop (suc n) _ _ (twins {t} {u} {ts} {us} w ws) = twins_drop n ts us ws

-- a function that twins share
abbrev pub Shared : {A : Type 0} → (Tree → A) → Type 0
Shared f = (t u : Tree) → Twin t u → f t ≡ f u

-- a test of all items
pub all_same : (f : Tree → Bool) → Shared f → (ts us : List Tree) → Twins ts us → list_all f ts ≡ list_all f us
all_same f e _ _ no_twins = refl
all_same f e _ _ (twins {t} {u} {ts} {us} w ws) = both (e t u w) (all_same f e ts us ws)

-- a test of some item
pub any_same : (f : Tree → Bool) → Shared f → (ts us : List Tree) → Twins ts us → list_any f ts ≡ list_any f us
any_same f e _ _ no_twins = refl
any_same f e _ _ (twins {t} {u} {ts} {us} w ws) = ap₂ (λ b c. b || c) (e t u w) (any_same f e ts us ws)

-- a sum over the items
pub sum_same : (f : Tree → ℕ) → Shared f → (ts us : List Tree) → Twins ts us → sum_by f ts ≡ sum_by f us
sum_same f e _ _ no_twins = refl
sum_same f e _ _ (twins {t} {u} {ts} {us} w ws) =
    sum_by-cons f t ts ∙ ap₂ (λ m n. m + n) (e t u w) (sum_same f e ts us ws) ∙ sym (sum_by-cons f u us)

-- the number of items that match
pub matches_same : (f : Tree → Bool) → Shared f → (ts us : List Tree) → Twins ts us → count_by f ts ≡ count_by f us
matches_same f e ts us w = sum_same (λ t. cond (f t) 1 0) (λ t u w. ap (λ b. cond b 1 0) (e t u w)) ts us w

-- a sum up to the first failure
pub to_failure_same : (f : Tree → Bool) (g : Tree → ℕ) → Shared f → Shared g → (ts us : List Tree) → Twins ts us
    → sum_to_failure f g ts ≡ sum_to_failure f g us
to_failure_same f g e h _ _ no_twins = refl
to_failure_same f g e h _ _ (twins {t} {u} {ts} {us} w ws) =
    ap₂ (λ m n. m + n) (h t u w) (ap₂ (λ b n. if b then n else 0) (e t u w) (to_failure_same f g e h ts us ws))
