-- Trees that are alike: reflexive, symmetric and transitive, where the comparison of numbers is.
use Rattle.std.proofs.Common.{◌≡◌, ℕ, List, Bool, true, false, not, Option, Some, None, is_some, refl, sym, ap, subst}
use Rattle.std.proofs.Common.{◌∙◌, inl, inr}
use Rattle.std.proofs.lemmas.Bool.{and_from, and_parts, both_ways, cases_Bool, false_from_ne_true, not-true}
use Rattle.std.proofs.lemmas.Cmp.{nat_list_eq_equiv}
use Rattle.std.proofs.lemmas.Map.Entries.{lookup_head, lookup_tail}
use Rattle.std.proofs.lemmas.Map.Made.{is_some-lookup}
use Rattle.std.proofs.lemmas.Option.{same_Some}
use Rattle.std.proofs.lemmas.Slice.Eq.{bytes_eq-Decides}
use Rattle.std.specs.Bool.{beq}
use Rattle.std.specs.Cmp.{booleans_Decides}
use Rattle.std.specs.List.{list_all}
use Rattle.std.specs.Map.{keys_of}
use Rattle.std.specs.Option.{option_map_or}
use Rattle.std.specs.Str.{bytes_eq}
use Rattle.jskw_value.specs.Equality.{alike, items_alike, members_alike, equal, same}
use Rattle.jskw_value.specs.Number.{Num, is_exact, num_equal, num_same}
use Rattle.jskw_value.specs.Tree.{Tree, null, boolean, number, string, array, object, Items, no_items, item, Members}
use Rattle.jskw_value.specs.Tree.{no_members, member, item_list, member_list, members, names, get, has_name, is_lawful}
use Rattle.jskw_value.specs.Tree.{items_lawful, members_lawful, has_distinct_names, items_distinct, members_distinct}
use Rattle.jskw_value.proofs.Booleans.{each_way}
use Rattle.jskw_value.proofs.Lookups.{passed}
use Rattle.jskw_value.proofs.Numbers.{num_equal_refl, num_equal_symm, num_equal_trans, num_same_is, num_same_refl}
use Rattle.jskw_value.proofs.SameNames.{among_all, all_from_each, named_from_test}

-- ---- members by name

-- what is found has its name
pub named_from_get : (k : List ℕ) (t x : Tree) → get k t ≡ Some x → has_name t k ≡ true
named_from_get k t x e = sym (is_some-lookup (bytes_eq k) (members t)) ∙ ap is_some e

-- a name that is there finds something
pub get_from_named : (k : List ℕ) (t : Tree) → has_name t k ≡ true → (x : Tree) × (get k t ≡ Some x)
get_from_named k t h = go (get k t) refl (is_some-lookup (bytes_eq k) (members t) ∙ h)
  where
    go : (o : Option Tree) → get k t ≡ o → is_some o ≡ true → (x : Tree) × (get k t ≡ Some x)
    go None e h = absurd (cc)
    go (Some x) e h = (x, e)

-- the first member is found by its name
get_head : (k : List ℕ) (t : Tree) (ms : Members) → get k (object (member k t ms)) ≡ Some t
get_head k t ms = lookup_head (bytes_eq k) (k, t) (member_list ms) (nat_list_eq_equiv.refl k)

-- what the later members have is found, where the first has another name
get_tail : (k : List ℕ) (t : Tree) (ms : Members) → not (has_name (object ms) k) ≡ true → (l : List ℕ) (x : Tree)
    → get l (object ms) ≡ Some x → get l (object (member k t ms)) ≡ Some x
get_tail k t ms d l x e = lookup_tail (bytes_eq l) (k, t) (member_list ms) differs ∙ e
  where
    differs : bytes_eq l k ≡ false
    differs = false_from_ne_true _ (λ h. both_ways (has_name (object ms) k) (not-true _ d)
        (subst (λ q. has_name (object ms) q ≡ true) ((bytes_eq-Decides l k).0 h) (named_from_get l (object ms) x e)))

-- what u has of a name of the members, alike to what they have
pub get_alike : (f : Num → Num → Bool) (ms : Members) (u : Tree) → members_alike f ms u ≡ true → (k : List ℕ) (x : Tree)
    → get k (object ms) ≡ Some x → (y : Tree) × ((get k u ≡ Some y) × (alike f x y ≡ true))
get_alike f no_members u h k x e = absurd (cc)
get_alike f (member l t ms) u h k x e = elim (cases_Bool (bytes_eq k l)) [
  | inl d ↦ let y = passed (alike f t) (get l u) (and_parts _ _ h).0 in
      let here = same_Some t x (sym (lookup_head (bytes_eq k) (l, t) (member_list ms) d) ∙ e) in
      (y.0, (ap (λ q. get q u) ((bytes_eq-Decides k l).0 d) ∙ y.1.0, subst (λ z. alike f z y.0 ≡ true) here y.1.1))
  | inr d ↦ get_alike f ms u (and_parts _ _ h).1 k x (sym (lookup_tail (bytes_eq k) (l, t) (member_list ms) d) ∙ e)
]

-- the names of members that are alike to some of u are names of u
pub names_found : (f : Num → Num → Bool) (ms : Members) (u : Tree) → members_alike f ms u ≡ true
    → list_all (has_name u) (keys_of (member_list ms)) ≡ true
names_found f no_members u h = refl
names_found f (member k t ms) u h =
    and_from _ _ (named_from_test (alike f t) k u (and_parts _ _ h).0) (names_found f ms u (and_parts _ _ h).1)

-- ---- reflexive

module _ (f : Num → Num → Bool) (numbers : (n : Num) → is_exact n ≡ true → f n n ≡ true) where
  mutual
    -- a lawful tree with distinct names is alike to itself
    pub alike_refl : (t : Tree) → is_lawful t ≡ true → has_distinct_names t ≡ true → alike f t t ≡ true
    alike_refl null h d = refl
    alike_refl (boolean b) h d = (booleans_Decides b b).1 refl
    alike_refl (number n) h d = numbers n h
    alike_refl (string s) h d = nat_list_eq_equiv.refl s
    alike_refl (array ts) h d = items_refl ts h d
    alike_refl (object ms) h d =
        and_from _ _ (members_refl ms (object ms) h d (λ k x e. e))
        (all_from_each (has_name (object ms)) (names (object ms)) (λ q e. e))

    -- its items are, one by one
    items_refl : (ts : Items) → items_lawful ts ≡ true → items_distinct ts ≡ true
        → items_alike f ts (item_list ts) ≡ true
    items_refl no_items h d = refl
    items_refl (item t ts) h d =
        and_from _ _ (alike_refl t (and_parts _ _ h).0 (and_parts _ _ d).0)
        (items_refl ts (and_parts _ _ h).1 (and_parts _ _ d).1)

    -- its members are found in a tree that has them all
    members_refl : (ms : Members) (t : Tree) → members_lawful ms ≡ true → members_distinct ms ≡ true
        → ((k : List ℕ) (x : Tree) → get k (object ms) ≡ Some x → get k t ≡ Some x) → members_alike f ms t ≡ true
    members_refl no_members t h d at = refl
    members_refl (member k x ms) t h d at = and_from _ _
        (ap (λ o. option_map_or (alike f x) o false) (at k x (get_head k x ms))
        ∙ alike_refl x (and_parts _ _ h).0 (and_parts _ _ (and_parts _ _ d).0).1)
        (members_refl ms t (and_parts _ _ h).1 (and_parts _ _ d).1
        (λ l y e. at l y (get_tail k x ms (and_parts _ _ (and_parts _ _ d).0).0 l y e)))

-- ---- symmetric

module _ (f g : Num → Num → Bool) (numbers : (m n : Num) → f m n ≡ true → g n m ≡ true) where
  -- what the left has of a name of the right
  back : (ms ns : Members) → alike f (object ms) (object ns) ≡ true → (k : List ℕ) (z : Tree)
      → get k (object ns) ≡ Some z → (y : Tree) × ((get k (object ms) ≡ Some y) × (alike f y z ≡ true))
  back ms ns h k z e =
      let named =
      among_all (names (object ns)) (names (object ms)) (and_parts _ _ h).1 k (named_from_get k (object ns) z e) in
      let y = get_from_named k (object ms) named in
      let w = get_alike f ms (object ns) (and_parts _ _ h).0 k y.0 y.1 in
      (y.0, (y.1, ap (alike f y.0) (same_Some z w.0 (sym e ∙ w.1.0)) ∙ w.1.1))

  mutual
    -- the other way round
    pub alike_symm : (u t : Tree) → has_distinct_names u ≡ true → alike f t u ≡ true → alike g u t ≡ true
    alike_symm null null d h = refl
    alike_symm (boolean a) (boolean b) d h = (booleans_Decides a b).1 (sym ((booleans_Decides b a).0 h))
    alike_symm (number m) (number n) d h = numbers n m h
    alike_symm (string s) (string r) d h = nat_list_eq_equiv.symm s r ∙ h
    alike_symm (array us) (array ts) d h = items_symm us ts d h
    alike_symm (object ns) (object ms) d h =
        and_from _ _ (members_symm ns (object ms) d (λ k z e. back ms ns h k z e))
        (names_found f ms (object ns) (and_parts _ _ h).0)
    alike_symm _ _ d h = cc

    -- item by item
    items_symm : (us ts : Items) → items_distinct us ≡ true → items_alike f ts (item_list us) ≡ true
        → items_alike g us (item_list ts) ≡ true
    items_symm no_items no_items d h = refl
    items_symm (item u us) (item t ts) d h =
        and_from _ _ (alike_symm u t (and_parts _ _ d).0 (and_parts _ _ h).0)
        (items_symm us ts (and_parts _ _ d).1 (and_parts _ _ h).1)
    items_symm _ _ d h = cc

    -- each name of the right finds what the left has of it
    members_symm : (ns : Members) (t : Tree) → members_distinct ns ≡ true
        → ((k : List ℕ) (z : Tree) → get k (object ns) ≡ Some z
        → (y : Tree) × ((get k t ≡ Some y) × (alike f y z ≡ true)))
        → members_alike g ns t ≡ true
    members_symm no_members t d at = refl
    members_symm (member k z ns) t d at = let w = at k z (get_head k z ns) in and_from _ _
        (ap (λ o. option_map_or (alike g z) o false) w.1.0
        ∙ alike_symm z w.0 (and_parts _ _ (and_parts _ _ d).0).1 w.1.1)
        (members_symm ns t (and_parts _ _ d).1
        (λ l x e. at l x (get_tail k z ns (and_parts _ _ (and_parts _ _ d).0).0 l x e)))

-- ---- transitive

module _ (f g l : Num → Num → Bool) (numbers : (m n o : Num) → f m n ≡ true → g n o ≡ true → l m o ≡ true) where
  mutual
    -- through a tree between the two
    pub alike_trans : (t u v : Tree) → alike f t u ≡ true → alike g u v ≡ true → alike l t v ≡ true
    alike_trans null null null h k = refl
    alike_trans (boolean a) (boolean b) (boolean c) h k = ap (λ x. beq x c) ((booleans_Decides a b).0 h) ∙ k
    alike_trans (number m) (number n) (number o) h k = numbers m n o h k
    alike_trans (string s) (string r) (string q) h k = ap (λ x. bytes_eq x q) ((bytes_eq-Decides s r).0 h) ∙ k
    alike_trans (array ts) (array us) (array vs) h k = items_trans ts us vs h k
    alike_trans (object ms) (object ns) (object os) h k = and_from _ _
        (members_trans ms (object ns) (object os) (and_parts _ _ h).0 (get_alike g ns (object os) (and_parts _ _ k).0))
        (all_from_each (has_name (object ms)) (names (object os)) (λ q e.
        among_all (names (object ns)) (names (object ms)) (and_parts _ _ h).1 q
        (among_all (names (object os)) (names (object ns)) (and_parts _ _ k).1 q e)))
    alike_trans _ _ _ h k = cc

    -- item by item
    items_trans : (ts us vs : Items) → items_alike f ts (item_list us) ≡ true → items_alike g us (item_list vs) ≡ true
        → items_alike l ts (item_list vs) ≡ true
    items_trans no_items no_items no_items h k = refl
    items_trans (item t ts) (item u us) (item v vs) h k = and_from _ _
        (alike_trans t u v (and_parts _ _ h).0 (and_parts _ _ k).0)
        (items_trans ts us vs (and_parts _ _ h).1 (and_parts _ _ k).1)
    items_trans _ _ _ h k = cc

    -- member by member, by way of what the second has of the name
    members_trans : (ms : Members) (u v : Tree) → members_alike f ms u ≡ true
        → ((k : List ℕ) (y : Tree) → get k u ≡ Some y → (z : Tree) × ((get k v ≡ Some z) × (alike g y z ≡ true)))
        → members_alike l ms v ≡ true
    members_trans no_members u v h at = refl
    members_trans (member k t ms) u v h at =
        let y = passed (alike f t) (get k u) (and_parts _ _ h).0 in
        let z = at k y.0 y.1.0 in
        and_from _ _ (ap (λ o. option_map_or (alike l t) o false) z.1.0 ∙ alike_trans t y.0 z.0 y.1.1 z.1.1)
        (members_trans ms u v (and_parts _ _ h).1 at)

-- ---- equality

-- a lawful tree equals itself
pub equal_refl : (t : Tree) → is_lawful t ≡ true → has_distinct_names t ≡ true → equal t t ≡ true
equal_refl t h d = alike_refl num_equal num_equal_refl t h d

-- equality is the same either way round
pub equal_symm : (t u : Tree) → has_distinct_names t ≡ true → has_distinct_names u ≡ true → equal t u ≡ equal u t
equal_symm t u d e =
    each_way (equal t u) (equal u t)
    (alike_symm num_equal num_equal num_equal_symm u t e) (alike_symm num_equal num_equal num_equal_symm t u d)

-- what equals an equal tree is equal
pub equal_trans : (t u v : Tree) → equal t u ≡ true → equal u v ≡ true → equal t v ≡ true
equal_trans t u v h k = alike_trans num_equal num_equal num_equal num_equal_trans t u v h k

-- ---- trees that are the same

-- numbers written alike, either way round
same_numbers_symm : (m n : Num) → num_same m n ≡ true → num_same n m ≡ true
same_numbers_symm m n h = subst (λ x. num_same n x ≡ true) (sym (num_same_is m n h)) (num_same_refl n)

-- a tree is the same as itself
pub same_refl : (t : Tree) → is_lawful t ≡ true → has_distinct_names t ≡ true → same t t ≡ true
same_refl t h d = alike_refl num_same (λ n e. num_same_refl n) t h d

-- sameness, the other way round
pub same_flip : (t u : Tree) → has_distinct_names u ≡ true → same t u ≡ true → same u t ≡ true
same_flip t u d h = alike_symm num_same num_same same_numbers_symm u t d h

-- sameness is the same either way round
pub same_symm : (t u : Tree) → has_distinct_names t ≡ true → has_distinct_names u ≡ true → same t u ≡ same u t
same_symm t u d e = each_way (same t u) (same u t) (same_flip t u e) (same_flip u t d)

-- what is the same as a tree that is the same
pub same_trans : (t u v : Tree) → same t u ≡ true → same u v ≡ true → same t v ≡ true
same_trans t u v h k =
    alike_trans num_same num_same num_same
    (λ m n o a b. subst (λ x. num_same m x ≡ true) (num_same_is n o b) a) t u v h k

-- equality doesn't tell the same trees apart
equal_then_same : (t u v : Tree) → equal t u ≡ true → same u v ≡ true → equal t v ≡ true
equal_then_same t u v h k =
    alike_trans num_equal num_same num_equal
    (λ m n o a b. subst (λ x. num_equal m x ≡ true) (num_same_is n o b) a) t u v h k

-- what is the same as an equal tree, on the left
same_then_equal : (t u v : Tree) → same t u ≡ true → equal u v ≡ true → equal t v ≡ true
same_then_equal t u v h k =
    alike_trans num_same num_equal num_equal
    (λ m n o a b. subst (λ x. num_equal x o ≡ true) (sym (num_same_is m n a)) b) t u v h k

-- the same trees are equal to the same ones, on the right
pub equal_to_same : (v t u : Tree) → has_distinct_names u ≡ true → same t u ≡ true → equal v t ≡ equal v u
equal_to_same v t u d h =
    each_way (equal v t) (equal v u) (λ e. equal_then_same v t u e h) (λ e. equal_then_same v u t e (same_flip t u d h))

-- the same trees are equal to the same ones, on the left
pub same_equal_to : (t u v : Tree) → has_distinct_names u ≡ true → same t u ≡ true → equal t v ≡ equal u v
same_equal_to t u v d h =
    each_way (equal t v) (equal u v) (same_then_equal u t v (same_flip t u d h)) (same_then_equal t u v h)

-- the same trees are equal
pub equal_from_same : (t u : Tree) → is_lawful t ≡ true → has_distinct_names t ≡ true → same t u ≡ true
    → equal t u ≡ true
equal_from_same t u h d k = equal_then_same t t u (equal_refl t h d) k
