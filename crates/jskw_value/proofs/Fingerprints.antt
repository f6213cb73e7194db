-- Fingerprints: equal trees have one, where no object that it looks at has a name twice.
use Rattle.std.proofs.Common.{◌≡◌, ℕ, zero, suc, ◌+◌, ◌-◌, ◌/◌, ◌%◌, ◌^◌, ◌<◌, ◌≤◌, ◌&&◌, ◌||◌, min, nat_le, List, []}
use Rattle.std.proofs.Common.{◌∷◌, length, get_or, drop, take, Bool, true, false, not, cond, Option, Some, None, refl}
use Rattle.std.proofs.Common.{sym, ap, ap₂, subst, ◌∙◌, arith, length-take, if◌then◌else◌}
use Rattle.std.proofs.Math.Bool.{or-true}
use Rattle.std.proofs.Math.Nat.{mod-add-mod}
use Rattle.std.proofs.lemmas.Bool.{and_from, and_parts, false_from_ne_true, le-leb, leb-true, not_from_false, not-true}
use Rattle.std.proofs.lemmas.Bool.Decides.{Decides-eqb}
use Rattle.std.proofs.lemmas.List.{at_drop_all, get_or-take, take_all}
use Rattle.std.proofs.lemmas.List.Sums.{sum_by-cons}
use Rattle.std.proofs.lemmas.Map.Entries.{length-keys_of}
use Rattle.std.proofs.lemmas.Map.Keys.{IsDistinct-head, IsDistinct-tail, IsDistinct-cons}
use Rattle.std.proofs.lemmas.Option.{same_Some}
use Rattle.std.proofs.lemmas.Slice.Eq.{bytes_eq-Decides}
use Rattle.std.specs.Cmp.{booleans_Decides}
use Rattle.std.specs.Int.{w64, from_le_bytes}
use Rattle.std.specs.Int.Bits.{bit_xor}
use Rattle.std.specs.List.{list_all, sum_by, IsDistinct}
use Rattle.std.specs.Map.{keys_of, values_of, lookup}
use Rattle.std.specs.Option.{option_map_or}
use Rattle.std.specs.Set.{is_member}
use Rattle.std.specs.Str.{bytes_eq}
use Rattle.jskw_value.specs.Equality.{equal, items_alike, members_alike, AreAmong}
use Rattle.jskw_value.specs.Fingerprint.{stirred, word_at, pairs_stirred, text_begun, text_fingerprint, share}
use Rattle.jskw_value.specs.Fingerprint.{fingerprint, items_fingerprint, members_fingerprint, list_fingerprint}
use Rattle.jskw_value.specs.Fingerprint.{member_fingerprint, own_names_distinct, is_distinct_within}
use Rattle.jskw_value.specs.Fingerprint.{items_distinct_within, members_distinct_within}
use Rattle.jskw_value.specs.Number.{Num, num_equal}
use Rattle.jskw_value.specs.PropertyName.{padded}
use Rattle.jskw_value.specs.Tree.{Tree, null, boolean, number, string, array, object, Items, no_items, item, Members}
use Rattle.jskw_value.specs.Tree.{no_members, member, item_list, member_list, items, members, names, values, get}
use Rattle.jskw_value.specs.Tree.{as_number, as_string, is_array, is_object, has_name}
use Rattle.jskw_value.proofs.AlikeTrees.{names_found}
use Rattle.jskw_value.proofs.Depth.{item_depth}
use Rattle.jskw_value.proofs.DistinctNames.{not_among}
use Rattle.jskw_value.proofs.Lists.{at_index}
use Rattle.jskw_value.proofs.NumberFingerprints.{same_number}
use Rattle.jskw_value.proofs.SameNames.{apart, same_length}
use Rattle.jskw_value.proofs.Sums.{Entries, total, same_total}

-- ---- names

-- an object's own names are distinct
distinct_names : (ms : Members) → own_names_distinct ms ≡ true → IsDistinct bytes_eq (keys_of (member_list ms))
unfolding IsDistinct
distinct_names no_members d = tt
distinct_names (member k t ms) d =
    IsDistinct-cons bytes_eq k (keys_of (member_list ms))
    (apart k (keys_of (member_list ms)) (not-true _ (and_parts _ _ d).0))
    (distinct_names ms (and_parts _ _ d).1)

-- the other way round
own_from_distinct : (ms : Members) → IsDistinct bytes_eq (keys_of (member_list ms)) → own_names_distinct ms ≡ true
own_from_distinct no_members d = refl
own_from_distinct (member k t ms) d = and_from _ _
    (not_from_false _ (not_among k _ (IsDistinct-head bytes_eq k (keys_of (member_list ms)) d)))
    (own_from_distinct ms (IsDistinct-tail bytes_eq k (keys_of (member_list ms)) d))

-- equal objects have as many members
as_many : (ms ns : Members) → own_names_distinct ms ≡ true → own_names_distinct ns ≡ true
    → members_alike num_equal ms (object ns) ≡ true → list_all (has_name (object ms)) (names (object ns)) ≡ true
    → length (member_list ms) ≡ length (member_list ns)
as_many ms ns d e f h =
    sym (length-keys_of (member_list ms)) ∙ (Decides-eqb (length (names (object ms))) (length (names (object ns)))).0
    (sym (same_length (names (object ms)) (names (object ns)) (distinct_names ms d) (distinct_names ns e)
    (names_found num_equal ms (object ns) f)) ∙ h)
    ∙ length-keys_of (member_list ns)

-- ---- members

-- the fingerprints of members, by name
abbrev entries : ℕ → ℕ → Members → Entries
entries seed b no_members = []
entries seed b (member k t ms) =
    (k, stirred (bit_xor 5 seed) (text_fingerprint seed b k) (fingerprint seed b t)) ∷ entries seed b ms

-- their names
entry_names : (seed b : ℕ) (ms : Members) → keys_of (entries seed b ms) ≡ keys_of (member_list ms)
entry_names seed b no_members = refl
entry_names seed b (member k t ms) = ap (λ ks. k ∷ ks) (entry_names seed b ms)

-- their sum
entry_total : (seed b : ℕ) (ms : Members) → members_fingerprint seed b ms ≡ total (entries seed b ms)
entry_total seed b no_members = refl
entry_total seed b (member k t ms) =
    ap (λ n. stirred (bit_xor 5 seed) (text_fingerprint seed b k) (fingerprint seed b t) + n) (entry_total seed b ms)
    ∙ sym (sum_by-cons (λ n. n) (stirred (bit_xor 5 seed) (text_fingerprint seed b k) (fingerprint seed b t))
    (values_of (entries seed b ms)))

-- the entry of a member that is found
entry_found : (seed b : ℕ) (ns : Members) (k : List ℕ) (y : Tree) → get k (object ns) ≡ Some y
    → lookup (bytes_eq k) (entries seed b ns)
    ≡ Some (stirred (bit_xor 5 seed) (text_fingerprint seed b k) (fingerprint seed b y))
entry_found seed b no_members k y e = absurd (cc)
entry_found seed b (member l z ns) k y e = go (bytes_eq k l) refl e (entry_found seed b ns k y)
  where
    go : (c : Bool) → bytes_eq k l ≡ c → cond c (Some z) (get k (object ns)) ≡ Some y
        → (get k (object ns) ≡ Some y → lookup (bytes_eq k) (entries seed b ns)
        ≡ Some (stirred (bit_xor 5 seed) (text_fingerprint seed b k) (fingerprint seed b y)))
        → cond c (Some (stirred (bit_xor 5 seed) (text_fingerprint seed b l) (fingerprint seed b z)))
        (lookup (bytes_eq k) (entries seed b ns))
        ≡ Some (stirred (bit_xor 5 seed) (text_fingerprint seed b k) (fingerprint seed b y))
    go true d e rest =
        ap₂ (λ q x. Some (stirred (bit_xor 5 seed) (text_fingerprint seed b q) (fingerprint seed b x)))
        (sym ((bytes_eq-Decides k l).0 d)) (same_Some z y e)
    go false d e rest = rest e

-- its names are distinct
distinct_found : (b : ℕ) (ns : Members) (k : List ℕ) (y : Tree) → members_distinct_within b ns ≡ true
    → get k (object ns) ≡ Some y → is_distinct_within b y ≡ true
distinct_found b no_members k y d e = absurd (cc)
distinct_found b (member l z ns) k y d e = go (bytes_eq k l) e (distinct_found b ns k y (and_parts _ _ d).1)
  where
    go : (c : Bool) → cond c (Some z) (get k (object ns)) ≡ Some y
        → (get k (object ns) ≡ Some y → is_distinct_within b y ≡ true) → is_distinct_within b y ≡ true
    go true e rest = subst (λ x. is_distinct_within b x ≡ true) (same_Some z y e) (and_parts _ _ d).0
    go false e rest = rest e

-- members that are found one by one have one sum
same_sum : (seed b : ℕ) (ms ns : Members) → own_names_distinct ms ≡ true → own_names_distinct ns ≡ true
    → AreAmong (entries seed b ns) (entries seed b ms) → list_all (has_name (object ms)) (names (object ns)) ≡ true
    → members_fingerprint seed b ms ≡ members_fingerprint seed b ns
same_sum seed b ms ns d e f h =
    entry_total seed b ms ∙ same_total (entries seed b ms) (entries seed b ns) (distinct ms d) (distinct ns e) f
    (ap₂ (λ ks ls. list_all (is_member bytes_eq ks) ls) (entry_names seed b ms) (entry_names seed b ns) ∙ h)
    ∙ sym (entry_total seed b ns)
  where
    distinct : (os : Members) → own_names_distinct os ≡ true → IsDistinct bytes_eq (keys_of (entries seed b os))
    distinct os g = subst (IsDistinct bytes_eq) (sym (entry_names seed b os)) (distinct_names os g)

-- ---- trees

-- equal arrays have as many items
as_long : (ts us : Items) → items_alike num_equal ts (item_list us) ≡ true
    → length (item_list ts) ≡ length (item_list us)
as_long no_items no_items h = refl
as_long (item t ts) (item u us) h = ap suc (as_long ts us (and_parts _ _ h).1)
as_long _ _ h = cc

-- what the budget reaches of an object's members
reached : (b n : ℕ) (ns : Members)
    → (not (nat_le n b) || members_distinct_within (share b n) ns) ≡ true → nat_le n b ≡ true
    → members_distinct_within (share b n) ns ≡ true
reached b n ns d h = sym (ap (λ c. not c || members_distinct_within (share b n) ns) h) ∙ d

-- sums that are the same where they count
same_within : (r : Bool) (m n : ℕ) → (r ≡ true → m ≡ n) → (if r then m % 2 ^ 64 else 0) ≡ (if r then n % 2 ^ 64 else 0)
same_within true m n f = ap (λ x. x % 2 ^ 64) (f refl)
same_within false m n f = refl

mutual
  -- equal trees have one fingerprint
  pub equal_fingerprint : (seed b : ℕ) (t u : Tree) → is_distinct_within b t ≡ true → is_distinct_within b u ≡ true
      → equal t u ≡ true → fingerprint seed b t ≡ fingerprint seed b u
  equal_fingerprint seed b null null d e h = refl
  equal_fingerprint seed b (boolean x) (boolean y) d e h =
      ap (λ z. fingerprint seed b (boolean z)) ((booleans_Decides x y).0 h)
  equal_fingerprint seed b (number m) (number n) d e h = same_number seed m n h
  equal_fingerprint seed b (string s) (string r) d e h = ap (text_fingerprint seed b) ((bytes_eq-Decides s r).0 h)
  equal_fingerprint seed b (array ts) (array us) d e h =
      ap (λ n. items_fingerprint seed (share b n) b (stirred (bit_xor 4 seed) n 0) ts) (as_long ts us h)
      ∙ items_same seed (share b (length (item_list us))) b (stirred (bit_xor 4 seed) (length (item_list us)) 0) ts us
      (subst (λ n. items_distinct_within (share b n) b ts ≡ true) (as_long ts us h) d) e h
  equal_fingerprint seed b (object ms) (object ns) d e h =
      let found = (and_parts _ _ h).0 in
      let count = length (member_list ns) in
      let many : length (member_list ms) ≡ count =
      as_many ms ns (and_parts _ _ d).0 (and_parts _ _ e).0 found (and_parts _ _ h).1 in
      let within =
      subst (λ n. (not (nat_le n b) || members_distinct_within (share b n) ms) ≡ true) many (and_parts _ _ d).1 in
      ap (λ n. stirred 5 n (if nat_le n b then members_fingerprint seed (share b n) ms % 2 ^ 64 else 0)) many
      ∙ ap (stirred 5 count) (same_within (nat_le count b) (members_fingerprint seed (share b count) ms)
      (members_fingerprint seed (share b count) ns) (λ r.
      same_sum seed (share b count) ms ns (and_parts _ _ d).0 (and_parts _ _ e).0
      (members_found seed (share b count) ms ns (reached b count ms within r)
      (reached b count ns (and_parts _ _ e).1 r) found) (and_parts _ _ h).1))
  equal_fingerprint seed b _ _ d e h = cc

  -- item by item
  items_same : (seed b n h : ℕ) (ts us : Items) → items_distinct_within b n ts ≡ true
      → items_distinct_within b n us ≡ true
      → items_alike num_equal ts (item_list us) ≡ true
      → items_fingerprint seed b n h ts ≡ items_fingerprint seed b n h us
  items_same seed b zero a ts us d e h = refl
  items_same seed b (suc n) a no_items no_items d e h = refl
  items_same seed b (suc n) a (item t ts) (item u us) d e h =
      ap (λ x. items_fingerprint seed b n (stirred a x 4) ts)
      (equal_fingerprint seed b t u (and_parts _ _ d).0 (and_parts _ _ e).0 (and_parts _ _ h).0)
      ∙ items_same seed b n (stirred a (fingerprint seed b u) 4) ts us (and_parts _ _ d).1 (and_parts _ _ e).1
      (and_parts _ _ h).1
  items_same seed b (suc n) a _ _ d e h = cc

  -- member by member
  members_found : (seed b : ℕ) (ms ns : Members) → members_distinct_within b ms ≡ true
      → members_distinct_within b ns ≡ true
      → members_alike num_equal ms (object ns) ≡ true → AreAmong (entries seed b ns) (entries seed b ms)
  members_found seed b no_members ns d e h = tt
  members_found seed b (member k t ms) ns d e h = (
    go (get k (object ns)) refl (and_parts _ _ h).0 (λ y w. equal_fingerprint seed b t y (and_parts _ _ d).0 w),
    members_found seed b ms ns (and_parts _ _ d).1 e (and_parts _ _ h).1,
  )
    where
      go : (o : Option Tree) → get k (object ns) ≡ o → option_map_or (equal t) o false ≡ true
          → ((y : Tree) → is_distinct_within b y ≡ true → equal t y ≡ true
          → fingerprint seed b t ≡ fingerprint seed b y)
          → lookup (bytes_eq k) (entries seed b ns)
          ≡ Some (stirred (bit_xor 5 seed) (text_fingerprint seed b k) (fingerprint seed b t))
      go None q w r = absurd (cc)
      go (Some y) q w r =
          entry_found seed b ns k y q ∙ ap (λ x. Some (stirred (bit_xor 5 seed) (text_fingerprint seed b k) x))
          (sym (r y (distinct_found b ns k y e q) w))

-- ---- for the code, level by level

-- the items as a list
items_list : (seed b n h : ℕ) (ts : Items)
    → items_fingerprint seed b n h ts ≡ list_fingerprint seed b h (take n (item_list ts))
items_list seed b zero h ts = refl
items_list seed b (suc n) h no_items = refl
items_list seed b (suc n) h (item t ts) = items_list seed b n (stirred h (fingerprint seed b t) 4) ts

-- of an array
pub fingerprint_of_array : (seed b : ℕ) (t : Tree) → is_array t ≡ true
    → fingerprint seed b t ≡ list_fingerprint seed (share b (length (items t)))
    (stirred (bit_xor 4 seed) (length (items t)) 0) (take b (items t))
fingerprint_of_array seed b (array ts) h =
    items_list seed (share b (length (item_list ts))) b (stirred (bit_xor 4 seed) (length (item_list ts)) 0) ts
fingerprint_of_array seed b _ h = cc

-- its names as those of a list
distinct_list : (b n : ℕ) (ts : Items)
    → items_distinct_within b n ts ≡ list_all (is_distinct_within b) (take n (item_list ts))
distinct_list b zero ts = refl
distinct_list b (suc n) no_items = refl
distinct_list b (suc n) (item t ts) = ap (λ c. is_distinct_within b t && c) (distinct_list b n ts)

-- an array's names are distinct where its items' are
pub distinct_in_array : (b : ℕ) (t : Tree) → is_array t ≡ true
    → list_all (is_distinct_within (share b (length (items t)))) (take b (items t)) ≡ true
    → is_distinct_within b t ≡ true
distinct_in_array b (array ts) h e = distinct_list (share b (length (item_list ts))) b ts ∙ e
distinct_in_array b _ h e = cc

-- the members as a list
members_list : (seed b : ℕ) (ms : Members)
    → members_fingerprint seed b ms ≡ sum_by (member_fingerprint seed b) (member_list ms)
members_list seed b no_members = refl
members_list seed b (member k t ms) =
    ap (λ n. stirred (bit_xor 5 seed) (text_fingerprint seed b k) (fingerprint seed b t) + n) (members_list seed b ms)
    ∙ sym (sum_by-cons (member_fingerprint seed b) (k, t) (member_list ms))

-- a test that fails
beyond : (n b : ℕ) → b < n → nat_le n b ≡ false
beyond n b l = false_from_ne_true (nat_le n b) (λ h. let k = leb-true n b h in absurd (omega (arith, l, k)))

-- of an object with no more members than the budget's units
pub fingerprint_of_members : (seed b : ℕ) (t : Tree) → is_object t ≡ true → length (members t) ≤ b
    → fingerprint seed b t ≡ stirred 5 (length (members t))
    (sum_by (member_fingerprint seed (share b (length (members t)))) (members t) % 2 ^ 64)
fingerprint_of_members seed b (object ms) h l =
    ap (λ c. stirred 5 (length (member_list ms))
    (if c then members_fingerprint seed (share b (length (member_list ms))) ms % 2 ^ 64 else 0))
    (le-leb (length (member_list ms)) b l)
    ∙ ap (λ n. stirred 5 (length (member_list ms)) (n % 2 ^ 64))
    (members_list seed (share b (length (member_list ms))) ms)
fingerprint_of_members seed b _ h l = cc

-- of an object with more
pub fingerprint_of_count : (seed b : ℕ) (t : Tree) → is_object t ≡ true → b < length (members t)
    → fingerprint seed b t ≡ stirred 5 (length (members t)) 0
fingerprint_of_count seed b (object ms) h l =
    ap (λ c. stirred 5 (length (member_list ms))
    (if c then members_fingerprint seed (share b (length (member_list ms))) ms % 2 ^ 64 else 0))
    (beyond (length (member_list ms)) b l)
fingerprint_of_count seed b _ h l = cc

-- the names of the members, as those of a list
members_distinct_list : (b : ℕ) (ms : Members)
    → members_distinct_within b ms ≡ list_all (is_distinct_within b) (values_of (member_list ms))
members_distinct_list b no_members = refl
members_distinct_list b (member k t ms) = ap (λ c. is_distinct_within b t && c) (members_distinct_list b ms)

-- an object's names are distinct where its own and its members' are
pub distinct_in_members : (b : ℕ) (t : Tree) → is_object t ≡ true → IsDistinct bytes_eq (names t)
    → list_all (is_distinct_within (share b (length (members t)))) (values t) ≡ true → is_distinct_within b t ≡ true
distinct_in_members b (object ms) h d e = and_from _ _ (own_from_distinct ms d)
    (ap (λ c. not (nat_le (length (member_list ms)) b) || c)
    (members_distinct_list (share b (length (member_list ms))) ms ∙ e)
    ∙ or-true (not (nat_le (length (member_list ms)) b)))
distinct_in_members b _ h d e = cc

-- its own do where the budget reaches no member
pub distinct_in_count : (b : ℕ) (t : Tree) → is_object t ≡ true → IsDistinct bytes_eq (names t) → b < length (members t)
    → is_distinct_within b t ≡ true
distinct_in_count b (object ms) h d l = and_from _ _ (own_from_distinct ms d)
    (ap (λ c. not c || members_distinct_within (share b (length (member_list ms))) ms)
    (beyond (length (member_list ms)) b l))
distinct_in_count b _ h d l = cc

-- what is neither an array nor an object has no name twice
pub distinct_elsewhere : (b : ℕ) (t : Tree) → is_array t ≡ false → is_object t ≡ false → is_distinct_within b t ≡ true
distinct_elsewhere b (array ts) h k = cc
distinct_elsewhere b (object ms) h k = cc
distinct_elsewhere b _ h k = refl

-- nor has a number
pub distinct_number : (b : ℕ) (t : Tree) (n : Num) → as_number t ≡ Some n → is_distinct_within b t ≡ true
distinct_number b (number n) m h = refl
distinct_number b _ m h = cc

-- nor a string
pub distinct_string : (b : ℕ) (t : Tree) (s : List ℕ) → as_string t ≡ Some s → is_distinct_within b t ≡ true
distinct_string b (string s) r h = refl
distinct_string b _ r h = cc

pub ruleset by_level = (
  fingerprint_of_array,
  distinct_in_array,
  fingerprint_of_members,
  fingerprint_of_count,
  distinct_in_members,
  distinct_in_count,
  distinct_elsewhere,
  distinct_number,
  distinct_string,
)

-- ---- for the code, one item or member on

-- a function of what is left of the first n, one index on
taken_step : {B : Type 0} (f : List Tree → B) (n : ℕ) (ts : List Tree) (i : ℕ) (t : Tree) → i < length ts → i < n
    → t ≡ get_or ts i t
    → f (drop i (take n ts)) ≡ f (t ∷ drop (i + 1) (take n ts))
taken_step f n ts i t l k e =
    at_index f (take n ts) i t (omega (arith, l, k, length-take n ts)) (e ∙ sym (get_or-take n ts i t k))

-- the fingerprint of the rest, one index on
pub list_step : (seed b h n : ℕ) (ts : List Tree) (i : ℕ) (t : Tree) → i < length ts → i < n → t ≡ get_or ts i t
    → list_fingerprint seed b h (drop i (take n ts))
    ≡ list_fingerprint seed b (stirred h (fingerprint seed b t) 4) (drop (i + 1) (take n ts))
list_step seed b h n ts i t l k e = taken_step (list_fingerprint seed b h) n ts i t l k e

-- behind the last
pub list_end : (seed b h n : ℕ) (ts : List Tree) (i : ℕ) → min (length ts) n ≤ i
    → list_fingerprint seed b h (drop i (take n ts)) ≡ h
list_end seed b h n ts i l = at_drop_all (list_fingerprint seed b h) (take n ts) i (omega (arith, l, length-take n ts))

-- a test of the rest, one index on
pub all_step : (p : Tree → Bool) (n : ℕ) (ts : List Tree) (i : ℕ) (t : Tree) → i < length ts → i < n → t ≡ get_or ts i t
    → list_all p (drop i (take n ts)) ≡ (p t && list_all p (drop (i + 1) (take n ts)))
all_step p n ts i t l k e = taken_step (list_all p) n ts i t l k e

-- a test of all holds of no rest
pub all_end : (p : Tree → Bool) (n : ℕ) (ts : List Tree) (i : ℕ) → min (length ts) n ≤ i
    → list_all p (drop i (take n ts)) ≡ true
all_end p n ts i l = at_drop_all (list_all p) (take n ts) i (omega (arith, l, length-take n ts))

pub ruleset by_index = (list_end, all_end, item_depth)

-- one member on
pub sum_step : (s x rest all : ℕ) → (s + (x + rest)) % 2 ^ 64 ≡ all % 2 ^ 64
    → ((s + x) % 2 ^ 64 + rest) % 2 ^ 64 ≡ all % 2 ^ 64
sum_step s x rest all h = mod-add-mod (s + x) (2 ^ 64) rest ∙ ap (λ n. n % 2 ^ 64) regroup ∙ h
  where
    regroup : s + x + rest ≡ s + (x + rest)
    regroup = omega arith

-- ---- for the code, texts

-- up to sixteen bytes are the last pair
pub one_pair : (seed b : ℕ) (s : List ℕ) → length s ≤ 16
    → text_fingerprint seed b s
    ≡ stirred (text_begun seed (length s)) (word_at s (length s - 16)) (word_at s (length s - 8))
unfolding text_fingerprint
one_pair seed b s h =
    ap (λ n. stirred (pairs_stirred n (text_begun seed (length s)) s) (word_at s (length s - 16))
    (word_at s (length s - 8))) none
  where
    none : min b ((length s - 1) / 16) ≡ 0
    none = omega (arith, h)

-- less than eight are one word
pub one_word : (seed b : ℕ) (s : List ℕ) → length s < 8
    → text_fingerprint seed b s
    ≡ stirred (text_begun seed (length s)) (from_le_bytes w64 (padded s)) (from_le_bytes w64 (padded s))
unfolding word_at
one_word seed b s h = one_pair seed b s (omega (arith, h))
    ∙ ap₂ (stirred (text_begun seed (length s))) (whole (length s - 16) (omega (arith, h)))
    (whole (length s - 8) (omega (arith, h)))
  where
    whole : (i : ℕ) → i ≡ 0 → word_at s i ≡ from_le_bytes w64 (padded s)
    whole i e =
        ap (λ j. from_le_bytes w64 (padded (take 8 (drop j s)))) e
        ∙ ap (λ xs. from_le_bytes w64 (padded xs)) (take_all 8 s (omega (arith, h)))
