-- Members put one after another beside a stable sort of them: of one name the last stays.
use Rattle.std.proofs.Common.{◌≡◌, List, [], ◌∷◌, ◌++◌, ℕ, Bool, true, false, not, ◌&&◌, cond, Option, Some, None}
use Rattle.std.proofs.Common.{reverse, string_bytes, refl, sym, ap, ap₂, subst, ◌∙◌, append-nil, append_assoc}
use Rattle.std.proofs.lemmas.Cmp.{nat_list_cmp_total, nat_list_eq_equiv, on_total}
use Rattle.std.proofs.lemmas.List.{reverse-append}
use Rattle.std.proofs.lemmas.List.Kept.{IsStrictlySortedBy-dedup}
use Rattle.std.proofs.lemmas.Map.Text.{is_eq-slice_cmp}
use Rattle.std.proofs.lemmas.Slice.Eq.{bytes_eq-Decides}
use Rattle.std.specs.Cmp.Lexicographic.{slice_cmp}
use Rattle.std.specs.List.{AllByRecursion, filter, dedup, dedup_from}
use Rattle.std.specs.List.Sorted.{IsStrictlySortedBy, IsStableBy, IsSortedBy, ties}
use Rattle.std.specs.Option.{option_or}
use Rattle.std.specs.Ordering.{nat_cmp, is_eq, is_lt, ordering_reverse}
use Rattle.std.specs.Str.{bytes_eq}
use Rattle.std.specs.declared.cmp.Ordering.{Ordering}
use Rattle.std.specs.declared.cmp.Ordering.TheVariants.{Less, Equal, Greater}
use Rattle.jskw_value.specs.declared.members.Member.{Member}
use Rattle.jskw_value.specs.Members.{member_names, AreSorted, put, put_all, lasts}
use Rattle.jskw_value.proofs.MembersInOrder.{all_behind, sorted_none}

-- the order of names
abbrev by_bytes : List ℕ → List ℕ → Ordering
by_bytes = slice_cmp nat_cmp

-- equal names are one
pub one_name : (k n : List ℕ) → by_bytes k n ≡ Equal → k ≡ n
one_name k n e = (bytes_eq-Decides k n).0 (sym (is_eq-slice_cmp k n) ∙ ap is_eq e)

-- names that stand otherwise are not
other_name : (k n : List ℕ) (o : Ordering) → by_bytes k n ≡ o → is_eq o ≡ false → bytes_eq k n ≡ false
other_name k n o e h = sym (is_eq-slice_cmp k n) ∙ ap is_eq e ∙ h

-- the other way round
turned : (k n : List ℕ) (o : Ordering) → by_bytes k n ≡ o → by_bytes n k ≡ ordering_reverse o
turned k n o e = nat_list_cmp_total.antisymm n k ∙ ap ordering_reverse e

itself : (k : List ℕ) → bytes_eq k k ≡ true
itself k = nat_list_eq_equiv.refl k

-- by cases of an order
pub by_order : {C : Type 0} (o : Ordering) → (o ≡ Less → C) → (o ≡ Equal → C) → (o ≡ Greater → C) → C
by_order Less f g h = f refl
by_order Equal f g h = g refl
by_order Greater f g h = h refl

-- an option beside another, and beside none
or_assoc : {X : Type 0} (a : Option X) (b : Bool) (m : X) (c : Option X)
    → option_or a (cond b (Some m) c) ≡ option_or (option_or a (cond b (Some m) None)) c
or_assoc None true m c = refl
or_assoc None false m c = refl
or_assoc (Some x) b m c = refl

or_none : {X : Type 0} (a : Option X) → option_or a None ≡ a
or_none None = refl
or_none (Some x) = refl

twice : {X : Type 0} (b : Bool) (x : X) (y z : Option X) → cond b (Some x) (cond b y z) ≡ cond b (Some x) z
twice true x y z = refl
twice false x y z = refl

never_both : {X : Type 0} (b d : Bool) (x y : X) (z : Option X) → (b ≡ true → d ≡ true → ⊥)
    → cond b (Some x) (cond d (Some y) z) ≡ cond d (Some y) (cond b (Some x) z)
never_both true true x y z h = absurd (h refl refl)
never_both true false x y z h = refl
never_both false d x y z h = refl

-- neither less nor greater
tie : (o : Ordering) → not (is_lt o) && not (is_lt (ordering_reverse o)) ≡ is_eq o
tie Less = refl
tie Equal = refl
tie Greater = refl

module _ {V : Type 0} where
  -- the name of a member
  abbrev name : Member V → List ℕ
  name m = string_bytes m.name

  -- the first member of a name
  abbrev first : List ℕ → List (Member V) → Option (Member V)
  first k [] = None
  first k (m ∷ ms) = cond (bytes_eq k (name m)) (Some m) (first k ms)

  first_append : (k : List ℕ) (xs ys : List (Member V)) → first k (xs ++ ys) ≡ option_or (first k xs) (first k ys)
  first_append k [] ys = refl
  first_append k (x ∷ xs) ys =
      ap (cond (bytes_eq k (name x)) (Some x)) (first_append k xs ys)
      ∙ or_cond (bytes_eq k (name x)) x (first k xs) (first k ys)
    where
      or_cond : (b : Bool) (x : Member V) (s t : Option (Member V))
          → cond b (Some x) (option_or s t) ≡ option_or (cond b (Some x) s) t
      or_cond true x s t = refl
      or_cond false x s t = refl

  -- ---- one more

  first_put : (k : List ℕ) (m : Member V) (xs : List (Member V))
      → first k (put m xs) ≡ cond (bytes_eq k (name m)) (Some m) (first k xs)
  first_put k m [] = refl
  first_put k m (x ∷ xs) = by_order (by_bytes (name m) (name x))
      (λ e. rw e refl)
      (λ e. let same : bytes_eq k (name x) ≡ bytes_eq k (name m) =
      ap (bytes_eq k) (sym (one_name (name m) (name x) e)) in
      rw e (sym (ap (λ b. cond (bytes_eq k (name m)) (Some m) (cond b (Some x) (first k xs))) same
      ∙ twice (bytes_eq k (name m)) m (Some x) (first k xs))))
      (λ e. rw (e, first_put k m xs) (never_both (bytes_eq k (name x)) (bytes_eq k (name m)) x m (first k xs) (λ h g.
      let one : name m ≡ name x = sym ((bytes_eq-Decides k (name m)).0 g) ∙ (bytes_eq-Decides k (name x)).0 h in
      let alike : bytes_eq (name m) (name x) ≡ true = (bytes_eq-Decides (name m) (name x)).1 one in
      let apart : bytes_eq (name m) (name x) ≡ false = other_name (name m) (name x) Greater e refl in
      cc)))

  all_put : (P : List ℕ → Type 0) (m : Member V) (xs : List (Member V)) → P (name m)
      → AllByRecursion P (member_names xs) → AllByRecursion P (member_names (put m xs))
  all_put P m [] h a = (h, tt)
  all_put P m (x ∷ xs) h a =
      by_order (by_bytes (name m) (name x)) (λ e. rw e (h, a)) (λ e. rw e (h, a.1))
      (λ e. rw e (a.0, all_put P m xs h a.1))

  sorted_put : (m : Member V) (xs : List (Member V)) → AreSorted (member_names xs) → AreSorted (member_names (put m xs))
  unfolding IsStrictlySortedBy
  sorted_put m [] s = (tt, tt)
  sorted_put m (x ∷ xs) s = by_order (by_bytes (name m) (name x))
      (λ e. rw e ((e, all_behind (name m) (name x) (member_names xs) e s.0), s))
      (λ e. rw e (rw (one_name (name m) (name x) e) s.0, s.1))
      (λ e. rw e (
        all_put (λ y. by_bytes (name x) y ≡ Less) m xs (turned (name m) (name x) Greater e) s.0,
        sorted_put m xs s.1,
      ))

  -- ---- all of them

  sorted_all : (found ms : List (Member V)) → AreSorted (member_names found)
      → AreSorted (member_names (put_all found ms))
  sorted_all found [] s = s
  sorted_all found (m ∷ ms) s = sorted_all (put m found) ms (sorted_put m found s)

  first_all : (k : List ℕ) (found ms : List (Member V))
      → first k (put_all found ms) ≡ option_or (first k (reverse ms)) (first k found)
  first_all k found [] = refl
  first_all k found (m ∷ ms) =
      first_all k (put m found) ms ∙ ap (option_or (first k (reverse ms))) (first_put k m found)
      ∙ or_assoc (first k (reverse ms)) (bytes_eq k (name m)) m (first k found)
      ∙ ap (λ o. option_or o (first k found))
      (sym (ap (first k) (reverse-append (m ∷ []) ms) ∙ first_append k (reverse ms) (m ∷ [])))

  -- the last of a name is found
  first_lasts : (k : List ℕ) (ms : List (Member V)) → first k (lasts ms) ≡ first k (reverse ms)
  first_lasts k ms = first_all k [] ms ∙ or_none _

  -- ---- members in order are those that are found

  none_above : (k : List ℕ) (ms : List (Member V)) → AllByRecursion (λ y. by_bytes k y ≡ Less) (member_names ms)
      → first k ms ≡ None
  none_above k [] a = refl
  none_above k (m ∷ ms) a = rw (other_name k (name m) Less a.0 refl) (none_above k ms a.1)

  found_first : (m : Member V) (ms : List (Member V)) → first (name m) (m ∷ ms) ≡ Some m
  found_first m ms = rw (itself (name m)) refl

  -- behind the first member, by cases of its name
  behind : (k : List ℕ) (a : Member V) (ms ns : List (Member V))
      → AllByRecursion (λ y. by_bytes (name a) y ≡ Less) (member_names ms)
      → AllByRecursion (λ y. by_bytes (name a) y ≡ Less) (member_names ns)
      → (b : Bool) → bytes_eq k (name a) ≡ b → cond b (Some a) (first k ms) ≡ cond b (Some a) (first k ns)
      → first k ms ≡ first k ns
  behind k a ms ns p q true e h = let same : k ≡ name a = (bytes_eq-Decides k (name a)).0 e in
      rw same (none_above (name a) ms p ∙ sym (none_above (name a) ns q))
  behind k a ms ns p q false e h = h

  some_is : (a b : Member V) → Some a ≡ Some b → a ≡ b
  some_is a b e = cc

  pub alike : (ms ns : List (Member V)) → AreSorted (member_names ms) → AreSorted (member_names ns)
      → ((m : Member V) → first (name m) ms ≡ first (name m) ns) → ms ≡ ns
  unfolding IsStrictlySortedBy
  alike [] [] s t h = refl
  alike [] (b ∷ ns) s t h = let e : None ≡ Some b = h b ∙ found_first b ns in absurd (cc)
  alike (a ∷ ms) [] s t h = let e : Some a ≡ None = sym (found_first a ms) ∙ h a in absurd (cc)
  alike (a ∷ ms) (b ∷ ns) s t h = by_order (by_bytes (name a) (name b))
      (λ e. let none : Some a ≡ None =
      sym (found_first a ms) ∙ h a
      ∙ none_above (name a) (b ∷ ns) (e, all_behind (name a) (name b) (member_names ns) e t.0) in absurd (cc))
      (λ e. let same : name a ≡ name b = one_name (name a) (name b) e in
      let one : a ≡ b =
      some_is a b (sym (found_first a ms) ∙ h a ∙ ap (λ k. first k (b ∷ ns)) same ∙ found_first b ns) in
      let rest : ms ≡ ns =
      alike ms ns s.1 t.1 (λ m. behind (name m) a ms ns s.0
      (subst (λ k. AllByRecursion (λ y. by_bytes k y ≡ Less) (member_names ns)) (sym same) t.0)
      (bytes_eq (name m) (name a)) refl (h m ∙ ap (λ x. first (name m) (x ∷ ns)) (sym one))) in
      ap₂ (λ x xs. x ∷ xs) one rest)
      (λ e. let less : by_bytes (name b) (name a) ≡ Less = turned (name a) (name b) Greater e in
      let none : None ≡ Some b =
      sym (none_above (name b) (a ∷ ms) (less, all_behind (name b) (name a) (member_names ms) less s.0)) ∙ h b
      ∙ found_first b ns in absurd (cc))

  -- ---- what a stable sort of them leaves

  -- how two members stand by their names, and whether these are one
  abbrev pub by_name : Member V → Member V → Ordering
  by_name m n = by_bytes (name m) (name n)

  abbrev pub same_name : Member V → Member V → Bool
  same_name m n = is_eq (by_name m n)

  -- those that tie with a member have its name
  ties_are : (m n : Member V) → ties (λ x y. is_lt (by_name x y)) m n ≡ bytes_eq (name m) (name n)
  ties_are m n =
      rw (turned (name m) (name n) (by_name m n) refl) (tie (by_name m n)) ∙ is_eq-slice_cmp (name m) (name n)

  -- the first that passes
  abbrev head : List (Member V) → Option (Member V)
  head [] = None
  head (m ∷ ms) = Some m

  head_filtered : (b : Bool) (m : Member V) (ms : List (Member V))
      → head (cond b (m ∷ ms) ms) ≡ cond b (Some m) (head ms)
  head_filtered true m ms = refl
  head_filtered false m ms = refl

  first_by_ties : (m : Member V) (ms : List (Member V))
      → first (name m) ms ≡ head (filter (ties (λ x y. is_lt (by_name x y)) m) ms)
  first_by_ties m [] = refl
  first_by_ties m (n ∷ ms) =
      ap₂ (λ b o. cond b (Some n) o) (sym (ties_are m n)) (first_by_ties m ms)
      ∙ sym (head_filtered (ties (λ x y. is_lt (by_name x y)) m n) n (filter (ties (λ x y. is_lt (by_name x y)) m) ms))

  -- of equal names next to each other the first is kept
  kept_step : (k : List ℕ) (m n : Member V) (ms : List (Member V)) (b : Bool) → same_name n m ≡ b
      → first k (dedup_from same_name m ms) ≡ first k (m ∷ ms)
      → first k (dedup_from same_name n ms) ≡ first k (n ∷ ms)
      → first k (dedup_from same_name m (n ∷ ms)) ≡ first k (m ∷ n ∷ ms)
  kept_step k m n ms true e h g =
      let same : bytes_eq k (name n) ≡ bytes_eq k (name m) =
      ap (bytes_eq k) ((bytes_eq-Decides (name n) (name m)).0 (sym (is_eq-slice_cmp (name n) (name m)) ∙ e)) in
      ap (λ b. first k (cond b (dedup_from same_name m ms) (m ∷ dedup_from same_name n ms))) e ∙ h
      ∙ sym (ap (λ b. cond (bytes_eq k (name m)) (Some m) (cond b (Some n) (first k ms))) same
      ∙ twice (bytes_eq k (name m)) m (Some n) (first k ms))
  kept_step k m n ms false e h g =
      ap (λ b. first k (cond b (dedup_from same_name m ms) (m ∷ dedup_from same_name n ms))) e
      ∙ ap (cond (bytes_eq k (name m)) (Some m)) g

  first_kept : (k : List ℕ) (m : Member V) (ms : List (Member V))
      → first k (dedup_from same_name m ms) ≡ first k (m ∷ ms)
  first_kept k m [] = refl
  first_kept k m (n ∷ ms) = kept_step k m n ms (same_name n m) refl (first_kept k m ms) (first_kept k n ms)

  first_dedup : (k : List ℕ) (ms : List (Member V)) → first k (dedup same_name ms) ≡ first k ms
  first_dedup k [] = refl
  first_dedup k (m ∷ ms) = first_kept k m ms

  -- members in order have names in order
  all_names : (m : Member V) (ms : List (Member V)) → AllByRecursion (λ n. by_name m n ≡ Less) ms
      → AllByRecursion (λ y. by_bytes (name m) y ≡ Less) (member_names ms)
  all_names m [] a = tt
  all_names m (n ∷ ms) a = (a.0, all_names m ms a.1)

  sorted_names : (ms : List (Member V)) → IsStrictlySortedBy by_name ms → AreSorted (member_names ms)
  unfolding IsStrictlySortedBy
  sorted_names [] s = tt
  sorted_names (m ∷ ms) s = (all_names m ms s.0, sorted_names ms s.1)

  pub sorted_kept : (ms : List (Member V)) → IsSortedBy (λ x y. is_lt (by_name x y)) ms
      → AreSorted (member_names (dedup same_name ms))
  sorted_kept ms s = sorted_names _ (IsStrictlySortedBy-dedup (on_total name nat_list_cmp_total) (λ x y. refl) ms s)

  -- the last of each name is kept of members that were turned round and sorted
  pub lasts_kept : (ms ns : List (Member V)) → IsSortedBy (λ x y. is_lt (by_name x y)) ns
      → IsStableBy (λ x y. is_lt (by_name x y)) (reverse ms) ns
      → dedup same_name ns ≡ lasts ms
  lasts_kept ms ns sorted stable = alike _ _ (sorted_kept ns sorted) (sorted_all [] ms sorted_none) (λ m.
      first_dedup (name m) ns ∙ first_by_ties m ns ∙ ap head (stable m) ∙ sym (first_by_ties m (reverse ms))
      ∙ sym (first_lasts (name m) ms))

  -- ---- names that rise already

  all_middle : (P : List ℕ → Type 0) (xs : List (Member V)) (m : Member V) (ms : List (Member V))
      → AllByRecursion P (member_names (xs ++ m ∷ ms)) → P (name m)
  all_middle P [] m ms a = a.0
  all_middle P (x ∷ xs) m ms a = all_middle P xs m ms a.1

  put_end : (xs : List (Member V)) (m : Member V) (ms : List (Member V)) → AreSorted (member_names (xs ++ m ∷ ms))
      → put m xs ≡ xs ++ m ∷ []
  unfolding IsStrictlySortedBy
  put_end [] m ms s = refl
  put_end (x ∷ xs) m ms s =
      rw (turned (name x) (name m) Less (all_middle (λ y. by_bytes (name x) y ≡ Less) xs m ms s.0))
      (ap (λ ys. x ∷ ys) (put_end xs m ms s.1))

  all_rising : (xs ms : List (Member V)) → AreSorted (member_names (xs ++ ms)) → put_all xs ms ≡ xs ++ ms
  all_rising xs [] s = sym (append-nil xs)
  all_rising xs (m ∷ ms) s =
      let joined : (xs ++ m ∷ []) ++ ms ≡ xs ++ m ∷ ms = append_assoc xs (m ∷ []) ms in
      ap (λ ys. put_all ys ms) (put_end xs m ms s) ∙ all_rising (xs ++ m ∷ []) ms (rw joined s) ∙ joined

  pub lasts_rising : (ms : List (Member V)) → AreSorted (member_names ms) → lasts ms ≡ ms
  lasts_rising ms s = all_rising [] ms s
