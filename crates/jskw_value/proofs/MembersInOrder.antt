-- Members in the order of their names: where a search ends, and one member more.
use Rattle.std.proofs.Common.{◌≡◌, ℕ, zero, suc, ◌+◌, ◌<◌, List, [], ◌∷◌, length, get_or, true, false, is_some, Some}
use Rattle.std.proofs.Common.{None, Result, Ok, Err, IfOk, IfErr, string_bytes, refl, sym, ap, subst, ◌∙◌, inl, inr}
use Rattle.std.proofs.Common.{arith, drop}
use Rattle.std.proofs.lemmas.Bool.{cases_lt, cond-true, cond-false}
use Rattle.std.proofs.lemmas.Cmp.{nat_list_cmp_total, nat_list_eq_equiv}
use Rattle.std.proofs.lemmas.List.{drop_more, get_or_read, length-map}
use Rattle.std.proofs.lemmas.List.Sorted.{IsPermutation-map, searchable_from_sorted}
use Rattle.std.proofs.lemmas.Map.Keys.{IsDistinct-from_apart, IsDistinct-IsPermutation, Less-from_sorted}
use Rattle.std.proofs.lemmas.Map.Keys.{apart_from_distinct, sorted_from_all_adjacent, sorted_tail}
use Rattle.std.proofs.lemmas.Map.Text.{is_eq-slice_cmp}
use Rattle.std.proofs.lemmas.Slice.Eq.{bytes_eq-Decides}
use Rattle.std.specs.Cmp.Lexicographic.{slice_cmp}
use Rattle.std.specs.List.{insert, AllByRecursion, IsDistinct}
use Rattle.std.specs.List.Sorted.{IsPermutation, IsStrictlySortedBy, IsSearchInRange, IsBinarySearchResult}
use Rattle.std.specs.List.Sorted.{IsSortedByKey}
use Rattle.std.specs.Ordering.{nat_cmp, is_eq, is_gt, is_lt, ordering_reverse}
use Rattle.std.specs.Str.{bytes_eq}
use Rattle.std.specs.declared.cmp.Ordering.{Ordering}
use Rattle.std.specs.declared.cmp.Ordering.TheVariants.{Less, Equal, Greater}
use Rattle.jskw_value.specs.declared.members.Member.{Member}
use Rattle.jskw_value.specs.Members.{member_names, value_named, has_named, against, inserted, AreSorted, IsIndexOf}
use Rattle.jskw_value.specs.Members.{IsGap, IsSortedByName, IsStep, RepeatsAt}
use Rattle.jskw_value.proofs.MembersByPlace.{part_read, is_some_get}

-- ---- names that rise

pub sorted_none : AreSorted []
unfolding IsStrictlySortedBy
sorted_none = tt

-- they differ
pub distinct_sorted : (ns : List (List ℕ)) → AreSorted ns → IsDistinct bytes_eq ns
distinct_sorted ns s = IsDistinct-from_apart bytes_eq ns (λ i j d l h.
    sym (is_eq-slice_cmp (get_or ns i d) (get_or ns j d))
    ∙ ap is_eq (Less-from_sorted (slice_cmp nat_cmp) ns i j d s l h))

-- a name that stands otherwise than equal is another
differs : (k n : List ℕ) (o : Ordering) → slice_cmp nat_cmp n k ≡ o → is_eq o ≡ false → bytes_eq k n ≡ false
differs k n o e h = nat_list_eq_equiv.symm k n ∙ sym (is_eq-slice_cmp n k) ∙ ap is_eq e ∙ h

-- and one that stands as equal is the same
same : (k n : List ℕ) → slice_cmp nat_cmp n k ≡ Equal → bytes_eq k n ≡ true
same k n e = nat_list_eq_equiv.symm k n ∙ sym (is_eq-slice_cmp n k) ∙ ap is_eq e

-- names behind a greater one are greater
pub all_behind : (k x : List ℕ) (ns : List (List ℕ)) → slice_cmp nat_cmp k x ≡ Less
    → AllByRecursion (λ y. slice_cmp nat_cmp x y ≡ Less) ns → AllByRecursion (λ y. slice_cmp nat_cmp k y ≡ Less) ns
all_behind k x [] l a = tt
all_behind k x (n ∷ ns) l a = (nat_list_cmp_total.trans k x n l a.0, all_behind k x ns l a.1)

-- an order that is less neither way round
neither : (o : Ordering) → is_lt o ≡ false → is_lt (ordering_reverse o) ≡ false → o ≡ Equal
neither Less h g = cc
neither Equal h g = refl
neither Greater h g = cc

module _ {V : Type 0} where
  -- each member has a name
  as_many : (ms : List (Member V)) → length (member_names ms) ≡ length ms
  as_many ms = length-map _ _ ∙ length-map ms _

  -- a lesser place has a lesser name
  less_at : (ms : List (Member V)) (i j : ℕ) (d : Member V) → AreSorted (member_names ms) → i < j → j < length ms
      → slice_cmp nat_cmp (string_bytes (get_or ms i d).name) (string_bytes (get_or ms j d).name) ≡ Less
  less_at ms i j d s l h =
      rw (part_read (λ e. e.0) ms i d [] (omega (arith, l, h)), part_read (λ e. e.0) ms j d [] h)
      (Less-from_sorted (slice_cmp nat_cmp) (member_names ms) i j [] s l (omega (arith, h, as_many ms)))

  -- which is what a search by halves asks
  rising : (ms : List (Member V)) → AreSorted (member_names ms)
      → IsSortedByKey (λ m. string_bytes m.name) (slice_cmp nat_cmp) ms
  rising ms s k d a b =
      ap is_lt (nat_list_cmp_total.antisymm (string_bytes (get_or ms (k + 1) d).name)
      (string_bytes (get_or ms k d).name) ∙ ap ordering_reverse (less_at ms k (k + 1) d s (omega arith) b))

  -- where it ends
  pub searched : (k : List ℕ) (ms : List (Member V)) (r : Result ℕ ℕ) → AreSorted (member_names ms)
      → IsSearchInRange r (length ms)
      → IsBinarySearchResult (against k) ms r
      → record { found : IfOk r (IsIndexOf k ms); absent : IfErr r (IsGap k ms) }
  searched k ms (Ok i) s w e = record { found = record { within = w; named = e }; absent = tt }
  searched k ms (Err i) s w e =
      let p = e (searchable_from_sorted nat_list_cmp_total (λ m. string_bytes m.name) ms k (rising ms s)) in
      record {
        found =
            tt;
        absent =
            record { within = w; less = λ j d l. p.0 j d (omega arith) l; greater = λ j d l h. p.1 j d l h };
      }

  -- ---- what a look-up finds

  -- nothing where each name is another
  get_none : (k : List ℕ) (ms : List (Member V))
      → ((j : ℕ) (d : Member V) → j < length ms → bytes_eq k (string_bytes (get_or ms j d).name) ≡ false)
      → value_named k ms ≡ None
  get_none k [] h = refl
  get_none k (m ∷ ms) h = cond-false _ _ _ (h 0 m (omega arith)) ∙ get_none k ms (λ j d l. h (suc j) d (omega arith))

  -- so nothing where the name would only go
  pub get_in_gap : (k : List ℕ) (ms : List (Member V)) (i : ℕ) → IsGap k ms i → value_named k ms ≡ None
  get_in_gap k ms i gap = get_none k ms (λ j d l. elim (cases_lt j i) [
    | inl a ↦ differs k _ Less (gap.less j d a) refl
    | inr b ↦ differs k _ Greater (gap.greater j d b l) refl
  ])

  -- the value at the place of the name
  pub get_at : (k : List ℕ) (ms : List (Member V)) (i : ℕ) (d : Member V) → AreSorted (member_names ms)
      → IsIndexOf k ms i → value_named k ms ≡ Some (get_or ms i d).value
  get_at k [] i d s at = absurd (omega (arith, at.within))
  get_at k (m ∷ ms) zero d s at = cond-true _ _ _ (same k (string_bytes m.name) (at.named d))
  get_at k (m ∷ ms) (suc i) d s at =
      cond-false _ _ _ (differs k (string_bytes m.name) Less earlier refl)
      ∙ get_at k ms i d (sorted_tail (slice_cmp nat_cmp) _ _ s)
      (record { within = omega (arith, at.within); named = at.named })
    where
      is : string_bytes (get_or ms i d).name ≡ k
      is = sym ((bytes_eq-Decides k (string_bytes (get_or ms i d).name)).0 (same k _ (at.named d)))

      earlier : slice_cmp nat_cmp (string_bytes m.name) k ≡ Less
      earlier =
          subst (λ n. slice_cmp nat_cmp (string_bytes m.name) n ≡ Less) is
          (less_at (m ∷ ms) 0 (suc i) d s (omega arith) at.within)

  -- ---- a walk over the members

  -- the member at a place in front of those behind it
  from_place : (ms : List (Member V)) (i : ℕ) (m : Member V) → i < length ms → m ≡ get_or ms i m
      → drop i ms ≡ m ∷ drop (i + 1) ms
  from_place ms i m l is = drop_more ms i m l ∙ ap (λ x. x ∷ drop (i + 1) ms) (sym is)

  -- its value is found where it has the name
  pub found_here : (k : List ℕ) (ms : List (Member V)) (i : ℕ) (m : Member V) → i < length ms → m ≡ get_or ms i m
      → bytes_eq k (string_bytes m.name) ≡ true → value_named k (drop i ms) ≡ Some m.value
  found_here k ms i m l is e = ap (value_named k) (from_place ms i m l is) ∙ cond-true _ _ _ e

  -- else what those behind it have
  pub found_behind : (k : List ℕ) (ms : List (Member V)) (i : ℕ) (m : Member V) → i < length ms → m ≡ get_or ms i m
      → bytes_eq k (string_bytes m.name) ≡ false → value_named k (drop (i + 1) ms) ≡ value_named k (drop i ms)
  found_behind k ms i m l is e = sym (ap (value_named k) (from_place ms i m l is) ∙ cond-false _ _ _ e)

  -- ---- one member more

  -- it goes to the gap
  pub inserted_at : (m : Member V) (ms : List (Member V)) (i : ℕ) → IsGap (string_bytes m.name) ms i
      → inserted m ms ≡ insert ms i m
  inserted_at m [] zero gap = refl
  inserted_at m [] (suc i) gap = absurd (omega (arith, gap.within))
  inserted_at m (x ∷ xs) zero gap = cond-true _ _ _ (ap is_gt (gap.greater 0 x (omega arith) (omega arith)))
  inserted_at m (x ∷ xs) (suc i) gap =
      cond-false _ _ _ (ap is_gt (gap.less 0 x (omega arith)))
      ∙ ap (λ ys. x ∷ ys) (inserted_at m xs i (record {
        within = omega (arith, gap.within);
        less = λ j d l. gap.less (suc j) d (omega arith);
        greater = λ j d l h. gap.greater (suc j) d (omega arith) (omega arith);
      }))

  -- what holds of its name and of each other
  all_inserted : (P : List ℕ → Type 0) (m : Member V) (ms : List (Member V)) (i : ℕ) → P (string_bytes m.name)
      → AllByRecursion P (member_names ms) → AllByRecursion P (member_names (insert ms i m))
  all_inserted P m ms zero h a = (h, a)
  all_inserted P m [] (suc i) h a = (h, a)
  all_inserted P m (x ∷ xs) (suc i) h a = (a.0, all_inserted P m xs i h a.1)

  -- in the gap, the names rise as they did
  pub sorted_inserted : (m : Member V) (ms : List (Member V)) (i : ℕ) → IsGap (string_bytes m.name) ms i
      → AreSorted (member_names ms)
      → AreSorted (member_names (insert ms i m))
  unfolding IsStrictlySortedBy
  sorted_inserted m [] zero gap s = (tt, tt)
  sorted_inserted m [] (suc i) gap s = absurd (omega (arith, gap.within))
  sorted_inserted m (x ∷ xs) zero gap s =
      let l =
      nat_list_cmp_total.antisymm (string_bytes m.name) (string_bytes x.name)
      ∙ ap ordering_reverse (gap.greater 0 x (omega arith) (omega arith)) in
      ((l, all_behind _ _ (member_names xs) l s.0), s)
  sorted_inserted m (x ∷ xs) (suc i) gap s = (
    all_inserted (λ y. slice_cmp nat_cmp (string_bytes x.name) y ≡ Less) m xs i (gap.less 0 x (omega arith)) s.0,
    sorted_inserted m xs i (record {
      within = omega (arith, gap.within);
      less = λ j d l. gap.less (suc j) d (omega arith);
      greater = λ j d l h. gap.greater (suc j) d (omega arith) (omega arith);
    }) s.1,
  )

  -- ---- whether a name is there

  pub named_at : (k : List ℕ) (ms : List (Member V)) (i : ℕ) → AreSorted (member_names ms) → IsIndexOf k ms i
      → has_named k ms ≡ true
  named_at k [] i s at = absurd (omega (arith, at.within))
  named_at k (m ∷ ms) i s at = sym (is_some_get k (m ∷ ms)) ∙ ap is_some (get_at k (m ∷ ms) i m s at)

  pub named_in_gap : (k : List ℕ) (ms : List (Member V)) (i : ℕ) → IsGap k ms i → has_named k ms ≡ false
  named_in_gap k ms i gap = sym (is_some_get k ms) ∙ ap is_some (get_in_gap k ms i gap)

  -- ---- names that are compared with the next

  -- where none is less than the one before, a name that is not less than the next is the same
  pub named_alike : (ms : List (Member V)) (i : ℕ) (d : Member V) → IsSortedByName ms → i + 1 < length ms
      → is_lt (against (string_bytes (get_or ms (i + 1) d).name) (get_or ms i d)) ≡ false
      → string_bytes (get_or ms i d).name ≡ string_bytes (get_or ms (i + 1) d).name
  named_alike ms i d s l h =
      let k : List ℕ = string_bytes (get_or ms i d).name in
      let n : List ℕ = string_bytes (get_or ms (i + 1) d).name in
      let back : is_lt (ordering_reverse (slice_cmp nat_cmp k n)) ≡ false =
      sym (ap is_lt (nat_list_cmp_total.antisymm n k)) ∙ s i d (omega arith) l in
      sym ((bytes_eq-Decides n k).0 (same n k (neither _ h back)))

  -- names each of which is less than the next rise
  pub rising_by_steps : (ms : List (Member V)) → ((j : ℕ) → j + 1 < length ms → IsStep ms j)
      → AreSorted (member_names ms)
  rising_by_steps [] h = sorted_none
  rising_by_steps (m ∷ ms) h = sorted_from_all_adjacent nat_list_cmp_total (member_names (m ∷ ms)) [] (λ k l.
      let within : k + 1 < length (m ∷ ms) = omega (arith, l, as_many (m ∷ ms)) in
      rw (
        ← part_read (λ e. e.0) (m ∷ ms) k m [] (omega (arith, within)),
        ← part_read (λ e. e.0) (m ∷ ms) (k + 1) m [] within,
      ) (h k within m))

  -- the first member x whose name is not less than that of y, the next, has its name
  pub repeats_at : (ms : List (Member V)) (i n : ℕ) (x y : Member V) → IsSortedByName ms → n ≡ i + 1 → n < length ms
      → ((j : ℕ) → j + 1 < n → IsStep ms j) → x ≡ get_or ms i x → y ≡ get_or ms n y
      → is_lt (against (string_bytes y.name) x) ≡ false → RepeatsAt ms i
  repeats_at ms i n x y s e l steps p q h = record {
    within = omega arith;
    named = λ d.
        let px : x ≡ get_or ms i d = get_or_read ms i x (omega arith) p d in
        let py : y ≡ get_or ms (i + 1) d = rw (← e) (get_or_read ms n y l q d) in
        named_alike ms i d s (omega arith) (rw (← px, ← py) h);
    rising = λ j b. steps j (omega (arith, b));
  }

  -- ---- whether a name stands twice

  -- names keep their difference where members change places
  pub distinct_moved : (ms ns : List (Member V)) → IsPermutation ms ns → IsDistinct bytes_eq (member_names ms)
      → IsDistinct bytes_eq (member_names ns)
  distinct_moved ms ns p = IsDistinct-IsPermutation bytes_eq nat_list_eq_equiv.symm (member_names ms) (member_names ns)
      (IsPermutation-map _ _ _ (IsPermutation-map _ ms ns p))

  -- names that stand twice do not differ
  pub not_distinct : (ms : List (Member V)) (i : ℕ) → RepeatsAt ms i → IsDistinct bytes_eq (member_names ms) → ⊥
  not_distinct [] i r d = omega (arith, r.within)
  not_distinct (m ∷ ms) i r d =
      let k : List ℕ = string_bytes (get_or (m ∷ ms) i m).name in
      let n : List ℕ = string_bytes (get_or (m ∷ ms) (i + 1) m).name in
      let apart : bytes_eq k n ≡ false =
      rw (
        part_read (λ e. e.0) (m ∷ ms) i m [] (omega (arith, r.within)),
        part_read (λ e. e.0) (m ∷ ms) (i + 1) m [] r.within,
      )
      (apart_from_distinct bytes_eq (member_names (m ∷ ms)) i (i + 1) [] d (omega arith)
      (omega (arith, r.within, as_many (m ∷ ms)))) in
      let alike : bytes_eq k n ≡ true = (bytes_eq-Decides k n).1 (r.named m) in
      cc

pub ruleset lemmas = (sorted_none, distinct_sorted)
