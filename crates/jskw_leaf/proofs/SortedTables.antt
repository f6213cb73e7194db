-- A search by halves in a sorted table.
use Rattle.std.proofs.Common.{◌≡◌, ℕ, zero, suc, ◌+◌, ◌^◌, ℤ, pos, ◌*ℤ◌, List, [], ◌∷◌, length, get_or, Bool, true}
use Rattle.std.proofs.Common.{false, ◌||◌, cond, map, String, Global, string_bytes, string_cmp, refl, sym, ap, ◌∙◌, inl}
use Rattle.std.proofs.Common.{inr, arith, ◌&&◌, subst}
use Rattle.std.specs.Prelude.{int_lt}
use Rattle.std.proofs.Math.Bool.{and-false}
use Rattle.std.proofs.Math.IntN.{*ℤ-one, *ℤ_comm, one, suc_ℤ-*ℤ, zero-*ℤ}
use Rattle.std.proofs.lemmas.Bool.{both_ways, cases_lt, false_from_ne_true, or_from, or_parts}
use Rattle.std.proofs.lemmas.Cmp.{int_cmp_total, nat_cmp_total, nat_list_cmp_total, on_total, then_total}
use Rattle.std.proofs.lemmas.Int.{ints}
use Rattle.std.proofs.lemmas.List.Folds.{list_any_at, list_any_none}
use Rattle.std.proofs.lemmas.List.Sorted.{ranks_by, searchable_from_sorted}
use Rattle.std.proofs.lemmas.Map.Text.{is_eq-slice_cmp}
use Rattle.std.proofs.lemmas.Slice.Eq.{bytes_eq-Decides}
use Rattle.std.specs.Cmp.{IsStrictWeakOrder, IsTotalOrder, nat_cmp_is}
use Rattle.std.specs.Cmp.Lexicographic.{slice_cmp}
use Rattle.std.specs.List.{list_any}
use Rattle.std.specs.List.Sorted.{IsSorted, IsSortedByKey, IsNonDecreasingBy, IsBinarySearchResult, IsSearchInRange}
use Rattle.std.specs.Ordering.{is_eq, is_lt, int_cmp, int_eq, nat_cmp, ordering_index, ordering_reverse, ordering_then}
use Rattle.std.specs.Result.{is_ok}
use Rattle.std.specs.Str.{bytes_eq}
use Rattle.std.specs.declared.cmp.Ordering.{Ordering}
use Rattle.std.specs.declared.cmp.Ordering.TheVariants.{Less, Equal, Greater}
use Rattle.std.specs.declared.result.Result.{Result}
use Rattle.std.specs.declared.result.Result.TheVariants.{Ok, Err}
use Rattle.jskw_value.specs.Number.{exact, num_equal}
use Rattle.jskw_leaf.specs.Options.{some_text, some_integer, text_against, integer_against, text_order, hash_of}

-- ---- any table

-- a search finds an entry exactly where one passes the test that ties with the order
searched : {X : Type 0} (test : X → Bool) (ord : X → Ordering) (ties : (x : X) → is_eq (ord x) ≡ test x)
    (xs : List X) (r : Result ℕ ℕ)
    → IsNonDecreasingBy (λ y. ordering_index (ord y)) xs → IsSearchInRange r (length xs) → IsBinarySearchResult ord xs r
    → is_ok r ≡ list_any test xs
searched test ord ties [] (Ok i) s h e = absurd (omega (arith, h))
searched test ord ties (x ∷ xs) (Ok i) s h e = sym (list_any_at test (x ∷ xs) i x h (sym (ties _) ∙ ap is_eq (e x)))
searched test ord ties xs (Err i) s h e =
    let p = e s in
    sym (list_any_none test xs (λ k d l. sym (ties (get_or xs k d)) ∙ elim (cases_lt k i) [
      | inl a ↦ ap is_eq (p.0 k d (omega arith) a)
      | inr b ↦ ap is_eq (p.1 k d b l)
    ]))

-- ---- texts

pub searched_texts : (s : List ℕ) (ws : List (String Global)) (r : Result ℕ ℕ) → IsSorted string_cmp ws
    → IsSearchInRange r (length ws) → IsBinarySearchResult (text_against s) ws r
    → is_ok r ≡ some_text (map string_bytes ws) s
searched_texts s ws r sorted h e =
    searched (λ w. bytes_eq (string_bytes w) s) (text_against s) (λ w. is_eq-slice_cmp (string_bytes w) s) ws r
    (searchable_from_sorted nat_list_cmp_total string_bytes ws s sorted) h e
    ∙ mapped ws
  where
    mapped : (ws : List (String Global))
        → list_any (λ w. bytes_eq (string_bytes w) s) ws ≡ some_text (map string_bytes ws) s
    mapped [] = refl
    mapped (w ∷ ws) = ap (λ b. bytes_eq (string_bytes w) s || b) (mapped ws)

-- ---- texts by their hashes

then_eq : (o p : Ordering) → is_eq (ordering_then o p) ≡ (is_eq o && is_eq p)
then_eq Less p = refl
then_eq Equal p = refl
then_eq Greater p = refl

-- a number stands to itself as equal
number_same : (n : ℕ) → is_eq (nat_cmp n n) ≡ true
number_same n = sym (ap is_eq (nat_cmp_is n n Equal refl))

-- two texts tie where they are equal, since then they have one hash
texts_tie : (s w : List ℕ) → is_eq (text_order w s) ≡ bytes_eq w s
texts_tie s w = then_eq (nat_cmp (hash_of w) (hash_of s)) (slice_cmp nat_cmp w s) ∙ go (bytes_eq w s) refl
  where
    go : (b : Bool) → bytes_eq w s ≡ b
        → (is_eq (nat_cmp (hash_of w) (hash_of s)) && is_eq (slice_cmp nat_cmp w s)) ≡ bytes_eq w s
    go true e =
        rw (is_eq-slice_cmp w s, e)
        (ap (λ b. b && true) (subst (λ x. is_eq (nat_cmp (hash_of x) (hash_of s)) ≡ true)
        (sym ((bytes_eq-Decides w s).0 e)) (number_same (hash_of s))))
    go false e = rw (is_eq-slice_cmp w s, e) (and-false _)

texts_total : IsTotalOrder text_order
texts_total = then_total (on_total hash_of nat_cmp_total) nat_list_cmp_total

-- what a sort by it asks
pub text_order_ranks : IsStrictWeakOrder (λ x y. is_lt (text_order x y))
text_order_ranks = ranks_by texts_total (λ w. w)

pub searched_by_hashes : (s : List ℕ) (ws : List (List ℕ)) (r : Result ℕ ℕ) → IsSorted text_order ws
    → IsSearchInRange r (length ws) → IsBinarySearchResult (λ w. text_order w s) ws r → is_ok r ≡ some_text ws s
searched_by_hashes s ws r sorted h e =
    searched (λ w. bytes_eq w s) (λ w. text_order w s) (texts_tie s) ws r
    (searchable_from_sorted texts_total (λ w. w) ws s sorted) h e

lt_first : (o p : Ordering) → is_lt (ordering_then o p) ≡ false → is_lt o ≡ false
lt_first Less p h = h
lt_first Equal p h = refl
lt_first Greater p h = refl

-- without a text of its hash, a text is not there
without_hash : (s : List ℕ) (ws : List (List ℕ))
    → list_any (λ w. is_eq (nat_cmp (hash_of w) (hash_of s))) ws ≡ false → some_text ws s ≡ false
without_hash s [] h = refl
without_hash s (w ∷ ws) h = let parts = or_parts _ _ h in
    or_from (bytes_eq w s) (some_text ws s)
    (false_from_ne_true _ (λ e. both_ways _ parts.0 (same_hash e))) (without_hash s ws parts.1)
  where
    same_hash : bytes_eq w s ≡ true → is_eq (nat_cmp (hash_of w) (hash_of s)) ≡ true
    same_hash e =
        subst (λ x. is_eq (nat_cmp (hash_of x) (hash_of s)) ≡ true) (sym ((bytes_eq-Decides w s).0 e))
        (number_same (hash_of s))

-- a search for its hash finds none
pub no_hash : (s : List ℕ) (ws : List (List ℕ)) (i : ℕ) → IsSorted text_order ws
    → IsBinarySearchResult (λ w. nat_cmp (hash_of w) (hash_of s)) ws (Err i) → IsSearchInRange (Err i) (length ws)
    → some_text ws s ≡ false
no_hash s ws i sorted e h =
    without_hash s ws (sym (searched (λ w. is_eq (nat_cmp (hash_of w) (hash_of s)))
    (λ w. nat_cmp (hash_of w) (hash_of s)) (λ w. refl) ws (Err i)
    (searchable_from_sorted nat_cmp_total hash_of ws (hash_of s)
    (λ k d a b. lt_first _ _ (sorted k d a b))) h e))

-- ---- integers

pub reversed : (a b : ℤ) → ordering_reverse (int_cmp a b) ≡ int_cmp b a
reversed a b = sym (int_cmp_total.antisymm b a)

is_lt_of : (a b : ℤ) → is_lt (int_cmp a b) ≡ int_lt a b
is_lt_of a b = go (int_lt a b) (int_lt b a)
  where
    go : (x y : Bool) → is_lt (cond x Less (cond y Greater Equal)) ≡ x
    go true y = refl
    go false true = refl
    go false false = refl

-- a factor keeps an order
scaled : (a b : ℤ) (p : ℕ) → int_lt a b ≡ false → int_lt (pos p *ℤ a) (pos p *ℤ b) ≡ false
scaled a b zero h = rw (zero-*ℤ a, zero-*ℤ b) refl
scaled a b (suc p) h = let r = scaled a b p h in
    rw (suc_ℤ-*ℤ (pos p) a, suc_ℤ-*ℤ (pos p) b) (false_from_ne_true _ (λ k. omega (arith, ints)))

sorted_scaled : (p : ℕ) (zs : List ℤ) → IsSorted int_cmp zs → IsSortedByKey (λ z. z *ℤ pos p) int_cmp zs
sorted_scaled p zs sorted k d a b =
    let x : ℤ = get_or zs (k + 1) d in
    let y : ℤ = get_or zs k d in
    is_lt_of (x *ℤ pos p) (y *ℤ pos p)
    ∙ rw (*ℤ_comm x (pos p), *ℤ_comm y (pos p)) (scaled x y p (sym (is_lt_of x y) ∙ sorted k d a b))

by_value : (c : ℤ) (k : ℕ) (z : ℤ) → is_eq (integer_against c k z) ≡ num_equal (exact z zero) (exact c k)
unfolding one
by_value c k z = ap (int_eq (z *ℤ pos (10 ^ k))) (sym (*ℤ-one c))

pub searched_integers : (c : ℤ) (k : ℕ) (zs : List ℤ) (r : Result ℕ ℕ) → IsSorted int_cmp zs
    → IsSearchInRange r (length zs) → IsBinarySearchResult (integer_against c k) zs r
    → is_ok r ≡ some_integer zs (exact c k)
searched_integers c k zs r sorted h e =
    searched (λ z. num_equal (exact z zero) (exact c k)) (integer_against c k) (by_value c k) zs r
    (searchable_from_sorted int_cmp_total (λ z. z *ℤ pos (10 ^ k)) zs c (sorted_scaled (10 ^ k) zs sorted)) h e

-- an integer among integers, without a scale
pub searched_words : (c : ℤ) (zs : List ℤ) (r : Result ℕ ℕ) → IsSorted int_cmp zs → IsSearchInRange r (length zs)
    → IsBinarySearchResult (λ z. int_cmp z c) zs r → is_ok r ≡ some_integer zs (exact c zero)
unfolding one
searched_words c zs r sorted h e =
    searched (λ z. num_equal (exact z zero) (exact c zero)) (λ z. int_cmp z c) (λ z. rw (*ℤ-one z, *ℤ-one c) refl) zs r
    (searchable_from_sorted int_cmp_total (λ z. z) zs c sorted) h e
