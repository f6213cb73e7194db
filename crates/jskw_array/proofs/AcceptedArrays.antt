-- Arrays whose length and items decide that they are valid, and how many applications that counts.
use Rattle.std.proofs.Common.{◌≡◌, ◌∙◌, ℕ, zero, suc, ◌+◌, ◌-◌, ◌<◌, ◌≤◌, min, List, [], ◌∷◌, ◌++◌, length, get_or}
use Rattle.std.proofs.Common.{take, drop, sum_by, Bool, true, false, ◌&&◌, if◌then◌else◌, Option, None, Some, refl, sym}
use Rattle.std.proofs.Common.{subst, ap, ap₂, arith, Vec, Global, is_none}
use Rattle.std.proofs.lemmas.Bool.{and_parts}
use Rattle.std.proofs.lemmas.List.{length-drop}
use Rattle.std.proofs.lemmas.List.Sums.{sum_by-cons}
use Rattle.jskw_array.specs.Words.{CountsBetween, PassesOver, items_between, AddsKeyword, AllValid, AreSettled}
use Rattle.jskw_array.specs.Words.{ArraysAreValid, Each, IfSome, Keyword, Part, Pointer, Rest, Schema, SetsAccept, Tree}
use Rattle.jskw_array.specs.Words.{all_hold, all_needed, arrays_cost, each_holds, each_keyword, each_needed, holds}
use Rattle.jskw_array.specs.Words.{in_arrays, in_outline, in_rest, in_sets, in_typed, is_array, is_in, items}
use Rattle.jskw_array.specs.Words.{items_cost, keyword_holds, keyword_needed, keywords_of, list_all, marked}
use Rattle.jskw_array.specs.Words.{meaning_holds, needed, part_meaning, rest_cost, rest_keyword}
use Rattle.jskw_array.specs.Words.{schema_object, schemas_of, sum_to_failure}
use Rattle.jskw_number.specs.QuickSet.{leading}
use Rattle.jskw_number.specs.declared.outline.Outline.{Outline}
use Rattle.jskw_number.specs.declared.quick_set.QuickSet.{QuickSet}
use Rattle.jskw_array.specs.declared.accepted.ItemSets.{ItemSets}
use Rattle.jskw_array.specs.declared.accepted.SettledParts.{SettledParts}
use Rattle.jskw_array.proofs.AcceptedValues.{one_needed}
use Rattle.jskw_array.proofs.PassedItems.{passed_length}
use Rattle.jskw_array.proofs.PartsLeft.{behind_held, left_holds, left_needed, object_applied, only_holds}
use Rattle.jskw_array.proofs.WalksOverParts.{keywords_end}

-- ---- what a keyword needs of valid items

each_least : (ss : List Schema) (ts : List Tree) → each_holds (schemas_of ss) ts ≡ true
    → min (length ts) (length ss) ≤ each_needed (schemas_of ss) ts
each_least [] ts all = omega arith
each_least (s ∷ ss) [] all = omega arith
each_least (s ∷ ss) (t ∷ ts) all =
    let here = and_parts (holds s t) (each_holds (schemas_of ss) ts) all in
    let rest = each_least ss ts here.1 in
    let one = one_needed s t in
    let first = ap (λ b. needed s t + (if b then each_needed (schemas_of ss) ts else 0)) here.0 in
    omega (arith, rest, one, first)

rest_least : (s : Schema) (ts : List Tree) → list_all (holds s) ts ≡ true
    → length ts ≤ sum_to_failure (holds s) (needed s) ts
rest_least s [] all = omega arith
rest_least s (t ∷ ts) all =
    let here = and_parts (holds s t) (list_all (holds s) ts) all in
    let rest = rest_least s ts here.1 in
    let one = one_needed s t in
    let first = ap (λ b. needed s t + (if b then sum_to_failure (holds s) (needed s) ts else 0)) here.0 in
    omega (arith, rest, one, first)

-- ---- a set for each of the first items

pub accept_length : (qs : List QuickSet) (ss : List Schema) → SetsAccept qs ss → length qs ≡ length ss
accept_length [] [] a = refl
accept_length [] (s ∷ ss) a = absurd a
accept_length (q ∷ qs) [] a = absurd a
accept_length (q ∷ qs) (s ∷ ss) a = let rest = accept_length qs ss a.1 in omega (arith, rest)

pub accept_holds : (qs : List QuickSet) (ss : List Schema) → SetsAccept qs ss → (ts : List Tree)
    → in_sets qs ts ≡ true → each_holds (schemas_of ss) ts ≡ true
accept_holds [] [] a ts h = refl
accept_holds [] (s ∷ ss) a ts h = absurd a
accept_holds (q ∷ qs) [] a ts h = absurd a
accept_holds (q ∷ qs) (s ∷ ss) a [] h = refl
accept_holds (q ∷ qs) (s ∷ ss) a (t ∷ ts) h =
    let here = and_parts (is_in q t) (in_sets qs ts) h in
    ap₂ (λ x y. x && y) (a.0 t here.0) (accept_holds qs ss a.1 ts here.1)

pub accept_more : (qs : List QuickSet) (ss : List Schema) (q : QuickSet) (s : Schema) → SetsAccept qs ss
    → AllValid q s → SetsAccept (qs ++ q ∷ []) (ss ++ s ∷ [])
accept_more [] [] q s a here = (here, tt)
accept_more [] (r ∷ ss) q s a here = absurd a
accept_more (p ∷ qs) [] q s a here = absurd a
accept_more (p ∷ qs) (r ∷ ss) q s a here = (a.0, accept_more qs ss q s a.1 here)

-- one item more
in_sets_more : (qs : List QuickSet) (ts : List Tree) (i : ℕ) (q : QuickSet) (t : Tree) → i < length qs → i < length ts
    → q ≡ get_or qs i q → t ≡ get_or ts i t → in_sets (take i qs) ts ≡ true → is_in q t ≡ true
    → in_sets (take (suc i) qs) ts ≡ true
in_sets_more [] ts i q t set_within within set_is is before here = absurd (omega arith)
in_sets_more (r ∷ qs) [] i q t set_within within set_is is before here = absurd (omega arith)
in_sets_more (r ∷ qs) (u ∷ ts) zero q t set_within within set_is is before here =
    ap (λ b. b && true) (ap₂ is_in (sym set_is) (sym is) ∙ here)
in_sets_more (r ∷ qs) (u ∷ ts) (suc i) q t set_within within set_is is before here =
    let first = and_parts (is_in r u) (in_sets (take i qs) ts) before in
    ap₂ (λ a b. a && b) first.0 (in_sets_more qs ts i q t (omega arith) (omega arith) set_is is first.1 here)

pub in_sets_next : (qs : List QuickSet) (ts : List Tree) (i : ℕ) (q : QuickSet) (t : Tree) → i < length qs
    → i < length ts → q ≡ get_or qs i q → t ≡ get_or ts i t → in_sets (take i qs) ts ≡ true → is_in q t ≡ true
    → in_sets (take (i + 1) qs) ts ≡ true
in_sets_next qs ts i q t set_within within set_is is before here =
    subst (λ n. in_sets (take n qs) ts ≡ true) {x = suc i} {y = i + 1} (omega arith)
    (in_sets_more qs ts i q t set_within within set_is is before here)

pub in_sets_end : (qs : List QuickSet) (ts : List Tree) (i : ℕ) → min (length ts) (length qs) ≤ i
    → in_sets (take i qs) ts ≡ true → in_sets qs ts ≡ true
in_sets_end [] ts i end h = refl
in_sets_end (q ∷ qs) [] i end h = refl
in_sets_end (q ∷ qs) (t ∷ ts) zero end h = absurd (omega arith)
in_sets_end (q ∷ qs) (t ∷ ts) (suc i) end h =
    let here = and_parts (is_in q t) (in_sets (take i qs) ts) h in
    ap₂ (λ a b. a && b) here.0 (in_sets_end qs ts i (omega arith) here.1)

-- ---- one set for all items

all_valid : (q : QuickSet) (s : Schema) → AllValid q s → (ts : List Tree) → list_all (is_in q) ts ≡ true
    → list_all (holds s) ts ≡ true
all_valid q s valid [] h = refl
all_valid q s valid (t ∷ ts) h =
    let here = and_parts (is_in q t) (list_all (is_in q) ts) h in
    ap₂ (λ a b. a && b) (valid t here.0) (all_valid q s valid ts here.1)

-- all of them pass a check, if as many as there are do before the first that fails
pub all_leading : (q : QuickSet) (ts : List Tree) → length ts ≤ leading (is_in q) ts → list_all (is_in q) ts ≡ true
all_leading q [] within = refl
all_leading q (t ∷ ts) within = go (is_in q t) (all_leading q ts) within
  where
    go : (b : Bool) → (length ts ≤ leading (is_in q) ts → list_all (is_in q) ts ≡ true)
        → suc (length ts) ≤ (if b then suc (leading (is_in q) ts) else 0)
        → (b && list_all (is_in q) ts) ≡ true
    go true rest h = rest (omega arith)
    go false rest h = absurd (omega arith)

-- what is not there
pub is_absent_of : {A : Type 0} (o : Option A) → is_none o ≡ true → o ≡ None
is_absent_of None e = refl
is_absent_of (Some x) e = cc

pub no_items : {A : Type 0} (xs : List A) → length xs ≡ 0 → xs ≡ []
no_items [] e = refl
no_items (x ∷ xs) e = absurd (omega arith)

four : (a b c d : Bool) → (a && (b && (c && d))) ≡ true → (a ≡ true) × (b ≡ true) × (c ≡ true) × (d ≡ true)
four a b c d h =
    let first = and_parts a _ h in
    let second = and_parts b _ first.1 in
    let third = and_parts c d second.1 in
    (first.0, second.0, third.0, third.1)

-- ---- one keyword more

module _ {F Node Number Key : Type 0} where
  front_within : (v : Each F Node Number Key) (t : Tree) → keyword_holds (each_keyword v) t ≡ true
      → min (length (items t)) (length v.nodes.items) ≤ keyword_needed (each_keyword v) t
  front_within v t h =
      let least = each_least v.nodes.items (items t) h in
      omega (arith, least)

  rest_within : (v : Rest F Node Number Key) (t : Tree) → keyword_holds (rest_keyword v) t ≡ true
      → length (items t) - v.start ≤ keyword_needed (rest_keyword v) t
  rest_within v t h =
      let least = rest_least v.node (drop v.start (items t)) h in
      omega (arith, least, length-drop v.start (items t))

  pub adds_front : (o : Outline) (old new : Vec QuickSet Global) (start : ℕ) (r : Option QuickSet)
      (v : Each F Node Number Key) (k : Keyword) → old.items ≡ [] → SetsAccept new.items v.nodes.items
      → k ≡ each_keyword v
      → AddsKeyword (record { lengths = o; front = old; start = start; rest = r })
      (record { lengths = o; front = new; start = start; rest = r }) k
  adds_front o old new start r v k none accept is t h =
      let all = four (is_array t) (in_outline o t) (in_sets new.items (items t)) (in_rest r (drop start (items t))) h in
      let valid = accept_holds new.items v.nodes.items accept (items t) all.2 in
      let before : in_sets old.items (items t) ≡ true = ap (λ qs. in_sets qs (items t)) none in
      let size = ap length none in
      let count = accept_length new.items v.nodes.items accept in
      let more = front_within v t valid in
      let cost = ap (λ w. keyword_needed w t) is in (
        ap₂ (λ a b. a && b) all.0 (ap₂ (λ a b. a && b) all.1 (ap₂ (λ a b. a && b) before all.3)),
        ap (λ w. keyword_holds w t) is ∙ valid,
        omega (arith, size, count, more, cost),
      )

  pub adds_rest : (o : Outline) (f : Vec QuickSet Global) (start : ℕ) (old : Option QuickSet) (q : QuickSet)
      (v : Rest F Node Number Key) (k : Keyword) → old ≡ None → AllValid q v.node → k ≡ rest_keyword v
      → AddsKeyword (record { lengths = o; front = f; start = start; rest = old })
      (record { lengths = o; front = f; start = v.start; rest = Some q }) k
  adds_rest o f start old q v k none accept is t h =
      let all =
      four (is_array t) (in_outline o t) (in_sets f.items (items t)) (list_all (is_in q) (drop v.start (items t))) h in
      let valid = all_valid q v.node accept (drop v.start (items t)) all.3 in
      let before : in_rest old (drop start (items t)) ≡ true = ap (λ r. in_rest r (drop start (items t))) none in
      let nothing = ap (λ r. rest_cost r start t) none in
      let more = rest_within v t valid in
      let cost = ap (λ w. keyword_needed w t) is in (
        ap₂ (λ a b. a && b) all.0 (ap₂ (λ a b. a && b) all.1 (ap₂ (λ a b. a && b) all.2 before)),
        ap (λ w. keyword_holds w t) is ∙ valid,
        omega (arith, nothing, more, cost),
      )

-- ---- the parts

module _ {F Node Number Key : Type 0} where
  -- what is known of the trees of the set, where the parts from the index i on are not looked at yet
  abbrev pub Narrowed : Outline → List (Part F Node Number Key) → ℕ → ItemSets → Type 0
  Narrowed o us i a =
      (t : Tree) → in_arrays a t ≡ true
      → (in_outline o t ≡ true) × (all_hold (keywords_of us) t ≡ all_hold (keywords_of (drop i us)) t)
      × (arrays_cost a t + all_needed (keywords_of (drop i us)) t ≤ 1 + all_needed (keywords_of us) t)

  pub narrowed_end : (o : Outline) (us : List (Part F Node Number Key)) (i : ℕ) (a : ItemSets)
      → length us ≤ i → Narrowed o us i a
      → (t : Tree) → in_arrays a t ≡ true → (in_outline o t ≡ true) × (all_hold (keywords_of us) t ≡ true)
      × (arrays_cost a t ≤ 1 + all_needed (keywords_of us) t)
  narrowed_end o us i a end before t h =
      let known = before t h in
      (known.0, known.1 ∙ ap (λ ks. all_hold ks t) (keywords_end us i end), omega (arith, known.2))

  -- the settled parts hold by their outline, and the others by the set
  pub all_known : (us : List (Part F Node Number Key)) (b : SettledParts) (o : Option ItemSets) → AreSettled b us
      → IfSome o (λ a. (t : Tree) → in_arrays a t ≡ true → (in_outline b.outline t ≡ true)
      × (all_hold (keywords_of (drop b.count us)) t ≡ true)
      × (arrays_cost a t ≤ 1 + all_needed (keywords_of (drop b.count us)) t))
      → IfSome o (ArraysAreValid us)
  all_known us b None settled parts = parts
  all_known us b (Some a) settled parts =
      λ t h.
      let part = parts t h in
      let held = settled.1 t part.0 in
      let cost = left_needed t b.count us held in
      (left_holds t b.count us held ∙ part.1, omega (arith, part.2, cost))

  -- the outline and the only part that is not settled decide
  pub typed_valid : (s : Schema) (q : Pointer) (delegates : Bool) (us xs : List (Part F Node Number Key))
      (b : SettledParts) (u d : Part F Node Number Key) → s ≡ schema_object q (marked delegates us) (keywords_of us)
      → AreSettled b us → xs ≡ drop b.count us → 1 ≤ length xs → length xs < 2 → u ≡ get_or xs 0 d
      → (t : Tree) → in_typed b.outline u t ≡ true → holds s t ≡ true
  typed_valid s q delegates us xs b u d is settled rest least few at t h =
      let both = and_parts (in_outline b.outline t) (meaning_holds (part_meaning u) t) h in
      let left = behind_held s q delegates us b.count t is (settled.1 t both.0) in
      left.answer ∙ sym (ap (λ ys. all_hold (keywords_of ys) t) rest) ∙ only_holds xs u d least few at t ∙ both.1

  -- ---- a schema of the parts

  pub schema_arrays : (s : Schema) (q : Pointer) (delegates : Bool) (us : List (Part F Node Number Key)) (a : ItemSets)
      → s ≡ schema_object q (marked delegates us) (keywords_of us) → ArraysAreValid us a
      → (t : Tree) → in_arrays a t ≡ true → (holds s t ≡ true) × (arrays_cost a t ≤ needed s t)
  schema_arrays s q delegates us a is valid t h =
      let known = valid t h in
      let whole = ap (λ r. needed r t) is ∙ object_applied false q delegates us t in
      (ap (λ r. holds r t) is ∙ known.0, omega (arith, known.1, whole))

-- ---- lists of arrays

pub arrays_within : (s : Schema) (a : ItemSets)
    → ((t : Tree) → in_arrays a t ≡ true → (holds s t ≡ true) × (arrays_cost a t ≤ needed s t))
    → (ts : List Tree) → list_all (in_arrays a) ts ≡ true → sum_by (arrays_cost a) ts ≤ sum_by (needed s) ts
arrays_within s a valid [] all = omega arith
arrays_within s a valid (t ∷ ts) all =
    let here = and_parts (in_arrays a t) (list_all (in_arrays a) ts) all in
    let rest = arrays_within s a valid ts here.1 in
    omega (arith, rest, (valid t here.0).1, sum_by-cons (arrays_cost a) t ts, sum_by-cons (needed s) t ts)

pub arrays_least : (a : ItemSets) (ts : List Tree) → length ts ≤ sum_by (arrays_cost a) ts
arrays_least a [] = omega arith
arrays_least a (t ∷ ts) = omega (arith, arrays_least a ts, sum_by-cons (arrays_cost a) t ts)

-- the arrays themselves, and their items
pub arrays_items : (a : ItemSets) (ts : List Tree) → sum_by (arrays_cost a) ts ≡ sum_by (items_cost a) ts + length ts
arrays_items a [] = refl
arrays_items a (t ∷ ts) =
    let rest = arrays_items a ts in
    omega (arith, rest, sum_by-cons (arrays_cost a) t ts, sum_by-cons (items_cost a) t ts)

-- a walk over arrays counts their items, and then the arrays
pub lists_counted : (a : ItemSets) (t : Tree) (start end applied : ℕ) {old between new : ℕ}
    → PassesOver (in_arrays a) t start end
    → CountsBetween 0 applied (sum_by (items_cost a) (items_between start end t))
    (sum_by (items_cost a) (items_between start end t))
    → CountsBetween old between applied applied → CountsBetween between new (end - start) (end - start)
    → CountsBetween old new (sum_by (arrays_cost a) (items_between start end t))
    (sum_by (arrays_cost a) (items_between start end t))
lists_counted a t start end applied passed items first second =
    let size = passed_length (in_arrays a) t start end passed in
    let cost = arrays_items a (items_between start end t) in
    record {
      applied = omega (arith, size, cost, items.applied, first.applied, second.applied);
      counted = record {
        from = omega (arith, first.counted.from, second.counted.from);
        to = omega (arith, size, cost, items.counted.to, first.counted.to, second.counted.to);
      };
    }
