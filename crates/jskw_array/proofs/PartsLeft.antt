-- Parts that are known to hold, and those that are left behind them.
use Rattle.std.proofs.Common.{◌≡◌, ℕ, zero, suc, ◌+◌, ◌<◌, ◌≤◌, List, [], ◌∷◌, ◌++◌, length, get_or, take, drop, Bool}
use Rattle.std.proofs.Common.{true, false, ◌&&◌, if◌then◌else◌, refl, sym, subst, ap, ap₂, ◌∙◌, arith, Global, Vec}
use Rattle.std.proofs.lemmas.Bool.{and_parts, true≢false}
use Rattle.jskw_array.specs.Words.{CountsUpTo, IsKnown, Remain, Knows, Part, Pointer, Schema, ShapeBegins, Tree}
use Rattle.jskw_array.specs.Words.{all_applications, is_in, all_fail, all_height, all_hold, all_needed, all_pairs}
use Rattle.jskw_array.specs.Words.{applications, fail, height, holds, in_outline, keywords_of, marked, meaning_holds}
use Rattle.jskw_array.specs.Words.{meaning_needed, schema_object, part_meaning, schema_of}
use Rattle.jskw_array.specs.declared.node.Assertions.{Assertions}
use Rattle.jskw_array.specs.declared.node.Assertions.TheVariants.{Keywords, Never}
use Rattle.jskw_array.specs.declared.accepted.Accepted.{Accepted}
use Rattle.jskw_number.specs.declared.outline.Outline.{Outline}
use Rattle.jskw_report.proofs.HoldsIsNoFailure.{no_element}
use Rattle.jskw_array.proofs.WalksOverParts.{part_empty, part_tall}

module _ {F Node Number Key : Type 0} where
  -- ---- the first parts

  first_more : (us : List (Part F Node Number Key)) (i : ℕ) (u : Part F Node Number Key) (t : Tree) → i < length us
      → u ≡ get_or us i u
      → all_hold (keywords_of (take i us)) t ≡ true → meaning_holds (part_meaning u) t ≡ true
      → all_hold (keywords_of (take (suc i) us)) t ≡ true
  first_more [] i u t within is before here = absurd (omega arith)
  first_more (v ∷ us) zero u t within is before here =
      ap (λ b. b && true) (ap (λ w. meaning_holds (part_meaning w) t) (sym is) ∙ here)
  first_more (v ∷ us) (suc i) u t within is before here =
      let parts =
      and_parts (meaning_holds (part_meaning v) t) (all_hold (keywords_of (take i us)) t)
      before in
      ap₂ (λ a b. a && b) parts.0 (first_more us i u t (omega arith) is parts.1 here)

  -- one more of them holds of what is in both outlines
  pub begun_next : (us : List (Part F Node Number Key)) (i : ℕ) (u : Part F Node Number Key) (known own both : Outline)
      → i < length us → u ≡ get_or us i u
      → ((t : Tree) → in_outline known t ≡ true → all_hold (keywords_of (take i us)) t ≡ true)
      → ((t : Tree) → in_outline own t ≡ true → meaning_holds (part_meaning u) t ≡ true)
      → ((t : Tree) → in_outline both t ≡ true → (in_outline known t && in_outline own t) ≡ true)
      → (t : Tree) → in_outline both t ≡ true → all_hold (keywords_of (take (i + 1) us)) t ≡ true
  begun_next us i u known own both within is before here parts t h =
      let p = and_parts (in_outline known t) (in_outline own t) (parts t h) in
      subst (λ n. all_hold (keywords_of (take n us)) t ≡ true) {x = suc i} {y = i + 1} (omega arith)
      (first_more us i u t within is (before t p.0) (here t p.1))

  -- ---- those behind them

  module _ (t : Tree) where
    Held : ℕ → List (Part F Node Number Key) → Type 0
    Held k us = all_hold (keywords_of (take k us)) t ≡ true

    split : (k : ℕ) (u : Part F Node Number Key) (us : List (Part F Node Number Key))
        → all_hold (keywords_of (take (suc k) (u ∷ us))) t ≡ true
        → (meaning_holds (part_meaning u) t ≡ true) × (all_hold (keywords_of (take k us)) t ≡ true)
    split k u us h =
        and_parts (meaning_holds (part_meaning u) t) (all_hold (keywords_of (take k us)) t)
        h

    pub left_holds : (k : ℕ) (us : List (Part F Node Number Key)) → all_hold (keywords_of (take k us)) t ≡ true
        → all_hold (keywords_of us) t ≡ all_hold (keywords_of (drop k us)) t
    left_holds zero us h = refl
    left_holds (suc k) [] h = refl
    left_holds (suc k) (u ∷ us) h =
        let parts = split k u us h in
        ap (λ b. b && all_hold (keywords_of us) t) parts.0 ∙ left_holds k us parts.1

    left_fails : (k : ℕ) (us : List (Part F Node Number Key)) (p : Pointer)
        → all_hold (keywords_of (take k us)) t ≡ true
        → all_fail (keywords_of us) t p ≡ all_fail (keywords_of (drop k us)) t p
    left_fails zero us p h = refl
    left_fails (suc k) [] p h = refl
    left_fails (suc k) (u ∷ us) p h =
        let parts = split k u us h in
        ap (λ fs. fs ++ all_fail (keywords_of us) t p) (no_element _ (sym (part_empty u t p) ∙ parts.0))
        ∙ left_fails k us p parts.1

    left_pairs : (k : ℕ) (us : List (Part F Node Number Key))
        → all_pairs (keywords_of (drop k us)) t ≤ all_pairs (keywords_of us) t
    left_pairs zero us = omega arith
    left_pairs (suc k) [] = omega arith
    left_pairs (suc k) (u ∷ us) = let rest = left_pairs k us in omega (arith, rest)

    pub left_needed : (k : ℕ) (us : List (Part F Node Number Key)) → all_hold (keywords_of (take k us)) t ≡ true
        → all_needed (keywords_of (drop k us)) t ≤ all_needed (keywords_of us) t
    left_needed zero us h = omega arith
    left_needed (suc k) [] h = omega arith
    left_needed (suc k) (u ∷ us) h =
        let parts = split k u us h in
        let rest = left_needed k us parts.1 in
        let on = ap (λ b. if b then all_needed (keywords_of us) t else 0) parts.0 in
        omega (arith, rest, on)

    left_applied : (wanted : Bool) (k : ℕ) (us : List (Part F Node Number Key))
        → all_hold (keywords_of (take k us)) t ≡ true
        → all_applications wanted (keywords_of (drop k us)) t ≤ all_applications wanted (keywords_of us) t
    left_applied true k us h = left_pairs k us
    left_applied false k us h = left_needed k us h

  left_height : (k : ℕ) (us : List (Part F Node Number Key))
      → all_height (keywords_of (drop k us)) ≤ all_height (keywords_of us)
  left_height zero us = omega arith
  left_height (suc k) [] = omega arith
  left_height (suc k) (u ∷ us) = let rest = left_height k us in omega (arith, rest)

  pub object_applied : (wanted : Bool) (q : Pointer) (delegates : Bool) (us : List (Part F Node Number Key)) (t : Tree)
      → applications wanted (schema_object q (marked delegates us) (keywords_of us)) t
      ≡ 1 + all_applications wanted (keywords_of us) t
  object_applied true q delegates us t = refl
  object_applied false q delegates us t = refl

  -- the parts behind those that hold are left of the schema
  pub behind_held : (s : Schema) (q : Pointer) (delegates : Bool) (us : List (Part F Node Number Key))
      (k : ℕ) (t : Tree)
      → s ≡ schema_object q (marked delegates us) (keywords_of us) → all_hold (keywords_of (take k us)) t ≡ true
      → Remain s t (drop k us)
  behind_held s q delegates us k t is held = record {
    answer = ap (λ r. holds r t) is ∙ left_holds t k us held;
    errors = λ p. ap (λ r. fail r t p) is ∙ left_fails t k us p held;
    applied = λ wanted.
        let whole = ap (λ r. applications wanted r t) is ∙ object_applied wanted q delegates us t in
        let rest = left_applied t wanted k us held in
        omega (arith, whole, rest);
    lower = let whole = ap height is in let rest = left_height k us in omega (arith, whole, rest);
  }

  -- one application, and those of the parts that are left
  pub left_within : {s : Schema} {t : Tree} {us : List (Part F Node Number Key)} → Remain s t us → (wanted : Bool)
      → {before ctx next n : ℕ} → CountsUpTo before ctx 1 → CountsUpTo ctx next n
      → n ≤ all_applications wanted (keywords_of us) t → CountsUpTo before next (applications wanted s t)
  left_within left wanted one counted within = record {
    from = omega (arith, one.from, counted.from);
    to = omega (arith, left.applied wanted, within, one.to, counted.to);
  }

  -- ---- a schema by its parts

  module _ {a : Assertions F Node Number Key} {us : Vec (Part F Node Number Key) Global}
      {xs : List (Part F Node Number Key)} (is : a ≡ Keywords us) (value : xs ≡ us.items) where
    pub schema_by_parts : {s : Schema} {q : Pointer} {delegates : Bool} → schema_of q delegates a ≡ s
        → s ≡ schema_object q (marked delegates xs) (keywords_of xs)
    schema_by_parts {s} {q} {delegates} view =
        sym view ∙ ap (schema_of q delegates) is
        ∙ ap (λ ys. schema_object q (marked delegates ys) (keywords_of ys)) (sym value)

    pub known_parts : (b : Accepted) → Knows b a → IsKnown b xs × ShapeBegins xs
    known_parts b knows =
        subst (λ ys. IsKnown b ys × ShapeBegins ys) (sym value) (subst (Knows b) is knows)

  -- the values that are known to be valid are
  pub accepts_all : (b : Accepted) (a : Assertions F Node Number Key) → Knows b a → (q : Pointer) (delegates : Bool)
      (t : Tree) → is_in b.values t ≡ true → holds (schema_of q delegates a) t ≡ true
  accepts_all b Never knows q delegates t h = absurd (true≢false (sym h ∙ knows t))
  accepts_all b (Keywords us) knows q delegates t h = knows.0.values t h

  -- ---- one part

  only_part : (us : List (Part F Node Number Key)) (u d : Part F Node Number Key) → 1 ≤ length us → length us < 2
      → u ≡ get_or us 0 d → us ≡ u ∷ []
  only_part [] u d least few is = absurd (omega arith)
  only_part (v ∷ []) u d least few is = ap (λ w. w ∷ []) (sym is)
  only_part (v ∷ w ∷ us) u d least few is = absurd (omega arith)

  module _ (us : List (Part F Node Number Key)) (u d : Part F Node Number Key) (least : 1 ≤ length us)
      (few : length us < 2) (is : u ≡ get_or us 0 d) where
    pub only_holds : (t : Tree) → all_hold (keywords_of us) t ≡ meaning_holds (part_meaning u) t
    only_holds t =
        ap (λ xs. all_hold (keywords_of xs) t) (only_part us u d least few is)
        ∙ and_true (meaning_holds (part_meaning u) t)
      where
        and_true : (b : Bool) → (b && true) ≡ b
        and_true true = refl
        and_true false = refl

    pub only_needs : (t : Tree) → meaning_needed (part_meaning u) t ≤ all_needed (keywords_of us) t
    only_needs t =
        let alone = ap (λ xs. all_needed (keywords_of xs) t) (only_part us u d least few is) in
        omega (arith, alone)

    pub only_lower : part_tall u ≤ all_height (keywords_of us)
    only_lower =
        let alone = ap (λ xs. all_height (keywords_of xs)) (only_part us u d least few is) in
        omega (arith, alone)
