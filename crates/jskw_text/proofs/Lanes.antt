-- Runs of bytes, sixteen at a time.
use Rattle.std.proofs.Common.{◌≡◌, ℕ, ◌+◌, ◌*◌, ◌%◌, ◌^◌, ◌<◌, ◌≤◌, leb, Bool, true, false, not, cond, eqb, T}
use Rattle.std.proofs.Common.{List, [], ◌∷◌, map, replicate}
use Rattle.std.proofs.Common.{length, drop, refl, ap, ap₂, ◌∙◌, arith, w8, Fits, sym}
use Rattle.std.proofs.lemmas.Bool.{eq-eqb, ne_eqb}
use Rattle.std.proofs.lemmas.List.{length-drop, length-map}
use Rattle.std.proofs.lemmas.List.Folds.{prefix_len-append}
use Rattle.std.proofs.lemmas.List.Sums.{prefix_len-le-length}
use Rattle.std.proofs.lemmas.Simd.{chunk-drop, length-chunk, leading_from_mask_l, map-map, trailing_mask_l}
use Rattle.std.proofs.lemmas.Simd.{mask_l-mod, zip2_splat, zip2_splat_left}
use Rattle.std.specs.List.{prefix_len}
use Rattle.core.proofs.dec2flt.DigitsLemmas.{all_below, every_below, beq_is}
use lib.Bits.{bit_or}
use lib.Count.{count_trailing_zeros}
use lib.Lanes.{zip2, chunk, mask_l, top, Each1}
use Rattle.std.specs.Bool.{beq}
use Rattle.std.specs.Char.{is_ascii_digit}
use Rattle.std.specs.Float.Numeral.{digits_len}
use Rattle.json.specs.Run.{is_no_digit, is_stop, is_plain}

-- ---- a mask that is computed lane by lane

-- a lane that is equal to another, or at most that
abbrev pub hit : ℕ → ℕ → ℕ
hit a b = cond (eqb a b) 255 0

abbrev pub at_most : ℕ → ℕ → ℕ
at_most a b = cond (leb a b) 255 0

zip2-map : (f g : ℕ → ℕ) (xs : List ℕ) → zip2 bit_or (map f xs) (map g xs) ≡ map (λ x. bit_or (f x) (g x)) xs
zip2-map f g [] = refl
zip2-map f g (x ∷ xs) = ap (λ r. bit_or (f x) (g x) ∷ r) (zip2-map f g xs)

pub either : (f g : ℕ → ℕ) (v : List ℕ) {a b : List ℕ} → a ≡ map f v → b ≡ map g v
    → zip2 bit_or a b ≡ map (λ x. bit_or (f x) (g x)) v
either f g v p q = ap₂ (zip2 bit_or) p q ∙ zip2-map f g v

each_byte : (f : ℕ → ℕ) (p : ℕ → Bool) → T (all_below (λ x. beq (top 7 (f x)) (p x)) 256) → (v : List ℕ)
    → Each1 (Fits w8) v → map (top 7) (map f v) ≡ map p v
each_byte f p all [] fits = refl
each_byte f p all (x ∷ xs) fits =
    ap₂ (λ a b. a ∷ b) (beq_is _ _ (every_below (λ y. beq (top 7 (f y)) (p y)) 256 all x fits.0.fits))
    (each_byte f p all xs fits.1)

-- a vector that was computed lane by lane, beside a byte
pub beside : (h : ℕ → ℕ → ℕ) (f : ℕ → ℕ) (y n : ℕ) (v : List ℕ) {a : List ℕ} → length v ≡ n → a ≡ map f v
    → zip2 h a (replicate n y) ≡ map (λ x. h (f x) y) v
beside h f y n v long p =
    ap (λ a. zip2 h a (replicate n y)) p ∙ zip2_splat h (map f v) n y (length-map v f ∙ long)
    ∙ map-map (λ x. h x y) f v

-- the same the other way round
pub before : (h : ℕ → ℕ → ℕ) (f : ℕ → ℕ) (y n : ℕ) (v : List ℕ) {a : List ℕ} → length v ≡ n → a ≡ map f v
    → zip2 h (replicate n y) a ≡ map (λ x. h y (f x)) v
before h f y n v long p =
    ap (zip2 h (replicate n y)) p ∙ zip2_splat_left h y n (map f v) (length-map v f ∙ long) ∙ map-map (h y) f v

-- it is held to a predicate at each of the 256 bytes
pub masked : (f : ℕ → ℕ) (p : ℕ → Bool) (v z : List ℕ) → length v ≤ 64 → Each1 (Fits w8) v → z ≡ map f v
    → T (all_below (λ x. beq (top 7 (f x)) (p x)) 256) → mask_l (map (top 7) z) % 2 ^ 64 ≡ mask_l (map p v)
masked f p v z short fits e all =
    ap (λ l. mask_l l % 2 ^ 64) (ap (map (top 7)) e ∙ each_byte f p all v fits)
    ∙ mask_l-mod (map p v) 64 (omega (arith, length-map v p))

-- ---- a run of bytes that pass q, up to the first that passes p

pub run_bound : (q : ℕ → Bool) (d : List ℕ) (i : ℕ) → i ≤ length d → i + prefix_len q (drop i d) ≤ length d
run_bound q d i h = omega (arith, prefix_len-le-length q (drop i d), length-drop i d)

module _ (p q : ℕ → Bool) (opposite : (x : ℕ) → q x ≡ not (p x)) where
  same_run : (xs : List ℕ) → prefix_len q xs ≡ prefix_len (λ x. not (p x)) xs
  same_run [] = refl
  same_run (x ∷ xs) = ap₂ (λ b n. cond b (1 + n) 0) (opposite x) (same_run xs)

  -- where all pass, no bit is set
  none_left : (xs : List ℕ) → prefix_len (λ x. not (p x)) xs ≡ length xs → mask_l (map p xs) ≡ 0
  none_left [] e = refl
  none_left (x ∷ xs) e = go (p x) (omega (arith, e)) (none_left xs)
    where
      go : (b : Bool) → cond (not b) (1 + prefix_len (λ y. not (p y)) xs) 0 ≡ 1 + length xs
          → (prefix_len (λ y. not (p y)) xs ≡ length xs → mask_l (map p xs) ≡ 0)
          → cond b 1 0 + 2 * mask_l (map p xs) ≡ 0
      go true e ih = let no : ⊥ = omega arith in absurd no
      go false e ih = omega (arith, ih (omega arith))

  module _ (d : List ℕ) (i n : ℕ) (room : i + n ≤ length d) where
    split : prefix_len q (drop i d)
        ≡ cond (eqb (prefix_len q (chunk i n d)) (length (chunk i n d)))
        (length (chunk i n d) + prefix_len q (drop (i + n) d)) (prefix_len q (chunk i n d))
    split = ap (prefix_len q) (chunk-drop i n d) ∙ prefix_len-append q (chunk i n d) (drop (i + n) d)

    -- it goes on behind bytes of which none stops it
    pub run_through : mask_l (map p (chunk i n d)) ≡ 0
        → prefix_len q (drop i d) ≡ n + prefix_len q (drop (i + n) d)
    run_through none =
        let c = chunk i n d in
        split ∙ ap (λ b. cond b (length c + prefix_len q (drop (i + n) d)) (prefix_len q c))
        (eq-eqb _ _ (same_run c ∙ leading_from_mask_l p c none))
        ∙ ap (λ k. k + prefix_len q (drop (i + n) d)) (length-chunk i n d room)

    -- else it ends at the first that does
    pub run_stops : (found : ℕ) → n ≤ 64 → found ≡ mask_l (map p (chunk i n d)) → 0 < found
        → (prefix_len q (drop i d) ≡ count_trailing_zeros 64 found) × (count_trailing_zeros 64 found ≤ n)
    run_stops found short is some =
        let c = chunk i n d in
        let first : count_trailing_zeros 64 found ≡ prefix_len q c =
        ap (count_trailing_zeros 64) is
        ∙ trailing_mask_l p 64 c (omega (arith, length-chunk i n d room)) (omega (arith, is)) ∙ sym (same_run c) in (
          split ∙ ap (λ b. cond b (length c + prefix_len q (drop (i + n) d)) (prefix_len q c))
              (ne_eqb _ _ (λ (e : prefix_len q c ≡ length c).
              omega (arith, is, none_left c (sym (same_run c) ∙ e))))
              ∙ sym first,
          omega (arith, first, prefix_len-le-length q c, length-chunk i n d room),
        )

pub not-not : (b : Bool) → b ≡ not (not b)
not-not true = refl
not-not false = refl

-- the digits from an offset on end at the first bit of the block there, if there is one
pub digits_in_block : (bytes : List ℕ) (i found : ℕ) → i + 16 ≤ length bytes
    → found ≡ mask_l (map is_no_digit (chunk i 16 bytes)) → 0 < found
    → (digits_len (drop i bytes) ≡ count_trailing_zeros 64 found) × (count_trailing_zeros 64 found ≤ 16)
digits_in_block bytes i found room =
    run_stops is_no_digit is_ascii_digit (λ x. not-not (is_ascii_digit x)) bytes i 16 room found (omega arith)

-- the plain text from an offset on ends at the first bit of the block there, if there is one
abbrev pub EndsInBlock : List ℕ → ℕ → ℕ → Type 0
EndsInBlock bytes i found = (prefix_len is_plain (drop i bytes) ≡ count_trailing_zeros 64 found)
    × (count_trailing_zeros 64 found ≤ 16)

pub ends_in_block : (bytes : List ℕ) (i found : ℕ) → i + 16 ≤ length bytes
    → found ≡ mask_l (map is_stop (chunk i 16 bytes)) → 0 < found → EndsInBlock bytes i found
ends_in_block bytes i found room = run_stops is_stop is_plain (λ x. refl) bytes i 16 room found (omega arith)

pub goes_on : (bytes : List ℕ) (i found : ℕ) → i + 16 ≤ length bytes
    → found ≡ mask_l (map is_stop (chunk i 16 bytes)) → found ≡ 0
    → prefix_len is_plain (drop i bytes) ≡ 16 + prefix_len is_plain (drop (i + 16) bytes)
goes_on bytes i found room is none =
    run_through is_stop is_plain (λ x. refl) bytes i 16 room (omega (arith, is))
