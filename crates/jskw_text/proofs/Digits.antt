-- Zeros at the end of digits.
use Rattle.std.proofs.Common.{◌≡◌, ℕ, zero, suc, ◌+◌, ◌-◌, ◌*◌, ◌%◌, ◌^◌, ◌<◌, List, ◌++◌, length, get_or, take, drop}
use Rattle.std.proofs.Common.{refl, sym, ap, ◌∙◌, arith, subst, take-append-drop, length-drop, length-append}
use Rattle.std.proofs.Math.Seq.{drop-append_seam, take-append_seam, drop-append-add}
use Rattle.std.proofs.lemmas.List.{get_or_append_left, get_or-append-add, drop-append-le}
use Rattle.std.proofs.lemmas.Nat.{mod-mul-add}
use Rattle.std.specs.Char.{digit_value}
use Rattle.std.specs.Str.Parse.{digits_value, AllDigits}
use Rattle.core.proofs.dec2flt.DigitsLemmas.{digits_value-append, is_digit}
use Rattle.core.proofs.dec2flt.Rows.{AllDigits-drop, AllDigits-take}
use Rattle.core.proofs.str.DigitValues.{digits_value_more}
use Rattle.core.proofs.str.DigitBytes.{digit_at}
use Rattle.jskw_text.specs.Tens.{EndsDigits}

-- the first digits and the others
pub split : (ds : List ℕ) (i : ℕ)
    → digits_value 10 ds ≡ digits_value 10 (take i ds) * 10 ^ (length ds - i) + digits_value 10 (drop i ds)
split ds i = ap (digits_value 10) (sym (take-append-drop i ds)) ∙ rw (digits_value-append, length-drop)

below_ten : (ds : List ℕ) (i : ℕ) → AllDigits 10 ds → i < length ds → digit_value (get_or ds i 0) < 10
below_ten ds i h l = let r = digit_at ds i h l in omega (arith, (is_digit _ r.0 r.1).1)

-- what ends with a digit that is not 0 is no multiple of ten
pub no_ten : (ds : List ℕ) (i : ℕ) → AllDigits 10 ds → EndsDigits ds i → digits_value 10 (take i ds) % 10 ≡ 0
    → digits_value 10 (take i ds) ≡ 0
no_ten ds zero h e none = refl
no_ten ds (suc i) h e none =
    let same : suc i - 1 ≡ i = omega arith in
    let within : i < length ds = omega (arith, e.within) in
    let last : 0 < digit_value (get_or ds i 0) =
    subst (λ j. 0 < digit_value (get_or ds j 0)) same (e.last (omega arith)) in
    let next : i + 1 ≡ suc i = omega arith in
    let more : digits_value 10 (take (suc i) ds) ≡ digits_value 10 (take i ds) * 10 + digit_value (get_or ds i 0) =
    rw next at (digits_value_more 10 ds i within) in
    let rest : digits_value 10 (take (suc i) ds) % 10 ≡ digit_value (get_or ds i 0) =
    ap (λ n. n % 10) more
    ∙ mod-mul-add (digits_value 10 (take i ds)) 10 (digit_value (get_or ds i 0)) (below_ten ds i h within) in
    absurd (omega (arith, rest))

-- ---- digits in two parts

pub front_digits : (w f : List ℕ) → AllDigits 10 (w ++ f) → AllDigits 10 w
front_digits w f h = subst (AllDigits 10) (take-append_seam w f) (AllDigits-take (length w) (w ++ f) h)

pub behind_digits : (w f : List ℕ) → AllDigits 10 (w ++ f) → AllDigits 10 f
behind_digits w f h = subst (AllDigits 10) (drop-append_seam w f) (AllDigits-drop (length w) (w ++ f) h)

pub ends_before : (w f : List ℕ) (i j : ℕ) → EndsDigits f j → j ≡ 0 → EndsDigits w i → EndsDigits (w ++ f) i
ends_before w f i j none e h =
    let nothing : digits_value 10 f ≡ 0 = ap (λ k. digits_value 10 (drop k f)) (sym e) ∙ none.zeros in
    record {
      within = omega (arith, h.within, length-append w f);
      zeros =
          ap (digits_value 10) (drop-append-le i w f h.within) ∙ digits_value-append (drop i w) f
          ∙ omega (arith, nothing, ap (λ x. x * 10 ^ length f) h.zeros);
      last = λ some. rw (get_or_append_left w f 0 (i - 1) (omega (arith, h.within))) (h.last some);
    }

pub ends_behind : (w f : List ℕ) (j : ℕ) → 0 < j → EndsDigits f j → EndsDigits (w ++ f) (length w + j)
ends_behind w f j some h =
    let place : length w + j - 1 ≡ length w + (j - 1) = omega arith in
    record {
      within = omega (arith, h.within, length-append w f);
      zeros = ap (digits_value 10) (drop-append-add w f j) ∙ h.zeros;
      last = λ _. rw (place, get_or-append-add w f (j - 1) 0) (h.last some);
    }
