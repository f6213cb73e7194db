-- Numbers of few digits without an exponent, within a text.
use Rattle.std.proofs.Common.{◌≡◌, ℕ, ◌+◌, ◌-◌, ◌*◌, ◌%◌, ◌^◌, ◌<◌, ◌≤◌, ◌==◌, ◌||◌, List}
use Rattle.std.proofs.Common.{length, drop, take, get_or, lt-ltb, ◌&&◌, Bool, true, false}
use Rattle.std.proofs.Common.{cond, Option, Some, None, IfSome}
use Rattle.std.proofs.Common.{option_map, option_and_then, inl, inr, ◌⊎◌, refl, sym, ap, ◌∙◌, arith, length-drop}
use Rattle.std.proofs.Common.{add-zero, is_some, lt_of_not-le}
use Rattle.std.proofs.Common.{length-take-le}
use Rattle.std.proofs.lemmas.Bool.{cases_Bool, eqb-true, ne_eqb, false≢true, true≢false, eq-eqb}
use Rattle.std.proofs.lemmas.List.{drop-drop, drop-take, get_or-drop, get_or-take, take-take}
use Rattle.std.proofs.lemmas.List.{get_or_default}
use Rattle.std.proofs.lemmas.List.Folds.{drop_split}
use Rattle.std.specs.Char.{is_ascii_digit}
use Rattle.std.specs.Float.Numeral.{digits_len}
use Rattle.std.specs.List.{slice_range}
use Rattle.std.specs.Str.Parse.{digits_value}
use Rattle.core.proofs.dec2flt.Rows.{AllDigits-digits_len}
use Rattle.fast_float.proofs.Integers.{digits_len_all}
use Rattle.fast_float.specs.Text.{scan}
use Rattle.json.proofs.Printed.Numbers.{number_alone}
use Rattle.json.specs.Print.{IsNumber}
use Rattle.json.specs.Word.{is_operator, is_space, head, ends_word, after_digits, after_minus, after_whole}
use Rattle.json.specs.Word.{after_fraction}
use Rattle.json.specs.Word.{after_exponent, after_number}
use Rattle.jskw_value.specs.Decimal.{value}
use Rattle.jskw_value.specs.Number.{Num, is_decimal, signed}
use Rattle.jskw_value.specs.declared.decimal.Decimal.{Decimal}
use Rattle.jskw_text.proofs.Lexemes.{prefix_kept}
use Rattle.jskw_text.proofs.FewDigits.{made, whole_read, fraction_read}
use Rattle.jskw_text.specs.NumberText.{number_of, decimal_from}
use Rattle.jskw_text.specs.Passing.{IsNumberAt, IsUnsignedAt}

-- ---- the parts of the grammar

pub head_is : (d : List ℕ) (i : ℕ) → head (drop i d) ≡ get_or d i 32
head_is d i = get_or-drop i d 0 32 ∙ ap (λ j. get_or d j 32) (add-zero i)

chosen : {X : Type 0} (b : Bool) (x y : X) → b ≡ false → cond b x y ≡ y
chosen b x y e = rw e refl

taken : {X : Type 0} (b : Bool) (x y : X) → b ≡ true → cond b x y ≡ x
taken b x y e = rw e refl

-- no exponent begins where a word ends
no_exponent : (x : ℕ) → (is_operator x || is_space x) ≡ true → ((x == 101) || (x == 69)) ≡ false
no_exponent x h = go (cases_Bool (x == 101)) (cases_Bool (x == 69))
  where
    no : (y : ℕ) → (is_operator y || is_space y) ≡ false → x ≡ y → ⊥
    no y n e = false≢true (sym n ∙ ap (λ z. is_operator z || is_space z) (sym e) ∙ h)

    go : ((x == 101) ≡ true) ⊎ ((x == 101) ≡ false) → ((x == 69) ≡ true) ⊎ ((x == 69) ≡ false)
        → ((x == 101) || (x == 69)) ≡ false
    go (inl e) q = absurd (no 101 refl (eqb-true x 101 e))
    go (inr p) (inl e) = absurd (no 69 refl (eqb-true x 69 e))
    go (inr p) (inr q) = rw (p, q) refl

pub exponent_passed : (t : List ℕ) → ends_word t ≡ true → after_exponent t ≡ Some t
exponent_passed t h = chosen ((head t == 101) || (head t == 69)) _ (Some t) (no_exponent (head t) h)

digits_passed : (d : List ℕ) (start n : ℕ) → digits_len (drop start d) ≡ n → 0 < n
    → after_digits (drop start d) ≡ Some (drop (start + n) d)
digits_passed d start n e some =
    let t = drop start d in
    ap (λ k. cond (k == 0) None (Some (drop k t))) e
    ∙ chosen (n == 0) None (Some (drop n t)) (ne_eqb n 0 (λ (z : n ≡ 0). omega arith))
    ∙ ap Some (drop-drop n start d)

pub whole_passed : (d : List ℕ) (start n : ℕ) → digits_len (drop start d) ≡ n → 0 < n
    → (head (drop start d) ≡ 48 → n ≡ 1) → after_whole (drop start d) ≡ Some (drop (start + n) d)
whole_passed d start n e some first = go (cases_Bool (head t == 48))
  where
    t : List ℕ
    t = drop start d

    go : ((head t == 48) ≡ true) ⊎ ((head t == 48) ≡ false) → after_whole t ≡ Some (drop (start + n) d)
    go (inl z) = taken (head t == 48) _ _ z ∙ ap Some (drop-drop 1 start d)
        ∙ ap (λ k. Some (drop (start + k) d)) (sym (first (eqb-true (head t) 48 z)))
    go (inr z) = chosen (head t == 48) _ _ z ∙ digits_passed d start n e some

pub fraction_passed : (d : List ℕ) (point n : ℕ) → head (drop point d) ≡ 46 → digits_len (drop (point + 1) d) ≡ n
    → 0 < n → after_fraction (drop point d) ≡ Some (drop (point + 1 + n) d)
fraction_passed d point n dot e some =
    let t = drop point d in
    taken (head t == 46) (after_digits (drop 1 t)) (Some t) (eq-eqb (head t) 46 dot)
    ∙ ap after_digits (drop-drop 1 point d) ∙ digits_passed d (point + 1) n e some

pub no_fraction_passed : (t : List ℕ) → (head t ≡ 46 → ⊥) → after_fraction t ≡ Some t
no_fraction_passed t other = chosen (head t == 46) _ (Some t) (ne_eqb (head t) 46 other)

-- ---- digits within a text

module _ (d : List ℕ) (start : ℕ) (negative : Bool) (r : Option Decimal) where
  -- a whole number up to `point`
  module _ (point whole : ℕ) (within : point ≤ length d) (some : start < point) (few : point ≤ start + 18)
      (digits : point ≡ start + digits_len (drop start d))
      (is : whole ≡ (0 * 10 ^ (point - start) + digits_value 10 (slice_range d start point)) % 2 ^ 64) where
    long : length (slice_range d start point) ≡ point - start
    long = length-take-le (point - start) (drop start d) (omega (arith, length-drop start d))

    pub whole_denotes : option_map value r ≡ made negative whole 0
        → IfSome r (λ x. decimal_from negative (scan (slice_range d start point)) ≡ Some (value x))
    whole_denotes made_is =
        let t = slice_range d start point in
        let all : digits_len t ≡ length t =
        digits_len_all t (AllDigits-digits_len (drop start d) (point - start) (omega arith)) in
        let v = digits_value 10 t in
        let alone : 0 * 10 ^ (point - start) + v ≡ v = omega arith in
        whole_read t all negative whole r (omega (arith, long)) (omega (arith, long)) (is ∙ ap (λ n. n % 2 ^ 64) alone)
        made_is

    -- and a point and a fraction up to `end`
    module _ (end size : ℕ) (fits : end ≤ length d) (more : point + 1 < end) (short : end ≤ start + 19)
        (dot : get_or d point 32 ≡ 46) (rest : end ≡ point + 1 + digits_len (drop (point + 1) d))
        (size_is : size ≡ (whole * 10 ^ (end - (point + 1)) + digits_value 10 (slice_range d (point + 1) end)) % 2 ^ 64)
      where
        pub fraction_denotes : option_map value r ≡ made negative size (end - point - 1)
            → IfSome r (λ x. decimal_from negative (scan (slice_range d start end)) ≡ Some (value x))
        fraction_denotes made_is =
            let xs = drop start d in
            let n = end - start in
            let a = point - start in
            let t = slice_range d start end in
            let m = end - (point + 1) in
            let xs_long : length xs ≡ length d - start = length-drop start d in
            let t_long : length t ≡ n = length-take-le n xs (omega arith) in
            let len : digits_len xs ≡ a = omega arith in
            let front : digits_len t ≡ a = prefix_kept is_ascii_digit xs n (omega arith) ∙ len in
            let at_point : start + a ≡ point = omega arith in
            let dot_at : get_or t a 0 ≡ 46 =
            get_or-take n xs a 0 (omega arith) ∙ get_or-drop start d a 0
            ∙ ap (λ j. get_or d j 0) at_point ∙ get_or_default d point 0 32 (omega arith) ∙ dot in
            let parted : n ≡ a + 1 + m = omega arith in
            let behind_point : start + (a + 1) ≡ point + 1 = omega arith in
            let behind : drop (a + 1) t ≡ take m (drop (point + 1) d) =
            ap (λ k. drop (a + 1) (take k xs)) parted ∙ drop-take (a + 1) m xs
            ∙ ap (take m) (drop-drop (a + 1) start d ∙ ap (λ k. drop k d) behind_point) in
            let all_behind : a + 1 + digits_len (drop (a + 1) t) ≡ length t =
            let kept = prefix_kept is_ascii_digit (drop (point + 1) d) m (omega arith) in
            omega (arith, ap digits_len behind, kept, t_long) in
            let from_start : a - 0 ≡ point - start = omega arith in
            let before : slice_range t 0 a ≡ slice_range d start point =
            take-take (a - 0) n xs (omega arith) ∙ ap (λ k. take k xs) from_start in
            let whole_at : 0 * 10 ^ (point - start) + digits_value 10 (slice_range d start point)
            ≡ 0 * 10 ^ (a - 0) + digits_value 10 (slice_range t 0 a) =
            omega (arith, ap (digits_value 10) before) in
            let whole_is : whole ≡ (0 * 10 ^ (a - 0) + digits_value 10 (slice_range t 0 a)) % 2 ^ 64 =
            is ∙ ap (λ v. v % 2 ^ 64) whole_at in
            let places : m ≡ length t - (a + 1) = omega (arith, t_long) in
            let last : slice_range t (a + 1) (length t) ≡ slice_range d (point + 1) end =
            ap (λ u. take (length t - (a + 1)) u) behind
            ∙ take-take (length t - (a + 1)) m (drop (point + 1) d) (omega (arith, t_long))
            ∙ ap (λ k. take k (drop (point + 1) d)) (sym places) in
            let size_of :
            size ≡ (whole * 10 ^ (length t - (a + 1)) + digits_value 10 (slice_range t (a + 1) (length t))) % 2 ^ 64 =
            size_is ∙ ap (λ k. (whole * 10 ^ k + digits_value 10 (slice_range d (point + 1) end)) % 2 ^ 64) places
            ∙ ap (λ u. (whole * 10 ^ (length t - (a + 1)) + digits_value 10 u) % 2 ^ 64) (sym last) in
            let scale : end - point - 1 ≡ length t - a - 1 = omega (arith, t_long) in
            fraction_read t a front dot_at all_behind negative whole size r (omega (arith, t_long))
            (omega (arith, t_long))
            whole_is size_of (made_is ∙ ap (made negative size) scale)

-- a whole number, its decimal being x
pub whole_unsigned : (d : List ℕ) (start point : ℕ) (negative : Bool) (whole : ℕ) (x : Decimal) → point ≤ length d
    → start < point → point ≤ start + 18 → point ≡ start + digits_len (drop start d)
    → (head (drop start d) ≡ 48 → point - start ≡ 1) → ends_word (drop point d) ≡ true
    → whole ≡ (0 * 10 ^ (point - start) + digits_value 10 (slice_range d start point)) % 2 ^ 64
    → option_map value (Some x) ≡ made negative whole 0 → IsUnsignedAt negative d start point (value x)
whole_unsigned d start point negative whole x within some few digits first ended is made_is =
    let n = point - start in
    let more : start + n ≡ point = omega arith in
    let no_point = λ (e : head (drop point d) ≡ 46).
    true≢false (sym ended ∙ ap (λ b. is_operator b || is_space b) e) in
    record {
      within = within;
      forward = some;
      passed = ap (λ o. option_and_then after_exponent (option_and_then after_fraction o))
          (whole_passed d start n (omega (arith, digits)) (omega arith) first ∙ ap (λ k. Some (drop k d)) more)
          ∙ ap (option_and_then after_exponent) (no_fraction_passed (drop point d) no_point)
          ∙ exponent_passed (drop point d) ended;
      denotes = whole_denotes d start negative (Some x) point whole within some few digits is made_is;
      ended = ended;
    }

-- ---- with the sign

is_some_none : {A : Type 0} {a : A} → None ≡ Some a → ⊥
is_some_none e = false≢true (ap is_some e)

-- what is left of a text behind a number is what stands behind its slice
number_in : (d : List ℕ) (from end : ℕ) → from ≤ end → ends_word (drop end d) ≡ true
    → after_number (drop from d) ≡ Some (drop end d) → IsNumber (slice_range d from end)
number_in d from end le ended passed =
    number_alone (slice_range d from end) (drop end d) ended
    (ap after_number (sym (drop_split d from end le)) ∙ passed)

pub plain_number : (d : List ℕ) (from end : ℕ) (x : Num) → (head (drop from d) ≡ 45 → ⊥)
    → IsUnsignedAt false d from end x → IsNumberAt d from end x
unfolding after_number number_of
plain_number d from end x other u =
    let t = drop from d in
    let s = slice_range d from end in
    let unsigned : after_minus t ≡ t = chosen (head t == 45) (drop 1 t) t (ne_eqb (head t) 45 other) in
    let first : get_or s 0 0 ≡ get_or d from 0 =
    get_or-take (end - from) t 0 0 (omega (arith, u.forward)) ∙ get_or-drop from d 0 0
    ∙ ap (λ j. get_or d j 0) (add-zero from) in
    let here : get_or d from 0 ≡ head t =
    get_or_default d from 0 32 (omega (arith, u.forward, u.within)) ∙ sym (head_is d from) in
    let no_sign : (get_or s 0 0 == 45) ≡ false = ne_eqb (get_or s 0 0) 45 (λ e. other (sym (first ∙ here) ∙ e)) in
    record {
      within = u.within;
      forward = u.forward;
      number = number_in d from end (omega (arith, u.forward)) u.ended
          (ap (λ l. option_and_then after_exponent (option_and_then after_fraction (after_whole l))) unsigned
          ∙ u.passed);
      denotes = chosen (get_or s 0 0 == 45) (decimal_from true (scan (drop 1 s))) (decimal_from false (scan s)) no_sign
          ∙ u.denotes;
      ended = u.ended;
    }

pub negative_number : (d : List ℕ) (from end : ℕ) (x : Num) → head (drop from d) ≡ 45
    → IsUnsignedAt true d (from + 1) end x → IsNumberAt d from end x
unfolding after_number number_of
negative_number d from end x minus u =
    let t = drop from d in
    let s = slice_range d from end in
    let signed : after_minus t ≡ drop (from + 1) d =
    taken (head t == 45) (drop 1 t) t (eq-eqb (head t) 45 minus) ∙ drop-drop 1 from d in
    let first : get_or s 0 0 ≡ get_or d from 0 =
    get_or-take (end - from) t 0 0 (omega (arith, u.forward)) ∙ get_or-drop from d 0 0
    ∙ ap (λ j. get_or d j 0) (add-zero from) in
    let here : get_or d from 0 ≡ head t =
    get_or_default d from 0 32 (omega (arith, u.forward, u.within)) ∙ sym (head_is d from) in
    let sign : (get_or s 0 0 == 45) ≡ true = eq-eqb (get_or s 0 0) 45 (first ∙ here ∙ minus) in
    let parted : end - from ≡ 1 + (end - (from + 1)) = omega (arith, u.forward) in
    let rest : drop 1 s ≡ slice_range d (from + 1) end =
    ap (λ k. drop 1 (take k t)) parted
    ∙ drop-take 1 (end - (from + 1)) t ∙ ap (take (end - (from + 1))) (drop-drop 1 from d) in
    record {
      within = u.within;
      forward = omega (arith, u.forward);
      number = number_in d from end (omega (arith, u.forward)) u.ended
          (ap (λ l. option_and_then after_exponent (option_and_then after_fraction (after_whole l))) signed ∙ u.passed);
      denotes = taken (get_or s 0 0 == 45) (decimal_from true (scan (drop 1 s))) (decimal_from false (scan s)) sign
          ∙ ap (λ l. decimal_from true (scan l)) rest ∙ u.denotes;
      ended = u.ended;
    }

-- a whole number without a sign or a zero in front
pub whole_number : (d : List ℕ) (from end : ℕ) → end ≤ length d → from < end → end ≤ from + 18
    → end ≡ from + digits_len (drop from d) → 48 < head (drop from d) → ends_word (drop end d) ≡ true
    → (x : Num) × IsNumberAt d from end x
whole_number d from end within some few digits first ended =
    let n = (0 * 10 ^ (end - from) + digits_value 10 (slice_range d from end)) % 2 ^ 64 in
    let small : n < 2 ^ 64 = omega arith in
    let x : Decimal = record {
      size = n;
      is_negative = false;
      scale = 0;
      sign = λ e. absurd (false≢true e);
      word = small;
      low = λ e. absurd (false≢true e);
      short = omega arith;
    } in
    let fits = ap (λ b. b && true) (lt-ltb n (2 ^ 64) small) in
    let made_is = sym (taken (is_decimal (signed false n) 0) (Some (value x)) None fits) in (
      value x,
      plain_number d from end (value x) (λ e. omega (arith, e, first))
          (whole_unsigned d from end false n x within some few digits (λ e. omega (arith, e, first)) ended refl
          made_is),
    )

-- a number has a byte
pub some_bytes : (d : List ℕ) (from end : ℕ) → from ≤ end → IsNumber (slice_range d from end) → from < end
unfolding after_number
some_bytes d from end le is = lt_of_not-le (λ h. none (omega arith))
  where
    none : end - from ≡ 0 → ⊥
    none e = absurd (is_some_none (sym (ap (λ n. after_number (take n (drop from d))) e) ∙ is))
