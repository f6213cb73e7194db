-- The limit on errors, as `parse` reads it.
use Rattle.std.proofs.Common.{◌≡◌, ◌≢◌, ℕ, ◌<◌, ◌^◌, List, Bool, true, false, Result, Ok, Err}
use Rattle.std.proofs.Common.{Some, None}
use Rattle.std.proofs.Common.{if◌then◌else◌, arith, get_or, length, refl, sym, ap, ◌∙◌, ◌&&◌, ◌==◌}
use Rattle.std.proofs.Math.Bool.{and-true}
use Rattle.std.proofs.lemmas.Bool.{lt-ltb, ltb-true}
use Rattle.std.specs.Prelude.{nat_lt}
use Rattle.std.specs.Result.{OkIff, result_ok}
use Rattle.std.specs.Str.{all_ascii_digits}
use Rattle.std.specs.Str.Parse.{ParsesUnsigned, digits_value}
use Rattle.std.proofs.lemmas.Str.Parse.{IsNumeralModel, numerals_by_value, parse_plain, tells_all_ascii_digits}
use Rattle.std.proofs.lemmas.Bool.Decides.{nat_tests}
use Rattle.jskw_check.specs.Arguments.{limit_in}

own : IsNumeralModel (λ ds. all_ascii_digits ds ≡ true) (digits_value 10)
own = numerals_by_value _ tells_all_ascii_digits

none_unless : (b c : Bool) (v : ℕ) → ¬ ((b ≡ true) × (c ≡ true)) → (if b && c then Some v else None) ≡ None
none_unless true true v never = absurd (never (refl, refl))
none_unless true false v never = refl
none_unless false c v never = refl

-- what is read, if the text is a number below 2^64, and nothing otherwise
limit_is : {E : Type 0} (bs : List ℕ) (v : ℕ) (a : Bool) (r : Result ℕ E)
    → OkIff r ((a ≡ true) × (0 < length bs) × (v < 2 ^ 64)) v
    → (if a && nat_lt 0 (length bs) && nat_lt v (2 ^ 64) then Some v else None) ≡ result_ok r
limit_is bs v true (Ok n) is =
    ap (λ b. if nat_lt 0 (length bs) && b then Some v else None) (lt-ltb v (2 ^ 64) is.0.2)
    ∙ ap (λ b. if b then Some v else None) (and-true (nat_lt 0 (length bs)) ∙ lt-ltb 0 (length bs) is.0.1)
    ∙ ap (λ z. Some z) (sym is.1)
limit_is bs v false (Ok n) is =
    let wrong : false ≡ true = is.0.0 in
    cc
limit_is bs v true (Err e) is =
    none_unless (nat_lt 0 (length bs)) (nat_lt v (2 ^ 64)) v
    (λ p. is (refl, ltb-true 0 (length bs) p.0, ltb-true v (2 ^ 64) p.1))
limit_is bs v false (Err e) is = refl

limit_gives : {E : Type 0} (bs : List ℕ) (r : Result ℕ E) → (get_or bs 0 0 == 43) ≡ false
    → ParsesUnsigned 64 10 bs r → limit_in bs ≡ result_ok r
limit_gives bs r plain parsed =
    let other : get_or bs 0 0 ≢ 43 = grind (arith, nat_tests) in
    limit_is bs (digits_value 10 bs) (all_ascii_digits bs) r (parse_plain own 64 bs r parsed other)

pub limit_read : (E : Type 0) (bs : List ℕ) (n : ℕ) → (get_or bs 0 0 == 43) ≡ false
    → ParsesUnsigned {E = E} 64 10 bs (Ok n) → Some n ≡ limit_in bs
limit_read E bs n plain parsed = sym (limit_gives {E = E} bs (Ok n) plain parsed)

pub limit_unread : {E : Type 0} (e : E) (bs : List ℕ) → (get_or bs 0 0 == 43) ≡ false
    → ParsesUnsigned {E = E} 64 10 bs (Err e) → None ≡ limit_in bs
limit_unread e bs plain parsed = sym (limit_gives bs (Err e) plain parsed)
