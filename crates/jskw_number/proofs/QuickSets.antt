-- Ranges of integers within limits and among multiples, and sets of values that keywords accept.
use Rattle.std.proofs.Common.{◌≡◌, ℕ, zero, suc, List, [], ◌∷◌, ap, get_or, ◌^◌, ◌*◌, ◌%◌, ◌==◌, ◌&&◌, ◌||◌, ℤ, pos}
use Rattle.std.proofs.Common.{negsuc, ◌*ℤ◌, ◌+ℤ◌, Bool, true, false, not, if◌then◌else◌, Some, None, refl, sym, ap₂}
use Rattle.std.proofs.Common.{subst, ◌∙◌, arith, lit<, ◌≤◌, ◌<◌, ◌+◌, ◌-◌, drop, length}
use Rattle.std.proofs.lemmas.Bool.{and_parts, leb-false, leb-true, lt-ltb, ltb-false, or_left, true≢false}
use Rattle.std.proofs.Math.Bool.{and-true}
use Rattle.std.proofs.Math.Dec.{eqb-suc-zero}
use Rattle.std.proofs.Math.IntN.{*ℤ-one, *ℤ_comm, one, suc_ℤ-*ℤ, zero-*ℤ}
use Rattle.std.proofs.Math.Nat.{mul-mod_left, one-le-pow}
use Rattle.std.proofs.lemmas.Int.{ints}
use Rattle.std.proofs.lemmas.List.{drop_more}
use Rattle.std.specs.Option.{option_and_then, option_map_or}
use Rattle.std.specs.Prelude.{int_le, int_lt, nat_le, nat_lt, unsigned_abs, ◌≤ℤ◌, ◌<ℤ◌}
use Rattle.jskw_value.specs.Number.{Num, exact, float, i64_of, is_multiple_of, is_written_as_integer, u64_of}
use Rattle.jskw_value.specs.Number.{written_integer}
use Rattle.jskw_value.specs.Tree.{Tree, null, boolean, number, string, array, object, as_number, is_array}
use Rattle.jskw_value.specs.Types as types
use Rattle.jskw_value.specs.declared.types.JsonTypeSet.{JsonTypeSet}
use Rattle.jskw_value.specs.declared.types.JsonType.{JsonType}
use Rattle.jskw_value.specs.declared.types.JsonType.TheVariants.{Array, Boolean, Integer, Null, Number, Object, String}
use Rattle.jskw_report.specs.Holds.{is_integer_by, is_of, limit_holds, multiple_holds, stands_in}
use Rattle.jskw_report.specs.Keyword.{Keyword, Integers, by_value, as_written, Relation, Minimum, Maximum}
use Rattle.jskw_report.specs.Keyword.{ExclusiveMinimum, ExclusiveMaximum}
use Rattle.jskw_number.specs.declared.quick_set.integer_range.IntegerRange.{IntegerRange}
use Rattle.jskw_number.specs.declared.quick_set.QuickSet.{QuickSet}
use Rattle.std.specs.Int.NonZero.{non_zero_u64_get}
use Rattle.std.specs.declared.num.NonZeroU64.{NonZeroU64}
use Rattle.jskw_number.specs.QuickSet.{Accepts, IsNarrower, divides, encloses, has_fraction, has_number, in_range}
use Rattle.jskw_number.specs.QuickSet.{has_type, is_in, is_in_limits, is_in_types, leading, type_index}
use Rattle.jskw_report.proofs.HoldsElsewhere.{IsOther, holds_of_other, subject}
use Rattle.jskw_number.proofs.Divisors.{divides_other}
use Rattle.jskw_number.proofs.Limits.{limit_other}

times_one : (n : ℤ) → n *ℤ pos (10 ^ 0) ≡ n
unfolding one
times_one n = let power : 10 ^ 0 ≡ 1 = omega arith in rw power (*ℤ-one n)

next_above : (z n : ℤ) (b : Bool) → int_lt n z ≡ b → int_le (n +ℤ pos 1) z ≡ true → int_lt n z ≡ true
next_above z n true e h = e
next_above z n false e h = absurd (omega (arith, ints, e, h))

next_below : (z n : ℤ) (b : Bool) → int_lt z n ≡ b → int_le z (n +ℤ negsuc 0) ≡ true → int_lt z n ≡ true
next_below z n true e h = e
next_below z n false e h = absurd (omega (arith, ints, e, h))

-- a factor keeps an order
scaled : (a b : ℤ) (p : ℕ) → a ≤ℤ b → (pos p *ℤ a) ≤ℤ (pos p *ℤ b)
scaled a b zero h = rw (zero-*ℤ a, zero-*ℤ b) (omega (arith, ints))
scaled a b (suc p) h = let r = scaled a b p h in rw (suc_ℤ-*ℤ (pos p) a, suc_ℤ-*ℤ (pos p) b) (omega (arith, ints))

scaled_less : (a b : ℤ) (p : ℕ) → 1 ≤ p → a <ℤ b → (pos p *ℤ a) <ℤ (pos p *ℤ b)
scaled_less a b zero l h = absurd (omega (arith, l))
scaled_less a b (suc p) l h = let r = scaled a b p (omega (arith, ints, h)) in
    rw (suc_ℤ-*ℤ (pos p) a, suc_ℤ-*ℤ (pos p) b) (omega (arith, ints))

-- and so does a power of ten
tens : (a b : ℤ) (k : ℕ) → a ≤ℤ b → (a *ℤ pos (10 ^ k)) ≤ℤ (b *ℤ pos (10 ^ k))
tens a b k h = rw (*ℤ_comm a (pos (10 ^ k)), *ℤ_comm b (pos (10 ^ k))) (scaled a b (10 ^ k) h)

tens_less : (a b : ℤ) (k : ℕ) → a <ℤ b → (a *ℤ pos (10 ^ k)) <ℤ (b *ℤ pos (10 ^ k))
tens_less a b k h =
    rw (*ℤ_comm a (pos (10 ^ k)), *ℤ_comm b (pos (10 ^ k)))
    (scaled_less a b (10 ^ k) (one-le-pow k 10 (lit< tt)) h)

-- ---- numbers within a limit

pub at_least : (z n : ℤ) → int_le n z ≡ true → stands_in Minimum z 0 n ≡ true
at_least z n h = rw (times_one n) h

pub at_most : (z n : ℤ) → int_le z n ≡ true → stands_in Maximum z 0 n ≡ true
at_most z n h = rw (times_one n) h

pub above : (z n : ℤ) → int_le (n +ℤ pos 1) z ≡ true → stands_in ExclusiveMinimum z 0 n ≡ true
above z n h = rw (times_one n) (next_above z n (int_lt n z) refl h)

pub below : (z n : ℤ) → int_le z (n +ℤ negsuc 0) ≡ true → stands_in ExclusiveMaximum z 0 n ≡ true
below z n h = rw (times_one n) (next_below z n (int_lt z n) refl h)

-- and what is enclosed by such integers

pub enclosed_above : (c : ℤ) (k : ℕ) (n : ℤ) → int_le ((n +ℤ pos 1) *ℤ pos (10 ^ k)) c ≡ true
    → stands_in ExclusiveMinimum c k n ≡ true
enclosed_above c k n h = go (int_lt (n *ℤ pos (10 ^ k)) c) refl
  where
    go : (b : Bool) → int_lt (n *ℤ pos (10 ^ k)) c ≡ b → b ≡ true
    go true e = refl
    go false e = let less = tens_less n (n +ℤ pos 1) k (omega (arith, ints)) in absurd (omega (arith, ints, e, h))

pub enclosed_below : (c : ℤ) (k : ℕ) (n : ℤ) → int_le c ((n +ℤ negsuc 0) *ℤ pos (10 ^ k)) ≡ true
    → stands_in ExclusiveMaximum c k n ≡ true
enclosed_below c k n h = go (int_lt c (n *ℤ pos (10 ^ k))) refl
  where
    go : (b : Bool) → int_lt c (n *ℤ pos (10 ^ k)) ≡ b → b ≡ true
    go true e = refl
    go false e = let less = tens_less (n +ℤ negsuc 0) n k (omega (arith, ints)) in absurd (omega (arith, ints, e, h))

pub ruleset whole_limits = (at_least, at_most, above, below, enclosed_above, enclosed_below)

-- ---- numbers between the ends of a range

-- there are none if the ends are the other way round
pub nothing_enclosed : (r : IntegerRange) → r.high <ℤ r.low → (n : Num) → encloses r n ≡ false
nothing_enclosed r h float = refl
nothing_enclosed r h (exact c k) = go _ _ refl refl
  where
    go : (x y : Bool) → int_le (r.low *ℤ pos (10 ^ k)) c ≡ x → int_le c (r.high *ℤ pos (10 ^ k)) ≡ y → (x && y) ≡ false
    go true true e f = let less = tens_less r.high r.low k h in absurd (omega (arith, ints, e, f))
    go true false e f = refl
    go false y e f = refl

-- and so none with a fraction
pub no_fraction : (r : IntegerRange) → ((n : Num) → encloses r n ≡ false) → (n : Num) → has_fraction r n ≡ false
no_fraction r none (exact c zero) = refl
no_fraction r none (exact c (suc k)) = none (exact c (suc k))
no_fraction r none float = refl

pub from_low : (r : IntegerRange) (n : ℤ) → n ≤ℤ r.low → (c : ℤ) (k : ℕ) → encloses r (exact c k) ≡ true
    → int_le (n *ℤ pos (10 ^ k)) c ≡ true
from_low r n h c k e = go (int_le (n *ℤ pos (10 ^ k)) c) refl
  where
    go : (b : Bool) → int_le (n *ℤ pos (10 ^ k)) c ≡ b → b ≡ true
    go true f = refl
    go false f =
        let low = (and_parts (int_le (r.low *ℤ pos (10 ^ k)) c) (int_le c (r.high *ℤ pos (10 ^ k))) e).0 in
        let less = tens n r.low k h in absurd (omega (arith, ints, f, low))

pub to_high : (r : IntegerRange) (n : ℤ) → r.high ≤ℤ n → (c : ℤ) (k : ℕ) → encloses r (exact c k) ≡ true
    → int_le c (n *ℤ pos (10 ^ k)) ≡ true
to_high r n h c k e = go (int_le c (n *ℤ pos (10 ^ k))) refl
  where
    go : (b : Bool) → int_le c (n *ℤ pos (10 ^ k)) ≡ b → b ≡ true
    go true f = refl
    go false f =
        let high = (and_parts (int_le (r.low *ℤ pos (10 ^ k)) c) (int_le c (r.high *ℤ pos (10 ^ k))) e).1 in
        let less = tens r.high n k h in absurd (omega (arith, ints, f, high))

-- a wider range encloses them too
enclosed_wider : (r s : IntegerRange) → IsNarrower r s → (n : Num) → encloses r n ≡ true → encloses s n ≡ true
enclosed_wider r s w float e = e
enclosed_wider r s w (exact c k) e = rw (from_low r s.low w.0 c k e, to_high r s.high w.1 c k e) refl

-- ---- divisors

-- each integer is a multiple of 1
pub one_divides : (d : NonZeroU64) (z : ℤ) → non_zero_u64_get d ≡ 1 → divides d z ≡ true
one_divides d z e = let none : unsigned_abs z % 1 ≡ 0 = omega arith in rw e (rw none refl)

-- what is a quotient times the divisor is a multiple
pub by_quotient : (n q d : ℕ) → q * d ≡ n → (n % d == 0) ≡ true
by_quotient n q d e = let none : n % d ≡ 0 = ap (λ m. m % d) (sym e) ∙ mul-mod_left q d in rw none refl

-- the integers between the bounds are the range where the divisor is 1
pub all_between : (r : IntegerRange) (z : ℤ) → non_zero_u64_get r.divisor ≡ 1
    → in_range r z ≡ (int_le r.low z && int_le z r.high)
all_between r z e = rw (one_divides r.divisor z e) (and-true _)

-- ---- integers from 0 on

-- one comparison tests both ends: that of the difference to the first, as a word of 64 bits
pub window : (f l k : ℕ) → f ≤ l → l < 2 ^ 64 → k < 2 ^ 64
    → nat_le ((k + (2 ^ 64 - f)) % 2 ^ 64) (l - f) ≡ (nat_le f k && nat_le k l)
window f l k order top word = go _ _ _ refl refl refl
  where
    offset : ℕ
    offset = (k + (2 ^ 64 - f)) % 2 ^ 64

    go : (r x y : Bool) → nat_le offset (l - f) ≡ r → nat_le f k ≡ x → nat_le k l ≡ y → r ≡ (x && y)
    go true true true a b c = refl
    go false false y a b c = refl
    go false true false a b c = refl
    go true false y a b c =
        let here = leb-true offset (l - f) a in
        let below = leb-false f k b in
        absurd (omega (arith, order, top, word, here, below))
    go true true false a b c =
        let here = leb-true offset (l - f) a in
        let above = leb-true f k b in
        let beyond = leb-false k l c in
        absurd (omega (arith, order, top, word, here, above, beyond))
    go false true true a b c =
        let beyond = leb-false offset (l - f) a in
        let above = leb-true f k b in
        let below = leb-true k l c in
        absurd (omega (arith, order, top, word, beyond, above, below))

-- ---- two ranges

-- the integers of `both` are those of a range cut by the divisor of the other, then from its lower bound on, then up to
-- its upper bound
pub in_both : (range other divided above both : IntegerRange)
    → ((z : ℤ) → in_range divided z ≡ true → (in_range range z && divides other.divisor z) ≡ true)
    → ((z : ℤ) → in_range above z ≡ true → (in_range divided z && int_le other.low z) ≡ true)
    → ((z : ℤ) → in_range both z ≡ true → (in_range above z && int_le z other.high) ≡ true)
    → (z : ℤ) → in_range both z ≡ true → (in_range range z && in_range other z) ≡ true
in_both range other divided above both d l u z h =
    let upper = and_parts (in_range above z) (int_le z other.high) (u z h) in
    let lower = and_parts (in_range divided z) (int_le other.low z) (l z upper.0) in
    let whole = and_parts (in_range range z) (divides other.divisor z) (d z lower.0) in
    rw whole.0 (rw lower.1 (rw upper.1 (rw whole.1 refl)))

-- ---- numbers of a range

-- an integer that is in the range where it is kept
if_kept : (g : IntegerRange) (c : ℤ) (kept : Bool)
    → option_map_or (in_range g) (if kept then Some c else None) false ≡ true → in_range g c ≡ true
if_kept g c true h = h
if_kept g c false h = absurd (true≢false (sym h))

-- an integer of the range is in it as itself
whole_in : (g : IntegerRange) (c : ℤ) → has_number g (exact c zero) ≡ true → in_range g c ≡ true
whole_in g (pos n) h = if_kept g (pos n) (nat_lt n (2 ^ 63)) h
whole_in g (negsuc n) h = if_kept g (negsuc n) (nat_lt n (2 ^ 63)) h

-- a test that accepts the integers of a range, and all that is no number, accepts the set of these
accepted : (q : QuickSet) (g : IntegerRange) (test : Tree → Bool) → ((m : Num) → is_in q (number m) ≡ has_number g m)
    → ((z : ℤ) → in_range g z ≡ true → test (number (exact z zero)) ≡ true)
    → ((t : Tree) → as_number t ≡ None → test t ≡ true) → (t : Tree) → is_in q t ≡ true → test t ≡ true
accepted q g test e within others (number (exact c zero)) h = within c (whole_in g c (sym (e (exact c zero)) ∙ h))
accepted q g test e within others (number (exact c (suc k))) h = absurd (true≢false (sym h ∙ e (exact c (suc k))))
accepted q g test e within others (number float) h = absurd (true≢false (sym h ∙ e float))
accepted q g test e within others t h = others t refl

-- a test that accepts the integers of a range accepts the set of these alone
pub accepted_integers : (q : QuickSet) (g : IntegerRange) (test : Tree → Bool)
    → ((t : Tree) → is_in q t ≡ option_map_or (has_number g) (as_number t) false)
    → ((z : ℤ) → in_range g z ≡ true → test (number (exact z zero)) ≡ true)
    → (t : Tree) → is_in q t ≡ true → test t ≡ true
accepted_integers q g test e within (number (exact c zero)) h =
    within c (whole_in g c (sym (e (number (exact c zero))) ∙ h))
accepted_integers q g test e within (number (exact c (suc k))) h =
    absurd (true≢false (sym h ∙ e (number (exact c (suc k)))))
accepted_integers q g test e within (number float) h = absurd (true≢false (sym h ∙ e (number float)))
accepted_integers q g test e within null h = absurd (true≢false (sym h ∙ e null))
accepted_integers q g test e within (boolean b) h = absurd (true≢false (sym h ∙ e (boolean b)))
accepted_integers q g test e within (string s) h = absurd (true≢false (sym h ∙ e (string s)))
accepted_integers q g test e within (array ts) h = absurd (true≢false (sym h ∙ e (array ts)))
accepted_integers q g test e within (object ms) h = absurd (true≢false (sym h ∙ e (object ms)))

or_right : (a b : Bool) → b ≡ true → (a || b) ≡ true
or_right true b w = refl
or_right false b w = w

or_none : (b : Bool) → (b || false) ≡ true → b ≡ true
or_none true h = refl
or_none false h = h

-- a range within a limit, and what it encloses
pub accepted_limit : (q : QuickSet) (g : IntegerRange) (r : Relation) (n : ℤ)
    → ((m : Num) → is_in q (number m) ≡ (has_fraction g m || has_number g m))
    → ((z : ℤ) → in_range g z ≡ true → stands_in r z 0 n ≡ true)
    → ((c : ℤ) (k : ℕ) → encloses g (exact c k) ≡ true → stands_in r c k n ≡ true)
    → (t : Tree) → is_in q t ≡ true → limit_holds r n t ≡ true
accepted_limit q g r n e within enclosed (number (exact c zero)) h =
    within c (whole_in g c (sym (e (exact c zero)) ∙ h))
accepted_limit q g r n e within enclosed (number (exact c (suc k))) h =
    enclosed c (suc k) (or_none _ (sym (e (exact c (suc k))) ∙ h))
accepted_limit q g r n e within enclosed (number float) h = absurd (true≢false (sym h ∙ e float))
accepted_limit q g r n e within enclosed t h = limit_other r n t refl

-- and a range of multiples
pub accepted_multiple : (q : QuickSet) (g : IntegerRange) (d : ℕ) → ((m : Num) → is_in q (number m) ≡ has_number g m)
    → ((z : ℤ) → in_range g z ≡ true → is_multiple_of z 0 d ≡ true)
    → (t : Tree) → is_in q t ≡ true → multiple_holds d t ≡ true
accepted_multiple q g d e within = accepted q g (multiple_holds d) e within (divides_other d)

-- a multiple of d is one of d * 10 ^ 0
pub multiple_whole : (z : ℤ) (d : ℕ) → (unsigned_abs z % d == 0) ≡ true → is_multiple_of z 0 d ≡ true
multiple_whole z d h = let one : d * 10 ^ 0 ≡ d = omega arith in rw one h

-- ---- sets by type

-- an integer written without a fraction is one by each rule
whole_is_integer : (rule : Integers) (c : ℤ) → is_integer_by rule (number (exact c zero)) ≡ true
whole_is_integer by_value c = let none : unsigned_abs c % 1 ≡ 0 = omega arith in rw none refl
whole_is_integer as_written c = refl

-- marks of the types of the set
abbrev pub types_in : JsonTypeSet → List Bool
types_in s =
    types.contains s Null ∷ types.contains s Boolean ∷ (types.contains s Number || types.contains s Integer)
    ∷ types.contains s String ∷ types.contains s Array ∷ types.contains s Object ∷ []

typed_alone : (a b : Bool) → (a && (b || true)) ≡ a
typed_alone true true = refl
typed_alone true false = refl
typed_alone false b = refl

-- what is no number is in a set by its type
by_type : (q : QuickSet) (t : Tree) → as_number t ≡ None → is_in q t ≡ has_type q t
by_type q (number n) e = cc
by_type q null e = refl
by_type q (boolean b) e = refl
by_type q (string x) e = refl
by_type q (array ts) e = refl
by_type q (object ms) e = refl

-- a tree is in a limited set as the number that it is
pub limited_in : (q : QuickSet) (t : Tree) (n : Num) → q.is_limited ≡ true → as_number t ≡ Some n
    → is_in q t ≡ is_in_limits q n
limited_in q (number m) n l e =
    let same : m ≡ n = cc in
    ap (λ b. if b then is_in_limits q m else is_in_types q m) l ∙ ap (is_in_limits q) same
limited_in q _ n l e = cc

-- a tree is in a set by its type, if it is no number with a fraction or the set has fractions
abbrev pub in_types : QuickSet → Tree → Bool
in_types q t =
    has_type q t && (q.has_fractions || not (option_map_or (λ n. not (is_written_as_integer n)) (as_number t) false))

-- and in another one by its type, if it has no fraction or the set has fractions
pub typed_in : (q : QuickSet) (t : Tree) → q.is_limited ≡ false → is_in q t ≡ in_types q t
typed_in q (number n) l =
    ap (λ b. if b then is_in_limits q n else is_in_types q n) l
    ∙ ap (λ b. has_type q (number n) && (q.has_fractions || b)) (sym (twice (is_written_as_integer n)))
  where
    twice : (b : Bool) → not (not b) ≡ b
    twice true = refl
    twice false = refl
typed_in q null l = sym (typed_alone _ _)
typed_in q (boolean b) l = sym (typed_alone _ _)
typed_in q (string x) l = sym (typed_alone _ _)
typed_in q (array ts) l = sym (typed_alone _ _)
typed_in q (object ms) l = sym (typed_alone _ _)

-- which is so of what is no number
pub other_in : (q : QuickSet) (t : Tree) → as_number t ≡ None → is_in q t ≡ in_types q t
other_in q (number n) e = cc
other_in q null e = sym (typed_alone _ _)
other_in q (boolean b) e = sym (typed_alone _ _)
other_in q (string x) e = sym (typed_alone _ _)
other_in q (array ts) e = sym (typed_alone _ _)
other_in q (object ms) e = sym (typed_alone _ _)

pub ruleset values_within = (limited_in, typed_in, other_in)

pub accepted_types : (q : QuickSet) (s : JsonTypeSet) → q.types ≡ types_in s → q.is_limited ≡ false
    → q.has_fractions ≡ (types.contains s Number || not (types.contains s Integer))
    → (rule : Integers) (t : Tree) → is_in q t ≡ true → is_of rule s t ≡ true
accepted_types q s e l f rule = go
  where
    written : (n : Num) → is_written_as_integer n ≡ true → is_integer_by rule (number n) ≡ true
    written (exact c zero) h = whole_is_integer rule c
    written (exact c (suc k)) h = absurd (true≢false (sym h ∙ eqb-suc-zero k))
    written float h = absurd (true≢false (sym h))

    numbers : (n : Num) (a i : Bool) → ((a || i) && ((a || not i) || is_written_as_integer n)) ≡ true
        → (a || (i && is_integer_by rule (number n))) ≡ true
    numbers n true i h = refl
    numbers n false true h = written n h
    numbers n false false h = h

    marked : (i : ℕ) → get_or q.types i false ≡ get_or (types_in s) i false
    marked i = ap (λ ts. get_or ts i false) e

    go : (t : Tree) → is_in q t ≡ true → is_of rule s t ≡ true
    go (number n) h =
        numbers n (types.contains s Number) (types.contains s Integer)
        (sym (ap (λ b. if b then is_in_limits q n else is_in_types q n) l
        ∙ ap₂ (λ m x. m && (x || is_written_as_integer n)) (marked 2) f) ∙ h)
    go null h = or_left _ _ (sym (marked 0) ∙ h)
    go (boolean b) h = or_left _ _ (sym (marked 1) ∙ h)
    go (string x) h = or_left _ _ (sym (marked 3) ∙ h)
    go (array ts) h = or_left _ _ (sym (marked 4) ∙ h)
    go (object ms) h = or_left _ _ (sym (marked 5) ∙ h)

-- ---- what a keyword is not about

-- what is no array is of another type
no_array : (t : Tree) → is_array t ≡ false → IsOther (Some Array) t
no_array (array ts) h e = absurd (true≢false h)
no_array null h e = cc
no_array (boolean x) h e = cc
no_array (number n) h e = cc
no_array (string x) h e = cc
no_array (object ms) h e = cc

-- the set of all values but arrays
pub without_arrays : (q : QuickSet) (k : Keyword) → subject k ≡ Some Array
    → ((t : Tree) → is_in q t ≡ true → is_array t ≡ false) → Accepts q k
without_arrays q k about none t h = holds_of_other k t (subst (λ o. IsOther o t) (sym about) (no_array t (none t h)))

-- ---- numbers of a set

and_none : (b : Bool) → (b && false) ≡ false
and_none true = refl
and_none false = refl

-- an integer of 64 bits is in a limited set if it is in the range
pub integer_within : (q : QuickSet) (n : Num) (z : ℤ) → option_and_then i64_of (written_integer n) ≡ Some z
    → is_in_limits q n ≡ in_range q.integers z
integer_within q (exact c zero) z e =
    ap₂ (λ b o. b || option_map_or (in_range q.integers) o false) (and_none q.has_fractions) e
integer_within q (exact c (suc k)) z e = cc
integer_within q float z e = cc

-- any other number if it is enclosed and has a fraction
pub other_within : (q : QuickSet) (n : Num) → option_and_then i64_of (written_integer n) ≡ None
    → is_in_limits q n ≡ (q.has_fractions && (not (is_written_as_integer n) && encloses q.integers n))
other_within q n e =
    ap (λ o. (q.has_fractions && has_fraction q.integers n) || option_map_or (in_range q.integers) o false) e
    ∙ or_false (q.has_fractions && has_fraction q.integers n) ∙ ap (λ b. q.has_fractions && b) (written n)
  where
    or_false : (b : Bool) → (b || false) ≡ b
    or_false true = refl
    or_false false = refl

    written : (n : Num) → has_fraction q.integers n ≡ (not (is_written_as_integer n) && encloses q.integers n)
    written (exact c zero) = refl
    written (exact c (suc k)) = rw (eqb-suc-zero k) refl
    written float = refl

-- a number from 0 on is in a set by the range if it is in that, whose end is a word
pub natural_within : (q : QuickSet) (n : Num) (k : ℕ) → option_and_then u64_of (written_integer n) ≡ Some k
    → q.integers.high <ℤ pos (2 ^ 63) → is_in_limits q n ≡ in_range q.integers (pos k)
natural_within q (exact (pos m) zero) k e h =
    ap₂ (λ b x. b || x) (and_none q.has_fractions) (go (nat_lt m (2 ^ 63)) refl)
  where
    word : (b : Bool) → (if b then Some m else None) ≡ Some k → m ≡ k
    word true w = cc
    word false w = cc

    same : m ≡ k
    same = word (nat_lt m (2 ^ 64)) e

    above : (x : Bool) → int_le (pos k) q.integers.high ≡ x → nat_lt m (2 ^ 63) ≡ false
        → (int_le q.integers.low (pos k) && x && divides q.integers.divisor (pos k)) ≡ false
    above true f g = let large = ltb-false m (2 ^ 63) g in absurd (omega (arith, ints, same, f, large, h))
    above false f g = ap (λ b. b && divides q.integers.divisor (pos k)) (and_none (int_le q.integers.low (pos k)))

    go : (b : Bool) → nat_lt m (2 ^ 63) ≡ b
        → option_map_or (in_range q.integers) (if b then Some (pos m) else None) false ≡ in_range q.integers (pos k)
    go true f = ap (λ x. in_range q.integers (pos x)) same
    go false f = sym (above (int_le (pos k) q.integers.high) refl f)
natural_within q (exact (negsuc m) zero) k e h = cc
natural_within q (exact c (suc i)) k e h = cc
natural_within q float k e h = cc

pub ruleset numbers_within = (natural_within, integer_within, other_within)

-- a number that passes a test is in the set if all that it accepts are
pub passed_is_in : (q : QuickSet) (t : Tree) (n : Num) (accepts : Num → Bool)
    → ((m : Num) → accepts m ≡ true → is_in q (number m) ≡ true) → as_number t ≡ Some n → accepts n ≡ true
    → is_in q t ≡ true
passed_is_in q (number m) n accepts part e h = let same : m ≡ n = cc in part m (ap accepts same ∙ h)
passed_is_in q _ n accepts part e h = cc

-- an integer of 64 bits is kept as one
as_word : (z : ℤ) → negsuc (2 ^ 63 - 1) ≤ℤ z → z <ℤ pos (2 ^ 63) → i64_of z ≡ Some z
as_word (pos n) l h = ap (λ b. if b then Some (pos n) else None) (lt-ltb n (2 ^ 63) (omega (arith, ints, h)))
as_word (negsuc n) l h = ap (λ b. if b then Some (negsuc n) else None) (lt-ltb n (2 ^ 63) (omega (arith, ints, l)))

-- an integer that is enclosed by words is in the range if this has no divisor but 1
enclosed_whole : (r : IntegerRange) (c : ℤ) → negsuc (2 ^ 63 - 1) ≤ℤ r.low → r.high <ℤ pos (2 ^ 63)
    → non_zero_u64_get r.divisor ≡ 1 → encloses r (exact c zero) ≡ true → has_number r (exact c zero) ≡ true
enclosed_whole r c l h one e =
    let ends = and_parts (int_le (r.low *ℤ pos (10 ^ 0)) c) (int_le c (r.high *ℤ pos (10 ^ 0))) e in
    let low : int_le r.low c ≡ true = ap (λ z. int_le z c) (sym (times_one r.low)) ∙ ends.0 in
    let high : int_le c r.high ≡ true = ap (λ z. int_le c z) (sym (times_one r.high)) ∙ ends.1 in
    ap (λ o. option_map_or (in_range r) o false)
    (as_word c (omega (arith, ints, low, l)) (omega (arith, ints, high, h)))
    ∙ all_between r c one ∙ rw (low, high) refl

-- what is between the ends is in a set that has fractions, if these ends are words and there is no divisor but 1
pub enclosed_is_in : (q : QuickSet) (t : Tree) (n : Num) → negsuc (2 ^ 63 - 1) ≤ℤ q.integers.low
    → q.integers.high <ℤ pos (2 ^ 63) → q.is_limited ≡ true → q.has_fractions ≡ true
    → non_zero_u64_get q.integers.divisor ≡ 1 → as_number t ≡ Some n → encloses q.integers n ≡ true → is_in q t ≡ true
enclosed_is_in q (number m) n l h limited fractions one e enclosed = go q.is_limited limited
  where
    same : m ≡ n
    same = cc

    numbers : (x : Num) → encloses q.integers x ≡ true → is_in_limits q x ≡ true
    numbers (exact c zero) w =
        or_right (q.has_fractions && false) (has_number q.integers (exact c zero))
        (enclosed_whole q.integers c l h one w)
    numbers (exact c (suc k)) w = rw (fractions, w) refl
    numbers float w = absurd (true≢false (sym w))

    go : (b : Bool) → b ≡ true → (if b then is_in_limits q m else is_in_types q m) ≡ true
    go true w = numbers m (ap (encloses q.integers) same ∙ enclosed)
    go false w = absurd (true≢false (sym w))
enclosed_is_in q _ n l h limited fractions one e enclosed = cc

-- one more item passes a test
pub leading_next : {A : Type 0} (check : A → Bool) (xs : List A) (i : ℕ) (d : A) → i < length xs
    → check (get_or xs i d) ≡ true → i + 1 + leading check (drop (i + 1) xs) ≡ i + leading check (drop i xs)
leading_next {A = A} check xs i d l h =
    let rest : List A = drop (i + 1) xs in
    let more : leading check (drop i xs) ≡ suc (leading check rest) =
    ap (leading check) (drop_more xs i d l) ∙ ap (λ b. if b then suc (leading check rest) else 0) h in
    omega (arith, more)

-- ---- two sets

-- what is in a set is in two others if each has all of it
both_true : (q r s : QuickSet) → ((t : Tree) → is_in q t ≡ true → is_in r t ≡ true)
    → ((t : Tree) → is_in q t ≡ true → is_in s t ≡ true)
    → (t : Tree) → is_in q t ≡ true → (is_in r t && is_in s t) ≡ true
both_true q r s one other t h = rw (one t h, other t h) refl

-- numbers of a range are in a set if those of a wider range are, with fractions or without
within_range : (s : QuickSet) (k r : IntegerRange) (f : Bool) → (f ≡ true → s.has_fractions ≡ true)
    → IsNarrower k r → ((z : ℤ) → in_range k z ≡ true → in_range r z ≡ true)
    → ((n : Num) → has_number r n ≡ true → is_in s (number n) ≡ true)
    → ((n : Num) → s.has_fractions ≡ true → has_fraction r n ≡ true → is_in s (number n) ≡ true)
    → (n : Num) → ((f && has_fraction k n) || has_number k n) ≡ true → is_in s (number n) ≡ true
within_range s k r f fractions narrower within integers between = numbers
  where
    kept : (c : ℤ) (b : Bool) → option_map_or (in_range k) (if b then Some c else None) false ≡ true
        → option_map_or (in_range r) (if b then Some c else None) false ≡ true
    kept c true h = within c h
    kept c false h = h

    whole : (c : ℤ) → has_number k (exact c zero) ≡ true → has_number r (exact c zero) ≡ true
    whole (pos n) h = kept (pos n) (nat_lt n (2 ^ 63)) h
    whole (negsuc n) h = kept (negsuc n) (nat_lt n (2 ^ 63)) h

    numbers : (n : Num) → ((f && has_fraction k n) || has_number k n) ≡ true → is_in s (number n) ≡ true
    numbers (exact c zero) h =
        integers (exact c zero) (whole c (sym (ap (λ b. b || has_number k (exact c zero)) (and_none f)) ∙ h))
    numbers (exact c (suc i)) h =
        let both = and_parts f (encloses k (exact c (suc i))) (or_none _ h) in
        between (exact c (suc i)) (fractions both.0) (enclosed_wider k r narrower (exact c (suc i)) both.1)
    numbers float h = absurd (true≢false (sym (or_none _ h) ∙ and_none f))

-- a set is part of another if its numbers are and what is no number
is_part : (q s : QuickSet) (marks : List Bool)
    → ((t : Tree) → as_number t ≡ None → is_in q t ≡ get_or marks (type_index (types.json_type t)) false)
    → ((j : JsonType) → get_or marks (type_index j) false ≡ true → get_or s.types (type_index j) false ≡ true)
    → ((n : Num) → is_in q (number n) ≡ true → is_in s (number n) ≡ true) → (t : Tree) → is_in q t ≡ true
    → is_in s t ≡ true
is_part q s marks typed part numbers (number n) h = numbers n h
is_part q s marks typed part numbers null h = part Null (sym (typed null refl) ∙ h)
is_part q s marks typed part numbers (boolean b) h = part Boolean (sym (typed (boolean b) refl) ∙ h)
is_part q s marks typed part numbers (string x) h = part String (sym (typed (string x) refl) ∙ h)
is_part q s marks typed part numbers (array ts) h = part Array (sym (typed (array ts) refl) ∙ h)
is_part q s marks typed part numbers (object ms) h = part Object (sym (typed (object ms) refl) ∙ h)

-- a set of the types of two others
module _ (q r s : QuickSet) (marks : List Bool)
    (typed : (t : Tree) → as_number t ≡ None → is_in q t ≡ get_or marks (type_index (types.json_type t)) false)
    (both : (j : JsonType) → get_or marks (type_index j) false
    ≡ (get_or r.types (type_index j) false && get_or s.types (type_index j) false)) where
  left : (j : JsonType) → get_or marks (type_index j) false ≡ true → get_or r.types (type_index j) false ≡ true
  left j h = (and_parts _ _ (sym (both j) ∙ h)).0

  right : (j : JsonType) → get_or marks (type_index j) false ≡ true → get_or s.types (type_index j) false ≡ true
  right j h = (and_parts _ _ (sym (both j) ∙ h)).1

  -- and of the numbers of two ranges
  pub both_limited : (k g h : IntegerRange) (f : Bool)
      → ((n : Num) → is_in q (number n) ≡ ((f && has_fraction k n) || has_number k n))
      → f ≡ (r.has_fractions && s.has_fractions) → IsNarrower k g × IsNarrower k h
      → ((z : ℤ) → in_range k z ≡ true → (in_range g z && in_range h z) ≡ true)
      → ((n : Num) → has_number g n ≡ true → is_in r (number n) ≡ true)
      → ((n : Num) → r.has_fractions ≡ true → has_fraction g n ≡ true → is_in r (number n) ≡ true)
      → ((n : Num) → has_number h n ≡ true → is_in s (number n) ≡ true)
      → ((n : Num) → s.has_fractions ≡ true → has_fraction h n ≡ true → is_in s (number n) ≡ true)
      → (t : Tree) → is_in q t ≡ true → (is_in r t && is_in s t) ≡ true
  both_limited k g h f numbers e narrower within a b c d =
      both_true q r s
      (is_part q r marks typed left (λ n w. within_range r k g f (λ x. (and_parts _ _ (sym e ∙ x)).0) narrower.0
      (λ z x. (and_parts _ _ (within z x)).0) a b n (sym (numbers n) ∙ w)))
      (is_part q s marks typed right (λ n w. within_range s k h f (λ x. (and_parts _ _ (sym e ∙ x)).1) narrower.1
      (λ z x. (and_parts _ _ (within z x)).1) c d n (sym (numbers n) ∙ w)))

-- numbers that are in one set by their type are so in another
by_types : (q s : QuickSet) → q.is_limited ≡ false → s.is_limited ≡ false
    → (get_or q.types 2 false ≡ true → get_or s.types 2 false ≡ true)
    → (q.has_fractions ≡ true → s.has_fractions ≡ true) → (n : Num) → is_in q (number n) ≡ true
    → is_in s (number n) ≡ true
by_types q s l m part fractions n h =
    let both = and_parts (has_type q (number n)) (q.has_fractions || is_written_as_integer n)
    (sym (ap (λ b. if b then is_in_limits q n else is_in_types q n) l) ∙ h) in
    ap (λ b. if b then is_in_limits s n else is_in_types s n) m
    ∙ rw (part both.0, with_fraction q.has_fractions s.has_fractions (is_written_as_integer n) fractions both.1) refl
  where
    with_fraction : (a b w : Bool) → (a ≡ true → b ≡ true) → (a || w) ≡ true → (b || w) ≡ true
    with_fraction true b w f e = ap (λ x. x || w) (f refl)
    with_fraction false true w f e = refl
    with_fraction false false w f e = e

-- a set of the types of two others of which neither limits the numbers
pub both_typed : (q r s : QuickSet) → q.is_limited ≡ false → r.is_limited ≡ false → s.is_limited ≡ false
    → ((j : JsonType) → get_or q.types (type_index j) false
    ≡ (get_or r.types (type_index j) false && get_or s.types (type_index j) false))
    → q.has_fractions ≡ (r.has_fractions && s.has_fractions)
    → (t : Tree) → is_in q t ≡ true → (is_in r t && is_in s t) ≡ true
both_typed q r s l m n both f =
    both_true q r s
    (is_part q r q.types (by_type q) (λ j h. (and_parts _ _ (sym (both j) ∙ h)).0)
    (by_types q r l m (λ h. (and_parts _ _ (sym (both Number) ∙ h)).0) (λ h. (and_parts _ _ (sym f ∙ h)).0)))
    (is_part q s q.types (by_type q) (λ j h. (and_parts _ _ (sym (both j) ∙ h)).1)
    (by_types q s l n (λ h. (and_parts _ _ (sym (both Number) ∙ h)).1) (λ h. (and_parts _ _ (sym f ∙ h)).1)))

-- numbers of a set whose type alone decides of them
pub typed_number : (q : QuickSet) → q.is_limited ≡ false → get_or q.types 2 false ≡ true → (n : Num)
    → has_number q.integers n ≡ true → is_in q (number n) ≡ true
typed_number q l e n h =
    ap (λ b. if b then is_in_limits q n else is_in_types q n) l
    ∙ ap₂ (λ a w. a && (q.has_fractions || w)) e (written n h) ∙ or_true q.has_fractions
  where
    written : (n : Num) → has_number q.integers n ≡ true → is_written_as_integer n ≡ true
    written (exact c zero) w = refl
    written (exact c (suc k)) w = absurd (true≢false (sym w))
    written float w = absurd (true≢false (sym w))

    or_true : (b : Bool) → (b || true) ≡ true
    or_true true = refl
    or_true false = refl

pub typed_fraction : (q : QuickSet) → q.is_limited ≡ false → get_or q.types 2 false ≡ true → (n : Num)
    → q.has_fractions ≡ true → is_in q (number n) ≡ true
typed_fraction q l e n f =
    ap (λ b. if b then is_in_limits q n else is_in_types q n) l
    ∙ ap₂ (λ a b. a && (b || is_written_as_integer n)) e f

pub ranged_number : (q : QuickSet) → q.is_limited ≡ true → (n : Num) → has_number q.integers n ≡ true
    → is_in q (number n) ≡ true
ranged_number q l n h = ap (λ b. if b then is_in_limits q n else is_in_types q n) l ∙ or_right _ _ h

pub ranged_fraction : (q : QuickSet) → q.is_limited ≡ true → (n : Num) → q.has_fractions ≡ true
    → has_fraction q.integers n ≡ true → is_in q (number n) ≡ true
ranged_fraction q l n f h =
    ap (λ b. if b then is_in_limits q n else is_in_types q n) l
    ∙ ap₂ (λ a b. (a && b) || has_number q.integers n) f h

pub ruleset numbers_in = (typed_number, typed_fraction, ranged_number, ranged_fraction)
