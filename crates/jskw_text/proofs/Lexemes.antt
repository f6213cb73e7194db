-- What comes first in a text.
use Rattle.std.proofs.Common.{◌≡◌, ℕ, zero, suc, ◌+◌, ◌-◌, ◌<◌, ◌≤◌, Bool, true, false, cond, ◌||◌, ◌==◌, List, [], ◌∷◌}
use Rattle.std.proofs.Common.{Option, Some, None, IfSome}
use Rattle.std.proofs.Common.{◌++◌, length, drop, take, get_or, ◌⊎◌, inl, inr, refl, sym, ap, ap₂, ◌∙◌, subst, nat_eq}
use Rattle.std.proofs.Common.{arith, append-nil, take_all, length-drop, length-take-le, length-append}
use Rattle.std.proofs.lemmas.Bool.{eqb-true, or_cases, true≢false}
use Rattle.std.proofs.lemmas.List.{drop_all, drop_more, take-append-drop}
use Rattle.std.proofs.lemmas.List.Folds.{drop_split}
use Rattle.std.proofs.lemmas.Slice.Eq.{bytes_eq-Decides}
use Rattle.std.specs.List.{prefix_len, slice_range, starts_with}
use Rattle.json.proofs.Printed.Numbers.{lex-number, in_word-ended}
use Rattle.json.proofs.Printed.Strings.{content-escape, lex-escape, escape_to_stop}
use Rattle.json.specs.Align.{is_blank}
use Rattle.json.specs.Lex.{space, operator, class, operator_lexeme, string_token, token, between, in_string}
use Rattle.json.specs.Lex.{lex_byte, lex}
use Rattle.json.specs.Print.{escape}
use Rattle.json.specs.Run.{is_plain}
use Rattle.json.specs.Token.{Token, string, boolean, null}
use Rattle.json.specs.Word.{head, is_space, ends_word, word}
use Rattle.jskw_value.specs.Number.{Num}
use Rattle.jskw_text.specs.Escapes.{IsString}
use Rattle.jskw_text.specs.Passing.{Passes, PassesNumber, IsNumberAt}

-- what is found has a property if it has another
pub if_some : {A : Type 0} (P Q : A → Type 0) (r : Option A) → ((a : A) → P a → Q a) → IfSome r P → IfSome r Q
if_some P Q None f h = tt
if_some P Q (Some a) f h = f a h

-- ---- spaces

spaces : (P : ℕ → Type 0) → P 32 → P 9 → P 10 → P 13 → (x : ℕ) → is_space x ≡ true → P x
spaces P a b c d x h = last (or_cases ((x == 32) || (x == 9) || (x == 10)) (x == 13) h)
  where
    first : ((x == 32) ≡ true) ⊎ ((x == 9) ≡ true) → P x
    first (inl e) = subst P (sym (eqb-true x 32 e)) a
    first (inr e) = subst P (sym (eqb-true x 9 e)) b

    middle : (((x == 32) || (x == 9)) ≡ true) ⊎ ((x == 10) ≡ true) → P x
    middle (inl e) = first (or_cases (x == 32) (x == 9) e)
    middle (inr e) = subst P (sym (eqb-true x 10 e)) c

    last : (((x == 32) || (x == 9) || (x == 10)) ≡ true) ⊎ ((x == 13) ≡ true) → P x
    last (inl e) = middle (or_cases ((x == 32) || (x == 9)) (x == 10) e)
    last (inr e) = subst P (sym (eqb-true x 13 e)) d

space_first : (x : ℕ) (xs : List ℕ) → is_space x ≡ true → lex between (x ∷ xs) ≡ lex between xs
unfolding lex
space_first x xs h =
    let is : class x ≡ space = spaces (λ y. class y ≡ space) refl refl refl refl x h in
    ap (λ c. lex_byte between c x xs (λ m. lex m xs)) is

-- a space is passed over
pub space_passed : (d : List ℕ) (i : ℕ) → i < length d → is_space (get_or d i 0) ≡ true
    → lex between (drop i d) ≡ lex between (drop (i + 1) d)
space_passed d i within h = ap (lex between) (drop_more d i 0 within) ∙ space_first (get_or d i 0) (drop (i + 1) d) h

-- ---- brackets, braces, commas and colons

pub operator_first : (t : List ℕ) → class (head t) ≡ operator
    → Passes t (operator_lexeme (head t) ∷ []) (drop 1 t)
unfolding lex
operator_first [] h = absurd (true≢false (ap is_blank h))
operator_first (x ∷ xs) h = record {
  lexed = ap (λ c. lex_byte between c x xs (λ m. lex m xs)) h;
  shorter = omega arith;
}

-- ---- strings

-- what is cut off behind a run does not belong to it
pub prefix_kept : (p : ℕ → Bool) (xs : List ℕ) (n : ℕ) → prefix_len p xs ≤ n
    → prefix_len p (take n xs) ≡ prefix_len p xs
prefix_kept p [] zero h = refl
prefix_kept p [] (suc n) h = refl
prefix_kept p (x ∷ xs) zero h = let none : 0 ≡ prefix_len p (x ∷ xs) = omega arith in none
prefix_kept p (x ∷ xs) (suc n) h = go (p x) (prefix_kept p xs n) h
  where
    go : (b : Bool) → (prefix_len p xs ≤ n → prefix_len p (take n xs) ≡ prefix_len p xs)
        → cond b (1 + prefix_len p xs) 0 ≤ suc n
        → cond b (1 + prefix_len p (take n xs)) 0 ≡ cond b (1 + prefix_len p xs) 0
    go true ih l = ap (λ k. 1 + k) (ih (omega arith))
    go false ih l = refl

-- plain bytes are written as they are
escape_plain : (s : List ℕ) → prefix_len is_plain s ≡ length s → escape s ≡ s
escape_plain s all =
    let none : escape (drop (length s) s) ≡ [] = ap escape (drop_all (length s) s (omega arith)) in
    sym (append-nil (escape s)) ∙ escape_to_stop s 0 (length s) [] (omega arith)
    ∙ ap (λ l. take (length s - 0) s ++ (l ++ [])) none ∙ append-nil (take (length s - 0) s)
    ∙ take_all (length s - 0) s (omega arith)

quoted_first : (s r : List ℕ) → lex between (34 ∷ (escape s ++ 34 ∷ r)) ≡ token (string s) ∷ lex between r
unfolding lex
quoted_first s r =
    ap (λ o. token (string_token o) ∷ lex in_string (escape s ++ 34 ∷ r)) (content-escape s r)
    ∙ ap (λ l. token (string s) ∷ l) (lex-escape s r)

-- a quote, plain bytes up to `stop`, and a quote there
pub string_first : (d : List ℕ) (p stop : ℕ) → p < length d → get_or d p 0 ≡ 34
    → stop ≡ p + 1 + prefix_len is_plain (drop (p + 1) d)
    → stop < length d → get_or d stop 0 ≡ 34
    → Passes (drop p d) (token (string (slice_range d (p + 1) stop)) ∷ []) (drop (stop + 1) d)
string_first d p stop within opens is inside closes =
    let s = slice_range d (p + 1) stop in
    let n = stop - (p + 1) in
    let xs = drop (p + 1) d in
    let long : length s ≡ n = length-take-le n xs (omega (arith, length-drop (p + 1) d)) in
    let all : prefix_len is_plain s ≡ length s =
    omega (arith, long, prefix_kept is_plain xs n (omega arith)) in
    let end : drop stop d ≡ 34 ∷ drop (stop + 1) d =
    drop_more d stop 0 inside ∙ ap (λ x. x ∷ drop (stop + 1) d) closes in
    let whole : drop p d ≡ 34 ∷ (escape s ++ 34 ∷ drop (stop + 1) d) =
    drop_more d p 0 within ∙ ap (λ x. x ∷ xs) opens
    ∙ ap (λ l. 34 ∷ l) (drop_split d (p + 1) stop (omega arith)
    ∙ ap₂ (λ a b. a ++ b) (sym (escape_plain s all)) end) in
    record {
      lexed = ap (lex between) whole ∙ quoted_first s (drop (stop + 1) d);
      shorter = omega (arith, length-drop p d, length-drop (stop + 1) d);
    }

-- a quote, the text of a string, and a quote at `stop`
pub escaped_first : (d : List ℕ) (p stop : ℕ) (s : List ℕ) → p < length d → get_or d p 0 ≡ 34
    → IsString d (p + 1) s stop → Passes (drop p d) (token (string s) ∷ []) (drop (stop + 1) d)
unfolding lex
escaped_first d p stop s within opens is =
    let xs = drop (p + 1) d in
    record {
      lexed = ap (lex between) (drop_more d p 0 within ∙ ap (λ x. x ∷ xs) opens)
          ∙ ap (λ o. token (string_token o) ∷ lex in_string xs) is.content_is ∙ ap (λ l. token (string s) ∷ l) is.lexed;
      shorter = omega (arith, length-drop p d, length-drop (stop + 1) d, is.bounds.0, is.bounds.1);
    }

-- ---- numbers

pub number_first : (d : List ℕ) (from end : ℕ) (x : Num) → IsNumberAt d from end x
    → PassesNumber (drop from d) x (drop end d)
number_first d from end x is =
    let s = slice_range d from end in (
      s,
      record {
        lexed = ap (lex between) (drop_split d from end (omega (arith, is.forward)))
            ∙ lex-number s (drop end d) is.number is.ended;
        shorter = omega (arith, length-drop from d, length-drop end d, is.within, is.forward);
      },
      is.denotes,
    )

-- ---- words

-- bytes that begin with a name are the name and the rest
pub named : (t name : List ℕ) → starts_with nat_eq t name ≡ true → t ≡ name ++ drop (length name) t
named t name h =
    let front : name ≡ take (length name) t = (bytes_eq-Decides name (take (length name) t)).0 h in
    sym (take-append-drop (length name) t) ∙ ap (λ l. l ++ drop (length name) t) (sym front)

-- a word that is this token, wherever a word ends behind it
abbrev IsWordOf : List ℕ → Token → Type 0
IsWordOf name k = (rest : List ℕ) → ends_word rest ≡ true → lex between (name ++ rest) ≡ token k ∷ lex between rest

true_is : IsWordOf (116 ∷ 114 ∷ 117 ∷ 101 ∷ []) (boolean true)
unfolding lex word
true_is rest ended = rw ended (ap (λ l. token (boolean true) ∷ l) (in_word-ended rest ended))

false_is : IsWordOf (102 ∷ 97 ∷ 108 ∷ 115 ∷ 101 ∷ []) (boolean false)
unfolding lex word
false_is rest ended = rw ended (ap (λ l. token (boolean false) ∷ l) (in_word-ended rest ended))

null_is : IsWordOf (110 ∷ 117 ∷ 108 ∷ 108 ∷ []) null
unfolding lex word
null_is rest ended = rw ended (ap (λ l. token null ∷ l) (in_word-ended rest ended))

word_first : (name : List ℕ) (k : Token) (t r : List ℕ) → IsWordOf name k → 0 < length name → t ≡ name ++ r
    → ends_word r ≡ true → Passes t (token k ∷ []) r
word_first name k t r is some e ended = record {
  lexed = ap (lex between) e ∙ is r ended;
  shorter = omega (arith, ap length e, length-append name r);
}

pub true_first : (t r : List ℕ) → t ≡ 116 ∷ 114 ∷ 117 ∷ 101 ∷ r → ends_word r ≡ true
    → Passes t (token (boolean true) ∷ []) r
true_first t r = word_first (116 ∷ 114 ∷ 117 ∷ 101 ∷ []) (boolean true) t r true_is (omega arith)

pub false_first : (t r : List ℕ) → t ≡ 102 ∷ 97 ∷ 108 ∷ 115 ∷ 101 ∷ r → ends_word r ≡ true
    → Passes t (token (boolean false) ∷ []) r
false_first t r = word_first (102 ∷ 97 ∷ 108 ∷ 115 ∷ 101 ∷ []) (boolean false) t r false_is (omega arith)

pub null_first : (t r : List ℕ) → t ≡ 110 ∷ 117 ∷ 108 ∷ 108 ∷ r → ends_word r ≡ true → Passes t (token null ∷ []) r
null_first t r = word_first (110 ∷ 117 ∷ 108 ∷ 108 ∷ []) null t r null_is (omega arith)
