-- The steps of `content`, at a place of the text.
use Rattle.std.proofs.Common.{◌≡◌, ℕ, suc, ◌+◌, ◌-◌, ◌<◌, ◌≤◌, Bool, true, false, ◌||◌, cond, ◌&&◌, ◌==◌, List, []}
use Rattle.std.proofs.Common.{◌∷◌, ◌++◌, length, take, drop, get_or, Option, Some, None, option_and_then, refl, sym}
use Rattle.std.proofs.Common.{ap, ◌∙◌}
use Rattle.std.proofs.Common.{arith, append_assoc, drop-drop}
use Rattle.std.proofs.lemmas.Bool.{or_parts, not-true}
use Rattle.std.proofs.lemmas.List.{drop_more}
use Rattle.std.specs.Char.{encode_utf8}
use Rattle.std.specs.List.{prefix_len}
use Rattle.json.specs.Run.{is_plain}
use Rattle.json.specs.Text.{code_unit, short_escape, is_high_surrogate, is_low_surrogate, surrogate_pair, plain}
use Rattle.json.specs.Text.{after_backslash, after_u, after_high, prepend, content}

pub content-after_backslash : (d : List ℕ) (i : ℕ) → i < length d → content after_backslash (drop i d)
    ≡ cond (get_or d i 0 == 117) (content after_u (drop (i + 1) d))
    (option_and_then (λ c. prepend (c ∷ []) (content plain (drop (i + 1) d))) (short_escape (get_or d i 0)))
unfolding content
content-after_backslash d i h = ap (content after_backslash) (drop_more d i 0 h)

four : (d : List ℕ) (i : ℕ) → i + 4 ≤ length d
    → drop i d ≡ get_or d i 0 ∷ get_or d (i + 1) 0 ∷ get_or d (i + 2) 0 ∷ get_or d (i + 3) 0 ∷ drop (i + 4) d
four d i h =
    let more : (j k : ℕ) → k ≡ j + 1 → j < length d → drop j d ≡ get_or d j 0 ∷ drop k d =
    λ j k e l. drop_more d j 0 l ∙ ap (λ n. get_or d j 0 ∷ drop n d) (sym e) in
    more i (i + 1) refl (omega arith)
    ∙ ap (λ l. get_or d i 0 ∷ l) (more (i + 1) (i + 2) (omega arith) (omega arith)
    ∙ ap (λ l. get_or d (i + 1) 0 ∷ l) (more (i + 2) (i + 3) (omega arith) (omega arith)
    ∙ ap (λ l. get_or d (i + 2) 0 ∷ l) (more (i + 3) (i + 4) (omega arith) (omega arith))))

pub content-after_u : (d : List ℕ) (i : ℕ) → i + 4 ≤ length d → content after_u (drop i d)
    ≡ option_and_then (λ u. cond (is_high_surrogate u) (content (after_high u) (drop (i + 4) d))
    (cond (is_low_surrogate u) None (prepend (encode_utf8 u) (content plain (drop (i + 4) d)))))
    (code_unit (get_or d i 0) (get_or d (i + 1) 0) (get_or d (i + 2) 0) (get_or d (i + 3) 0))
unfolding content
content-after_u d i h = ap (content after_u) (four d i h)

pub content-after_high : (d : List ℕ) (i high : ℕ) → i + 6 ≤ length d → content (after_high high) (drop i d)
    ≡ cond ((get_or d i 0 == 92) && (get_or d (i + 1) 0 == 117))
    (option_and_then
    (λ l. cond (is_low_surrogate l) (prepend (encode_utf8 (surrogate_pair high l)) (content plain (drop (i + 6) d)))
    None)
    (code_unit (get_or d (i + 2) 0) (get_or d (i + 2 + 1) 0) (get_or d (i + 2 + 2) 0) (get_or d (i + 2 + 3) 0))) None
unfolding content
content-after_high d i high h =
    let two : i + 1 + 1 ≡ i + 2 = omega arith in
    let six : i + 2 + 4 ≡ i + 6 = omega arith in
    let last = four d (i + 2) (omega arith)
    ∙ ap (λ n. get_or d (i + 2) 0 ∷ get_or d (i + 2 + 1) 0 ∷ get_or d (i + 2 + 2) 0 ∷ get_or d (i + 2 + 3) 0 ∷ drop n d)
    six in
    ap (content (after_high high)) (drop_more d i 0 (omega arith)
    ∙ ap (λ l. get_or d i 0 ∷ l) (drop_more d (i + 1) 0 (omega arith)
    ∙ ap (λ l. get_or d (i + 1) 0 ∷ l) (ap (λ n. drop n d) two ∙ last)))

pub prepend-prepend : (a b : List ℕ) (r : Option (List ℕ)) → prepend a (prepend b r) ≡ prepend (a ++ b) r
prepend-prepend a b None = refl
prepend-prepend a b (Some s) = ap Some (sym (append_assoc a b s))

pub prepend-nil : (r : Option (List ℕ)) → prepend [] r ≡ r
prepend-nil None = refl
prepend-nil (Some s) = refl

run_byte : (p : Bool) (x n : ℕ) (xs : List ℕ) → p ≡ is_plain x
    → content plain xs ≡ prepend (take n xs) (content plain (drop n xs))
    → content plain (x ∷ xs)
    ≡ prepend (take (cond p (1 + n) 0) (x ∷ xs)) (content plain (drop (cond p (1 + n) 0) (x ∷ xs)))
unfolding content
run_byte false x n xs e ih = sym (prepend-nil _)
run_byte true x n xs e ih =
    let next : suc n ≡ 1 + n = omega arith in
    let none = or_parts ((x == 34) || (x == 92)) _ (not-true _ (sym e)) in
    let tests = or_parts (x == 34) _ none.0 in
    (λ i. cond (tests.0 i) (Some []) (cond (tests.1 i) (content after_backslash xs)
    (cond (none.1 i) None (prepend (x ∷ []) (ih i)))))
    ∙ prepend-prepend (x ∷ []) (take n xs) _
    ∙ ap (λ k. prepend (take k (x ∷ xs)) (content plain (drop k (x ∷ xs)))) next

-- plain bytes stand for themselves
content-run : (xs : List ℕ) → content plain xs
    ≡ prepend (take (prefix_len is_plain xs) xs) (content plain (drop (prefix_len is_plain xs) xs))
content-run [] = sym (prepend-nil _)
content-run (x ∷ xs) = run_byte (is_plain x) x (prefix_len is_plain xs) xs refl (content-run xs)

pub content-to_stop : (d : List ℕ) (i stop : ℕ) → stop ≡ i + prefix_len is_plain (drop i d)
    → content plain (drop i d) ≡ prepend (take (stop - i) (drop i d)) (content plain (drop stop d))
content-to_stop d i stop is =
    let n : prefix_len is_plain (drop i d) ≡ stop - i = omega arith in
    content-run (drop i d)
    ∙ ap (λ l. prepend (take (prefix_len is_plain (drop i d)) (drop i d)) (content plain l))
    (drop-drop _ i d ∙ ap (λ k. drop k d) (sym is))
    ∙ ap (λ k. prepend (take k (drop i d)) (content plain (drop stop d))) n

pub at_quote : (d : List ℕ) (i : ℕ) → i < length d → get_or d i 0 ≡ 34 → content plain (drop i d) ≡ Some []
unfolding content
at_quote d i h e = ap (content plain) (drop_more d i 0 h ∙ ap (λ x. x ∷ drop (i + 1) d) e)

pub at_backslash : (d : List ℕ) (i : ℕ) → i < length d → get_or d i 0 ≡ 92
    → content plain (drop i d) ≡ content after_backslash (drop (i + 1) d)
unfolding content
at_backslash d i h e = ap (content plain) (drop_more d i 0 h ∙ ap (λ x. x ∷ drop (i + 1) d) e)
