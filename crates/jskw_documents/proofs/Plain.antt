-- Bytes of words that are written as they are.
use Rattle.std.proofs.Common.{◌≡◌, ◌+◌, ◌++◌, ℕ, suc, List, [], ◌∷◌, Bool, true, false}
use Rattle.std.proofs.Common.{append_assoc, cond, refl, sym, ap, ◌∙◌, arith, take, drop, get_or}
use Rattle.std.specs.List.{prefix_len}
use Rattle.std.specs.Prelude.{nat_lt, eqb}
use Rattle.std.proofs.lemmas.Bool.Decides.{nat_tests}
use Rattle.jskw_documents.specs.Shown.{is_plain, obeyed, shown_behind}

not_obeyed : (b c d : ℕ) → is_plain b ≡ true → obeyed b c d ≡ 0
not_obeyed b c d e =
    let least : nat_lt b 32 ≡ false = grind (arith, nat_tests) in
    let most : eqb b 127 ≡ false = grind (arith, nat_tests) in
    let two : eqb b 194 ≡ false = grind (arith, nat_tests) in
    let three : eqb b 226 ≡ false = grind (arith, nat_tests) in
    rw (least, most, two, three) refl

run_byte : (p : Bool) (b n : ℕ) (bs : List ℕ) → p ≡ is_plain b
    → shown_behind 0 bs ≡ take n bs ++ shown_behind 0 (drop n bs)
    → shown_behind 0 (b ∷ bs) ≡ take (cond p (1 + n) 0) (b ∷ bs) ++ shown_behind 0 (drop (cond p (1 + n) 0) (b ∷ bs))
run_byte false b n bs e ih = refl
run_byte true b n bs e ih =
    let next : suc n ≡ 1 + n = omega arith in
    rw (not_obeyed b (get_or bs 0 0) (get_or bs 1 0) (sym e)) (ap (λ l. b ∷ l) ih)
    ∙ ap (λ k. take k (b ∷ bs) ++ shown_behind 0 (drop k (b ∷ bs))) next

shown_run : (bs : List ℕ)
    → shown_behind 0 bs ≡ take (prefix_len is_plain bs) bs ++ shown_behind 0 (drop (prefix_len is_plain bs) bs)
shown_run [] = refl
shown_run (b ∷ bs) = run_byte (is_plain b) b (prefix_len is_plain bs) bs refl (shown_run bs)

-- of words that begin with so many plain bytes, these are written as they are
pub plain_first : (n passed : ℕ) (bs text : List ℕ) → n ≡ prefix_len is_plain bs → passed ≡ 0
    → (text ++ take n bs) ++ shown_behind passed (drop n bs) ≡ text ++ shown_behind passed bs
plain_first n passed bs text is none =
    ap (λ k. (text ++ take k bs) ++ shown_behind passed (drop k bs)) is
    ∙ ap (λ p. (text ++ take (prefix_len is_plain bs) bs) ++ shown_behind p (drop (prefix_len is_plain bs) bs)) none
    ∙ append_assoc text (take (prefix_len is_plain bs) bs) (shown_behind 0 (drop (prefix_len is_plain bs) bs))
    ∙ ap (λ l. text ++ l) (sym (shown_run bs))
    ∙ ap (λ p. text ++ shown_behind p bs) (sym none)
