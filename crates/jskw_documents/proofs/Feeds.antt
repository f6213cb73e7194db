-- Lines of bytes, one behind another.
use Rattle.std.proofs.Common.{◌≡◌, ℕ, ◌+◌, ◌<◌, List, [], ◌∷◌, ◌++◌, true, false, true≢false, refl, sym, ap, ◌∙◌}
use Rattle.std.proofs.Common.{if◌then◌else◌, get_or, length, subst, take}
use Rattle.std.proofs.Common.{drop, eqb, take-append-drop}
use Rattle.std.proofs.Math.Seq.{take-add}
use Rattle.std.proofs.lemmas.Bool.{ne_eqb}
use Rattle.std.proofs.lemmas.List.{append-nil, append_assoc, drop_more, take_more}
use Rattle.jskw_documents.specs.Streams.{begun_of, is_in_line, lines_of}

-- ---- of bytes behind others

pub lines_append : (b xs ys : List ℕ) → lines_of b (xs ++ ys) ≡ lines_of b xs ++ lines_of (begun_of b xs) ys
lines_append b [] ys = refl
lines_append b (x ∷ xs) ys =
    elim (eqb x 10) as
    (λ v. (if v then b ∷ lines_of [] (xs ++ ys) else lines_of (b ++ (x ∷ [])) (xs ++ ys))
    ≡ (if v then b ∷ lines_of [] xs else lines_of (b ++ (x ∷ [])) xs)
    ++ lines_of (if v then begun_of [] xs else begun_of (b ++ (x ∷ [])) xs) ys)
    [ true ↦ ap (λ l. b ∷ l) (lines_append [] xs ys) | false ↦ lines_append (b ++ (x ∷ [])) xs ys ]

pub begun_append : (b xs ys : List ℕ) → begun_of b (xs ++ ys) ≡ begun_of (begun_of b xs) ys
begun_append b [] ys = refl
begun_append b (x ∷ xs) ys =
    elim (eqb x 10) as
    (λ v. (if v then begun_of [] (xs ++ ys) else begun_of (b ++ (x ∷ [])) (xs ++ ys))
    ≡ begun_of (if v then begun_of [] xs else begun_of (b ++ (x ∷ [])) xs) ys)
    [ true ↦ begun_append [] xs ys | false ↦ begun_append (b ++ (x ∷ [])) xs ys ]

-- ---- of bytes in a line, and of a line feed behind them

pub line_ended : (b xs : List ℕ) → is_in_line xs ≡ true → lines_of b (xs ++ (10 ∷ [])) ≡ (b ++ xs) ∷ []
line_ended b [] h = ap (λ l. l ∷ []) (sym (append-nil b))
line_ended b (x ∷ xs) h =
    (elim (eqb x 10) as
    (λ v. (if v then false else is_in_line xs) ≡ true
    → (if v then b ∷ lines_of [] (xs ++ (10 ∷ [])) else lines_of (b ++ (x ∷ [])) (xs ++ (10 ∷ [])))
    ≡ (b ++ (x ∷ xs)) ∷ []) [
      | true ↦ λ no. absurd (true≢false (sym no))
      | false ↦ λ yes. line_ended (b ++ (x ∷ [])) xs yes ∙ ap (λ l. l ∷ []) (append_assoc b (x ∷ []) xs)
    ])
    h

pub none_begun : (b xs : List ℕ) → is_in_line xs ≡ true → begun_of b (xs ++ (10 ∷ [])) ≡ []
none_begun b [] h = refl
none_begun b (x ∷ xs) h =
    (elim (eqb x 10) as
    (λ v. (if v then false else is_in_line xs) ≡ true
    → (if v then begun_of [] (xs ++ (10 ∷ [])) else begun_of (b ++ (x ∷ [])) (xs ++ (10 ∷ []))) ≡ [])
    [ true ↦ λ no. absurd (true≢false (sym no)) | false ↦ λ yes. none_begun (b ++ (x ∷ [])) xs yes ])
    h

pub no_line : (b xs : List ℕ) → is_in_line xs ≡ true → lines_of b xs ≡ []
no_line b [] h = refl
no_line b (x ∷ xs) h =
    (elim (eqb x 10) as
    (λ v. (if v then false else is_in_line xs) ≡ true
    → (if v then b ∷ lines_of [] xs else lines_of (b ++ (x ∷ [])) xs) ≡ [])
    [ true ↦ λ no. absurd (true≢false (sym no)) | false ↦ λ yes. no_line (b ++ (x ∷ [])) xs yes ])
    h

pub more_begun : (b xs : List ℕ) → is_in_line xs ≡ true → begun_of b xs ≡ b ++ xs
more_begun b [] h = sym (append-nil b)
more_begun b (x ∷ xs) h =
    (elim (eqb x 10) as
    (λ v. (if v then false else is_in_line xs) ≡ true
    → (if v then begun_of [] xs else begun_of (b ++ (x ∷ [])) xs) ≡ b ++ (x ∷ xs)) [
      | true ↦ λ no. absurd (true≢false (sym no))
      | false ↦ λ yes. more_begun (b ++ (x ∷ [])) xs yes ∙ append_assoc b (x ∷ []) xs
    ])
    h

-- ---- of the bytes before an index

-- one byte more
pub in_line_more : (xs : List ℕ) (b : ℕ) → is_in_line xs ≡ true → eqb b 10 ≡ false → is_in_line (xs ++ (b ∷ [])) ≡ true
in_line_more [] b h e = ap (λ v. if v then false else true) e
in_line_more (x ∷ xs) b h e =
    (elim (eqb x 10) as
    (λ v. (if v then false else is_in_line xs) ≡ true → (if v then false else is_in_line (xs ++ (b ∷ []))) ≡ true)
    [ true ↦ λ no. absurd (true≢false (sym no)) | false ↦ λ yes. in_line_more xs b yes e ])
    h

-- more bytes
pub in_line_join : (xs ys : List ℕ) → is_in_line xs ≡ true → is_in_line ys ≡ true → is_in_line (xs ++ ys) ≡ true
in_line_join [] ys h k = k
in_line_join (x ∷ xs) ys h k =
    (elim (eqb x 10) as
    (λ v. (if v then false else is_in_line xs) ≡ true → (if v then false else is_in_line (xs ++ ys)) ≡ true)
    [ true ↦ λ no. absurd (true≢false (sym no)) | false ↦ λ yes. in_line_join xs ys yes k ])
    h

pub in_line_next : (xs : List ℕ) (i : ℕ) → i < length xs → is_in_line (take i xs) ≡ true
    → (get_or xs i 0 ≡ 10 → ⊥) → is_in_line (take (i + 1) xs) ≡ true
in_line_next xs i within inside other =
    subst (λ l. is_in_line l ≡ true) (sym (take_more xs i 0 within))
    (in_line_more (take i xs) (get_or xs i 0) inside (ne_eqb (get_or xs i 0) 10 other))

-- n bytes more
pub in_line_stride : (xs : List ℕ) (i n m : ℕ) → m ≡ n → is_in_line (take i xs) ≡ true
    → is_in_line (take m (drop i xs)) ≡ true → is_in_line (take (i + n) xs) ≡ true
in_line_stride xs i n m same inside more =
    subst (λ l. is_in_line l ≡ true) (sym (take-add i n xs))
    (in_line_join (take i xs) (take n (drop i xs)) inside
    (subst (λ k. is_in_line (take k (drop i xs)) ≡ true) same more))

-- the bytes before a line feed, and those behind it
pub ends_at : (xs : List ℕ) (i : ℕ) → i < length xs → get_or xs i 0 ≡ 10 → xs ≡ take i xs ++ (10 ∷ drop (i + 1) xs)
ends_at xs i within e =
    let here : drop i xs ≡ 10 ∷ drop (i + 1) xs =
    drop_more xs i 0 within ∙ ap (λ b. b ∷ drop (i + 1) xs) e in
    sym (take-append-drop i xs) ∙ ap (λ l. take i xs ++ l) here
