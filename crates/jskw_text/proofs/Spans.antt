-- What is passed over between two offsets of a text.
use Rattle.std.proofs.Common.{◌≡◌, ℕ, ◌+◌, ◌<◌, ◌≤◌, List, [], ◌∷◌, Some, length, drop}
use Rattle.std.proofs.Common.{get_or, sym, ap, ◌∙◌, subst, arith}
use Rattle.std.proofs.Common.{length-drop, lt_of_not-le}
use Rattle.std.proofs.lemmas.Bool.{true≢false}
use Rattle.std.proofs.lemmas.List.{drop-drop, get_or_past}
use Rattle.json.specs.Align.{is_blank}
use Rattle.json.specs.Lex.{Lexeme, between, class, lex, operator, operator_lexeme}
use Rattle.json.specs.Word.{head}
use Rattle.json.specs.Token as token
use Rattle.jskw_value.specs.Number.{Num}
use Rattle.jskw_value.specs.Tree.{number}
use Rattle.jskw_text.specs.Passing.{IsNumberAt, Passes, PassesByte, Skips, SkipsLeaf, Spans}
use Rattle.jskw_text.specs.Reading.{number_tree}
use Rattle.jskw_text.proofs.Lexemes.{number_first, operator_first}
use Rattle.jskw_text.proofs.Passing.{read_behind}
use Rattle.jskw_text.proofs.ShortNumbers.{head_is}

-- what is behind a later offset is no longer
pub span_shorter : (d : List ℕ) (from to : ℕ) → from ≤ to → length (drop to d) ≤ length (drop from d)
span_shorter d from to le = omega (arith, length-drop from d, length-drop to d)

-- spaces
pub spaces_between : (d : List ℕ) (from to : ℕ) → lex between (drop from d) ≡ lex between (drop to d) → from ≤ to
    → Passes (drop from d) [] (drop to d)
spaces_between d from to e le = record { lexed = e; shorter = omega (arith, span_shorter d from to le) }

-- what follows spaces
pub with_spaces : (d : List ℕ) (from at to : ℕ) (ls : List Lexeme) → lex between (drop from d) ≡ lex between (drop at d)
    → from ≤ at → Passes (drop at d) ls (drop to d) → Passes (drop from d) ls (drop to d)
with_spaces d from at to ls e le passes =
    record { lexed = e ∙ passes.lexed; shorter = omega (arith, passes.shorter, span_shorter d from at le) }

-- one behind another
pub both : (old mid new : List ℕ) (k l : Lexeme) → Passes old (k ∷ []) mid → Passes mid (l ∷ []) new
    → Passes old (k ∷ l ∷ []) new
both old mid new k l one other = record {
  lexed = one.lexed ∙ ap (λ ls. k ∷ ls) other.lexed;
  shorter = omega (arith, one.shorter, other.shorter);
}

-- a bracket, brace, comma or colon
pub operator_within : (d : List ℕ) (at x : ℕ) → get_or d at 32 ≡ x → class x ≡ operator → at < length d
operator_within d at x is c =
    lt_of_not-le (λ h. true≢false (ap is_blank (ap class (sym (get_or_past d at 32 h) ∙ is) ∙ c)))

pub operator_at : (d : List ℕ) (at x : ℕ) → get_or d at 32 ≡ x → class x ≡ operator
    → PassesByte x (drop at d) (drop (at + 1) d)
operator_at d at x is c =
    let e : head (drop at d) ≡ x = head_is d at ∙ is in
    let passes = operator_first (drop at d) (ap class e ∙ c) in
    subst (λ r. Passes (drop at d) (operator_lexeme x ∷ []) r) (drop-drop 1 at d)
    (subst (λ y. Passes (drop at d) (operator_lexeme y ∷ []) (drop 1 (drop at d))) e passes)

-- a number
pub number_spans : (d : List ℕ) (at end : ℕ) (x : Num) → IsNumberAt d at end x → Spans SkipsLeaf d at end
number_spans d at end x is =
    let passes = number_first d at end x is in (
      omega (arith, is.forward),
      is.within,
      (number x, (token.number passes.0, passes.1, ap (λ o. Some (number_tree o)) passes.2)),
    )

-- a value behind spaces
pub value_behind : (depth : ℕ) (d : List ℕ) (from at : ℕ) → lex between (drop from d) ≡ lex between (drop at d)
    → from ≤ at → (end : ℕ) → Spans (Skips depth) d at end → Spans (Skips depth) d from end
value_behind depth d from at e le end value = (
  omega (arith, le, value.0),
  value.1,
  (
    value.2.0,
    read_behind depth (drop from d) (drop at d) value.2.0 (drop end d) (spaces_between d from at e le) value.2.1,
  ),
)
