-- The marks of overridden keywords.
use Rattle.std.proofs.Common.{◌≡◌, ℕ, ◌+◌, ◌<◌, ◌≤◌, List, length, get_or, set, Bool, refl, sym, ap, ◌∙◌, lit<}
use Rattle.std.proofs.Common.{below_more, arith}
use Rattle.std.proofs.lemmas.List.{get_or-map, get_or-set_other, get_or-set_same, length-set, same_lists}
use Rattle.std.specs.List.{list_any}
use Rattle.std.specs.Str.{bytes_eq}
use Rattle.jskw_report.specs.Overridden.{overridden_marks, keyword_index}
use Rattle.jskw_report.specs.Setting.{keywords, name_of}
use Rattle.jskw_report.specs.declared.keyword.KeywordName.{KeywordName}
use Rattle.jskw_report.specs.declared.keyword.KeywordName.TheVariants.{TypeKeyword}

-- each keyword has a place
pub within : (w : KeywordName) → keyword_index w < length keywords
within TypeKeyword = lit< tt
within w = lit< tt

-- and its mark stands there
pub marked : (w : KeywordName) (names : List (List ℕ)) (b : Bool)
    → get_or (overridden_marks names) (keyword_index w) b ≡ list_any (bytes_eq (name_of w)) names
unfolding overridden_marks
marked TypeKeyword names b = refl
marked w names b = refl

pub ruleset lemmas = (within, marked)

-- ---- one mark after another

-- the first n are made
abbrev pub AreMarked : List (List ℕ) → ℕ → List Bool → Type 0
AreMarked names n bs =
    (length bs ≡ length keywords) × ((k : ℕ) → k < n → (b : Bool) → get_or bs k b ≡ get_or (overridden_marks names) k b)

-- one more
pub next_marked : (names : List (List ℕ)) (n : ℕ) (bs : List Bool) (name : List ℕ) (w : KeywordName)
    → n < length keywords
    → name ≡ name_of (get_or keywords n w) → AreMarked names n bs
    → AreMarked names (n + 1) (set bs n (list_any (bytes_eq name) names))
unfolding overridden_marks
next_marked names n bs name w h e known = (
  length-set bs n _ ∙ known.0,
  below_more _ n
      (λ k l b. get_or-set_other bs n k _ b (λ q. omega (arith, q, l)) ∙ known.1 k l b)
      (λ b. get_or-set_same bs n _ b (omega (arith, h, known.0)) ∙ ap (λ s. list_any (bytes_eq s) names) e
      ∙ sym (get_or-map (λ v. list_any (bytes_eq (name_of v)) names) keywords n w b h)),
)

-- all are made
pub all_marked : (names : List (List ℕ)) (n : ℕ) (bs : List Bool) → length keywords ≤ n → AreMarked names n bs
    → bs ≡ overridden_marks names
unfolding overridden_marks
all_marked names n bs h known =
    same_lists bs (overridden_marks names) known.0 (λ k b l. known.1 k (omega (arith, h, l, known.0)) b)
