-- The words of a command line, one argument at a time.
use Rattle.std.proofs.Common.{◌≡◌, ℕ, ◌<◌, ◌+◌, List, [], ◌∷◌, ◌∙◌, ap, map, Bool, true, false, refl, Some, None}
use Rattle.std.proofs.Common.{drop, Result, Err}
use Rattle.std.proofs.Common.{◌&&◌, if◌then◌else◌, sym, cond, not, length, arith}
use Rattle.std.proofs.lemmas.List.Splits.{slice_split_first}
use Rattle.std.specs.List.{after_first, before_first, onto_first, position_or_len, slice_split}
use Rattle.jskw_report.specs.Setting.{with_vocabulary}
use Rattle.jskw_report.specs.declared.settings.Vocabulary.{Vocabulary}
use Rattle.jskw_report.specs.declared.settings.VocabularySet.{VocabularySet}
use Rattle.jskw_service.specs.Request.{vocabulary_named}
use Rattle.jskw_check.specs.Arguments.{alone, arguments, file, is_comma, is_separator, is_value, next_value}
use Rattle.jskw_check.specs.Arguments.{takes_next}
use Rattle.jskw_check.specs.Arguments.{valued, vocabulary_or, with_names}

guarded_none : (b : Bool) (v : List ℕ) → (if b then Some v else None) ≡ None → b ≡ false
guarded_none true v e = cc
guarded_none false v e = refl

guarded_some : (b : Bool) (u v : List ℕ) → (if b then Some u else None) ≡ Some v → (b ≡ true) × (u ≡ v)
guarded_some true u v e = (refl, cc)
guarded_some false u v e = cc

-- behind `--` each word is a file
pub arguments_files : (w : List ℕ) (ws : List (List ℕ)) → is_separator w ≡ true → arguments (w ∷ ws) ≡ map file ws
arguments_files w [] is = ap (λ b. if b then [] else (alone w ∷ [])) is
arguments_files w (v ∷ ws) is =
    ap
    (λ b. if b then map file (v ∷ ws)
    else (if takes_next w && is_value v then valued w v ∷ arguments ws else (alone w ∷ arguments (v ∷ ws)))) is

-- a word that has no value behind it
pub arguments_alone : (w : List ℕ) (ws : List (List ℕ)) → is_separator w ≡ false → next_value (w ∷ ws) ≡ None
    → arguments (w ∷ ws) ≡ alone w ∷ arguments ws
arguments_alone w [] other none = ap (λ b. if b then [] else (alone w ∷ [])) other
arguments_alone w (v ∷ ws) other none =
    let more = arguments (v ∷ ws) in
    ap
    (λ b. if b then map file (v ∷ ws)
    else (if takes_next w && is_value v then valued w v ∷ arguments ws else (alone w ∷ more))) other
    ∙ ap (λ b. if b then valued w v ∷ arguments ws else (alone w ∷ more))
    (guarded_none (takes_next w && is_value v) v none)

-- a word, and its value behind it
pub arguments_valued : (w v : List ℕ) (ws : List (List ℕ)) → is_separator w ≡ false → next_value (w ∷ ws) ≡ Some v
    → arguments (w ∷ ws) ≡ valued w v ∷ arguments (drop 1 ws)
arguments_valued w v [] other some = cc
arguments_valued w v (u ∷ ws) other some =
    let more = arguments (u ∷ ws) in
    let both = guarded_some (takes_next w && is_value u) u v some in
    ap
    (λ b. if b then map file (u ∷ ws)
    else (if takes_next w && is_value u then valued w u ∷ arguments ws else (alone w ∷ more))) other
    ∙ ap (λ b. if b then valued w u ∷ arguments ws else (alone w ∷ more)) both.0
    ∙ ap (λ z. valued w z ∷ arguments ws) both.1

pub value_within : (w v : List ℕ) (ws : List (List ℕ)) → next_value (w ∷ ws) ≡ Some v → 0 < length ws
value_within w v [] some = cc
value_within w v (u ∷ ws) some = omega arith

-- ---- a list of names

no_comma_if : (c : Bool) (b : ℕ) (bs : List ℕ)
    → (position_or_len is_comma bs ≡ length bs → slice_split is_comma bs ≡ bs ∷ [])
    → cond (not c) (1 + position_or_len is_comma bs) 0 ≡ length (b ∷ bs)
    → cond c ([] ∷ slice_split is_comma bs) (onto_first b (slice_split is_comma bs)) ≡ (b ∷ bs) ∷ []
no_comma_if true b bs more e = absurd (omega arith)
no_comma_if false b bs more e = ap (onto_first b) (more (omega arith))

-- a list without a comma is one name
pub no_comma : (bs : List ℕ) → position_or_len is_comma bs ≡ length bs → slice_split is_comma bs ≡ bs ∷ []
no_comma [] e = refl
no_comma (b ∷ bs) e = no_comma_if (is_comma b) b bs (no_comma bs) e

-- the first name of a list with a comma
pub first_name : (bs n more : List ℕ)
    → (position_or_len is_comma bs < length bs) × (n ≡ before_first is_comma bs) × (more ≡ after_first is_comma bs)
    → slice_split is_comma bs ≡ n ∷ slice_split is_comma more
first_name bs n more at =
    slice_split_first is_comma bs 0 at.0 ∙ ap (λ z. z ∷ slice_split is_comma (after_first is_comma bs)) (sym at.1)
    ∙ ap (λ z. n ∷ slice_split is_comma z) (sym at.2)

-- the vocabularies that are named behind one
pub named_more : (vs us : VocabularySet) (v : Vocabulary) (n : List ℕ) (ns all : List (List ℕ))
    (named : Result VocabularySet (List ℕ)) → all ≡ n ∷ ns → vocabulary_named n ≡ Some v → us ≡ with_vocabulary v vs
    → with_names vs all ≡ named → with_names us ns ≡ named
named_more vs us v n ns all named split is more so_far =
    ap (λ z. with_names z ns) more ∙ sym (ap (λ o. vocabulary_or n o (λ w. with_names (with_vocabulary w vs) ns)) is)
    ∙ sym (ap (with_names vs) split) ∙ so_far

-- a name that no vocabulary has
pub named_none : (vs : VocabularySet) (n : List ℕ) (ns all : List (List ℕ)) (named : Result VocabularySet (List ℕ))
    → all ≡ n ∷ ns → vocabulary_named n ≡ None → with_names vs all ≡ named → named ≡ Err n
named_none vs n ns all named split is so_far =
    sym so_far ∙ ap (with_names vs) split
    ∙ ap (λ o. vocabulary_or n o (λ w. with_names (with_vocabulary w vs) ns)) is
