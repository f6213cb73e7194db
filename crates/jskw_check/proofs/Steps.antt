-- One argument of a command line, or all files.
use Rattle.std.proofs.Common.{◌≡◌, ℕ, ◌<◌, ◌≤◌, List, [], ◌∷◌, ◌++◌, ◌∙◌, ap, map, refl, sym, arith, drop, length}
use Rattle.std.proofs.Common.{true, false}
use Rattle.std.proofs.Common.{Option, Some, None, subst, get_or, Result, Ok, Err, IfOk}
use Rattle.std.proofs.lemmas.List.{drop_all}
use Rattle.std.specs.Prelude.{MatchOption, String, option_map, string_bytes}
use Rattle.std.specs.declared.alloc.Global.{Global}
use Rattle.jskw_check.specs.Arguments.{Argument, alone, arguments, is_separator, next_value, valued}
use Rattle.jskw_check.specs.CommandView.{TakesWords, command_view, unfinished_view}
use Rattle.jskw_check.specs.Commands.{Said, command_behind, command_said, ended, said_behind}
use Rattle.jskw_check.specs.Commands as asked
use Rattle.jskw_check.specs.declared.arguments.Step.{Step}
use Rattle.jskw_check.specs.declared.arguments.Step.TheVariants.{Taken, End}
use Rattle.jskw_check.specs.declared.given.Command.{Command}
use Rattle.jskw_check.specs.declared.given.Unfinished.{Unfinished}
use Rattle.jskw_check.proofs.Behind.{behind_end, behind_files, behind_none, behind_one}
use Rattle.jskw_check.proofs.Words.{arguments_alone, arguments_files, arguments_valued, value_within}

abbrev pub Words : Type 0
Words = List (String Global)

abbrev texts : Words → List (List ℕ)
texts words = map string_bytes words

-- an argument of so many words
pub taken_one : (words : Words) (x : Argument) (count : ℕ) (old new : Unfinished) (taken : Option Command) (step : Step)
    → arguments (texts words) ≡ x ∷ arguments (texts (drop count words)) → 0 < count → count ≤ length words
    → (option_map command_view taken ≡ ended (x ∷ []))
    × (unfinished_view new ≡ said_behind (unfinished_view old) (x ∷ []))
    → MatchOption taken (step ≡ Taken count) (λ c. step ≡ End c) → TakesWords words old new step
taken_one words x count old new None step first some within takes is =
    let s = unfinished_view old in
    let rest = arguments (texts (drop count words)) in
    subst (TakesWords words old new) (sym is) (
      some,
      within,
      ap (λ z. command_behind z rest) takes.1 ∙ sym (behind_one s x rest (sym takes.0))
          ∙ sym (ap (command_behind s) first),
    )
taken_one words x count old new (Some c) step first some within takes is =
    let s = unfinished_view old in
    let rest = arguments (texts (drop count words)) in
    subst (TakesWords words old new) (sym is)
    (sym (behind_end s x rest (command_view c) (sym takes.0)) ∙ sym (ap (command_behind s) first))

length_of_texts : (words : Words) → length (texts words) ≡ length words
length_of_texts [] = refl
length_of_texts (w ∷ ws) = let more : length (texts ws) ≡ length ws = length_of_texts ws in omega arith

two_gone : (words : Words) → drop 1 (texts (drop 1 words)) ≡ texts (drop 2 words)
two_gone [] = refl
two_gone (w ∷ []) = refl
two_gone (w ∷ v ∷ ws) = refl

-- a word by itself
pub taken_alone : (words : Words) (w : String Global) (t : List ℕ) (old new : Unfinished) (taken : Option Command)
    (step : Step) → 0 < length words → w ≡ get_or words 0 w → t ≡ string_bytes w → is_separator t ≡ false
    → next_value (texts words) ≡ None
    → (option_map command_view taken ≡ ended (alone t ∷ []))
    × (unfinished_view new ≡ said_behind (unfinished_view old) (alone t ∷ []))
    → MatchOption taken (step ≡ Taken 1) (λ c. step ≡ End c) → TakesWords words old new step
taken_alone [] w t old new taken step some first text other none takes is = absurd (omega arith)
taken_alone (u ∷ ws) w t old new taken step some first text other none takes is =
    let here : t ≡ string_bytes u = text ∙ ap string_bytes first in
    taken_one (u ∷ ws) (alone t) 1 old new taken step
    (arguments_alone (string_bytes u) (texts ws) (sym (ap is_separator here) ∙ other) none
    ∙ ap (λ z. alone z ∷ arguments (texts ws)) (sym here))
    (omega arith) (omega arith) takes is

-- a word, and its value behind it
pub taken_valued : (words : Words) (w : String Global) (t v : List ℕ) (old new : Unfinished) (taken : Option Command)
    (step : Step) → 0 < length words → w ≡ get_or words 0 w → t ≡ string_bytes w → is_separator t ≡ false
    → next_value (texts words) ≡ Some v
    → (option_map command_view taken ≡ ended (valued t v ∷ []))
    × (unfinished_view new ≡ said_behind (unfinished_view old) (valued t v ∷ []))
    → MatchOption taken (step ≡ Taken 2) (λ c. step ≡ End c) → TakesWords words old new step
taken_valued [] w t v old new taken step some first text other value takes is = absurd (omega arith)
taken_valued (u ∷ ws) w t v old new taken step some first text other value takes is =
    let here : t ≡ string_bytes u = text ∙ ap string_bytes first in
    let behind : 0 < length (texts ws) = value_within (string_bytes u) v (texts ws) value in
    let same : length (texts ws) ≡ length ws = length_of_texts ws in
    taken_one (u ∷ ws) (valued t v) 2 old new taken step
    (arguments_valued (string_bytes u) v (texts ws) (sym (ap is_separator here) ∙ other) value
    ∙ ap (λ z. valued z v ∷ arguments (drop 1 (texts ws))) (sym here)
    ∙ ap (λ z. valued t v ∷ arguments z) (two_gone (u ∷ ws)))
    (omega arith) (omega arith) takes is

-- behind `--` each word is a file
pub taken_files : (words : Words) (w : String Global) (t : List ℕ) (old new : Unfinished)
    → 0 < length words → w ≡ get_or words 0 w → t ≡ string_bytes w → is_separator t ≡ true
    → unfinished_view new
    ≡ record (unfinished_view old) { files = (unfinished_view old).files ++ texts (drop 1 words) }
    → TakesWords words old new (Taken (length words))
taken_files [] w t old new some first text is says = absurd (omega arith)
taken_files (u ∷ ws) w t old new some first text is says =
    let s = unfinished_view old in
    let words = u ∷ ws in
    let here : t ≡ string_bytes u = text ∙ ap string_bytes first in (
      some,
      omega arith,
      ap (λ z. command_behind (unfinished_view new) (arguments (texts z)))
          (drop_all (length words) words (omega arith))
          ∙ ap (λ z. command_behind z []) says ∙ sym (behind_files s (texts ws))
          ∙ sym (ap (command_behind s)
          (arguments_files (string_bytes u) (texts ws) (sym (ap is_separator here) ∙ is))),
    )

-- no word is left
pub at_end : {E : Type 0} (r : Result Command E) (said : Unfinished) (rest : Words) (all : asked.Command)
    → length rest ≡ 0 → command_behind (unfinished_view said) (arguments (texts rest)) ≡ all
    → IfOk r (λ c. command_view c ≡ command_said (unfinished_view said)) → IfOk r (λ c. command_view c ≡ all)
at_end (Ok c) said [] all none so_far is = is ∙ behind_none (unfinished_view said) ∙ so_far
at_end (Ok c) said (w ∷ ws) all none so_far is = absurd (omega arith)
at_end (Err e) said rest all none so_far is = tt
