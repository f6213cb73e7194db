-- A command line, one argument at a time.
use Rattle.std.proofs.Common.{◌≡◌, ℕ, List, [], ◌∷◌, ◌++◌, ◌∙◌, ap, map, refl, sym, Option, Some, None}
use Rattle.std.proofs.lemmas.List.{append-nil, append_assoc}
use Rattle.std.specs.List.{cons_option}
use Rattle.std.specs.Prelude.{filter_map, unwrap_or}
use Rattle.jskw_check.specs.Arguments.{Argument, file}
use Rattle.jskw_check.specs.Arguments as said
use Rattle.jskw_check.specs.Commands.{Command, Said, command_behind, command_said, ended, file_said, overridden_said}
use Rattle.jskw_check.specs.Commands.{said_behind}

-- an argument that is a command by itself ends all
ended_all : (x : Argument) (xs : List Argument) (c : Command) → ended (x ∷ []) ≡ Some c → ended (x ∷ xs) ≡ Some c
ended_all said.help xs c is = is
ended_all said.version xs c is = is
ended_all (said.wrong why) xs c is = is
ended_all x xs c is = cc

pub behind_end : (s : Said) (x : Argument) (xs : List Argument) (c : Command) → ended (x ∷ []) ≡ Some c
    → command_behind s (x ∷ xs) ≡ c
behind_end s x xs c is =
    ap (λ o. unwrap_or o (command_said (said_behind s (x ∷ xs)))) (ended_all x xs c is)

-- any other does not
ended_more : (x : Argument) (xs : List Argument) → ended (x ∷ []) ≡ None → ended (x ∷ xs) ≡ ended xs
ended_more said.help xs none = cc
ended_more said.version xs none = cc
ended_more (said.wrong why) xs none = cc
ended_more x xs none = refl

-- what is said, with other lists
abbrev with_lists : Said → List (List ℕ) → List (List ℕ) → Said
with_lists s names files = record s { how = record s.how { overridden = names }; files = files }

kept : {A : Type 0} (o : Option A) (xs ys : List A) → xs ++ cons_option o ys ≡ (xs ++ cons_option o []) ++ ys
kept None xs ys = ap (λ z. z ++ ys) (sym (append-nil xs))
kept (Some a) xs ys = sym (append_assoc xs (a ∷ []) ys)

said_one : (s : Said) (x : Argument) (xs : List Argument)
    → said_behind s (x ∷ xs) ≡ said_behind (said_behind s (x ∷ [])) xs
said_one s x xs =
    let all = said_behind s (x ∷ xs) in
    let names = kept (overridden_said x) s.how.overridden (filter_map overridden_said xs) in
    let files = kept (file_said x) s.files (filter_map file_said xs) in
    ap (λ z. with_lists all z all.files) names
    ∙ ap
    (with_lists all ((s.how.overridden ++ cons_option (overridden_said x) []) ++ filter_map overridden_said xs)) files

pub behind_one : (s : Said) (x : Argument) (xs : List Argument) → ended (x ∷ []) ≡ None
    → command_behind s (x ∷ xs) ≡ command_behind (said_behind s (x ∷ [])) xs
behind_one s x xs none =
    ap (λ o. unwrap_or o (command_said (said_behind s (x ∷ xs)))) (ended_more x xs none)
    ∙ ap (λ z. unwrap_or (ended xs) (command_said z)) (said_one s x xs)

-- no argument
pub behind_none : (s : Said) → command_said s ≡ command_behind s []
behind_none s =
    ap (λ z. command_said (with_lists s z s.files)) (sym (append-nil s.how.overridden))
    ∙ ap (λ z. command_said (with_lists s (s.how.overridden ++ []) z)) (sym (append-nil s.files))

-- files alone
pub behind_files : (s : Said) (ws : List (List ℕ))
    → command_behind s (map file ws) ≡ command_behind (record s { files = s.files ++ ws }) []
behind_files s [] = ap (λ z. command_behind (record s { files = z }) []) (sym (append-nil s.files))
behind_files s (w ∷ ws) =
    let one = said_behind s (file w ∷ []) in
    behind_one s (file w) (map file ws) refl ∙ behind_files one ws
    ∙ ap (λ z. command_behind (with_lists one z ((s.files ++ (w ∷ [])) ++ ws)) []) (append-nil s.how.overridden)
    ∙ ap (λ z. command_behind (record s { files = z }) []) (append_assoc s.files (w ∷ []) ws)
