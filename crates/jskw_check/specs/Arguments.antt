-- The words of a command line, in bytes, as arguments: files, options with their values, and what is wrong.
use Rattle.std.specs.Prelude.{ℕ, ◌==◌, ◌^◌, ◌&&◌, ◌||◌, List, [], ◌∷◌, ◌++◌, Bool, false, not, bytes_eq, codes}
use Rattle.std.specs.Prelude.{if◌then◌else◌, is_none, length, map, nat_lt, Option, Some, None, Result, Ok, Err}
use Rattle.std.specs.List.{after_first, before_first, position_or_len, slice_split}
use Rattle.std.specs.Str.{all_ascii_digits}
use Rattle.std.specs.Str.Parse.{digits_value}
use Rattle.jskw_report.specs.Setting.{no_vocabulary, with_vocabulary}
use Rattle.jskw_report.specs.declared.settings.Draft.{Draft}
use Rattle.jskw_report.specs.declared.settings.Vocabulary.{Vocabulary}
use Rattle.jskw_report.specs.declared.settings.VocabularySet.{VocabularySet}
use Rattle.jskw_service.specs.Request.{draft_named, vocabulary_named}
use Rattle.jskw_documents.specs.declared.options.Output.{Output}
use Rattle.jskw_documents.specs.declared.options.Output.TheVariants.{Text, Basic, Quiet}

pub data Argument : Type 0 where
  -- what is checked
  file : List ℕ → Argument
  -- options with a value
  schema : List ℕ → Argument
  draft : Draft → Argument
  vocabularies : VocabularySet → Argument
  override : List ℕ → Argument
  output : Output → Argument
  max_errors : ℕ → Argument
  -- options without one
  lines : Argument
  allow_unchecked : Argument
  verbose : Argument
  progress : Argument
  -- nothing behind it counts
  help : Argument
  version : Argument
  -- it is none, and why
  wrong : List ℕ → Argument

-- ---- words

-- the word is this one
abbrev pub is_word : List ℕ → List ℕ → Bool
is_word this w = bytes_eq w this

abbrev pub begins_with_dash : List ℕ → Bool
begins_with_dash [] = false
begins_with_dash (b ∷ bs) = b == 45

-- a word that can be a file or the value of an option
abbrev pub is_value : List ℕ → Bool
is_value w = is_word (codes "-") w || not (begins_with_dash w)

-- behind this word each word is a file
abbrev pub is_separator : List ℕ → Bool
is_separator w = is_word (codes "--") w

-- the name of an option with a value
abbrev pub takes_value : List ℕ → Bool
takes_value w =
    is_word (codes "--schema") w || is_word (codes "--draft") w || is_word (codes "--vocabularies") w
    || is_word (codes "--override") w || is_word (codes "--output") w || is_word (codes "--max-errors") w

abbrev pub is_equals : ℕ → Bool
is_equals b = b == 61

-- the name of an option, which ends before the first `=`
abbrev pub name_in : List ℕ → List ℕ
name_in w = before_first is_equals w

-- the value behind the first `=`, if there is one
abbrev pub value_in : List ℕ → Option (List ℕ)
value_in w = if nat_lt (position_or_len is_equals w) (length w) then Some (after_first is_equals w) else None

-- an option whose value is the next word
abbrev pub takes_next : List ℕ → Bool
takes_next w = takes_value (name_in w) && is_none (value_in w)

-- the value that is the next word, if the first is such an option
abbrev pub next_value : List (List ℕ) → Option (List ℕ)
next_value [] = None
next_value (w ∷ []) = None
next_value (w ∷ v ∷ ws) = if takes_next w && is_value v then Some v else None

-- ---- values

abbrev pub is_comma : ℕ → Bool
is_comma b = b == 44

-- the names of a list, with a comma between two
abbrev pub names_of : List ℕ → List (List ℕ)
names_of [] = []
names_of (b ∷ bs) = slice_split is_comma (b ∷ bs)

abbrev pub vocabulary_or : List ℕ → Option Vocabulary → (Vocabulary → Result VocabularySet (List ℕ))
    → Result VocabularySet (List ℕ)
vocabulary_or n None more = Err n
vocabulary_or n (Some v) more = more v

-- the set with the vocabularies of these names too, or the first name that none has
abbrev pub with_names : VocabularySet → List (List ℕ) → Result VocabularySet (List ℕ)
with_names vs [] = Ok vs
with_names vs (n ∷ ns) = vocabulary_or n (vocabulary_named n) (λ v. with_names (with_vocabulary v vs) ns)

abbrev pub output_named : List ℕ → Option Output
output_named s =
    if bytes_eq s (codes "text") then Some Text
    else (if bytes_eq s (codes "basic") then Some Basic
    else (if bytes_eq s (codes "quiet") then Some Quiet
    else None))

-- a number below 2^64, in digits alone
abbrev pub limit_in : List ℕ → Option ℕ
limit_in s =
    if all_ascii_digits s && nat_lt 0 (length s) && nat_lt (digits_value 10 s) (2 ^ 64)
    then Some (digits_value 10 s)
    else None

-- ---- what is wrong

abbrev pub unrecognized : List ℕ → Argument
unrecognized w = wrong (codes "unrecognized arguments: " ++ w)

abbrev pub without_value : List ℕ → Argument
without_value w = wrong (codes "argument " ++ (w ++ codes ": expected one argument"))

abbrev pub no_draft : List ℕ → Argument
no_draft v =
    wrong (codes "argument --draft: invalid choice: '" ++ (v
    ++ codes "' (choose from '4', '6', '7', '2019-09', '2020-12')"))

abbrev pub no_vocabulary_name : List ℕ → Argument
no_vocabulary_name n =
    wrong (codes "argument --vocabularies: '" ++ (n ++ codes "' is not one of 'core', 'applicator', 'validation'"))

abbrev pub no_output : List ℕ → Argument
no_output v =
    wrong (codes "argument --output: invalid choice: '" ++ (v ++ codes "' (choose from 'text', 'basic', 'quiet')"))

abbrev pub no_limit : List ℕ → Argument
no_limit v = wrong (codes "argument --max-errors: '" ++ (v ++ codes "' is no number from 0 to 2^64-1"))

-- ---- an option and its value

abbrev pub some_or : {A : Type 0} → (A → Argument) → Argument → Option A → Argument
some_or f other None = other
some_or f other (Some a) = f a

abbrev pub vocabularies_or : Result VocabularySet (List ℕ) → Argument
vocabularies_or (Ok vs) = vocabularies vs
vocabularies_or (Err n) = no_vocabulary_name n

-- the option of this name, with this value
abbrev pub valued : List ℕ → List ℕ → Argument
valued name v =
    if is_word (codes "--schema") name then schema v
    else (if is_word (codes "--override") name then override v
    else (if is_word (codes "--draft") name then some_or draft (no_draft v) (draft_named v)
    else (if is_word (codes "--vocabularies") name then vocabularies_or (with_names no_vocabulary (names_of v))
    else (if is_word (codes "--output") name then some_or output (no_output v) (output_named v)
    else some_or max_errors (no_limit v) (limit_in v)))))

-- ---- arguments

-- an option that a word is by itself: NAME=VALUE; an option with a value lacks it, and no other is one
abbrev pub option_in : List ℕ → Argument
option_in w =
    if takes_value (name_in w) then some_or (valued (name_in w)) (without_value w) (value_in w) else unrecognized w

abbrev pub option_alone : List ℕ → Argument
option_alone w =
    if is_word (codes "-h") w || is_word (codes "--help") w then help
    else (if is_word (codes "--version") w then version
    else (if is_word (codes "--lines") w then lines
    else (if is_word (codes "--progress") w then progress
    else (if is_word (codes "--verbose") w then verbose
    else (if is_word (codes "--allow-unchecked") w then allow_unchecked
    else option_in w)))))

-- what a word says by itself
abbrev pub alone : List ℕ → Argument
alone w = if is_value w then file w else option_alone w

-- what the words say, one argument behind the other
abbrev pub arguments : List (List ℕ) → List Argument
arguments [] = []
arguments (w ∷ []) = if is_separator w then [] else (alone w ∷ [])
arguments (w ∷ v ∷ ws) =
    if is_separator w then map file (v ∷ ws)
    else (if takes_next w && is_value v then valued w v ∷ arguments ws else (alone w ∷ arguments (v ∷ ws)))
