-- Worked rows: the commands that command lines are. A row is the words of a line, and the command that is wanted.
use Prim.Native.String.{String}
use Rattle.std.specs.Prelude.{◌≡◌, ℕ, List, [], ◌∷◌, codes, map, Some, None, true, false}
use Rattle.std.proofs.Common.{refl}
use Rattle.jskw_report.specs.Setting.{all_vocabularies, no_vocabulary, with_vocabulary}
use Rattle.jskw_report.specs.declared.settings.Draft.{Draft}
use Rattle.jskw_report.specs.declared.settings.Draft.TheVariants.{Draft7, Draft201909}
use Rattle.jskw_report.specs.declared.settings.Vocabulary.TheVariants.{Core, Validation}
use Rattle.jskw_report.specs.declared.settings.VocabularySet.{VocabularySet}
use Rattle.jskw_documents.specs.declared.options.Output.TheVariants.{Basic, Text}
use Rattle.jskw_check.specs.Commands.{Asked, Command, check, command, help, version, wrong}

abbrev Word : Type 0
Word = String

abbrev Row : Type 0
Row = Command × Command

abbrev row : List Word → Command → Row
row words wanted = (command (map codes words), wanted)

abbrev Right : List Row → Type 0
Right rows = map (λ r. r.0) rows ≡ map (λ r. r.1) rows

-- ---- what is wanted

-- what `--schema s` asks for
abbrev plain : Asked
plain =
    record {
      schema = codes "s";
      how = record { draft = None; vocabularies = all_vocabularies; overridden = []; allow_unchecked = false };
      options = record { output = Text; verbose = false; limit = 1000 };
      lines = false;
      progress = false;
      files = codes "-" ∷ [];
    }

abbrev of_schema : Word → Command
of_schema name = check (record plain { schema = codes name })

abbrev of_files : List Word → Command
of_files names = check (record plain { files = map codes names })

abbrev under_draft : Draft → Command
under_draft d = check (record plain { how = record plain.how { draft = Some d } })

abbrev with_vocabularies : VocabularySet → Command
with_vocabularies vs = check (record plain { how = record plain.how { vocabularies = vs } })

abbrev with_limit : ℕ → Command
with_limit n = check (record plain { options = record plain.options { limit = n } })

abbrev error : Word → Command
error why = wrong (codes why)

-- ---- rows

abbrev schemas_and_files : List Row
schemas_and_files =
    row [] (error "the following arguments are required: --schema") ∷
    row ("a" ∷ []) (error "the following arguments are required: --schema") ∷
    row ("--schema" ∷ "s" ∷ []) (check plain) ∷
    row ("--schema=s" ∷ []) (check plain) ∷
    row ("--schema=a=b" ∷ []) (of_schema "a=b") ∷
    row ("--schema=" ∷ []) (of_schema "") ∷
    row ("--schema" ∷ "-" ∷ []) (of_schema "-") ∷
    row ("--schema" ∷ "" ∷ []) (of_schema "") ∷
    -- the last one counts
    row ("--schema" ∷ "t" ∷ "--schema=s" ∷ []) (check plain) ∷
    row ("--schema" ∷ []) (error "argument --schema: expected one argument") ∷
    row ("--schema" ∷ "--lines" ∷ []) (error "argument --schema: expected one argument") ∷
    row ("--schema" ∷ "--" ∷ "s" ∷ []) (error "argument --schema: expected one argument") ∷
    -- files stand anywhere, in order
    row ("a" ∷ "--schema" ∷ "s" ∷ "b" ∷ "a" ∷ []) (of_files ("a" ∷ "b" ∷ "a" ∷ [])) ∷
    row ("" ∷ "-" ∷ "--schema" ∷ "s" ∷ []) (of_files ("" ∷ "-" ∷ [])) ∷
    -- behind `--` all words are files
    row ("--schema" ∷ "s" ∷ "--" ∷ "--lines" ∷ "-h" ∷ "--" ∷ "-" ∷ [])
    (of_files ("--lines" ∷ "-h" ∷ "--" ∷ "-" ∷ [])) ∷
    row ("a" ∷ "--schema" ∷ "s" ∷ "--" ∷ "b" ∷ []) (of_files ("a" ∷ "b" ∷ [])) ∷
    row ("--schema" ∷ "s" ∷ "--" ∷ []) (check plain) ∷ []

schemas_and_files_right : Right schemas_and_files
schemas_and_files_right = refl

abbrev options : List Row
options =
    row ("--lines" ∷ "--schema=s" ∷ []) (check (record plain { lines = true })) ∷
    row ("--progress" ∷ "--schema=s" ∷ []) (check (record plain { progress = true })) ∷
    row ("--verbose" ∷ "--schema=s" ∷ []) (check (record plain { options = record plain.options { verbose = true } })) ∷
    row ("--allow-unchecked" ∷ "--schema=s" ∷ [])
    (check (record plain { how = record plain.how { allow_unchecked = true } })) ∷
    -- all overridden names count, in order
    row ("--override" ∷ "b" ∷ "--schema=s" ∷ "--override=a" ∷ [])
    (check (record plain { how = record plain.how { overridden = codes "b" ∷ codes "a" ∷ [] } })) ∷
    row ("--output" ∷ "quiet" ∷ "--schema=s" ∷ "--output=basic" ∷ [])
    (check (record plain { options = record plain.options { output = Basic } })) ∷
    row ("--output=basic" ∷ "--schema=s" ∷ "--output=text" ∷ []) (check plain) ∷
    row ("--output" ∷ "x" ∷ "--schema=s" ∷ [])
    (error "argument --output: invalid choice: 'x' (choose from 'text', 'basic', 'quiet')") ∷
    row ("--draft" ∷ "4" ∷ "--draft" ∷ "7" ∷ "--schema=s" ∷ []) (under_draft Draft7) ∷
    row ("--draft=2019-09" ∷ "--schema=s" ∷ []) (under_draft Draft201909) ∷
    row ("--schema=s" ∷ "--draft" ∷ "3" ∷ [])
    (error "argument --draft: invalid choice: '3' (choose from '4', '6', '7', '2019-09', '2020-12')") ∷
    row ("--vocabularies=" ∷ "--schema=s" ∷ []) (with_vocabularies no_vocabulary) ∷
    row ("--vocabularies" ∷ "validation,core,core" ∷ "--schema=s" ∷ [])
    (with_vocabularies (with_vocabulary Core (with_vocabulary Validation no_vocabulary))) ∷
    row ("--vocabularies" ∷ "core,x,y" ∷ "--schema=s" ∷ [])
    (error "argument --vocabularies: 'x' is not one of 'core', 'applicator', 'validation'") ∷
    row ("--vocabularies" ∷ "core," ∷ "--schema=s" ∷ [])
    (error "argument --vocabularies: '' is not one of 'core', 'applicator', 'validation'") ∷
    -- no other word is an option, and only those have a value
    row ("--schema=s" ∷ "--lines=1" ∷ []) (error "unrecognized arguments: --lines=1") ∷
    row ("--schema=s" ∷ "--verb" ∷ []) (error "unrecognized arguments: --verb") ∷
    row ("--schema=s" ∷ "-v" ∷ []) (error "unrecognized arguments: -v") ∷
    row ("--schema=s" ∷ "--nope" ∷ "x" ∷ []) (error "unrecognized arguments: --nope") ∷ []

options_right : Right options
options_right = refl

abbrev limits : List Row
limits =
    row ("--max-errors" ∷ "5" ∷ "--schema=s" ∷ []) (with_limit 5) ∷
    row ("--max-errors=0012" ∷ "--schema=s" ∷ []) (with_limit 12) ∷
    row ("--max-errors" ∷ "18446744073709551615" ∷ "--schema=s" ∷ []) (with_limit 18446744073709551615) ∷
    row ("--max-errors" ∷ "18446744073709551616" ∷ "--schema=s" ∷ [])
    (error "argument --max-errors: '18446744073709551616' is no number from 0 to 2^64-1") ∷
    -- all
    row ("--max-errors" ∷ "0" ∷ "--schema=s" ∷ []) (with_limit 0) ∷
    row ("--max-errors=00" ∷ "--schema=s" ∷ []) (with_limit 0) ∷
    row ("--max-errors" ∷ "1000" ∷ "--schema=s" ∷ []) (check plain) ∷
    row ("--max-errors" ∷ "+5" ∷ "--schema=s" ∷ [])
    (error "argument --max-errors: '+5' is no number from 0 to 2^64-1") ∷
    row ("--max-errors=-1" ∷ "--schema=s" ∷ []) (error "argument --max-errors: '-1' is no number from 0 to 2^64-1") ∷
    row ("--max-errors=" ∷ "--schema=s" ∷ []) (error "argument --max-errors: '' is no number from 0 to 2^64-1") ∷
    row ("--max-errors" ∷ "1x" ∷ "--schema=s" ∷ [])
    (error "argument --max-errors: '1x' is no number from 0 to 2^64-1") ∷
    row ("--max-errors" ∷ "-1" ∷ "--schema=s" ∷ []) (error "argument --max-errors: expected one argument") ∷ []

limits_right : Right limits
limits_right = refl

-- what is said first counts
abbrev ends : List Row
ends =
    row ("-h" ∷ []) help ∷
    row ("--schema" ∷ "s" ∷ "--help" ∷ "--version" ∷ []) help ∷
    row ("--version" ∷ "--nope" ∷ []) version ∷
    row ("--nope" ∷ "--help" ∷ []) (error "unrecognized arguments: --nope") ∷
    row ("--draft" ∷ "3" ∷ "--nope" ∷ [])
    (error "argument --draft: invalid choice: '3' (choose from '4', '6', '7', '2019-09', '2020-12')") ∷
    -- the schema is looked for at the end
    row ("a" ∷ "--nope" ∷ []) (error "unrecognized arguments: --nope") ∷ []

ends_right : Right ends
ends_right = refl
