-- What a command line asks for.
use Rattle.std.specs.Prelude.{ℕ, List, [], ◌∷◌, ◌++◌, Bool, true, false, codes, filter_map, unwrap_or}
use Rattle.std.specs.Prelude.{Option, Some, None}
use Rattle.jskw_report.specs.Setting.{all_vocabularies}
use Rattle.jskw_report.specs.declared.settings.Draft.{Draft}
use Rattle.jskw_report.specs.declared.settings.VocabularySet.{VocabularySet}
use Rattle.jskw_documents.specs.Schemas.{HowRead}
use Rattle.jskw_documents.specs.declared.options.Options.{Options}
use Rattle.jskw_documents.specs.declared.options.Output.{Output}
use Rattle.jskw_documents.specs.declared.options.Output.TheVariants.{Text}
use Rattle.jskw_check.specs.Arguments.{Argument, arguments}
use Rattle.jskw_check.specs.Arguments as said

-- the schema and the files that are checked, and how
pub record Asked : Type 0 where
  pub schema : List ℕ
  pub how : HowRead
  pub options : Options
  pub lines : Bool
  pub progress : Bool
  pub files : List (List ℕ)

pub data Command : Type 0 where
  help : Command
  version : Command
  -- nothing that can be done, and why
  wrong : List ℕ → Command
  check : Asked → Command

-- ---- of an option that is given more than once the last value counts

abbrev pub last_or : {A : Type 0} → (Argument → Option A) → A → List Argument → A
last_or value a [] = a
last_or value a (x ∷ xs) = last_or value (unwrap_or (value x) a) xs

abbrev pub schema_said : Argument → Option (Option (List ℕ))
schema_said (said.schema name) = Some (Some name)
schema_said x = None

abbrev pub draft_said : Argument → Option (Option Draft)
draft_said (said.draft d) = Some (Some d)
draft_said x = None

abbrev pub vocabularies_said : Argument → Option VocabularySet
vocabularies_said (said.vocabularies vs) = Some vs
vocabularies_said x = None

abbrev pub output_said : Argument → Option Output
output_said (said.output o) = Some o
output_said x = None

abbrev limit_said : Argument → Option ℕ
limit_said (said.max_errors n) = Some n
limit_said x = None

abbrev pub lines_said : Argument → Option Bool
lines_said said.lines = Some true
lines_said x = None

abbrev pub allow_unchecked_said : Argument → Option Bool
allow_unchecked_said said.allow_unchecked = Some true
allow_unchecked_said x = None

abbrev pub verbose_said : Argument → Option Bool
verbose_said said.verbose = Some true
verbose_said x = None

abbrev pub progress_said : Argument → Option Bool
progress_said said.progress = Some true
progress_said x = None

-- ---- all overridden names count, and all files

abbrev pub overridden_said : Argument → Option (List ℕ)
overridden_said (said.override name) = Some name
overridden_said x = None

abbrev pub file_said : Argument → Option (List ℕ)
file_said (said.file name) = Some name
file_said x = None

-- ---- a command line

-- what arguments say
pub record Said : Type 0 where
  pub schema : Option (List ℕ)
  pub how : HowRead
  pub options : Options
  pub lines : Bool
  pub progress : Bool
  pub files : List (List ℕ)

-- what holds unless an argument says otherwise: the draft is the schema's own, and of a document 1,000 errors are
-- written
abbrev pub nothing_said : Said
nothing_said =
    record {
      schema = None;
      how = record { draft = None; vocabularies = all_vocabularies; overridden = []; allow_unchecked = false };
      options = record { output = Text; verbose = false; limit = 1000 };
      lines = false;
      progress = false;
      files = [];
    }

-- what these arguments say, behind what is said already
abbrev pub said_behind : Said → List Argument → Said
said_behind s xs =
    record {
      schema = last_or schema_said s.schema xs;
      how =
          record {
            draft = last_or draft_said s.how.draft xs;
            vocabularies = last_or vocabularies_said s.how.vocabularies xs;
            overridden = s.how.overridden ++ filter_map overridden_said xs;
            allow_unchecked = last_or allow_unchecked_said s.how.allow_unchecked xs;
          };
      options =
          record {
            output = last_or output_said s.options.output xs;
            verbose = last_or verbose_said s.options.verbose xs;
            limit = last_or limit_said s.options.limit xs;
          };
      lines = last_or lines_said s.lines xs;
      progress = last_or progress_said s.progress xs;
      files = s.files ++ filter_map file_said xs;
    }

-- behind the first argument that is wrong, or asks for help or for the version, nothing counts
abbrev pub ended : List Argument → Option Command
ended [] = None
ended (said.help ∷ xs) = Some help
ended (said.version ∷ xs) = Some version
ended (said.wrong why ∷ xs) = Some (wrong why)
ended (x ∷ xs) = ended xs

-- standard input, if there is no file
abbrev pub or_input : List (List ℕ) → List (List ℕ)
or_input [] = codes "-" ∷ []
or_input (f ∷ fs) = f ∷ fs

abbrev with_schema : Option (List ℕ) → Said → Command
with_schema None s = wrong (codes "the following arguments are required: --schema")
with_schema (Some name) s =
    check
    (record {
      schema = name;
      how = s.how;
      options = s.options;
      lines = s.lines;
      progress = s.progress;
      files = or_input s.files;
    })

abbrev pub command_said : Said → Command
command_said s = with_schema s.schema s

abbrev pub command_behind : Said → List Argument → Command
command_behind s xs = unwrap_or (ended xs) (command_said (said_behind s xs))

-- the command that these words are
abbrev pub command : List (List ℕ) → Command
command words = command_behind nothing_said (arguments words)
