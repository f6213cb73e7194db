-- What a command of the code, and one that is not read to its end, stand for.
use Rattle.std.specs.Prelude.{◌≡◌, ◌<◌, ◌≤◌, List, [], ◌∷◌, drop, length, map, option_map, string_bytes, Option}
use Rattle.std.specs.Prelude.{Result, String, IfOk}
use Rattle.std.specs.declared.alloc.Global.{Global}
use Rattle.jskw_documents.specs.Schemas.{how_read}
use Rattle.jskw_check.specs.Arguments.{Argument, arguments}
use Rattle.jskw_check.specs.Commands.{Asked, Said, check, command_behind, ended, help, said_behind, version, wrong}
use Rattle.jskw_check.specs.Commands as spec
use Rattle.jskw_check.specs.declared.arguments.Step.{Step}
use Rattle.jskw_check.specs.declared.arguments.Step.TheVariants.{Taken, End}
use Rattle.jskw_check.specs.declared.given.Command.{Command}
use Rattle.jskw_check.specs.declared.given.Command.TheVariants.{Check, Help, Version, Wrong}
use Rattle.jskw_check.specs.declared.given.Given.{Given}
use Rattle.jskw_check.specs.declared.given.Unfinished.{Unfinished}

abbrev pub given_view : Given → Asked
given_view g =
    record {
      schema = string_bytes g.schema;
      how = how_read g.schema_options;
      options = g.options;
      lines = g.lines;
      progress = g.progress;
      files = map string_bytes g.files.items;
    }

abbrev pub command_view : Command → spec.Command
command_view Help = help
command_view Version = version
command_view (Wrong why) = wrong (string_bytes why)
command_view (Check g) = check (given_view g)

abbrev pub unfinished_view : Unfinished → Said
unfinished_view u =
    record {
      schema = option_map string_bytes u.schema;
      how = how_read u.schema_options;
      options = u.options;
      lines = u.lines;
      progress = u.progress;
      files = map string_bytes u.files.items;
    }

-- an argument is taken: it is a command that ends all, or is said behind the others
abbrev pub TakesArgument : {E : Type 0} → Argument → Unfinished → Unfinished → Result (Option Command) E → Type 0
TakesArgument x old new r =
    IfOk r
    (λ c. (option_map command_view c ≡ ended (x ∷ []))
    × (unfinished_view new ≡ said_behind (unfinished_view old) (x ∷ [])))

-- the first of these words are taken, or the words are this command
abbrev pub TakesWords : List (String Global) → Unfinished → Unfinished → Step → Type 0
TakesWords words old new (Taken n) =
    (0 < n) × (n ≤ length words)
    × (command_behind (unfinished_view new) (arguments (map string_bytes (drop n words)))
    ≡ command_behind (unfinished_view old) (arguments (map string_bytes words)))
TakesWords words old new (End c) =
    command_view c ≡ command_behind (unfinished_view old) (arguments (map string_bytes words))
