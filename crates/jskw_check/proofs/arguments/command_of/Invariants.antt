use Rattle.std.proofs.Common.{◌≡◌, length, map}
use Rattle.std.specs.Prelude.{string_bytes}
use Rattle.jskw_check.specs.Arguments.{arguments}
use Rattle.jskw_check.specs.CommandView.{unfinished_view}
use Rattle.jskw_check.specs.Commands.{command, command_behind}
use Rattle.jskw_check.proofs.arguments.command_of.Given as goal

-- what is said, and what the rest says
abbrev pub invariant-words : goal.invariant-words
invariant-words l =
    command_behind (unfinished_view l.said) (arguments (map string_bytes l.rest)) ≡ command (map string_bytes l.words)

abbrev pub decreases-words : goal.decreases-words
decreases-words l = length l.rest
