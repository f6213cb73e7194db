-- What a reply says.
use Rattle.std.specs.Prelude.{ℕ, List, string_bytes}
use Rattle.jskw_service.specs.Answer.{memory_line}
use Rattle.jskw_service.specs.declared.service.Reply.{Reply}
use Rattle.jskw_service.specs.declared.service.Reply.TheVariants.{Answer, NoMemory}
use Rattle.jskw_service.specs.declared.service.Verdict.{Verdict}
use Rattle.jskw_service.specs.declared.service.Verdict.TheVariants.{Refused}

abbrev pub verdict_in : Reply → Verdict
verdict_in (Answer said text) = said
verdict_in NoMemory = Refused

abbrev pub text_in : Reply → List ℕ
text_in (Answer said text) = string_bytes text
text_in NoMemory = memory_line
