use Rattle.std.proofs.Common.{◌≡◌, drop}
use Rattle.std.specs.Prelude.{find}
use Rattle.std.specs.Str.{bytes_eq}
use Rattle.jskw_report.specs.Setting.{name_of}
use Rattle.jskw_report.specs.Found.{keyword_named}
use Rattle.jskw_report.proofs.keyword.KeywordName.named.Given as goal

abbrev pub invariant-loop-keyword : goal.invariant-loop-keyword
invariant-loop-keyword l =
    find (λ w. bytes_eq (name_of w) l.name) (drop l.keyword-index l.keyword-items) ≡ keyword_named l.name
