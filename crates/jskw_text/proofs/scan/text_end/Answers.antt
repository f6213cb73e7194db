use Rattle.std.proofs.Common.{◌≡◌, ◌+◌, get_or, arith}
use Rattle.std.specs.List.{slice_range}
use Rattle.jskw_text.proofs.Lexemes.{string_first}
use Rattle.jskw_text.proofs.scan.text_end.Goals as goal

pub returns-clause-text : goal.returns-clause-text
returns-clause-text c =
    let d = c.args.bytes.now in
    let at = c.args.at in
    let stop = c.in_ok-stop.stop in
    let is = c.in_ok-stop.ensures.value in
    let inside = c.in_ok-stop.ensures.bound in
    let closes : get_or d stop 0 ≡ 34 = omega arith in (
      omega (arith, is),
      omega (arith, inside),
      (
        slice_range d (at + 1) stop,
        string_first d at stop (omega arith) c.requires.quote is (omega (arith, inside)) closes,
      ),
    )
