use Rattle.std.proofs.Common.{rules}
use Rattle.jskw_c.proofs.LinesOfTexts.{lines_of_text, no_lines_of_bytes}
use Rattle.jskw_c.proofs.repeated.push_repeated.Goals as goal

pub returns-in-Ok : goal.returns-in-Ok
returns-in-Ok c =
    let text = c.in-Ok.ensures.cases in
    search (rules, lines_of_text c.args.bytes.now c.in-Ok.json.now text.0 text.1)

pub returns-in-Err : goal.returns-in-Err
returns-in-Err c = search (rules, no_lines_of_bytes c.args.bytes.now c.in-Err.ensures.cases.0)
