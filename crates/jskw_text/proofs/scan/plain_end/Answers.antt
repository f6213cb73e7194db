use Rattle.std.proofs.Common.{arith}
use Rattle.json.specs.Run.{is_plain}
use Rattle.jskw_text.proofs.Lanes.{ends_in_block, run_bound}
use Rattle.jskw_text.proofs.scan.plain_end.Goals as goal

pub returns-then-found-ne0-clause-value : goal.returns-then-found-ne0-clause-value
returns-then-found-ne0-clause-value c =
    let end = ends_in_block c.args.bytes.now c.args.from _ (omega arith) c.stops-found.ensures (omega arith) in
    omega (arith, end.0)

pub returns-then-found-ne0-clause-bound : goal.returns-then-found-ne0-clause-bound
returns-then-found-ne0-clause-bound c =
    let end = ends_in_block c.args.bytes.now c.args.from _ (omega arith) c.stops-found.ensures (omega arith) in
    omega (arith, end.0, run_bound is_plain c.args.bytes.now c.args.from (omega arith))
