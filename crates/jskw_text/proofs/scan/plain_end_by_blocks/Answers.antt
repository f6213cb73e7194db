use Rattle.std.proofs.Common.{arith}
use Rattle.json.specs.Run.{is_plain}
use Rattle.jskw_text.proofs.Lanes.{ends_in_block, goes_on, run_bound}
use Rattle.jskw_text.proofs.scan.plain_end_by_blocks.Goals as goal

pub returns-then-found-ne0-clause-value : goal.returns-then-found-ne0-clause-value
returns-then-found-ne0-clause-value c =
    let end = ends_in_block c.args.bytes.now c.blocks-2.at _ (omega arith) c.stops-found.ensures (omega arith) in
    omega (arith, end.0, c.blocks-2.invariant.0)

pub returns-then-found-ne0-clause-bound : goal.returns-then-found-ne0-clause-bound
returns-then-found-ne0-clause-bound c =
    let end = ends_in_block c.args.bytes.now c.blocks-2.at _ (omega arith) c.stops-found.ensures (omega arith) in
    omega (arith, end.0, run_bound is_plain c.args.bytes.now c.blocks-2.at (omega arith))

pub blocks-2-preserved : goal.blocks-2-preserved
blocks-2-preserved c =
    let run = goes_on c.args.bytes.now c.blocks-2.at _ (omega arith) c.stops-found.ensures (omega arith) in
    (omega (arith, run, c.blocks-2.invariant.0), omega arith)

pub returns-clause-bound : goal.returns-clause-bound
returns-clause-bound c =
    omega (arith, c.plain_end_slowly.ensures, run_bound is_plain c.args.bytes.now c.blocks-2.at (omega arith))
