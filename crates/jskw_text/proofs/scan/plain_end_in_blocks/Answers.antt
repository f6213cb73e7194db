use Rattle.std.proofs.Common.{◌+◌, arith}
use Rattle.jskw_text.proofs.Lanes.{ends_in_block, goes_on}
use Rattle.jskw_text.proofs.scan.plain_end_in_blocks.Goals as goal

pub returns-then-found-ne0-clause-value : goal.returns-then-found-ne0-clause-value
returns-then-found-ne0-clause-value c =
    let end = ends_in_block c.args.bytes.now c.args.from _ (omega arith) c.stops-found.ensures (omega arith) in
    omega (arith, end.0)

pub returns-then-found-ne0-clause-bound : goal.returns-then-found-ne0-clause-bound
returns-then-found-ne0-clause-bound c =
    let end = ends_in_block c.args.bytes.now c.args.from _ (omega arith) c.stops-found.ensures (omega arith) in
    omega (arith, end.1)

pub returns-then-found-ne0-2-clause-value : goal.returns-then-found-ne0-2-clause-value
returns-then-found-ne0-2-clause-value c =
    let run = goes_on c.args.bytes.now c.args.from _ (omega arith) c.stops-found.ensures (omega arith) in
    let end =
    ends_in_block c.args.bytes.now (c.args.from + 16) _ (omega arith) c.stops-found-2.ensures (omega arith) in
    omega (arith, run, end.0)

pub returns-then-found-ne0-2-clause-bound : goal.returns-then-found-ne0-2-clause-bound
returns-then-found-ne0-2-clause-bound c =
    let end =
    ends_in_block c.args.bytes.now (c.args.from + 16) _ (omega arith) c.stops-found-2.ensures (omega arith) in
    omega (arith, end.1)
