use Rattle.std.proofs.Common.{arith}
use Rattle.std.proofs.lemmas.Simd.{zip2_splat}
use Rattle.json.specs.Run.{is_stop}
use Rattle.jskw_text.proofs.Lanes.{hit, at_most, either, beside, masked}
use Rattle.jskw_text.proofs.scan.stops.Goals as goal

pub returns : goal.returns
returns c =
    let v = c.args.bytes in
    let long = c.fits-bytes.0 in
    masked _ is_stop v _ (omega arith) c.fits-bytes.1
    (either _ _ v (zip2_splat hit v 16 92 long) (beside at_most _ 32 16 v long (zip2_splat _ v 16 2 long))) tt
