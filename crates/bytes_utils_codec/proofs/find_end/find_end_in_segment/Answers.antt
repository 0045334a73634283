use Rattle.std.proofs.Common.{◌+◌, arith, refl}
use Rattle.bytes_utils.proofs.NeedleLemmas.{range_rest}
use Rattle.bytes_utils_codec.proofs.FindEndLemmas.{found_in_rest, missed_in_rest}
use Rattle.bytes_utils_codec.proofs.find_end.find_end_in_segment.Goals as goal

pub returns-in_err-at : goal.returns-in_err-at
returns-in_err-at c =
    let missed = rw (range_rest c.args.segment.now c.args.from) at c.in_err-at.ensures in
    rw c.from_residual.ensures (missed_in_rest c.args.segment.now c.args.from (omega arith) missed)

pub returns : goal.returns
returns c =
    let found = rw (range_rest c.args.segment.now c.args.from) at c.in_ok-at.ensures in
    found_in_rest c.args.segment.now c.args.from (omega arith) c.in_ok-at.at (c.args.from + c.in_ok-at.at) refl found
