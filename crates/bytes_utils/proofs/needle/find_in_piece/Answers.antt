use Rattle.std.proofs.Common.{arith}
use Rattle.bytes_utils.proofs.NeedleLemmas.{range_rest}
use Rattle.bytes_utils.proofs.NeedleLemmas.{found_from, missed_from}
use Rattle.bytes_utils.proofs.needle.find_in_piece.Goals as goal

pub returns-in_err-at-in-Err : goal.returns-in_err-at-in-Err
returns-in_err-at-in-Err c =
    let piece = c.args.piece.now in
    let left = c.in-Err.left in
    rw c.from_residual.ensures (missed_from c.args.finder.now piece left c.in-Err.ensures.within (rw c.needle.ensures at c.in-Err.ensures.none)
    (rw (range_rest piece left, c.in_err-at-in-Err.was) at c.find.ensures))

pub returns-in_ok-at-in-Err : goal.returns-in_ok-at-in-Err
returns-in_ok-at-in-Err c =
    let piece = c.args.piece.now in
    let left = c.in-Err.left in
    found_from c.args.finder.now piece left c.in-Err.ensures.within (rw c.needle.ensures at c.in-Err.ensures.none) c.in_ok-at-in-Err.at _ (omega arith)
    (rw (range_rest piece left, c.in_ok-at-in-Err.was) at c.find.ensures)
