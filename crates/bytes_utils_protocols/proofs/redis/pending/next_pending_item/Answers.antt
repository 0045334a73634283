use Rattle.std.proofs.Common.{arith, ◌+◌, ◌<◌, sym, subst}
use Rattle.std.specs.List.{concat}
use Rattle.std.proofs.lemmas.Result.{err_from_is_err_and}
use Rattle.bytes_utils_protocols.specs.RedisPending.{IsNoPendingItem}
use Rattle.bytes_utils_protocols.proofs.ReplyAsks.{asks_for_text, refused_item}
use Rattle.bytes_utils_protocols.proofs.redis.pending.next_pending_item.Goals as goal

pub returns-in_err-pending_text-in-Plain-clause-found : goal.returns-in_err-pending_text-in-Plain-clause-found
returns-in_err-pending_text-in-Plain-clause-found c =
    let u = concat c.args.pieces.now.held.segments in
    let out = err_from_is_err_and c.from_residual-in_err-pending_text-in-Plain.result c.from_residual-in_err-pending_text-in-Plain.ensures.1 in
    let begun = c.in-InLine.begun in
    let head = rw (c.in-Plain.is) at rw (c.in-Some.is) at c.in_ok-head.ensures.head in
    let few : begun.len + 1 < c.read_pending_line.new.begun.len + 2 = omega (arith, c.in_ok-head.ensures.further) in
    rw (out.1, c.in-InLine.is) (subst (IsNoPendingItem c.args.limits c.args.room u (begun.len + 1)) (sym out.2)
    (refused_item c.args.limits c.args.room u (begun.len + 1) _ c.in_err-pending_text-in-Plain.ensures.reason
    (asks_for_text c.args.limits c.args.room u c.read_pending_line.new.begun.len (begun.len + 1) head few)))
