use Rattle.std.proofs.Common.{◌<◌, ◌+◌, ◌^◌, length}
use Rattle.bytes_utils_protocols.specs.RedisPending.{held_by_pending}
use Rattle.bytes_utils_protocols.proofs.PendingReplies.{still_pending}
use Rattle.bytes_utils_protocols.proofs.redis.pending.Pending.push_slice.Goals as goal

pub returns-clause-pending : goal.returns-clause-pending
returns-clause-pending c limits =
    let fits : length (held_by_pending c.args.self.now) + length c.args.piece.now < 2 ^ 64 = let f = c.fits.ensures.0 c.if-not-fits.false in f in
    still_pending limits c.args.self.now c.push_slice.new.self c.args.piece.now c.push_slice.result c.push_slice.ensures.bytes c.push_slice.ensures.err fits
