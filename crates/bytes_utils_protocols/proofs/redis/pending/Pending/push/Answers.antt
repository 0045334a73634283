use Rattle.std.proofs.Common.{arith, ◌<◌, ◌+◌, ◌^◌, length}
use Rattle.bytes_utils_protocols.specs.RedisPending.{held_by_pending}
use Rattle.bytes_utils_protocols.proofs.PendingReplies.{still_pending}
use Rattle.bytes_utils_protocols.proofs.redis.pending.Pending.push.Goals as goal

pub returns-clause-pending : goal.returns-clause-pending
returns-clause-pending c limits =
    let fits : length (held_by_pending c.args.self.now) + length c.args.piece < 2 ^ 64 = let f = c.fits.ensures.0 c.if-not-fits.false in omega (arith, f, c.len.ensures.value) in
    still_pending limits c.args.self.now c.push.new.self c.args.piece c.push.result c.push.ensures.bytes c.push.ensures.err fits
