use Rattle.std.proofs.Common.{arith}
use Rattle.bytes_utils_protocols.proofs.PendingReplies.{still_seen}
use Rattle.bytes_utils_protocols.proofs.redis.ReplyReader.push.Goals as goal

pub invariant_of-self : goal.invariant_of-self
invariant_of-self c =
    let is = c.self.invariant in
    let limits = c.self.inside.limits in
    let push = c.push.ensures in (
      push.pending limits is.0,
      still_seen limits c.self.inside.pending c.push.new.self c.args.piece c.self.inside.seen c.push.result push.pushed.ok push.pushed.err is.1,
      omega (arith, is.2, push.seen),
    )
