use Rattle.std.proofs.Common.{arith}
use Rattle.bytes_utils_protocols.proofs.PendingReplies.{none_seen}
use Rattle.bytes_utils_protocols.proofs.redis.ReplyReader.new.Goals as goal

pub invariant_of-result : goal.invariant_of-result
invariant_of-result c = (c.new.ensures.pending c.args.limits, none_seen c.args.limits _, omega arith)
