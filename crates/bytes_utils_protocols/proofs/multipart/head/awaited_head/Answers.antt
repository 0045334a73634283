use Rattle.std.proofs.Common.{arith}
use Rattle.bytes_utils_protocols.proofs.MultipartStreamLemmas.{malformed_without, large_without, awaits_without}
use Rattle.bytes_utils_protocols.proofs.multipart.head.awaited_head.Goals as goal

pub returns-then-next : goal.returns-then-next
returns-then-next c delimiter held size is none = malformed_without delimiter held is.some c.args.limits c.args.next is none c.if-next.true

pub returns-then-all-max : goal.returns-then-all-max
returns-then-all-max c delimiter held size is none = large_without delimiter held is.some c.args.limits c.args.next is none c.if-next.false (omega (arith, size, c.if-all-max.true, c.max.ensures))

pub returns : goal.returns
returns c delimiter held size is none = awaits_without delimiter held is.some c.args.limits c.args.next is none c.if-next.false (omega (arith, size, c.if-all-max.false, c.max.ensures))
