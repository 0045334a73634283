use Rattle.std.proofs.Common.{◌≡◌, ◌^◌, ◌<◌, length, map, take}
use Rattle.std.specs.List.{concat}
use Rattle.bytes_utils_buf.proofs.segmented.sum.sum_of.Given as goal

abbrev pub invariant-loop-buf : goal.invariant-loop-buf
invariant-loop-buf g l = (l.sum < 2 ^ 64) × (l.sum ≡ length (concat (take l.buf-index (map g.B.Buf.unread l.bufs))))
