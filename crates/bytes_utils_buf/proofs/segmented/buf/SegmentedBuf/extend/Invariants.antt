use Rattle.std.proofs.Common.{◌≡◌, map}
use Rattle.bytes_utils_buf.specs.Segments.{after_accepting}
use Rattle.bytes_utils_buf.proofs.segmented.buf.SegmentedBuf.extend.Given as goal

abbrev pub invariant-loop-buf : goal.invariant-loop-buf
invariant-loop-buf g l = l.self ≡ after_accepting l.fn.self (map g.B.Buf.unread l.yielded)
