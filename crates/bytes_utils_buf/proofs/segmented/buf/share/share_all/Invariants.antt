use Rattle.std.proofs.Common.{◌≡◌, map}
use Rattle.bytes_utils_buf.specs.Packing.{packed_bytes}
use Rattle.bytes_utils_buf.proofs.segmented.buf.share.share_all.Given as goal

abbrev pub invariant-loop-place : goal.invariant-loop-place
invariant-loop-place l = map packed_bytes l.pieces.items ≡ map packed_bytes l.fn.pieces.items
