use Rattle.std.proofs.Common.{◌≡◌, length}
use Rattle.bytes_utils_buf.specs.Write.{WritesFront}
use Rattle.bytes_utils_buf.proofs.write.write_all_of.Given as goal

abbrev pub invariant-loop-buf : goal.invariant-loop-buf
invariant-loop-buf g l = record {
  front : WritesFront (g.W.Write.contents l.initial.writer) (g.W.Write.contents l.writer) (g.B.Buf.unread l.initial.buf) (g.B.Buf.unread l.buf);
  kept : g.B.Buf.kept l.buf ≡ g.B.Buf.kept l.initial.buf;
}

abbrev pub decreases-loop-buf : goal.decreases-loop-buf
decreases-loop-buf g l = length (g.B.Buf.unread l.buf)
