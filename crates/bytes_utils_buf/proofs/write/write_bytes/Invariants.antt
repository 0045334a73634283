use Rattle.std.proofs.Common.{◌≡◌, ◌-◌, drop, length}
use Rattle.bytes_utils_buf.specs.Write.{WritesCounted}
use Rattle.bytes_utils_buf.proofs.write.write_bytes.Given as goal

abbrev pub invariant-loop-rest : goal.invariant-loop-rest
invariant-loop-rest g l = record {
  front : WritesCounted (g.W.Write.contents l.fn.writer) (g.W.Write.contents l.writer) l.fn.written l.written l.fn.bytes;
  left : l.rest ≡ drop (l.written - l.fn.written) l.fn.bytes;
}

abbrev pub decreases-loop-rest : goal.decreases-loop-rest
decreases-loop-rest g l = length l.rest
