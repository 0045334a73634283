use Rattle.std.specs.Vec.Iter.{into_iter_items, into_iter_len}
use Rattle.bytes_utils_buf.specs.Segments.{IsPaid}
use Rattle.bytes_utils_run.specs.Calls.{IsCall, IsRunOfCalls}
use Rattle.bytes_utils_run.proofs.CallsLemmas.{HasRoom}
use Rattle.bytes_utils_run.proofs.calls.drive.Given as goal

abbrev pub invariant-loop-call : goal.invariant-loop-call
invariant-loop-call g l = record {
  room : HasRoom l.fn.calls l.yielded (into_iter_items l.call-iterator) (into_iter_len l.call-iterator) l.given;
  run : IsRunOfCalls (IsCall g.B.Buf.unread g.B.BufParts.loses) l.yielded l.fn.buf l.given.items l.buf;
  paid : IsPaid l.fn.buf l.buf;
}
