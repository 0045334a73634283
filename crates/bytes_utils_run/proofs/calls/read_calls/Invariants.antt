use Rattle.std.proofs.Common.{◌≡◌}
use Rattle.std.specs.Vec.Iter.{into_iter_items, into_iter_len}
use Rattle.bytes_utils_run.specs.Calls.{IsRead, IsRunOfCalls, LosesOfBuffer, lists_for_calls}
use Rattle.bytes_utils_run.proofs.CallsLemmas.{HasRoom}
use Rattle.bytes_utils_run.proofs.calls.read_calls.Given as goal

abbrev pub invariant-loop-call : goal.invariant-loop-call
invariant-loop-call g l = record {
  room : HasRoom l.fn.calls l.yielded (into_iter_items l.call-iterator) (into_iter_len l.call-iterator) l.given;
  run : IsRunOfCalls (IsRead (LosesOfBuffer g.B.BufParts.loses)) l.yielded (lists_for_calls (g.B.Buf.unread l.fn.buf)) l.given.items (lists_for_calls (g.B.Buf.unread l.buf));
  kept : g.B.Buf.kept l.buf ≡ g.B.Buf.kept l.fn.buf;
}
