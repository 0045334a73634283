use Rattle.std.proofs.Common.{◌∙◌}
use Rattle.bytes_utils_run.specs.Calls.{IsRead, LosesOfBuffer, lists_for_calls}
use Rattle.bytes_utils_run.proofs.CallsLemmas.{HasRoom-push, IsRunOfCalls-push}
use Rattle.bytes_utils_run.proofs.calls.read_calls.Goals as goal

pub loop-call-preserved : goal.loop-call-preserved
loop-call-preserved g c = record {
  room = HasRoom-push c.args.calls c.loop-call.yielded _ _ _ _ c.loop-call.given c.push_reserved.new.self c.in-Some.call c.loop-call.invariant.room
      c.in-Some.ensures.steps c.push_reserved.ensures.len c.push_reserved.ensures.capacity;
  run = IsRunOfCalls-push (IsRead (LosesOfBuffer g.B.BufParts.loses)) c.loop-call.yielded (lists_for_calls (g.B.Buf.unread c.args.buf.now)) c.loop-call.given.items
      (lists_for_calls (g.B.Buf.unread c.loop-call.buf)) c.in-Some.call c.make_read.result (lists_for_calls (g.B.Buf.unread c.make_read.new.buf)) _
      c.push_reserved.ensures.items c.loop-call.invariant.run c.make_read.ensures.reply;
  kept = c.make_read.ensures.kept ∙ c.loop-call.invariant.kept;
}
