use Rattle.std.proofs.Common.{arith}
use Rattle.bytes_utils_run.specs.Calls.{IsCall}
use Rattle.bytes_utils_run.proofs.CallsLemmas.{HasRoom-push, IsRunOfCalls-push}
use Rattle.bytes_utils_run.proofs.OddLemmas.{length-none_empty}
use Rattle.bytes_utils_run.proofs.calls.drive.Goals as goal

pub prove-unreachable-requires : goal.prove-unreachable-requires
prove-unreachable-requires g c = omega (arith, length-none_empty _ c.segments.ensures.none_empty, c.segments.ensures.count, c.remaining.ensures)

pub prove-unreachable-requires-2 : goal.prove-unreachable-requires-2
prove-unreachable-requires-2 g c =
    omega (arith, length-none_empty _ c.segments-2.ensures.none_empty, c.segments-2.ensures.count, c.remaining-2.ensures, c.if-prove-2.true)

pub loop-call-preserved : goal.loop-call-preserved
loop-call-preserved g c = record {
  room = HasRoom-push c.args.calls c.loop-call.yielded _ _ _ _ c.loop-call.given c.push_reserved.new.self c.in-Some.call c.loop-call.invariant.room
      c.in-Some.ensures.steps c.push_reserved.ensures.len c.push_reserved.ensures.capacity;
  run = IsRunOfCalls-push (IsCall g.B.Buf.unread g.B.BufParts.loses) c.loop-call.yielded c.args.buf.now c.loop-call.given.items c.loop-call.buf c.in-Some.call c.make_segmented.result
      c.make_segmented.new.buf _ c.push_reserved.ensures.items c.loop-call.invariant.run c.make_segmented.ensures.reply;
  paid = omega (arith, c.loop-call.invariant.paid, c.make_segmented.ensures.paid);
}
