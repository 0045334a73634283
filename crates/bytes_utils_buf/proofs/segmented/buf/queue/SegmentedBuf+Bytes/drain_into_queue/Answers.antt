use Rattle.std.proofs.Common.{[], ◌∷◌, ◌++◌, length, arith, ap, ◌∙◌}
use Rattle.bytes_utils_buf.proofs.Queues.{left-fewer, queue-more, bytes-fewer}
use Rattle.bytes_utils_buf.proofs.segmented.buf.queue.SegmentedBuf+Bytes.drain_into_queue.Goals as goal

pub loop-self-preserved : goal.loop-self-preserved
loop-self-preserved c =
    let before = c.loop-self.invariant in
    let step = c.in_ok-give_first.ensures.ok in
    let chunk = step.0 in
    let moved = before.moved.0 in
    let left = c.loop-self.self.segments in
    let rest = c.give_first.new.self.segments in
    let queue = c.loop-self.queue in
    record {
      moved = (
        moved ++ chunk ∷ [],
        left-fewer c.args.self.now.segments moved left rest chunk before.moved.1 step.1,
        queue-more c.args.queue.now queue c.give_first.new.queue chunk moved before.moved.2 step.2,
      );
      bytes = bytes-fewer queue c.give_first.new.queue chunk left rest step.2 step.1 ∙ before.bytes;
      counts = rw step.3 (record {
        turns = omega (arith, ap length step.1, before.counts.turns);
        given = before.counts.given;
        dropped = before.counts.dropped;
        calls = before.counts.calls;
      });
    }
