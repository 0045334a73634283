use Rattle.std.proofs.Common.{[], ◌∷◌, ◌++◌, length, arith, ap, ◌∙◌, length-append}
use Rattle.std.specs.List.{concat}
use Rattle.bytes_utils_buf.proofs.Queues.{with_chunk, with_chunk-moved, moved-more}
use Rattle.bytes_utils_buf.proofs.segmented.buf.queue.SegmentedBuf+Bytes.append_queue.Goals as goal

pub accept_first-requires-clause-sum : goal.accept_first-requires-clause-sum
accept_first-requires-clause-sum c =
    omega (
      arith,
      ap length c.loop-self.invariant.bytes,
      length-append (concat c.loop-self.self.segments) c.loop-self.queue,
      length-append (concat c.args.self.now.segments) c.args.queue.now,
      c.requires,
    )

pub loop-self-preserved : goal.loop-self-preserved
loop-self-preserved c =
    let before = c.loop-self.invariant in
    let step = c.in_ok-accept_first.ensures.ok in
    let chunk = step.0 in
    let moved = before.moved.0 in
    let queue = c.loop-self.queue in
    let rest = c.accept_first.new.queue in
    record {
      moved = (
        moved ++ chunk ∷ [],
        moved-more moved chunk queue rest c.args.queue.now before.moved.1 step.2,
        step.3 ∙ ap (λ q. with_chunk q chunk) before.moved.2 ∙ with_chunk-moved c.args.self.now moved chunk,
      );
      bytes = ap (λ q. concat q.segments ++ rest) step.3 ∙ moved-more c.loop-self.self.segments chunk queue rest _ before.bytes step.2;
    }
