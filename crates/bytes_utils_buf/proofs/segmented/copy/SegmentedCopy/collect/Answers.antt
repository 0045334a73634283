use Rattle.std.proofs.Common.{◌≡◌, ◌+◌, ◌<◌, ◌≤◌, length, take, ap, ◌∙◌, sym, arith, length-append, length-drop, length-take-le}
use Rattle.std.specs.List.{concat}
use Rattle.bytes_utils_buf.specs.Segments.{front_segment}
use Rattle.bytes_utils_buf.proofs.Lists.{count_unread_segments-Skips_front}
use Rattle.bytes_utils_buf.proofs.LentLemmas.{Passes-more, copy_more}
use Rattle.bytes_utils_buf.proofs.segmented.copy.SegmentedCopy.collect.Goals as goal

pub loop-copy-preserved : goal.loop-copy-preserved
loop-copy-preserved g c =
    let lent = g.Self.SegmentedCopy.lent in
    let old = lent c.args.self.now in
    let before = lent c.loop-copy.self in
    let kept = c.loop-copy.invariant in
    let chunk = c.front_chunk.result.now in
    let appended = c.copy_chunk-count.ensures in
    let taken = length c.loop-copy.copy.items in
    let count = c.copy_chunk-count.result in
    let left = kept.passes.skips.segments.bytes in
    let within : count ≤ length chunk = omega (arith, appended.count) in
    let some : 0 < length chunk = c.front_chunk.ensures.bytes.some (omega (arith, ap length left, length-drop taken (concat old.segments), c.loop-copy-test.true, c.requires.fits)) in
    let long : length c.copy_chunk-count.new.copy.items ≡ taken + count =
    omega (arith, ap length appended.bytes, length-append c.loop-copy.copy.items (take count chunk), length-take-le count chunk within) in
    let advanced = c.skip.ensures in
    let new = lent c.skip.new.self in
    let first : count ≤ length (front_segment before.segments) = omega (arith, within, c.front_chunk.ensures.front.fits) in
    record {
      fits = omega (arith, long, appended.count, kept.fits);
      room = omega (arith, kept.room, appended.room);
      bytes = appended.bytes
          ∙ copy_more taken count (concat old.segments) (concat before.segments) c.loop-copy.copy.items chunk kept.bytes left c.front_chunk.ensures.bytes within
          ∙ ap (λ n. take n (concat old.segments)) (sym long);
      passes = rw long (Passes-more taken count old before new kept.passes advanced.passes);
      least = omega (arith, kept.least, advanced.calls);
      most = omega (arith, kept.most, advanced.calls, long, appended.count, some, c.loop-copy-test.true);
      each = omega (arith, kept.each, advanced.calls, count_unread_segments-Skips_front count before.segments new.segments first advanced.passes.skips.segments);
    }
