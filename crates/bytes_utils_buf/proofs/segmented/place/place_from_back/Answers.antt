use Rattle.std.proofs.Common.{◌≤◌, length, map, arith}
use Rattle.std.proofs.lemmas.List.{length-map}
use Rattle.bytes_utils_buf.proofs.Lists.{one_before, some_before}
use Rattle.bytes_utils_buf.proofs.segmented.place.place_from_back.Goals as goal

pub overflow_sub-passed : goal.overflow_sub-passed
overflow_sub-passed g c =
    let l = c.loop-before in
    some_before (map g.B.Buf.unread c.args.bufs.now.items) l.passed l.before l.invariant.begins (omega (arith, c.loop-before-test.true))

pub overflow_sub-before : goal.overflow_sub-before
overflow_sub-before g c =
    let l = c.loop-before in
    let items = c.args.bufs.now.items in
    let lists = map g.B.Buf.unread items in
    let some = some_before lists l.passed l.before l.invariant.begins (omega (arith, c.loop-before-test.true)) in
    let within : l.passed ≤ length lists = omega (arith, length-map items g.B.Buf.unread, l.invariant.within) in
    omega (arith, one_before lists l.passed l.before some within l.invariant.begins, c.size_at_place-before.ensures)

pub loop-before-preserved : goal.loop-before-preserved
loop-before-preserved g c =
    let l = c.loop-before in
    let items = c.args.bufs.now.items in
    let lists = map g.B.Buf.unread items in
    let some = some_before lists l.passed l.before l.invariant.begins (omega (arith, c.loop-before-test.true)) in
    let within : l.passed ≤ length lists = omega (arith, length-map items g.B.Buf.unread, l.invariant.within) in
    let one = one_before lists l.passed l.before some within l.invariant.begins in
    record {
      begins = omega (arith, one, c.size_at_place-before.ensures);
      within = omega (arith, l.invariant.within);
      inside = λ inside. omega (arith, one, c.size_at_place-before.ensures, c.loop-before-test.true);
    }
