use Rattle.std.proofs.Common.{rules, length, map, arith, ap, length-drop}
use Rattle.std.proofs.lemmas.List.{length-map}
use Rattle.bytes_utils_buf.specs.Lent.{IsPassedOnce, lent_at}
use Rattle.bytes_utils_buf.proofs.LentLemmas.{IsLent-new}
use Rattle.bytes_utils_buf.proofs.segmented.slice.SegmentedSlice.new.Goals as goal

pub invariant_of-result : goal.invariant_of-result
invariant_of-result g c =
    let f = g.B.Buf.unread in
    let xs = c.args.bufs.now in
    let count = c.skip_empty_lent-place in
    let p = count.result in
    let handed_in = map f c.of-handed_in.result.value.bufs.now in
    let same = ap (λ loan. map f loan.bufs.now) c.of-handed_in.ensures in
    let passed : IsPassedOnce (lent_at p handed_in (map f xs) count.new.tally c.args.bufs.ghost_name) =
    rw (count.ensures.turns, c.call.ensures, c.give.ensures, c.new-tally.ensures)
    (record { given = omega (arith, ap length same, length-map xs f); dropped = omega arith; turns = omega arith }) in
    IsLent-new p c.in-Some.remaining (map f xs) handed_in count.new.tally c.args.bufs.ghost_name (omega (arith, length-map xs f, count.ensures.passed)) count.ensures.read_out count.ensures.skips same (search rules) passed

pub returns-clause-place : goal.returns-clause-place
returns-clause-place g c =
    let f = g.B.Buf.unread in
    let xs = c.args.bufs.now in
    let p = c.skip_empty_lent-place.result in
    omega (arith, length-drop p (map f xs), length-map xs f, c.skip_empty_lent-place.ensures.passed)

pub returns-clause-bytes : goal.returns-clause-bytes
returns-clause-bytes g c = c.skip_empty_lent-place.ensures.skips.bytes
