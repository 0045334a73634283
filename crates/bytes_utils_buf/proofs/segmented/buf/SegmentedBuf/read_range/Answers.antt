use Rattle.std.proofs.Common.{ap, arith, length, sym, subst, ◌<◌}
use Rattle.std.specs.List.{concat}
use Rattle.bytes_utils_buf.specs.Segments.{IsInOneSegment}
use Rattle.bytes_utils_buf.proofs.Lists.{IsInOneSegment-front, front_segment_at_place}
use Rattle.bytes_utils_buf.proofs.segmented.buf.SegmentedBuf.read_range.Goals as goal

pub returns-in_err-bytes-clause-one : goal.returns-in_err-bytes-clause-one
returns-in_err-bytes-clause-one g c one =
    let range = c.args.range in
    let some : range.start < range.end = omega (arith, c.if-len-eq0.false, c.requires.ordered) in
    let same = ap (λ held. held.segments) c.self.view_is in
    let size = ap (λ l. length (concat l)) same in
    let held = subst (IsInOneSegment range.start range.end) (sym same) one in
    let rest = front_segment_at_place _ _ _ _ _ c.find_place-from.ensures.place some (omega (arith, size)) held in
    absurd (omega (arith, c.if-len-rest.false, rest, ap length c.rest_of_piece-rest.ensures))

pub returns-in_err-bytes-clause-first : goal.returns-in_err-bytes-clause-first
returns-in_err-bytes-clause-first g c within =
    returns-in_err-bytes-clause-one g c (IsInOneSegment-front _ _ _ within)
