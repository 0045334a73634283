use Rattle.std.proofs.Common.{◌≤◌, length, map, arith, ap, length-drop}
use Rattle.std.proofs.lemmas.List.{length-map}
use Rattle.std.specs.List.{concat}
use Rattle.bytes_utils_buf.specs.Copies.{taken_by_copy}
use Rattle.bytes_utils_buf.specs.Segments.{front_segment}
use Rattle.bytes_utils_buf.proofs.Lists.{SkipsSegments-trimmed, NoSegmentEmpty-SkipsSegments, length-cut_front_segment}
use Rattle.bytes_utils_buf.proofs.segmented.buf.SegmentedBuf.copy_front.Goals as goal

pub invariant_of-self : goal.invariant_of-self
invariant_of-self g c =
    let f = g.B.Buf.unread in
    let old = c.self.inside.segments.items in
    let cut = c.take_from_front-copy.new.segments.items in
    let new = c.skip_held.new.segments.items in
    let t = taken_by_copy c.args.len c.take_from_front-copy.result in
    let e = c.take_from_front-copy.ensures in
    let s = c.skip_held.ensures in
    let fits : t ≤ length (front_segment (map f old)) = omega (arith, e.taken, c.requires.holds, ap (λ q. length (front_segment q.segments)) c.self.view_is) in
    let skips = SkipsSegments-trimmed t (map f old) (map f cut) (map f new) fits e.rest s.skips in (
      omega (arith, ap length skips.bytes, length-drop t (concat (map f old)), c.bytes_copied.ensures, c.self.invariant.0),
      NoSegmentEmpty-SkipsSegments t (map f old) (map f new) c.self.invariant.1 skips,
      omega (
        arith,
        s.turns,
        ap (λ q. q.given) s.rest,
        ap (λ q. q.dropped) s.rest,
        length-map old f,
        length-map cut f,
        length-map new f,
        ap length e.rest,
        length-cut_front_segment t (map f old),
        c.self.invariant.2,
      ),
    )

pub returns-clause-skips : goal.returns-clause-skips
returns-clause-skips g c =
    let f = g.B.Buf.unread in
    let xs = map f c.self.inside.segments.items in
    let t = taken_by_copy c.args.len c.take_from_front-copy.result in
    let e = c.take_from_front-copy.ensures in
    let fits : t ≤ length (front_segment xs) = omega (arith, e.taken, c.requires.holds, ap (λ q. length (front_segment q.segments)) c.self.view_is) in
    rw (← ap (λ q. q.segments) c.self.view_is) (SkipsSegments-trimmed t xs _ _ fits e.rest c.skip_held.ensures.skips)
