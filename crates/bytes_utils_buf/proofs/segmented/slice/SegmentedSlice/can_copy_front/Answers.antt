use Rattle.std.proofs.Common.{◌≡◌, ◌<◌, length, map, rules, ap, ◌∙◌, sym, arith, length-drop}
use Rattle.std.proofs.lemmas.Bool.Decides.{nat_tests}
use Rattle.std.proofs.lemmas.List.{length-map}
use Rattle.bytes_utils_buf.specs.Segments.{front_segment}
use Rattle.bytes_utils_buf.proofs.Lists.{read_at, front_segment_drop}
use Rattle.bytes_utils_buf.proofs.segmented.slice.SegmentedSlice.can_copy_front.Goals as goal

pub returns-then-self-bufs : goal.returns-then-self-bufs
returns-then-self-bufs g c =
    let f = g.B.Buf.unread in
    let xs = c.self.inside.bufs.now in
    let k = c.self.inside.place in
    let inside : k < length xs = search rules in
    let segments = ap (λ q. q.segments) c.self.view_is in
    let front = ap front_segment (sym segments) ∙ front_segment_drop (map f xs) k ∙ read_at f xs k c.index-bufs-self.result inside c.index-bufs-self.is in
    let long : length (front_segment c.args.self.now.segments) ≡ c.remaining.result = omega (arith, ap length front, c.remaining.ensures) in
    let some : 0 < length c.args.self.now.segments = omega (arith, ap length segments, length-drop k (map f xs), length-map xs f, inside) in
    grind (arith, nat_tests)
