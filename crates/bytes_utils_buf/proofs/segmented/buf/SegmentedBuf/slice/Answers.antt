use Rattle.std.proofs.Common.{◌<◌, ◌-◌, length, map, take, drop, arith, ap, ◌∙◌, sym, length-take-le, length-drop}
use Rattle.std.proofs.lemmas.List.{map-id}
use Rattle.std.proofs.lemmas.List.Elements.{All-same}
use Rattle.std.specs.List.{concat}
use Rattle.bytes_utils_buf.specs.Segments.{segments_from}
use Rattle.bytes_utils_buf.proofs.Lists.{NoSegmentEmpty-SkipsSegments}
use Rattle.bytes_utils_buf.proofs.Pieces.{concat-take_from_segments, NoSegmentEmpty-take_from_segments}
use Rattle.bytes_utils_buf.proofs.segmented.buf.SegmentedBuf.slice.Goals as goal

pub newly_held-requires : goal.newly_held-requires
newly_held-requires g c =
    let xs = map g.B.Buf.unread c.self.inside.segments.items in
    let start = c.args.range.start in
    let len = c.args.range.end - start in
    let following = segments_from c.find_place-from.result.passed c.find_place-from.result.offset xs in
    let skips = c.find_place-from.ensures.skips in
    let same = map-id c.in_ok-pieces.pieces.items ∙ c.in_ok-pieces.ensures.ok in
    let bytes = ap concat same ∙ concat-take_from_segments len following ∙ ap (take len) skips.bytes in
    let size = ap (λ q. length (concat q.segments)) c.self.view_is in
    record {
      sum = sym (ap length bytes ∙ length-take-le len (drop start (concat xs)) (omega (arith, size, c.requires.within, length-drop start (concat xs))));
      none_empty = All-same (λ s. 0 < length s) _ _ same (NoSegmentEmpty-take_from_segments len following (NoSegmentEmpty-SkipsSegments start xs following c.self.invariant.1 skips));
    }

pub returns-clause-bytes : goal.returns-clause-bytes
returns-clause-bytes g c =
    let xs = map g.B.Buf.unread c.self.inside.segments.items in
    let start = c.args.range.start in
    let len = c.args.range.end - start in
    let following = segments_from c.find_place-from.result.passed c.find_place-from.result.offset xs in
    let same = map-id c.in_ok-pieces.pieces.items ∙ c.in_ok-pieces.ensures.ok in
    ap (λ q. concat q.segments) c.newly_held.ensures ∙ ap concat same ∙ concat-take_from_segments len following
    ∙ ap (take len) c.find_place-from.ensures.skips.bytes ∙ ap (λ q. take len (drop start (concat q.segments))) c.self.view_is
