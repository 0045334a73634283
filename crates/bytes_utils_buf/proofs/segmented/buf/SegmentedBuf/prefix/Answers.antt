use Rattle.std.proofs.Common.{◌<◌, length, map, take, arith, ap, ◌∙◌, sym, length-take-le}
use Rattle.std.proofs.lemmas.List.{map-id}
use Rattle.std.proofs.lemmas.List.Elements.{All-same}
use Rattle.std.specs.List.{concat}
use Rattle.bytes_utils_buf.specs.Segments.{take_from_segments}
use Rattle.bytes_utils_buf.proofs.Pieces.{all_from, concat-take_from_segments, NoSegmentEmpty-take_from_segments}
use Rattle.bytes_utils_buf.proofs.segmented.buf.SegmentedBuf.prefix.Goals as goal

pub newly_held-requires : goal.newly_held-requires
newly_held-requires g c =
    let xs = map g.B.Buf.unread c.self.inside.segments.items in
    let len = c.args.len in
    let same = map-id c.in_ok-pieces.pieces.items ∙ c.in_ok-pieces.ensures.ok ∙ ap (take_from_segments len) (all_from xs) in
    let bytes = ap concat same ∙ concat-take_from_segments len xs in
    let size = ap (λ q. length (concat q.segments)) c.self.view_is in
    record {
      sum = sym (ap length bytes ∙ length-take-le len (concat xs) (omega (arith, size, c.requires)));
      none_empty = All-same (λ s. 0 < length s) _ _ same (NoSegmentEmpty-take_from_segments len xs c.self.invariant.1);
    }

pub returns-clause-bytes : goal.returns-clause-bytes
returns-clause-bytes g c =
    let xs = map g.B.Buf.unread c.self.inside.segments.items in
    let same = map-id c.in_ok-pieces.pieces.items ∙ c.in_ok-pieces.ensures.ok ∙ ap (take_from_segments c.args.len) (all_from xs) in
    ap (λ q. concat q.segments) c.newly_held.ensures ∙ ap concat same ∙ concat-take_from_segments c.args.len xs
    ∙ ap (λ q. take c.args.len (concat q.segments)) c.self.view_is
