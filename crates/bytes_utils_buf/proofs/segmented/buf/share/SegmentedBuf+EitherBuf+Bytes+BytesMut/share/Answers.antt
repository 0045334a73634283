use Rattle.std.proofs.Common.{map, ap, ◌∙◌}
use Rattle.std.proofs.lemmas.Result.{IfOk-weaker}
use Rattle.bytes_utils_buf.specs.Packing.{packed_bytes}
use Rattle.bytes_utils_buf.specs.Segments.{newly_held, take_from_segments}
use Rattle.bytes_utils_buf.proofs.Pieces.{take_from_segments-all}
use Rattle.bytes_utils_buf.proofs.segmented.buf.share.SegmentedBuf+EitherBuf+Bytes+BytesMut.share.Goals as goal

pub returns-clause-ok : goal.returns-clause-ok
returns-clause-ok c =
    let old = c.self.inside in
    let lists = map packed_bytes old.segments.items in
    let all = take_from_segments-all lists old.remaining c.self.invariant.1 c.self.invariant.0 in
    IfOk-weaker c.prefix.result _ _
    (λ shared is. is ∙ ap (λ l. newly_held (take_from_segments old.remaining l)) c.share_all.ensures.same ∙ ap newly_held all ∙ ap (λ held. newly_held held.segments) c.self.view_is)
    c.prefix.ensures.ok
