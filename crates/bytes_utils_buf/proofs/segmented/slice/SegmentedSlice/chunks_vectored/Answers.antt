use Rattle.std.proofs.Common.{ap, ◌∙◌, sym}
use Rattle.std.specs.List.{concat}
use Rattle.bytes_utils_buf.proofs.LentLemmas.{map-part}
use Rattle.bytes_utils_buf.proofs.SlicesLemmas.{FillsSlices-same}
use Rattle.bytes_utils_buf.proofs.segmented.slice.SegmentedSlice.chunks_vectored.Goals as goal

pub returns : goal.returns
returns g c =
    let part = map-part g.B.Buf.unread c.self.inside.bufs.now c.self.inside.place ∙ ap (λ q. q.segments) c.self.view_is in
    FillsSlices-same _ _ _ _ _ (sym (ap concat part)) c.fill_from.ensures
