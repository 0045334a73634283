use Rattle.std.proofs.Common.{◌≡◌, ◌++◌, length, take, min, ap, ◌∙◌, sym}
use Rattle.std.proofs.lemmas.List.{take_min, length-take}
use Rattle.bytes_utils_buf.proofs.SlicesLemmas.{FillsSlices-same}
use Rattle.bytes_utils_buf.proofs.buffers.chain.ChainBufParts.chunks_into.Goals as goal

pub returns : goal.returns
returns g c =
    let all = g.T.Buf.unread c.args.self.now.a ++ g.U.Buf.unread c.args.self.now.b in
    let limit = c.args.self.now.limit in
    let left : c.remaining.result ≡ min limit (length all) = c.remaining.ensures ∙ length-take limit all in
    let first : c.as_contiguous.result.now ≡ g.T.Buf.unread c.args.self.now.a = c.as_contiguous.ensures ∙ ap g.T.Buf.unread c.first_ref.ensures in
    let last : c.as_contiguous-2.result.now ≡ g.U.Buf.unread c.args.self.now.b = c.as_contiguous-2.ensures ∙ ap g.U.Buf.unread c.last_ref.ensures in
    let same : take limit all ≡ take c.remaining.result (c.as_contiguous.result.now ++ c.as_contiguous-2.result.now)
    = sym (take_min limit all) ∙ ap (λ n. take n all) (sym left) ∙ (λ i. take c.remaining.result (sym first i ++ sym last i)) in
    FillsSlices-same _ _ _ _ _ same c.first_pair_slices_into.ensures
