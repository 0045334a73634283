use Rattle.std.proofs.Common.{◌≡◌, ℕ, List, take, slice_range, IfOk, arith, ap, ◌∙◌, sym, refl, subst, length-take}
use Rattle.bytes.proofs.Ranges.{slice_range_front}
use Rattle.bytes_utils_buf.proofs.buffers.take.TakeContiguousBuf.part.Goals as goal

pub returns-clause-value : goal.returns-clause-value
returns-clause-value g c =
    let all = g.T.Buf.unread c.args.self.now.inner in
    let limit = c.args.self.now.limit in
    let start = c.args.range.start in
    let end = c.args.range.end in
    let within = slice_range_front (take limit all) all start end limit refl (omega (arith, c.requires.within, length-take limit all)) in
    let same : slice_range (take limit all) start end ≡ slice_range (g.T.Buf.unread c.get_ref.result.now) start end
    = within ∙ ap (λ inner. slice_range (g.T.Buf.unread inner) start end) (sym c.get_ref.ensures) in
    subst (λ (bytes : List ℕ). IfOk c.part.result (λ part. part ≡ bytes)) (sym same) c.part.ensures.value
