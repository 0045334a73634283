use Rattle.std.proofs.Common.{◌<◌, ◌∷◌, [], length, drop, arith, ap, ◌∙◌, sym, ◌+◌}
use Rattle.std.proofs.lemmas.List.{drop_more}
use Rattle.std.proofs.lemmas.Option.{get_or_from_slice_get}
use Rattle.bytes_utils_buf.proofs.segmented.buf.chunks.ChunksIterator.next.Goals as goal

pub returns-clause-steps : goal.returns-clause-steps
returns-clause-steps g c =
    let segments = c.args.self.now.buf.now.segments in
    let place = c.args.self.now.place in
    let within : place < length segments = omega (arith, c.if-self-segments.false, c.segments.ensures.count) in
    drop_more segments place [] within
    ∙ ap (λ l. l ∷ drop (place + 1) segments) (get_or_from_slice_get segments place c.in_ok-segment.segment.now [] (sym c.in_ok-segment.ensures))
