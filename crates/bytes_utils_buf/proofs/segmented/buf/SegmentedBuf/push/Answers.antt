use Rattle.std.proofs.Common.{◌++◌, append-nil, map, [], ◌∷◌, arith, ap, ◌∙◌}
use Rattle.std.specs.List.{concat}
use Rattle.bytes_utils_buf.proofs.Lists.{concat-accepted}
use Rattle.bytes_utils_buf.proofs.SegmentsLemmas.{one_more}
use Rattle.bytes_utils_buf.proofs.segmented.buf.SegmentedBuf.push.Goals as goal

pub invariant_of-self-2 : goal.invariant_of-self-2
invariant_of-self-2 g c =
    let old = c.self.inside in
    rw (c.call.ensures, c.in_ok-insert_at_end.ensures.tally)
    (one_more (map g.B.Buf.unread old.segments.items) _ (g.B.Buf.unread c.args.buf) old.remaining _ old.tally c.in_ok-insert_at_end.ensures.ok
    (omega (arith, c.remaining-size.ensures)) c.self.invariant)

pub returns-clause-bytes : goal.returns-clause-bytes
returns-clause-bytes g c =
    let f = g.B.Buf.unread in
    let bytes = f c.args.buf in
    ap concat c.in_ok-insert_at_end.ensures.ok
    ∙ concat-accepted (map f c.self.inside.segments.items) (bytes ∷ [])
    ∙ (λ i. concat (c.self.view_is i).segments ++ append-nil bytes i)
