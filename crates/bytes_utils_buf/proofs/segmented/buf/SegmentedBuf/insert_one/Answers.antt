use Rattle.std.proofs.Common.{map, arith}
use Rattle.bytes_utils_buf.proofs.SegmentsLemmas.{one_more}
use Rattle.bytes_utils_buf.proofs.segmented.buf.SegmentedBuf.insert_one.Goals as goal

pub invariant_of-self-2 : goal.invariant_of-self-2
invariant_of-self-2 g c =
    let old = c.self.inside in
    rw c.in_ok-insert_at_end.ensures.tally
    (one_more (map g.B.Buf.unread old.segments.items) _ (g.B.Buf.unread c.args.buf) old.remaining _ old.tally c.in_ok-insert_at_end.ensures.ok
    (omega (arith, c.remaining-size.ensures)) c.self.invariant)
