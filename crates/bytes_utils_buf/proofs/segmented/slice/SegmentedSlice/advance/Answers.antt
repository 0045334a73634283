use Rattle.std.proofs.Common.{ap, ◌∙◌}
use Rattle.bytes_utils_buf.proofs.LentLemmas.{map-part, IsLent-part, SkipsLent-part}
use Rattle.bytes_utils_buf.proofs.segmented.slice.SegmentedSlice.advance.Goals as goal

pub skip_lent-passed-requires : goal.skip_lent-passed-requires
skip_lent-passed-requires g c =
    let part = map-part g.B.Buf.unread c.self.inside.bufs.now c.self.inside.place ∙ ap (λ q. q.segments) c.self.view_is in
    rw part c.requires

pub invariant_of-self : goal.invariant_of-self
invariant_of-self g c =
    let e = c.skip_lent-passed.ensures in
    let counted = rw c.call.ensures at e.turns in
    IsLent-part g.B.Buf.unread c.self.inside.bufs.now c.skip_lent-passed.new.bufs c.self.invariant e.passed c.skip_lent-passed.auto.bufs e.read_out e.skips counted

pub returns-clause-skips : goal.returns-clause-skips
returns-clause-skips g c =
    let e = c.skip_lent-passed.ensures in
    rw (← c.self.view_is)
    (SkipsLent-part g.B.Buf.unread c.self.inside.bufs.now c.skip_lent-passed.new.bufs c.self.invariant e.passed c.skip_lent-passed.auto.bufs e.read_out e.skips)

pub returns-clause-bytes : goal.returns-clause-bytes
returns-clause-bytes g c = (returns-clause-skips g c).segments.bytes
