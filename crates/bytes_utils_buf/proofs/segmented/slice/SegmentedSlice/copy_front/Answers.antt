use Rattle.std.proofs.Common.{ap, ◌∙◌}
use Rattle.bytes_utils_buf.proofs.LentLemmas.{map-part, IsLent-part, SkipsLent-part}
use Rattle.bytes_utils_buf.proofs.segmented.slice.SegmentedSlice.copy_front.Goals as goal

pub copy_from_first_of_slice-passed-requires-clause-holds : goal.copy_from_first_of_slice-passed-requires-clause-holds
copy_from_first_of_slice-passed-requires-clause-holds g c =
    let part = map-part g.B.Buf.unread c.self.inside.bufs.now c.self.inside.place ∙ ap (λ q. q.segments) c.self.view_is in
    rw part c.requires.holds

pub invariant_of-self : goal.invariant_of-self
invariant_of-self g c =
    let e = c.copy_from_first_of_slice-passed.ensures in
    rw c.bytes_copied.ensures
    (IsLent-part g.B.Buf.unread c.self.inside.bufs.now c.copy_from_first_of_slice-passed.new.bufs c.self.invariant e.passed c.copy_from_first_of_slice-passed.auto.bufs e.read_out e.skips e.turns)

pub returns-clause-value : goal.returns-clause-value
returns-clause-value g c =
    let part = map-part g.B.Buf.unread c.self.inside.bufs.now c.self.inside.place ∙ ap (λ q. q.segments) c.self.view_is in
    rw (← part) c.copy_from_first_of_slice-passed.ensures.value

pub returns-clause-lost : goal.returns-clause-lost
returns-clause-lost g c =
    let part = map-part g.B.Buf.unread c.self.inside.bufs.now c.self.inside.place ∙ ap (λ q. q.segments) c.self.view_is in
    rw (← part) c.copy_from_first_of_slice-passed.ensures.lost

pub returns-clause-skips : goal.returns-clause-skips
returns-clause-skips g c =
    let e = c.copy_from_first_of_slice-passed.ensures in
    rw (← c.self.view_is)
    (SkipsLent-part g.B.Buf.unread c.self.inside.bufs.now c.copy_from_first_of_slice-passed.new.bufs c.self.invariant e.passed c.copy_from_first_of_slice-passed.auto.bufs e.read_out e.skips)
