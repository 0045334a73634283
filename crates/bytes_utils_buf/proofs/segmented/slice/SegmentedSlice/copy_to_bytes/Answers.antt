use Rattle.std.proofs.Common.{map, drop, arith}
use Rattle.bytes_utils_buf.specs.Lent.{held_of}
use Rattle.bytes_utils_buf.specs.Copies.{taken_by_copy}
use Rattle.bytes_utils_buf.proofs.TallyLemmas.{IsPaid-passing}
use Rattle.bytes_utils_buf.proofs.segmented.slice.SegmentedSlice.copy_to_bytes.Goals as goal

pub returns-then-can_copy_front-clause-paid : goal.returns-then-can_copy_front-clause-paid
returns-then-can_copy_front-clause-paid g c =
    let s = c.copy_front.ensures in
    rw (← c.self.view_is)
    (IsPaid-passing (taken_by_copy c.args.len c.copy_front.result) (record { segments = drop c.self.inside.place (map g.B.Buf.unread c.self.inside.bufs.now); tally = c.self.inside.tally }) (held_of c.copy_front.new.self)
    c.call.new.self c.call.ensures s.skips.segments s.counts.given (omega (arith, s.counts.calls)) s.counts.turns)

pub returns-else-can_copy_front-clause-paid : goal.returns-else-can_copy_front-clause-paid
returns-else-can_copy_front-clause-paid g c =
    let s = c.collect.ensures in
    rw (← c.self.view_is)
    (IsPaid-passing (taken_by_copy c.args.len c.collect.result) (record { segments = drop c.self.inside.place (map g.B.Buf.unread c.self.inside.bufs.now); tally = c.self.inside.tally }) (held_of c.collect.new.self)
    c.call.new.self c.call.ensures s.passes.skips.segments s.passes.given s.least s.passes.turns)
