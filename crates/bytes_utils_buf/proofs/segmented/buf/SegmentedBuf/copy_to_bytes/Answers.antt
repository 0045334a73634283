use Rattle.std.proofs.Common.{map, arith}
use Rattle.bytes_utils_buf.specs.Copies.{taken_by_copy}
use Rattle.bytes_utils_buf.proofs.TallyLemmas.{IsPaid-passing}
use Rattle.bytes_utils_buf.proofs.segmented.buf.SegmentedBuf.copy_to_bytes.Goals as goal

pub returns-then-front_holds-clause-paid : goal.returns-then-front_holds-clause-paid
returns-then-front_holds-clause-paid g c =
    let s = c.copy_front.ensures in
    rw (← c.self.view_is)
    (IsPaid-passing (taken_by_copy c.args.len c.copy_front.result) (record { segments = map g.B.Buf.unread c.self.inside.segments.items; tally = c.self.inside.tally }) c.copy_front.new.self
    c.call.new.self c.call.ensures s.skips s.counts.given (omega (arith, s.counts.calls)) s.counts.turns)

pub returns-else-front_holds-clause-paid : goal.returns-else-front_holds-clause-paid
returns-else-front_holds-clause-paid g c =
    let s = c.collect.ensures in
    rw (← c.self.view_is)
    (IsPaid-passing (taken_by_copy c.args.len c.collect.result) (record { segments = map g.B.Buf.unread c.self.inside.segments.items; tally = c.self.inside.tally }) c.collect.new.self
    c.call.new.self c.call.ensures s.passes.skips.segments s.passes.given s.least s.passes.turns)
