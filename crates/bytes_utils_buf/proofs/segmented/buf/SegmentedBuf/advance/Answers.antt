use Rattle.std.proofs.Common.{length, map, arith, ap, length-drop}
use Rattle.std.proofs.lemmas.List.{length-map}
use Rattle.std.specs.List.{concat}
use Rattle.bytes_utils_buf.proofs.TallyLemmas.{IsPaid-passing}
use Rattle.bytes_utils_buf.proofs.Lists.{NoSegmentEmpty-SkipsSegments}
use Rattle.bytes_utils_buf.proofs.segmented.buf.SegmentedBuf.advance.Goals as goal

pub invariant_of-self : goal.invariant_of-self
invariant_of-self g c =
    let f = g.B.Buf.unread in
    let old = c.self.inside.segments.items in
    let new = c.skip_held.new.segments.items in
    let s = c.skip_held.ensures in (
      omega (arith, ap length s.skips.bytes, length-drop c.args.cnt (concat (map f old)), c.self.invariant.0),
      NoSegmentEmpty-SkipsSegments c.args.cnt (map f old) (map f new) c.self.invariant.1 s.skips,
      omega (
        arith,
        s.turns,
        ap (λ t. t.given) s.rest,
        ap (λ t. t.dropped) s.rest,
        ap (λ t. t.given) c.call.ensures,
        ap (λ t. t.dropped) c.call.ensures,
        ap (λ t. t.turns) c.call.ensures,
        length-map old f,
        length-map new f,
        c.self.invariant.2,
      ),
    )

pub returns-clause-paid : goal.returns-clause-paid
returns-clause-paid g c =
    let f = g.B.Buf.unread in
    let old = c.self.inside in
    let new = c.skip_held.new in
    let s = c.skip_held.ensures in
    rw (← c.self.view_is)
    (IsPaid-passing c.args.cnt (record { segments = map f old.segments.items; tally = old.tally }) (record { segments = map f new.segments.items; tally = new.tally })
    c.call.new.self c.call.ensures s.skips (ap (λ t. t.given) s.rest) (omega (arith, ap (λ t. t.calls) s.rest))
    (omega (arith, s.turns, length-map old.segments.items f, length-map new.segments.items f)))
