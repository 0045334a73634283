use Rattle.std.proofs.Common.{◌≡◌, Ok, OnErr, ap, rules}
use Rattle.std.proofs.lemmas.Result.{on_err_weaker}
use Rattle.std.specs.declared.io.Error.{Error}
use Rattle.bytes_utils_buf.proofs.ReadingLemmas.{packed_read, paid_read}
use Rattle.bytes_utils_buf.proofs.Results.{at_some}
use Rattle.bytes_utils_buf.proofs.segmented.packed.PackedBuf.read_from.Goals as goal

pub invariant_of-self-in-Some : goal.invariant_of-self-in-Some
invariant_of-self-in-Some g c =
    packed_read {E = Error} _ _ c.self.inside.threshold c.make_room_in_last.new.self c.read_last.new.self (Ok c.in-Some.count)
    (at_some _ c.in-Some.count _ c.in-Some.is c.in_ok-count.ensures.read) tt (rw c.make_room_in_last.ensures.same c.self.invariant)

pub returns-in-Some-clause-paid : goal.returns-in-Some-clause-paid
returns-in-Some-clause-paid g c =
    rw (← c.self.view_is, ← c.make_room_in_last.ensures.same)
    (paid_read {E = Error} _ _ c.make_room_in_last.new.self c.read_last.new.self (Ok c.in-Some.count) (at_some _ c.in-Some.count _ c.in-Some.is c.in_ok-count.ensures.read) tt)

pub returns-then-last_segment-self-clause-paid : goal.returns-then-last_segment-self-clause-paid
returns-then-last_segment-self-clause-paid g c =
    let same : c.read_last.new.self ≡ c.make_room_in_last.new.self = search rules in
    let joined_slices : OnErr c.read_joined.result (c.read_joined.new.self.held ≡ c.read_last.new.self) =
    on_err_weaker c.read_joined.result (ap (λ b. b.held)) c.read_joined.ensures.err in
    rw (← c.self.view_is, ← c.make_room_in_last.ensures.same, ← same)
    (paid_read _ _ c.read_last.new.self c.read_joined.new.self.held c.read_joined.result c.read_joined.ensures.read joined_slices)
