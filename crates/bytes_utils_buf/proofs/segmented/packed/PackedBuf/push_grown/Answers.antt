use Rattle.std.proofs.Common.{◌<◌, ◌++◌, ◌∙◌, ap, length, rules}
use Rattle.std.specs.List.{concat}
use Rattle.bytes_utils_buf.specs.Packing.{IsPacked}
use Rattle.bytes_utils_buf.proofs.PackingLemmas.{packed-grow, paid-packing, concat-pack_into_last}
use Rattle.bytes_utils_buf.proofs.segmented.packed.PackedBuf.push_grown.Goals as goal

pub invariant_of-self-then-extend_last : goal.invariant_of-self-then-extend_last
invariant_of-self-then-extend_last c =
    let packed : IsPacked c.self.inside.threshold c.make_room_in_last.new.self.segments = rw c.make_room_in_last.ensures.same c.self.invariant in
    rw c.if-extend_last.ensures.packed (packed-grow c.self.inside.threshold c.args.bytes.now c.make_room_in_last.new.self.segments packed)

pub returns-then-extend_last-clause-bytes : goal.returns-then-extend_last-clause-bytes
returns-then-extend_last-clause-bytes c =
    ap (λ held. concat held.segments) c.if-extend_last.ensures.packed ∙ concat-pack_into_last c.args.bytes.now c.make_room_in_last.new.self.segments c.if-extend_last.ensures.some
    ∙ ap (λ held. concat held.segments ++ c.args.bytes.now) c.make_room_in_last.ensures.same
    ∙ ap (λ all. concat all.held.segments ++ c.args.bytes.now) c.self.view_is

pub returns-then-extend_last-clause-paid : goal.returns-then-extend_last-clause-paid
returns-then-extend_last-clause-paid c =
    rw (c.if-extend_last.ensures.packed, c.make_room_in_last.ensures.same, ← c.self.view_is) (paid-packing c.self.inside.held c.args.bytes.now)

pub invariant_of-self-then-size-self : goal.invariant_of-self-then-size-self
invariant_of-self-then-size-self c =
    let packed : IsPacked c.self.inside.threshold c.extend_last.new.self.segments = rw (c.if-extend_last.ensures.same, c.make_room_in_last.ensures.same) c.self.invariant in
    rw c.in_ok-replace_last.ensures.ok (packed-grow c.self.inside.threshold c.args.bytes.now c.extend_last.new.self.segments packed)

pub returns-then-size-self-clause-bytes : goal.returns-then-size-self-clause-bytes
returns-then-size-self-clause-bytes c =
    let some : 0 < length c.extend_last.new.self.segments = search rules in
    ap (λ held. concat held.segments) c.in_ok-replace_last.ensures.ok ∙ concat-pack_into_last c.args.bytes.now c.extend_last.new.self.segments some
    ∙ ap (λ held. concat held.segments ++ c.args.bytes.now) c.if-extend_last.ensures.same
    ∙ ap (λ held. concat held.segments ++ c.args.bytes.now) c.make_room_in_last.ensures.same
    ∙ ap (λ all. concat all.held.segments ++ c.args.bytes.now) c.self.view_is

pub returns-then-size-self-clause-paid : goal.returns-then-size-self-clause-paid
returns-then-size-self-clause-paid c =
    rw (c.in_ok-replace_last.ensures.ok, c.if-extend_last.ensures.same, c.make_room_in_last.ensures.same, ← c.self.view_is) (paid-packing c.self.inside.held c.args.bytes.now)
