use Rattle.std.proofs.Common.{◌++◌, ◌∙◌, ap}
use Rattle.std.specs.List.{concat}
use Rattle.bytes_utils_buf.proofs.PackingLemmas.{packed-grow, paid-packing, concat-pack_into_last}
use Rattle.bytes_utils_buf.proofs.segmented.packed.PackedBuf.push_slice.Goals as goal

pub invariant_of-self : goal.invariant_of-self
invariant_of-self c = rw c.if-extend_last.ensures.packed (packed-grow c.self.inside.threshold c.args.bytes.now c.self.inside.held.segments c.self.invariant)

pub returns-then-extend_last-clause-bytes : goal.returns-then-extend_last-clause-bytes
returns-then-extend_last-clause-bytes c =
    ap (λ held. concat held.segments) c.if-extend_last.ensures.packed ∙ concat-pack_into_last c.args.bytes.now c.self.inside.held.segments c.if-extend_last.ensures.some
    ∙ ap (λ all. concat all.held.segments ++ c.args.bytes.now) c.self.view_is

pub returns-then-extend_last-clause-paid : goal.returns-then-extend_last-clause-paid
returns-then-extend_last-clause-paid c = rw (c.if-extend_last.ensures.packed, ← c.self.view_is) (paid-packing c.self.inside.held c.args.bytes.now)
