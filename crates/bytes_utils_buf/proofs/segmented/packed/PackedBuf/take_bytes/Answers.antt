use Rattle.std.proofs.Common.{◌≡◌, inl, inr, ◌<◌, ◌≤◌, length, ap, ◌∙◌, rules}
use Rattle.bytes_utils_buf.specs.Segments.{SkipsSegments, front_segment}
use Rattle.bytes_utils_buf.proofs.Results.{OnErr-always}
use Rattle.bytes_utils_buf.proofs.PackingLemmas.{packed_skips, same-SkipsSegments}
use Rattle.bytes_utils_buf.proofs.segmented.packed.PackedBuf.take_bytes.Goals as goal

pub returns-in_err-copy_to_bytes-clause-err : goal.returns-in_err-copy_to_bytes-clause-err
returns-in_err-copy_to_bytes-clause-err c =
    let all = c.self.inside.held.segments in
    let within : c.args.len ≤ length (front_segment all) = search rules in
    let some : 0 < length all = search rules in
    let lost : c.in_err-copy_to_bytes.field-0.0.taken ≡ 0 = elim (c.in_err-copy_to_bytes.ensures.lost within some) [ inl (none, less) ↦ none | inr none ↦ none ] in
    let skips : SkipsSegments 0 all c.copy_to_bytes.new.self.segments = rw (← lost) c.in_err-copy_to_bytes.ensures.skips in
    OnErr-always c.from_residual.result _ (same-SkipsSegments all _ c.segments.ensures.none_empty skips ∙ ap (λ b. b.held.segments) c.self.view_is)

pub invariant_of-self-2 : goal.invariant_of-self-2
invariant_of-self-2 c = packed_skips _ _ _ _ c.advance.ensures.skips c.self.invariant
