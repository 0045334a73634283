use Rattle.std.proofs.Common.{◌≡◌, ◌≢◌, Some, ◌∙◌, sym, refl, ap}
use Rattle.std.specs.List.{concat, slice_get, slice_range}
use Rattle.bytes_utils_protocols.proofs.PendingReplies.{error_text, simple_text}
use Rattle.bytes_utils_protocols.proofs.ReplyEnds.{option_is, option_is_not}
use Rattle.bytes_utils_protocols.proofs.redis.pending.pending_text.Goals as goal

pub returns-then-eq-clause-item : goal.returns-then-eq-clause-item
returns-then-eq-clause-item c =
    let u = concat c.args.pieces.now.held.segments in
    let is : c.in_ok-bytes.bytes ≡ slice_range u 1 c.args.len = rw c.as_segmented.ensures at c.in_ok-bytes.ensures.value in
    let first : slice_get u 0 ≡ Some 43 = ap (λ held. slice_get (concat held.segments) 0) (sym c.as_segmented-2.ensures) ∙ sym c.byte_at.ensures ∙ option_is c.byte_at.result 43 (sym c.if-eq.ensures) in
    (simple_text u c.args.len c.requires.line c.in_ok-bytes.bytes is first, refl, refl, refl)

pub returns-clause-item : goal.returns-clause-item
returns-clause-item c =
    let u = concat c.args.pieces.now.held.segments in
    let is : c.in_ok-bytes.bytes ≡ slice_range u 1 c.args.len = rw c.as_segmented.ensures at c.in_ok-bytes.ensures.value in
    let first : slice_get u 0 ≢ Some 43 = λ plus. option_is_not c.byte_at.result 43 (sym c.if-eq.ensures) (c.byte_at.ensures ∙ ap (λ held. slice_get (concat held.segments) 0) c.as_segmented-2.ensures ∙ plus) in
    (error_text u c.args.len c.requires.line c.in_ok-bytes.bytes is first, refl, refl, refl)
