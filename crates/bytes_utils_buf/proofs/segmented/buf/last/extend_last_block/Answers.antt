use Rattle.std.proofs.Common.{◌≡◌, ◌+◌, ◌-◌, ◌<◌, ◌++◌, get_or, length, ap, ◌∙◌, rules, deque_len}
use Rattle.std.proofs.lemmas.Bool.{OnTrue_at, OnTrue_from}
use Rattle.bytes_utils_buf.specs.Packing.{packed_bytes}
use Rattle.bytes_utils_buf.proofs.PackingLemmas.{last_is, map-grown}
use Rattle.bytes_utils_buf.proofs.segmented.buf.last.extend_last_block.Goals as goal

pub returns-in-Some-clause-grown : goal.returns-in-Some-clause-grown
returns-in-Some-clause-grown c =
    let segments = c.args.segments.now in
    let last = c.in-Some.last.now in
    let some : 0 < length segments.items = search rules in
    let here : last ≡ get_or segments.items (length segments.items - 1) last = search rules in
    let size : deque_len segments - 1 + 1 ≡ length segments.items = search rules in
    OnTrue_from _ _ (λ did. map-grown packed_bytes segments.items (deque_len segments - 1) _ c.args.bytes.now size
    (OnTrue_at did c.extend_last_piece.ensures.grown ∙ ap (λ l. l ++ c.args.bytes.now) (last_is packed_bytes segments.items last some here)))
