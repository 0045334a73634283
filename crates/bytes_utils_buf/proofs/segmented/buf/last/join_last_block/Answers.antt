use Rattle.std.proofs.Common.{◌≡◌, ◌+◌, ◌-◌, ◌<◌, ◌++◌, get_or, length, ap, ◌∙◌, arith, rules, deque_len}
use Rattle.bytes_utils_buf.specs.Packing.{packed_bytes}
use Rattle.bytes_utils_buf.proofs.PackingLemmas.{last_is, map-grown}
use Rattle.bytes_utils_buf.proofs.segmented.buf.last.join_last_block.Goals as goal

pub extend_reserved-requires : goal.extend_reserved-requires
extend_reserved-requires c =
    let items = c.args.segments.now.items in
    let last = c.in-Some.last.now in
    let some : 0 < length items = search rules in
    let here : last ≡ get_or items (length items - 1) last = search rules in
    omega (arith, ap length c.as_contiguous.ensures, ap length (last_is packed_bytes items last some here), c.requires.room)

pub extend_reserved-requires-2 : goal.extend_reserved-requires-2
extend_reserved-requires-2 c =
    let items = c.args.segments.now.items in
    let last = c.in-Some.last.now in
    let some : 0 < length items = search rules in
    let here : last ≡ get_or items (length items - 1) last = search rules in
    omega (arith, c.extend_reserved.ensures.spare, ap length c.as_contiguous.ensures, ap length (last_is packed_bytes items last some here), c.requires.room)

pub returns : goal.returns
returns c =
    let segments = c.args.segments.now in
    let last = c.in-Some.last.now in
    let some : 0 < length segments.items = search rules in
    let here : last ≡ get_or segments.items (length segments.items - 1) last = search rules in
    let size : deque_len segments - 1 + 1 ≡ length segments.items = search rules in
    map-grown packed_bytes segments.items (deque_len segments - 1) _ c.args.bytes.now size
    (c.extend_reserved-2.ensures.items ∙ ap (λ l. l ++ c.args.bytes.now)
    (c.extend_reserved.ensures.items ∙ ap (λ l. l ++ c.as_contiguous.result.now) c.requires.empty ∙ c.as_contiguous.ensures ∙ last_is packed_bytes segments.items last some here))
