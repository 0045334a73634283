use Rattle.std.proofs.Math.Seq.{map-set_same}
use Rattle.std.proofs.Common.{◌≡◌, ◌-◌, get_or, ap, ◌∙◌, rules, deque_len}
use Rattle.bytes_utils_buf.specs.Packing.{packed_bytes}
use Rattle.bytes_utils_buf.proofs.segmented.buf.last.grow_last_block.Goals as goal

pub returns-in-Some : goal.returns-in-Some
returns-in-Some c =
    let segments = c.args.segments.now in
    let last = c.in-Some.last.now in
    let here : last ≡ get_or segments.items (deque_len segments - 1) last = search rules in
    map-set_same packed_bytes segments.items (deque_len segments - 1) c.grow_last_piece.new.piece last (c.grow_last_piece.ensures ∙ ap packed_bytes here)
