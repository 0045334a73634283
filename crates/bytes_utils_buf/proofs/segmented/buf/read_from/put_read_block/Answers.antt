use Rattle.std.proofs.Common.{◌≡◌, ◌+◌, ◌-◌, length, rules, deque_len}
use Rattle.bytes_utils_buf.specs.Packing.{packed_bytes}
use Rattle.bytes_utils_buf.proofs.PackingLemmas.{map-grown}
use Rattle.bytes_utils_buf.proofs.segmented.buf.read_from.put_read_block.Goals as goal

pub returns : goal.returns
returns c got is =
    let segments = c.args.segments.now in
    let size : deque_len segments - 1 + 1 ≡ length segments.items = search rules in
    map-grown packed_bytes segments.items (deque_len segments - 1) _ got size is
