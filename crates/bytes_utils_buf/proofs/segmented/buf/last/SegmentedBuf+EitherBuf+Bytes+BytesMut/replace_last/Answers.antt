use Rattle.std.proofs.Common.{◌<◌, map, length, rules}
use Rattle.bytes_utils_buf.specs.Packing.{packed_bytes}
use Rattle.bytes_utils_buf.proofs.PackingLemmas.{grown}
use Rattle.bytes_utils_buf.proofs.segmented.buf.last.SegmentedBuf+EitherBuf+Bytes+BytesMut.replace_last.Goals as goal

pub invariant_of-self : goal.invariant_of-self
invariant_of-self c =
    let old = c.self.inside in
    let some : 0 < length (map packed_bytes old.segments.items) = search rules in
    rw (c.call.ensures, c.give.ensures)
    (grown (map packed_bytes old.segments.items) _ c.args.bytes.now old.remaining old.tally some c.join_last_block.ensures c.self.invariant)
