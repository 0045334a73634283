use Rattle.std.proofs.Common.{◌≡◌, ◌<◌, map, length, arith, rules}
use Rattle.std.proofs.lemmas.List.{length-map}
use Rattle.bytes_utils_buf.specs.Packing.{pack_into_last, packed_bytes}
use Rattle.bytes_utils_buf.proofs.PackingLemmas.{grown}
use Rattle.bytes_utils_buf.proofs.segmented.buf.last.SegmentedBuf+EitherBuf+Bytes+BytesMut.extend_last.Goals as goal

pub invariant_of-self-2 : goal.invariant_of-self-2
invariant_of-self-2 c =
    let old = c.self.inside in
    let some : 0 < length old.segments.items = search rules in
    let lists : map packed_bytes c.extend_last_block.new.segments.items ≡ pack_into_last c.args.bytes.now (map packed_bytes old.segments.items) = search rules in
    rw (c.call.ensures, c.give.ensures)
    (grown (map packed_bytes old.segments.items) _ c.args.bytes.now old.remaining old.tally (omega (arith, some, length-map old.segments.items packed_bytes)) lists c.self.invariant)
