use Rattle.std.proofs.Common.{◌≡◌, ◌-◌, ◌<◌, get_or, length, ap, ◌∙◌, arith, rules}
use Rattle.bytes_utils_buf.specs.Packing.{last_packed, packed_bytes}
use Rattle.bytes_utils_buf.proofs.PackingLemmas.{last_is, length-last_packed}
use Rattle.bytes_utils_buf.proofs.segmented.buf.last.SegmentedBuf+EitherBuf+Bytes+BytesMut.last_segment.Goals as goal

pub returns-in-Some : goal.returns-in-Some
returns-in-Some c =
    let items = c.self.inside.segments.items in
    let last = c.in-Some.last.now in
    let some : 0 < length items = search rules in
    let here : last ≡ get_or items (length items - 1) last = search rules in
    let bytes = c.as_contiguous.ensures ∙ last_is packed_bytes items last some here ∙ ap (λ held. last_packed held.segments) c.self.view_is in
    record { bytes = bytes; within = omega (arith, ap length bytes, length-last_packed c.args.self.now.segments) }
