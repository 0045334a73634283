use Rattle.std.proofs.Common.{◌<◌, length, map, drop, rules, ap, ◌∙◌, arith, length-drop}
use Rattle.std.proofs.lemmas.List.{length-map}
use Rattle.bytes.specs.Unread.{IsChunkOf}
use Rattle.bytes_utils_buf.specs.Segments.{front_segment}
use Rattle.bytes_utils_buf.proofs.Lists.{read_at, front_segment_drop}
use Rattle.bytes_utils_buf.proofs.LentLemmas.{chunk_of_front}
use Rattle.bytes_utils_buf.proofs.segmented.slice.SegmentedSliceSegmentedCopy.front_chunk.Goals as goal

pub returns-then-self-bufs : goal.returns-then-self-bufs
returns-then-self-bufs g c =
    let f = g.B.Buf.unread in
    let xs = c.self.inside.bufs.now in
    let k = c.self.inside.place in
    let here : k < length xs = search rules in
    let item = front_segment_drop (map f xs) k ∙ read_at f xs k c.index-bufs-self.result here c.index-bufs-self.is in
    let front : IsChunkOf c.chunk.result.now (front_segment (drop k (map f xs))) = rw item c.chunk.ensures in
    rw (← ap (λ q. q.segments) c.self.view_is)
    (record {
      bytes = chunk_of_front c.chunk.result.now (drop k (map f xs)) (omega (arith, here, length-drop k (map f xs), length-map xs f)) c.self.invariant.reading.skips.front front;
      front = front;
    })
