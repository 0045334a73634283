use Rattle.std.proofs.Common.{[], ◌∙◌}
use Rattle.std.proofs.lemmas.Option.{none-some, slice_get-get_or}
use Rattle.bytes_utils_codec.proofs.CursorLemmas.{IsChunkOf-segment}
use Rattle.bytes_utils_codec.proofs.cursor.Cursor.chunk.Goals as goal

pub returns-in-Some-segment : goal.returns-in-Some-segment
returns-in-Some-segment g c =
    let q = c.self.inside in
    let place = rw c.in-Some.is at c.segment_of.ensures.some in
    let found = rw c.in-Some-segment.is at c.segment.ensures in
    rw (← c.self.view_is) (IsChunkOf-segment q.buf.now.segments c.in-Some-segment.segment.now q.at c.in-Some.index c.in-Some.offset place.0 found)

pub returns-in-None : goal.returns-in-None
returns-in-None g c =
    let place = rw c.in-Some.is at c.segment_of.ensures.some in
    let none = rw c.in-None.is at c.segment.ensures in
    absurd (none-some _ (none ∙ slice_get-get_or c.self.inside.buf.now.segments c.in-Some.index [] place.1))
