use Rattle.std.proofs.Common.{map, ap, ◌∙◌, arith}
use Rattle.std.proofs.lemmas.List.{length-map}
use Rattle.bytes_utils_buf.specs.Packing.{packed_bytes}
use Rattle.bytes_utils_buf.proofs.ReadingLemmas.{grown_by_none, grown_by_read, reads_last, reads_none}
use Rattle.bytes_utils_buf.proofs.Results.{at_some}
use Rattle.bytes_utils_buf.proofs.segmented.buf.read_from.SegmentedBuf+EitherBuf+Bytes+BytesMut.read_last.Goals as goal

pub invariant_of-self-then-count-gt0 : goal.invariant_of-self-then-count-gt0
invariant_of-self-then-count-gt0 g c =
    let old = c.self.inside in
    let some = at_some _ c.in-Some.count _ c.in-Some.is c.in_ok-count.ensures.some in
    rw (c.call.ensures, c.give.ensures)
    (grown_by_read _ _ (map packed_bytes old.segments.items) _ c.in-Some.count old.remaining old.tally
    (omega (arith, some.1, length-map old.segments.items packed_bytes)) (at_some _ c.in-Some.count _ c.in-Some.is c.in_ok-count.ensures.read) c.self.invariant)

pub invariant_of-self-else-count-gt0 : goal.invariant_of-self-else-count-gt0
invariant_of-self-else-count-gt0 g c =
    let read = at_some _ c.in-Some.count _ c.in-Some.is c.in_ok-count.ensures.read in
    rw (grown_by_none _ _ _ _ c.in-Some.count c.if-count-gt0.false read) c.self.invariant

pub returns-then-count-gt0-clause-read : goal.returns-then-count-gt0-clause-read
returns-then-count-gt0-clause-read g c =
    let some = at_some _ c.in-Some.count _ c.in-Some.is c.in_ok-count.ensures.some in
    let read = at_some _ c.in-Some.count _ c.in-Some.is c.in_ok-count.ensures.read in
    rw (c.call.ensures, c.give.ensures, ← c.self.view_is)
    (reads_last _ _ _ _ c.in-Some.count c.if-count-gt0.true (omega (arith, some.1, length-map c.self.inside.segments.items packed_bytes)) read)

pub returns-else-count-gt0-clause-read : goal.returns-else-count-gt0-clause-read
returns-else-count-gt0-clause-read g c =
    let read = at_some _ c.in-Some.count _ c.in-Some.is c.in_ok-count.ensures.read in
    let same = grown_by_none _ _ _ _ c.in-Some.count c.if-count-gt0.false read in
    reads_none _ _ c.in-Some.count read.0 c.if-count-gt0.false read.1
    (ap (λ lists. record { segments = lists; tally = c.self.inside.tally }) same ∙ c.self.view_is)
