use Rattle.std.proofs.Common.{◌+◌, arith, refl}
use Rattle.bytes_utils_codec.proofs.FindLemmas.{has_read}
use Rattle.bytes_utils_codec.proofs.FindEndLemmas.{found_in_segment, missed_in_segment}
use Rattle.bytes_utils_codec.proofs.find_end.find_end.Goals as goal

pub overflow_add-result : goal.overflow_add-result
overflow_add-result g c =
    let read = has_read c.args.buf.now.segments c.loop-index.index c.in_ok-segment.ensures c.loop-index.invariant.base in
    omega (arith, c.in-Some.ensures.0.high, read.long, c.segment_of.ensures.fits)

pub returns-in-Some : goal.returns-in-Some
returns-in-Some g c =
    let l = c.loop-index in
    let found = rw (c.saturating_sub.ensures) at c.in-Some.ensures in
    found_in_segment (has_read c.args.buf.now.segments l.index c.in_ok-segment.ensures l.invariant.base) l.invariant.none c.in-Some.at (l.base + c.in-Some.at) refl found

pub overflow_add-base : goal.overflow_add-base
overflow_add-base g c =
    let read = has_read c.args.buf.now.segments c.loop-index.index c.in_ok-segment.ensures c.loop-index.invariant.base in
    omega (arith, read.long, c.segment_of.ensures.fits)

pub loop-index-preserved : goal.loop-index-preserved
loop-index-preserved g c =
    let l = c.loop-index in
    let read = has_read c.args.buf.now.segments l.index c.in_ok-segment.ensures l.invariant.base in
    let missed = rw (c.saturating_sub.ensures) at c.in_default.ensures in
    record { base = read.next; none = missed_in_segment read l.invariant.none missed }
