use Rattle.std.proofs.Common.{None}
use Rattle.bytes_utils.proofs.SearchLemmas.{FindsLastOccurrence-from_needle, FindsLastNeedle-from_front, missed_by_last_byte}
use Rattle.bytes_utils.proofs.split.search.rsearch_long_by.Goals as goal

pub returns-in_default : goal.returns-in_default
returns-in_default c =
    let missed = rw (c.needle-needle.ensures, c.as_bytes-bytes.ensures.value) at c.in_default.ensures in
    FindsLastOccurrence-from_needle _ _ c.utf8.text c.requires.utf8 c.requires.some None (missed_by_last_byte c.args.finder.now c.args.text.now c.requires.some missed)

pub returns : goal.returns
returns c =
    let last = rw (c.needle-needle.ensures, c.as_bytes-bytes.ensures.value) at c.in-Some.ensures in
    let found = rw c.as_bytes-bytes.ensures.value at c.search_at_end.ensures in
    FindsLastOccurrence-from_needle _ _ c.utf8.text c.requires.utf8 c.requires.some _ (FindsLastNeedle-from_front c.args.finder.now c.args.text.now c.in-Some.at c.requires.some last.0 _ found)
