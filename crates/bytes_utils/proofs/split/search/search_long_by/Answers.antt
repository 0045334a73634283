use Rattle.std.proofs.Common.{None}
use Rattle.bytes_utils.proofs.NeedleLemmas.{none_before_byte, missed_by_byte}
use Rattle.bytes_utils.proofs.SearchLemmas.{FindsFirstOccurrence-from_needle}
use Rattle.bytes_utils.proofs.split.search.search_long_by.Goals as goal

pub find_in_piece-requires-clause-none : goal.find_in_piece-requires-clause-none
find_in_piece-requires-clause-none c =
    let found = rw c.needle.ensures at c.in-Some.ensures in
    none_before_byte c.args.finder.now c.as_bytes-bytes.result.now c.in-Some.from found.0

pub returns-in_default : goal.returns-in_default
returns-in_default c =
    let missed = rw (c.needle.ensures, c.as_bytes-bytes.ensures.value) at c.in_default.ensures in
    FindsFirstOccurrence-from_needle _ _ c.utf8.text c.requires.utf8 c.requires.some None (missed_by_byte c.args.finder.now c.args.text.now c.requires.some missed)

pub returns : goal.returns
returns c =
    let found = rw c.as_bytes-bytes.ensures.value at c.find_in_piece.ensures in
    FindsFirstOccurrence-from_needle _ _ c.utf8.text c.requires.utf8 c.requires.some _ found
