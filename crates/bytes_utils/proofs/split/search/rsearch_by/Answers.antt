use Rattle.bytes_utils.proofs.SearchLemmas.{FindsLastOccurrence-from_needle}
use Rattle.bytes_utils.proofs.split.search.rsearch_by.Goals as goal

pub returns : goal.returns
returns c =
    let found = rw c.as_bytes.ensures.value at c.rfind.ensures in
    FindsLastOccurrence-from_needle _ _ c.utf8.text c.requires.utf8 c.requires.some _ found
