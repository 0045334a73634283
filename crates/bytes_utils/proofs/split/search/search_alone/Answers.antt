use Rattle.bytes_utils.proofs.SearchLemmas.{FindsFirstOccurrence-from_any}
use Rattle.bytes_utils.proofs.split.search.search_alone.Goals as goal

pub returns : goal.returns
returns c =
    let found = rw (c.as_bytes.ensures.value, c.as_bytes-2.ensures.value) at c.find.ensures in
    FindsFirstOccurrence-from_any _ _ c.utf8.text c.utf8.separator _ found
