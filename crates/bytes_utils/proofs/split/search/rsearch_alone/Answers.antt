use Rattle.bytes_utils.proofs.SearchLemmas.{FindsLastOccurrence-from_needle, FindsLastNeedle-empty}
use Rattle.bytes_utils.proofs.split.search.rsearch_alone.Goals as goal

pub returns-clause-last : goal.returns-clause-last
returns-clause-last c = λ some.
    let found = rw (c.as_bytes.ensures.value, c.as_bytes-2.ensures.value) at c.rfind.ensures in
    FindsLastOccurrence-from_needle _ _ c.utf8.text c.utf8.separator some _ found

pub returns-clause-empty : goal.returns-clause-empty
returns-clause-empty c = λ none.
    let found = rw (c.as_bytes.ensures.value, c.as_bytes-2.ensures.value) at c.rfind.ensures in
    FindsLastNeedle-empty _ _ none _ found
