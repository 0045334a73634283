use Rattle.bytes_utils.proofs.SearchLemmas.{chars-some}
use Rattle.bytes_utils.proofs.Inclusive.{has_inclusive_parts}
use Rattle.bytes_utils.proofs.string.text.StrInner.split_inclusive_bytes.Goals as goal

pub returns-clause-coming : goal.returns-clause-coming
returns-clause-coming g c = has_inclusive_parts _ _ (chars-some _ c.utf8.separator c.requires)
