use Rattle.bytes_utils.proofs.EndsLemmas.{end_boundary}
use Rattle.bytes_utils.proofs.string.text.StrInner.trim_end_bytes.Goals as goal

pub cut_front-requires : goal.cut_front-requires
cut_front-requires g c = rw (← c.as_str.ensures.value) (end_boundary _ _ c.as_str.utf8 c.trim_end-end.utf8 c.trim_end-end.ensures.value)
