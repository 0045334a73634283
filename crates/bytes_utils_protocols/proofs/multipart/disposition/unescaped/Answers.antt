use Rattle.std.proofs.Common.{subst, sym, ◌∙◌, IsUtf8, false}
use Rattle.bytes_utils_protocols.proofs.UnescapedLemmas.{unescaped_utf8}
use Rattle.bytes_utils_protocols.proofs.multipart.disposition.unescaped.Goals as goal

pub from_inner_unchecked-requires : goal.from_inner_unchecked-requires
from_inner_unchecked-requires c =
    subst IsUtf8 (sym (c.in_ok-from_vec.ensures.ok ∙ c.in_ok-bytes.ensures.ok)) (unescaped_utf8 false c.as_bytes.result.now c.as_bytes.ensures.utf8)
