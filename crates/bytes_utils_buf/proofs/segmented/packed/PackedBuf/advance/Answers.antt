use Rattle.bytes_utils_buf.proofs.PackingLemmas.{packed_skips}
use Rattle.bytes_utils_buf.proofs.segmented.packed.PackedBuf.advance.Goals as goal

pub invariant_of-self : goal.invariant_of-self
invariant_of-self c = packed_skips _ _ _ _ c.advance.ensures.skips c.self.invariant
