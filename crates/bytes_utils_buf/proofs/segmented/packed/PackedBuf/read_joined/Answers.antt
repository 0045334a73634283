use Rattle.bytes_utils_buf.proofs.ReadingLemmas.{packed_read}
use Rattle.bytes_utils_buf.proofs.segmented.packed.PackedBuf.read_joined.Goals as goal

pub invariant_of-self : goal.invariant_of-self
invariant_of-self g c =
    packed_read _ _ c.self.inside.threshold c.self.inside.held _ c.read_instead_of_last.result c.read_instead_of_last.ensures.read
    c.read_instead_of_last.ensures.err c.self.invariant
