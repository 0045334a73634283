use Rattle.std.proofs.Common.{length, ap, arith}
use Rattle.bytes_utils_buf.specs.Packing.{last_packed}
use Rattle.bytes_utils_buf.proofs.ReadingLemmas.{packed_read_alone}
use Rattle.bytes_utils_buf.proofs.segmented.packed.PackedBuf.read_alone.Goals as goal

pub invariant_of-self-2 : goal.invariant_of-self-2
invariant_of-self-2 g c =
    let count = ap (λ b. length b.held.segments) c.self.view_is in
    let last = ap (λ b. length (last_packed b.held.segments)) c.self.view_is in
    let threshold = ap (λ b. b.threshold) c.self.view_is in
    packed_read_alone _ _ c.self.inside.threshold c.self.inside.held _ c.read_block.result c.read_block.ensures.read c.read_block.ensures.err
    (λ some. omega (arith, c.requires.over (omega (arith, some, count)), last, threshold)) c.self.invariant
