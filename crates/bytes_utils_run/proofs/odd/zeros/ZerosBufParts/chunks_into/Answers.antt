use Rattle.std.proofs.Common.{refl, arith}
use Rattle.bytes_utils_run.proofs.OddLemmas.{FillsSlices-zeros, odd_pieces-zeros}
use Rattle.bytes_utils_run.proofs.odd.zeros.ZerosBufParts.chunks_into.Goals as goal

pub loop-shown-preserved : goal.loop-shown-preserved
loop-shown-preserved c = (
  omega arith,
  FillsSlices-zeros _ _ _ _ _ _ (omega arith) c.loop-shown.auto.dst (omega arith) (omega arith) refl c.loop-shown.invariant.1,
  odd_pieces-zeros c.loop-shown.filled c.self.inside.left c.loop-shown.shown c.min-size.result _ _ (omega arith) (omega arith)
      c.loop-shown.invariant.0 c.min-size.ensures refl c.loop-shown.invariant.2,
)
