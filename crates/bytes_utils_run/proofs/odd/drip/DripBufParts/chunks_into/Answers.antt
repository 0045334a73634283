use Rattle.std.proofs.Common.{◌≡◌, ◌∙◌, refl, subst, take, arith}
use Rattle.bytes_utils_buf.specs.Slices.{FillsSlices}
use Rattle.bytes_utils_run.proofs.OddLemmas.{All_one-push, FillsSlices-byte, FillsSlices-all_bytes}
use Rattle.bytes_utils_run.proofs.odd.drip.DripBufParts.chunks_into.Goals as goal

pub loop-i-preserved : goal.loop-i-preserved
loop-i-preserved c = (
  FillsSlices-byte c.loop-i.i _ _ _ c.as_slice-bytes.result.now (omega arith) c.loop-i.auto.dst (omega arith) refl c.loop-i.invariant.0,
  All_one-push c.loop-i.i _ _ c.as_slice-bytes.result.now (omega arith) (omega arith) refl c.loop-i.invariant.1,
)

pub returns-clause-fills : goal.returns-clause-fills
returns-clause-fills c =
    let bytes = c.as_slice-bytes.result.now in
    let at : c.loop-i.i ≡ c.min-count.result = omega arith in
    subst (FillsSlices c.min-count.result c.args.dst.now c.loop-i.dst) (c.as_slice-bytes.ensures ∙ c.self.view_is)
    (FillsSlices-all_bytes _ _ _ bytes c.min-count.ensures (subst (λ n. FillsSlices n c.args.dst.now c.loop-i.dst (take n bytes)) at c.loop-i.invariant.0))
