use Rattle.std.proofs.Common.{◌∙◌}
use Rattle.bytes_utils_buf.proofs.WriteLemmas.{WritesFront-more}
use Rattle.bytes_utils_buf.proofs.write.write_all_of.Goals as goal

pub loop-buf-preserved : goal.loop-buf-preserved
loop-buf-preserved g c = record {
  front = WritesFront-more _ c.loop-buf.invariant.front c.write_front-written.ensures.bytes c.advance.ensures.value;
  kept = c.advance.ensures.kept ∙ c.loop-buf.invariant.kept;
}

pub returns-in_err-result-clause-front : goal.returns-in_err-result-clause-front
returns-in_err-result-clause-front g c = WritesFront-more _ c.loop-buf.invariant.front c.write_front-written.ensures.bytes c.advance.ensures.value
