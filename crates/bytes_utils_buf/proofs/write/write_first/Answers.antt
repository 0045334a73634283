use Rattle.std.proofs.Common.{arith}
use Rattle.std.proofs.lemmas.Result.{on_err_weaker}
use Rattle.bytes_utils_buf.specs.Slices.{joined_slices}
use Rattle.bytes_utils_buf.proofs.WriteLemmas.{appends-of_front, count-of_front, length-front, some-written}
use Rattle.bytes_utils_buf.proofs.write.write_first.Goals as goal

pub write_by_block-result-requires : goal.write_by_block-result-requires
write_by_block-result-requires g c =
    let most = length-front (joined_slices c.args.slices.now) (g.B.Buf.unread c.args.buf.now) c.requires.front in
    omega arith

pub returns-clause-bound : goal.returns-clause-bound
returns-clause-bound g c = count-of_front _ _ c.requires.front c.write_by_block-result.ensures.front

pub returns-clause-bytes : goal.returns-clause-bytes
returns-clause-bytes g c = appends-of_front _ _ c.requires.front c.write_by_block-result.ensures.front

pub returns-clause-some : goal.returns-clause-some
returns-clause-some g c = some-written c.write_by_block-result.result _ _ _ c.requires.some c.write_by_block-result.ensures.ok

pub returns-clause-err : goal.returns-clause-err
returns-clause-err g c =
    let most = length-front (joined_slices c.args.slices.now) (g.B.Buf.unread c.args.buf.now) c.requires.front in
    on_err_weaker c.write_by_block-result.result (λ less. omega (arith, less)) c.write_by_block-result.ensures.err
