use Rattle.std.proofs.lemmas.Result.{on_err_weaker}
use Rattle.bytes_utils_run.proofs.Beginnings.{AppendsBeginning-after}
use Rattle.std.proofs.Common.{codes, decimal}
use Rattle.bytes_utils_run.proofs.program.output.output_number.Goals as goal

-- the number was written, and none or all of the line feed
pub returns-clause-err : goal.returns-clause-err
returns-clause-err g c =
    let size = rw (c.as_bytes.ensures.value, c.format.ensures.text) at c.in_ok-write_output.ensures.ok in
    on_err_weaker c.write_output-2.result (λ begun. AppendsBeginning-after _ _ _ (decimal c.args.number) (codes "\n") size begun) c.write_output-2.ensures.err
