use Rattle.std.proofs.lemmas.Result.{on_err_weaker}
use Rattle.bytes_utils_run.proofs.Beginnings.{AppendsBeginning-after}
use Rattle.bytes_utils_run.proofs.program.print.print_slices.Goals as goal

-- the number was printed, and first bytes of the slices
pub returns-clause-err : goal.returns-clause-err
returns-clause-err g c =
    on_err_weaker c.print_all.result (λ begun. AppendsBeginning-after _ _ _ _ _ c.in_ok-output_number.ensures.ok begun) c.print_all.ensures.err
