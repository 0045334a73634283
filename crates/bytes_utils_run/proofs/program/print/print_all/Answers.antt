use Rattle.bytes_utils_buf.proofs.Results.{OnErr-always}
use Rattle.bytes_utils_run.proofs.PrintedLemmas.{print_more, print_begun}
use Rattle.bytes_utils_run.proofs.program.print.print_all.Goals as goal

pub loop-entry-preserved : goal.loop-entry-preserved
loop-entry-preserved g c =
    print_more g.E.Printable.printed _ _ _ c.loop-entry-test.true c.entry-item.is _ _ _ c.loop-entry.invariant c.in_ok-print.ensures.ok

pub returns-in_err-print-clause-err : goal.returns-in_err-print-clause-err
returns-in_err-print-clause-err g c =
    OnErr-always _ _ (print_begun g.E.Printable.printed _ _ _ c.loop-entry-test.true c.entry-item.is _ _ _ c.loop-entry.invariant c.in_err-print.ensures.err)
