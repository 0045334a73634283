use Rattle.std.proofs.KnownBytes.{Appends-kept}
use Rattle.bytes_utils_run.proofs.Asked.{given-begun}
use Rattle.bytes_utils_run.proofs.program.print.print_answer.Goals as goal

pub returns-in_err-flush_output-clause-io : goal.returns-in_err-flush_output-clause-io
returns-in_err-flush_output-clause-io g c is =
    let given = c.in_ok-refused.ensures.ok in
    given-begun c.args.answer given.0 c.in_ok-refused.refused given.1 _ _ (Appends-kept _ _ _ _ given.2 c.in_err-flush_output.ensures.contents)
