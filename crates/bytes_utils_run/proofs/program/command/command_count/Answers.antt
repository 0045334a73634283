use Rattle.bytes_utils_run.proofs.CommandLemmas.{no-space, counted-found, no-number}
use Rattle.bytes_utils_run.proofs.program.command.command_count.Goals as goal

pub returns-in_err-digits : goal.returns-in_err-digits
returns-in_err-digits c = rw c.from_residual.ensures (no-space _ c.utf8.text c.in_err-digits.ensures.cases)

pub returns-in_err-word_number : goal.returns-in_err-word_number
returns-in_err-word_number c =
    let cut = c.in_ok-digits.ensures.cases in
    rw c.from_residual-in_err-word_number.ensures (no-number _ _ _ c.utf8.text cut.0 cut.1 cut.2 cut.3 cut.4 cut.6 c.in_err-word_number.ensures)

pub returns : goal.returns
returns c =
    let cut = c.in_ok-digits.ensures.cases in
    counted-found _ _ _ c.utf8.text cut.0 cut.1 cut.2 cut.3 cut.4 cut.6 _ c.in_ok-word_number.ensures
