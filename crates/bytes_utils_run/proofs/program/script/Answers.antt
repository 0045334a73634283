use Rattle.std.proofs.Common.{inr}
use Rattle.std.specs.Str.{chars}
use Rattle.bytes_utils_run.specs.Run.{RunAsksFor}
use Rattle.bytes_utils_run.proofs.Asked.{begun-asked}
use Rattle.bytes_utils_run.proofs.program.script.Goals as goal

-- first bytes of the given results are first bytes of what the input asks for
pub returns-clause-io : goal.returns-clause-io
returns-clause-io g c is =
    let input = c.in_ok-input.input.items in
    let asked = rw c.in_ok-text.ensures.ok at c.in_ok-answer.ensures.ok in
    let all = begun-asked (RunAsksFor (chars input)) c.in_ok-answer.answer asked _ _ (c.print_answer.ensures.io is) in
    inr (record {
      input = input;
      entries = all.0;
      read = record { whole = c.in_ok-input.ensures.whole; utf8 = c.in_ok-text.ensures.utf8 };
      asked = all.1;
      written = all.2;
    })
