use Rattle.std.proofs.Common.{ap, sym, ◌∙◌, take, arith}
use Rattle.std.proofs.lemmas.List.{take-replicate}
use Rattle.bytes_utils_run.proofs.OddLemmas.{take_zeros}
use Rattle.bytes_utils_run.proofs.odd.zeros.ZerosBuf.chunk.Goals as goal

pub returns-clause-eight : goal.returns-clause-eight
returns-clause-eight c =
    take-replicate c.min.result 8 0 (omega arith)
    ∙ sym (take_zeros c.min.result c.self.inside.left c.min.ensures)
    ∙ ap (take 8) c.self.view_is
