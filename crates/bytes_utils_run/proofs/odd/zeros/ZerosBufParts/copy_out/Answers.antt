use Rattle.std.proofs.Common.{ℕ, sym, ap, ◌∙◌, drop}
use Rattle.std.proofs.lemmas.List.{drop-replicate}
use Rattle.bytes_utils_run.proofs.odd.zeros.ZerosBufParts.copy_out.Goals as goal

pub returns-clause-rest : goal.returns-clause-rest
returns-clause-rest c =
    let zero : ℕ = 0 in
    sym (drop-replicate c.args.len c.self.inside.left zero) ∙ ap (drop c.args.len) c.self.view_is
