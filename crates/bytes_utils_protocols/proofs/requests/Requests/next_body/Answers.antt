use Rattle.std.proofs.Common.{◌≢◌, ◌<◌, ◌≤◌, arith, length}
use Rattle.std.proofs.lemmas.Bool.{false≢true}
use Rattle.std.proofs.lemmas.Result.{err_from_is_err_and}
use Rattle.bytes_utils_protocols.proofs.requests.Requests.next_body.Goals as goal

pub returns-in_err-split_to-clause-due : goal.returns-in_err-split_to-clause-due
returns-in_err-split_to-clause-due c =
    let out = err_from_is_err_and c.from_residual.result c.from_residual.ensures.1 in
    let not_none : c.args.len ≢ 0 = λ none. false≢true (c.in_err-split_to.ensures.none none) in
    let some : 0 < c.args.len = omega (arith, not_none) in
    let within : c.args.len ≤ length c.self.inside.heads.held = omega (arith, c.remaining.ensures, c.if-remaining-len.false) in
    rw (← c.self.view_is) (rw out.1 (some, within))
