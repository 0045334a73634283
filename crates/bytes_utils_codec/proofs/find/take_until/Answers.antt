use Rattle.std.proofs.lemmas.Result.{err_from_is_err_and}
use Rattle.std.specs.List.{concat}
use Rattle.bytes_utils_codec.proofs.FramesLemmas.{HasFrame-taken, some_from_refused}
use Rattle.bytes_utils_codec.proofs.find.take_until.Goals as goal

pub returns-in_err-front-clause-due : goal.returns-in_err-front-clause-due
returns-in_err-front-clause-due g c =
    let p = err_from_is_err_and c.from_residual.result c.from_residual.ensures.1 in
    let at = c.in-Some.at in
    let some = some_from_refused at c.in_err-front.ensures.none in
    rw p.1 (HasFrame-taken c.args.needle.now (concat c.args.buf.now.segments) at c.in-Some.ensures.within c.in-Some.ensures.frame some)
