use Rattle.std.proofs.lemmas.Result.{err_from_is_err_and}
use Rattle.bytes_utils_codec.specs.Cursor.{unread}
use Rattle.bytes_utils_codec.proofs.CursorLemmas.{HasFrame-first}
use Rattle.bytes_utils_codec.proofs.cursor.Cursor.read_until.Goals as goal

pub returns-in_err-read_found-clause-due : goal.returns-in_err-read_found-clause-due
returns-in_err-read_found-clause-due g c =
    let p = err_from_is_err_and c.from_residual.result c.from_residual.ensures.1 in
    let within = c.in-Some.ensures.within in
    let found = c.in-Some.ensures.found in
    rw p.1 (HasFrame-first c.args.needle.now (unread c.args.self.now) c.in-Some.len within found c.in_err-read_found.ensures.some)
