use Rattle.std.proofs.lemmas.Result.{err_from_is_err_and}
use Rattle.bytes_utils_codec.specs.Cursor.{unread}
use Rattle.bytes_utils_codec.proofs.CursorLemmas.{HasFrameWithin-first, found_within}
use Rattle.bytes_utils_codec.proofs.cursor.Cursor.read_until_within.Goals as goal

pub returns-in_err-read_found-clause-due : goal.returns-in_err-read_found-clause-due
returns-in_err-read_found-clause-due g c =
    let p = err_from_is_err_and c.from_residual-in_err-read_found.result c.from_residual-in_err-read_found.ensures.1 in
    let within = rw c.in-Some.is at c.in_ok-len.ensures.within in
    let found = rw c.in-Some.is at c.in_ok-len.ensures.found in
    rw p.1 (λ _. HasFrameWithin-first c.args.needle.now (unread c.args.self.now) c.args.most c.in-Some.len within.1 found c.in_err-read_found.ensures.some within.0)

pub returns-in_err-len-clause-one : goal.returns-in_err-len-clause-one
returns-in_err-len-clause-one g c n first within one =
    absurd (found_within c.args.needle.now (unread c.args.self.now) c.args.most n c.requires first within c.in_err-len.ensures.too_long.1)
