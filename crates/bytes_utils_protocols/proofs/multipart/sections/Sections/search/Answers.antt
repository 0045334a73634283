use Rattle.std.proofs.Common.{◌<◌, ◌+◌, arith, refl, length}
use Rattle.std.proofs.lemmas.Result.{err_from_is_err_and}
use Rattle.bytes_utils_protocols.proofs.MultipartLemmas.{fault_of_same, much_before}
use Rattle.bytes_utils_protocols.proofs.multipart.sections.Sections.search.Goals as goal

pub returns-then-len-most_multipart_bytes-clause-fault : goal.returns-then-len-most_multipart_bytes-clause-fault
returns-then-len-most_multipart_bytes-clause-fault c =
    let s = c.pass_preamble.new.self in
    let much : c.args.limits.head + c.args.limits.body < length s.preamble = omega (arith, c.if-len-most_multipart_bytes.true, c.len.ensures.value, c.len.ensures.fits, c.most_multipart_bytes.ensures) in
    much_before c.args.limits c.args.self.now s s.stage refl c.pass_preamble.ensures.same c.pass_preamble.ensures.divided much

pub returns-in_err-find_next-clause-fault : goal.returns-in_err-find_next-clause-fault
returns-in_err-find_next-clause-fault c =
    let s = c.pass_preamble.new.self in
    let out = err_from_is_err_and c.from_residual.result c.from_residual.ensures.1 in
    let why = fault_of_same c.args.self.now s c.pass_preamble.ensures.same c.args.limits _ c.in_err-find_next.ensures.fault in
    rw (out.1, out.2) why
