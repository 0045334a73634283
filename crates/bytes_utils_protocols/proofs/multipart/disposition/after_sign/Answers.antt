use Rattle.std.proofs.Common.{◌∙◌, arith}
use Rattle.std.proofs.lemmas.Str.Pattern.{strip_prefix_char}
use Rattle.bytes_utils_protocols.proofs.multipart.disposition.after_sign.Goals as goal

pub returns-in_err-after-clause-none : goal.returns-in_err-after-clause-none
returns-in_err-after-clause-none c =
    let none = strip_prefix_char 61 c.after_blanks.result.now c.strip_prefix.result c.strip_prefix.ensures.cases (omega arith) in
    rw c.from_residual.ensures (λ rest is. (rw c.in_err-after.was at none) is.after (c.after_blanks.ensures.value ∙ is.sign_is))
