use Rattle.std.proofs.Common.{rules}
use Rattle.std.proofs.lemmas.Fmt.{IsAscii-from_digits}
use Rattle.std.proofs.lemmas.Str.{IsUtf8-from_ascii}
use Rattle.bytes_utils_protocols.proofs.number.number.Goals as goal

pub returns-in_err-text : goal.returns-in_err-text
returns-in_err-text c = rw c.from_residual.ensures (λ n writes.
    let utf8 = IsUtf8-from_ascii c.args.digits.now (IsAscii-from_digits c.args.digits.now writes.0.1) in search rules)
