use Rattle.std.proofs.Common.{◌≢◌, ◌≡◌, None}
use Rattle.bytes_utils_protocols.specs.declared.redis.line.Sign.TheVariants.{Unsigned}
use Rattle.bytes_utils_protocols.proofs.LineSteps.{integer_stops}
use Rattle.bytes_utils_protocols.proofs.redis.line.line_in_integer.Goals as goal
use Rattle.bytes_utils_protocols.proofs.redis.line.line_in_integer.Goals.{in_default-via-in-Unsigned+in-None+in_default, in_default-via-in-Unsigned+in_default, in_default-via-in_default}

pub returns-in_err-with_line_digit-in_default : goal.returns-in_err-with_line_digit-in_default
returns-in_err-with_line_digit-in_default c bytes is =
    let other : c.args.sign ≡ Unsigned → c.args.value ≡ None → (c.args.byte ≢ 43) × (c.args.byte ≢ 45) = λ unsigned none.
    elim c.in_default.branch [
      | in_default-via-in-Unsigned+in-None+in_default w ↦ (w.in_default.is-2.0.1, w.in_default.is-2.1)
      | in_default-via-in-Unsigned+in_default w ↦ absurd (cc (none, w.in_default.is-1))
      | in_default-via-in_default w ↦ absurd (w.in_default.not-Unsigned-0 unsigned)
    ] in
    rw c.from_residual.ensures (integer_stops c.args.value is.0 c.args.byte is.2 (c.in_err-with_line_digit-in_default.ensures is.0 is.2) c.args.sign other bytes is.1)
