use Rattle.std.proofs.Common.{◌≢◌, ◌≡◌, None}
use Rattle.bytes_utils_protocols.proofs.LineSteps.{length_stops}
use Rattle.bytes_utils_protocols.proofs.redis.line.line_in_length.Goals as goal
use Rattle.bytes_utils_protocols.proofs.redis.line.line_in_length.Goals.{in_default-via-in-None+in_default, in_default-via-in_default}

pub returns-in_err-with_line_digit-in_default : goal.returns-in_err-with_line_digit-in_default
returns-in_err-with_line_digit-in_default c bytes is =
    let other : c.args.value ≡ None → c.args.byte ≢ 45 = λ none.
    elim c.in_default.branch [
      | in_default-via-in-None+in_default w ↦ w.in_default.is-1.1
      | in_default-via-in_default w ↦ absurd (cc (none, w.in_default.is-0))
    ] in
    rw c.from_residual.ensures (length_stops c.args.value is.0 c.args.byte is.2 (c.in_err-with_line_digit-in_default.ensures is.0 is.2) c.args.counted other bytes is.1)
