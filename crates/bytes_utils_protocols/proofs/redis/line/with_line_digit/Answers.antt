use Rattle.std.proofs.Common.{arith}
use Rattle.std.specs.Char.{IsNotAsciiDigit, IsAsciiDigit}
use Rattle.bytes_utils_protocols.proofs.LineSteps.{no_digit, still_fits, digit_step}
use Rattle.bytes_utils_protocols.proofs.redis.line.with_line_digit.Goals as goal

pub returns-then-not-is_ascii_digit : goal.returns-then-not-is_ascii_digit
returns-then-not-is_ascii_digit c digits are n more =
    let none : IsNotAsciiDigit c.args.byte = rw c.if-not-is_ascii_digit.true at c.is_ascii_digit.ensures.cases in
    no_digit digits more c.args.byte n (λ range. grind (arith, none, range.0, range.1))

pub returns-in_err-checked_mul : goal.returns-in_err-checked_mul
returns-in_err-checked_mul c digits are =
    rw c.from_residual.ensures
    (λ n more writes. c.in_err-checked_mul.ensures (omega (arith, c.unwrap_or.ensures, still_fits c.args.value digits more c.args.byte n are writes)))

pub returns : goal.returns
returns c digits are =
    let digit : IsAsciiDigit c.args.byte = rw c.if-not-is_ascii_digit.false at c.is_ascii_digit.ensures.cases in
    digit_step c.args.value digits c.args.byte _ c.checked_add.result are digit.0 digit.1 (omega (arith, c.unwrap_or.ensures, c.in_ok-checked_mul.ensures)) c.checked_add.ensures
