use Rattle.std.proofs.Common.{◌≡◌, ◌-◌, ◌^◌, ◌<◌, length, reverse, drop}
use Rattle.std.specs.Int.Digits.{number_from_digits}
use Rattle.bytes_utils_codec.proofs.decode.length_prefixed.little_endian_number.Given as goal

abbrev pub invariant-loop-at : goal.invariant-loop-at
invariant-loop-at l = (l.number ≡ number_from_digits 256 (reverse (drop l.at l.bytes))) × (l.number < 256 ^ (length l.bytes - l.at))
