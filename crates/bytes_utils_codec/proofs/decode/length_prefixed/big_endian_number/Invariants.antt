use Rattle.std.proofs.Common.{◌≡◌, ◌^◌, ◌<◌, take}
use Rattle.std.specs.Int.Digits.{number_from_digits}
use Rattle.bytes_utils_codec.proofs.decode.length_prefixed.big_endian_number.Given as goal

abbrev pub invariant-loop-byte : goal.invariant-loop-byte
invariant-loop-byte l = (l.number ≡ number_from_digits 256 (take l.byte-index l.bytes)) × (l.number < 256 ^ l.byte-index)
