use Rattle.std.proofs.Common.{◌^◌, ◌≤◌, arith}
use Rattle.std.proofs.Math.Nat.{pow-le-pow_right}
use Rattle.bytes_utils_codec.proofs.decode.length_prefixed.big_endian_number.Goals as goal

pub overflow_mul-number : goal.overflow_mul-number
overflow_mul-number c =
    let below : 256 ^ c.loop-byte.byte-index ≤ 256 ^ 7 = pow-le-pow_right (omega arith) {j = 7} (omega arith) in
    omega arith
