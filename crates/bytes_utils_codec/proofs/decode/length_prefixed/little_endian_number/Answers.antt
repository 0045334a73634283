use Rattle.std.proofs.Common.{◌≡◌, suc, ◌+◌, ◌-◌, ◌*◌, ◌^◌, ◌≤◌, [], ◌∷◌, length, reverse, drop, ap, ◌∙◌, sym, arith}
use Rattle.std.proofs.Math.Nat.{pow-le-pow_right, pow-suc}
use Rattle.std.proofs.lemmas.Grind.{reverse_onto}
use Rattle.std.proofs.lemmas.Int.Digits.{number_push}
use Rattle.std.proofs.lemmas.List.{drop_more}
use Rattle.std.specs.Int.Digits.{number_from_digits}
use Rattle.bytes_utils_codec.proofs.decode.length_prefixed.little_endian_number.Goals as goal

pub overflow_mul-number : goal.overflow_mul-number
overflow_mul-number c =
    let below : 256 ^ (length c.args.bytes.now - c.loop-at.at) ≤ 256 ^ 7 = pow-le-pow_right (omega arith) {j = 7} (omega arith) in
    omega arith

pub overflow_add-number : goal.overflow_add-number
overflow_add-number c =
    let below : 256 ^ (length c.args.bytes.now - c.loop-at.at) ≤ 256 ^ 7 = pow-le-pow_right (omega arith) {j = 7} (omega arith) in
    omega (arith, c.type_inv.bytes (c.loop-at.at - 1))

-- the byte before those so far is the last one of them from the end
pub loop-at-preserved : goal.loop-at-preserved
loop-at-preserved c =
    let bytes = c.args.bytes.now in
    let at = c.loop-at.at - 1 in
    let rest = drop c.loop-at.at bytes in
    let back : at + 1 ≡ c.loop-at.at = omega arith in
    let one : drop at bytes ≡ c.from.result ∷ rest =
    drop_more bytes at 0 (omega arith) ∙ (λ i. sym c.from.ensures i ∷ drop (back i) bytes) in
    let digits : number_from_digits 256 (reverse (drop at bytes)) ≡ c.loop-at.number * 256 + c.from.result =
    ap (λ l. number_from_digits 256 (reverse l)) one ∙ ap (number_from_digits 256) (reverse_onto rest c.from.result [])
    ∙ number_push 256 (reverse rest) c.from.result ∙ ap (λ n. n * 256 + c.from.result) (sym c.loop-at.invariant.0) in
    let count : suc (length bytes - c.loop-at.at) ≡ length bytes - at = omega arith in
    let more : 256 ^ (length bytes - at) ≡ 256 ^ (length bytes - c.loop-at.at) * 256 =
    ap (λ n. 256 ^ n) (sym count) ∙ pow-suc 256 (length bytes - c.loop-at.at) in
    (sym digits, omega (arith, more, c.loop-at.invariant.1, c.type_inv.bytes at))
