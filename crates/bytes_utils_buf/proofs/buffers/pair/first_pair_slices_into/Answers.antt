use Rattle.std.proofs.Common.{◌-◌, ◌+◌, ◌≡◌, length, rules, arith}
use Rattle.std.proofs.lemmas.List.{take-append-le}
use Rattle.bytes.proofs.Ranges.{take-append_past}
use Rattle.bytes_utils_buf.proofs.SlicesLemmas.{FillsSlices-same}
use Rattle.bytes_utils_buf.proofs.buffers.pair.first_pair_slices_into.Goals as goal

pub returns-then-len-front : goal.returns-then-len-front
returns-then-len-front c =
    FillsSlices-same _ _ _ _ _ (take-append-le c.args.len c.args.front.now c.args.back.now (search rules)) c.slice_into.ensures.fills

pub returns : goal.returns
returns c =
    let k = c.args.len - length c.args.front.now in
    let sum : c.args.len ≡ length c.args.front.now + k = omega arith in
    FillsSlices-same _ _ _ _ _ (take-append_past c.args.front.now c.args.back.now k c.args.len sum) c.pair_slices_into.ensures
