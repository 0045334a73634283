use Rattle.std.proofs.Common.{◌<◌, length, rules, arith}
use Rattle.bytes_utils_buf.proofs.SlicesLemmas.{FillsSlices-full, FillsSlices-more}
use Rattle.bytes_utils_buf.proofs.buffers.pair.pair_slices_into.Goals as goal

pub returns-then-filled-dst : goal.returns-then-filled-dst
returns-then-filled-dst c =
    FillsSlices-full c.slice_into-filled.result _ _ _ _ (omega (arith, c.if-filled-dst.true, c.slice_into-filled.auto.dst)) c.slice_into-filled.ensures.fills

pub returns : goal.returns
returns c =
    let room : c.slice_into-filled.result < length c.args.dst.now =
    omega (arith, c.if-filled-dst.false, c.slice_into-filled.auto.dst, c.slice_into-filled.ensures.fills.count) in
    FillsSlices-more c.slice_into-filled.result c.slice_into.result _ c.slice_into-filled.new.dst c.slice_into.new.dst _ _ room c.slice_into-filled.auto.dst
    (search rules) c.slice_into-filled.ensures.fills c.slice_into.ensures.fills
