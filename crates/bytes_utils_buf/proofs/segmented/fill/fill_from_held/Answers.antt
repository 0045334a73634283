use Rattle.std.proofs.Common.{◌<◌, ◌≤◌, length, rules, arith}
use Rattle.bytes_utils_buf.proofs.Lists.{concat-map_parts}
use Rattle.bytes_utils_buf.proofs.SlicesLemmas.{FillsSlices-same, FillsSlices-full, FillsSlices-more}
use Rattle.bytes_utils_buf.proofs.segmented.fill.fill_from_held.Goals as goal

pub returns-then-filled-dst : goal.returns-then-filled-dst
returns-then-filled-dst g c =
    let all = concat-map_parts g.B.Buf.unread c.as_slices.result.0.now c.as_slices.result.1.now c.args.segments.now.items c.as_slices.ensures.items in
    let full : length c.args.dst.now ≤ c.fill_from-filled.result = omega (arith, c.if-filled-dst.true, c.fill_from-filled.auto.dst) in
    FillsSlices-same _ _ _ _ _ all (FillsSlices-full c.fill_from-filled.result _ _ _ _ full c.fill_from-filled.ensures)

pub returns : goal.returns
returns g c =
    let all = concat-map_parts g.B.Buf.unread c.as_slices.result.0.now c.as_slices.result.1.now c.args.segments.now.items c.as_slices.ensures.items in
    let room : c.fill_from-filled.result < length c.args.dst.now =
    omega (arith, c.if-filled-dst.false, c.fill_from-filled.auto.dst, c.fill_from-filled.ensures.count) in
    FillsSlices-same _ _ _ _ _ all
    (FillsSlices-more c.fill_from-filled.result c.fill_from.result _ c.fill_from-filled.new.dst c.fill_from.new.dst _ _ room c.fill_from-filled.auto.dst
    (search rules) c.fill_from-filled.ensures c.fill_from.ensures)
