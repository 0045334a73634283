use Rattle.std.proofs.Common.{map, arith}
use Rattle.std.proofs.lemmas.List.{length-map}
use Rattle.bytes_utils_buf.proofs.Lists.{length-concat-take_more}
use Rattle.bytes_utils_buf.proofs.segmented.place.place_from_front.Goals as goal

pub loop-size-preserved : goal.loop-size-preserved
loop-size-preserved g c =
    let items = c.args.bufs.now.items in
    let lists = map g.B.Buf.unread items in
    let some = c.in-Some.ensures.some in
    let sum = length-concat-take_more lists c.loop-size.passed (omega (arith, some.0, length-map items g.B.Buf.unread)) in
    record {
      within = omega (arith, some.0);
      left = omega (arith, sum, some.1, some.2, c.loop-size.invariant.left);
    }

pub returns : goal.returns
returns g c =
    let items = c.args.bufs.now.items in
    let size = length-map items g.B.Buf.unread in
    record {
      within = omega (arith, size, c.loop-size.invariant.within);
      before = c.loop-size.invariant.left;
      inside = λ h. c.in_default.ensures.none (omega (arith, h, size));
    }
