use Rattle.std.proofs.Common.{arith, ap, ◌<◌, length, map, length-append}
use Rattle.std.proofs.lemmas.List.Elements.{All-rest}
use Rattle.std.specs.List.{concat}
use Rattle.bytes_utils_buf.proofs.segmented.buf.SegmentedBuf.pop.Goals as goal

pub invariant_of-self-2 : goal.invariant_of-self-2
invariant_of-self-2 g c =
    let f = g.B.Buf.unread in
    let front = f c.in_ok-front.front in
    let rest = map f c.pop_front.new.self.items in
    let lists = ap (map f) c.in_ok-front.ensures.items in (
      omega (arith, ap (λ l. length (concat l)) lists, length-append front (concat rest), c.remaining.ensures, c.self.invariant.0),
      All-rest (λ s. 0 < length s) front rest _ lists c.self.invariant.1,
      rw (c.turn.ensures, c.call.ensures) (omega (arith, ap length lists, c.self.invariant.2)),
    )
