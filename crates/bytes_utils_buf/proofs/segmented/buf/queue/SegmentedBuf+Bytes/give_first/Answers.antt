use Rattle.std.proofs.Common.{◌<◌, length, map, arith, ap, length-append}
use Rattle.std.proofs.lemmas.List.Elements.{All-rest}
use Rattle.std.specs.List.{concat}
use Rattle.bytes_utils_buf.proofs.segmented.buf.queue.SegmentedBuf+Bytes.give_first.Goals as goal

pub invariant_of-self-2 : goal.invariant_of-self-2
invariant_of-self-2 c =
    let chunk = c.in-Some.chunk in
    let rest = map (λ b. b) c.pop_front.new.self.items in
    let lists = ap (map (λ b. b)) c.in-Some.ensures.items in (
      omega (arith, ap (λ l. length (concat l)) lists, length-append chunk (concat rest), c.len-size.ensures.value, c.self.invariant.0),
      All-rest (λ s. 0 < length s) chunk rest _ lists c.self.invariant.1,
      rw c.turn.ensures (omega (arith, ap length lists, c.self.invariant.2)),
    )
