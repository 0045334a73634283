use Rattle.std.proofs.Common.{◌≡◌, ◌+◌, ◌-◌, ◌<◌, ◌++◌, length, map, take, arith, rules, ap, ◌∙◌, length-take, length-take-le}
use Rattle.std.proofs.lemmas.Slice.{take-put_mid}
use Rattle.std.specs.List.{concat}
use Rattle.bytes_utils_buf.specs.Segments.{front_segment, segments_from}
use Rattle.bytes_utils_buf.proofs.Pieces.{Has-more, inside}
use Rattle.bytes_utils_buf.proofs.segmented.pieces.copy_pieces_into.Goals as goal

pub piece_at-piece-requires-clause-some : goal.piece_at-piece-requires-clause-some
piece_at-piece-requires-clause-some g c =
    let l = c.loop-copied in
    let size = length-take-le l.copied l.dst (omega (arith, c.loop-copied-test.true)) in
    inside g.B.Buf.unread c.args.bufs.now.items l.place.passed l.place.offset (length c.args.dst.now - length (take l.copied l.dst))
    (omega (arith, c.loop-copied-test.true, size, l.auto.dst)) l.invariant.has.enough

pub loop-copied-preserved : goal.loop-copied-preserved
loop-copied-preserved g c =
    let lists = map g.B.Buf.unread c.args.bufs.now.items in
    let l = c.loop-copied in
    let here = segments_from l.place.passed l.place.offset lists in
    let wanted = length c.args.dst.now in
    let had = take l.copied l.dst in
    let piece = c.piece_at-piece.result.now in
    let same = l.auto.dst in
    let more : l.copied < length l.dst = c.loop-copied-test.true in
    let size = length-take-le l.copied l.dst (omega (arith, more)) in
    let left : length l.dst - l.copied ≡ wanted - length had = omega (arith, same, size) in
    let is = c.piece_at-piece.ensures ∙ ap (λ n. take n (front_segment here)) left in
    let part = ap length c.piece_at-piece.ensures ∙ length-take (length l.dst - l.copied) (front_segment here) in
    let new = c.copy_from_slice.new.self in
    let whole : new ≡ piece = search rules in
    let front = take-put_mid l.copied (l.copied + length piece - l.copied) l.dst new (l.copied + length piece) (omega (arith, ap length whole)) (omega (arith, more)) in
    record {
      within = omega (arith, part, same, more);
      inside = omega arith;
      has = rw (front ∙ ap (λ p. had ++ p) whole)
          (Has-more lists l.place.passed l.place.offset wanted (take wanted (concat (segments_from 0 0 lists))) had piece l.invariant.has (omega (arith, size, more, same)) is);
    }
