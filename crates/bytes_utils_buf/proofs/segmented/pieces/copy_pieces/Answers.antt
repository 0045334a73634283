use Rattle.std.proofs.Common.{◌≡◌, ◌-◌, ◌<◌, length, map, take, min, arith, rules, ap, ◌∙◌}
use Rattle.std.proofs.lemmas.List.{take_min}
use Rattle.bytes_utils_buf.proofs.Pieces.{Has-more, inside}
use Rattle.bytes_utils_buf.proofs.segmented.pieces.copy_pieces.Goals as goal

pub rest_of_piece-requires-clause-some : goal.rest_of_piece-requires-clause-some
rest_of_piece-requires-clause-some g c =
    let l = c.loop-place in
    let more : length l.copy.items < c.args.len = search rules in
    inside g.B.Buf.unread c.args.bufs.now.items l.place.passed l.place.offset (c.args.len - length l.copy.items) (omega (arith, more)) l.invariant.has.enough

pub loop-place-preserved : goal.loop-place-preserved
loop-place-preserved g c =
    let l = c.loop-place in
    let wanted = c.args.len - length l.copy.items in
    let chunk = c.rest_of_piece.result.now in
    let more : length l.copy.items < c.args.len = search rules in
    let count : c.copy_chunk.result ≡ min wanted (length chunk) = omega (arith, c.copy_chunk.ensures.count) in
    let is = ap (λ n. take n chunk) count ∙ take_min wanted chunk ∙ ap (take wanted) c.rest_of_piece.ensures in
    record {
      room = search rules;
      inside = omega arith;
      has = rw c.copy_chunk.ensures.bytes (Has-more (map g.B.Buf.unread c.args.bufs.now.items) l.place.passed l.place.offset c.args.len _ _ _ l.invariant.has more is);
    }
