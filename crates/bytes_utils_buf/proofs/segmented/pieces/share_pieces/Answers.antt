use Rattle.std.proofs.Common.{◌<◌, map, arith, rules}
use Rattle.bytes_utils_buf.proofs.Pieces.{Gives-more, inside}
use Rattle.bytes_utils_buf.proofs.segmented.pieces.share_pieces.Goals as goal

pub part_of_piece-requires-clause-some : goal.part_of_piece-requires-clause-some
part_of_piece-requires-clause-some g c =
    let l = c.loop-left in
    inside g.B.Buf.unread c.args.bufs.now.items l.place.passed l.place.offset l.left (search rules) l.invariant.gives.enough

pub loop-left-preserved : goal.loop-left-preserved
loop-left-preserved g c =
    let l = c.loop-left in
    let some : 0 < l.left = search rules in
    record {
      inside = omega arith;
      gives = rw (c.in_ok-push_back.ensures.items, c.len-left.ensures.value)
          (Gives-more (map g.B.Buf.unread c.args.bufs.now.items) l.place.passed l.place.offset l.left _ l.pieces.items c.in_ok-piece.piece l.invariant.gives some c.in_ok-piece.ensures.value);
    }
