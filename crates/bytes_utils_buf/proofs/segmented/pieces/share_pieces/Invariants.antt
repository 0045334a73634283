use Rattle.std.proofs.Common.{◌-◌, length, map}
use Rattle.bytes_utils_buf.specs.Segments.{IsInsideSegment, segments_from, take_from_segments}
use Rattle.bytes_utils_buf.proofs.Pieces.{Gives}
use Rattle.bytes_utils_buf.proofs.segmented.pieces.share_pieces.Given as goal

abbrev pub invariant-loop-left : goal.invariant-loop-left
invariant-loop-left g l =
    let lists = map g.B.Buf.unread l.bufs.items in
    record {
      inside : IsInsideSegment l.place.passed l.place.offset lists;
      gives : Gives (segments_from l.place.passed l.place.offset lists) l.left
          (take_from_segments l.fn.len (segments_from l.fn.from.passed l.fn.from.offset lists)) l.pieces.items;
    }

abbrev pub decreases-loop-left : goal.decreases-loop-left
decreases-loop-left g l = length l.bufs.items - l.place.passed
