use Rattle.std.proofs.Common.{◌-◌, ◌≤◌, length, map, take}
use Rattle.std.specs.List.{concat}
use Rattle.bytes_utils_buf.specs.Segments.{IsInsideSegment, segments_from}
use Rattle.bytes_utils_buf.proofs.Pieces.{Has}
use Rattle.bytes_utils_buf.proofs.segmented.pieces.copy_pieces_into.Given as goal

abbrev pub invariant-loop-copied : goal.invariant-loop-copied
invariant-loop-copied g l =
    let lists = map g.B.Buf.unread l.bufs.items in
    record {
      within : l.copied ≤ length l.fn.dst;
      inside : IsInsideSegment l.place.passed l.place.offset lists;
      has : Has (segments_from l.place.passed l.place.offset lists) (length l.fn.dst)
          (take (length l.fn.dst) (concat (segments_from 0 0 lists))) (take l.copied l.dst);
    }

abbrev pub decreases-loop-copied : goal.decreases-loop-copied
decreases-loop-copied g l = length l.bufs.items - l.place.passed
