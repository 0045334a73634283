use Rattle.std.proofs.Common.{◌-◌, ◌≤◌, length, map, take, vec_capacity}
use Rattle.std.specs.List.{concat}
use Rattle.bytes_utils_buf.specs.Segments.{IsInsideSegment, segments_from}
use Rattle.bytes_utils_buf.proofs.Pieces.{Has}
use Rattle.bytes_utils_buf.proofs.segmented.pieces.copy_pieces.Given as goal

abbrev pub invariant-loop-place : goal.invariant-loop-place
invariant-loop-place g l =
    let lists = map g.B.Buf.unread l.bufs.items in
    record {
      room : l.fn.len ≤ vec_capacity l.copy;
      inside : IsInsideSegment l.place.passed l.place.offset lists;
      has : Has (segments_from l.place.passed l.place.offset lists) l.fn.len
          (take l.fn.len (concat (segments_from l.fn.from.passed l.fn.from.offset lists))) l.copy.items;
    }

abbrev pub decreases-loop-place : goal.decreases-loop-place
decreases-loop-place g l = length l.bufs.items - l.place.passed
