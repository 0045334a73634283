use Rattle.std.proofs.Common.{◌-◌, length, map, take}
use Rattle.std.specs.List.{concat}
use Rattle.bytes_utils_buf.specs.Segments.{IsInsideSegment, segments_from}
use Rattle.bytes_utils_buf.proofs.Pieces.{Matches}
use Rattle.bytes_utils_buf.proofs.segmented.pieces.pieces_start_with.Given as goal

abbrev pub invariant-loop-rest : goal.invariant-loop-rest
invariant-loop-rest g l =
    let lists = map g.B.Buf.unread l.bufs.items in
    record {
      inside : IsInsideSegment l.place.passed l.place.offset lists;
      matches : Matches (segments_from l.place.passed l.place.offset lists) l.fn.prefix
          (take (length l.fn.prefix) (concat (segments_from l.fn.from.passed l.fn.from.offset lists))) l.rest;
    }

abbrev pub decreases-loop-rest : goal.decreases-loop-rest
decreases-loop-rest g l = length l.bufs.items - l.place.passed
