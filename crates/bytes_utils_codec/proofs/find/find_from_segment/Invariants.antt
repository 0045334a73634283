use Rattle.std.proofs.Common.{◌≡◌, length, take}
use Rattle.std.specs.List.{concat}
use Rattle.memchr.specs.Find.{Nowhere, OccursAt}
use Rattle.bytes_utils_codec.proofs.find.find_from_segment.Given as goal

abbrev pub invariant-loop-index : goal.invariant-loop-index
invariant-loop-index g l = record {
  base : l.base ≡ length (concat (take l.index l.buf.segments));
  none : Nowhere (OccursAt (concat l.buf.segments) l.fn.finder) l.start l.base;
}
