use Rattle.std.proofs.Common.{◌≡◌, length, take}
use Rattle.std.specs.List.{concat}
use Rattle.memchr.specs.Find.{Nowhere}
use Rattle.bytes_utils_codec.specs.UniversalLines.{IsUniversalEndAt}
use Rattle.bytes_utils_codec.proofs.find_end.find_end.Given as goal

abbrev pub invariant-loop-index : goal.invariant-loop-index
invariant-loop-index g l = record {
  base : l.base ≡ length (concat (take l.index l.buf.segments));
  none : Nowhere (IsUniversalEndAt (concat l.buf.segments)) l.start l.base;
}
