use Rattle.std.proofs.Common.{◌-◌, ◌+◌, ◌≤◌, length}
use Rattle.std.specs.List.{concat}
use Rattle.memchr.specs.Find.{Nowhere, OccursAt}
use Rattle.bytes_utils_codec.proofs.find.find_far.Given as goal

-- the needle begins at no place from the start up to where the search goes on
abbrev pub invariant-loop-at : goal.invariant-loop-at
invariant-loop-at g l = record {
  low : l.start ≤ l.from;
  none : Nowhere (OccursAt (concat l.buf.segments) l.needle) l.start l.from;
}

abbrev pub decreases-loop-at : goal.decreases-loop-at
decreases-loop-at g l = length (concat l.buf.segments) + 1 - l.from
