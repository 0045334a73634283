use Rattle.std.proofs.Common.{map}
use Rattle.std.specs.Str.{chars}
use Rattle.bytes_utils_run.specs.AnySplitter.{HasGiven}
use Rattle.bytes_utils_run.proofs.cut.gather_cut.Given as goal

abbrev pub invariant-loop-item : goal.invariant-loop-item
invariant-loop-item g l = HasGiven l.fn.splitter (map chars l.given.items) l.item-iterator
