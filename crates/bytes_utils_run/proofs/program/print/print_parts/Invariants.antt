use Rattle.std.proofs.Common.{ℕ, List, [], map}
use Rattle.std.specs.Io.KnownBytes.{Appends}
use Rattle.std.specs.List.{concat}
use Rattle.bytes_utils_run.specs.AnySplitter.{AreToCome, HasGiven}
use Rattle.bytes_utils_run.specs.Printed.{printed_part}
use Rattle.bytes_utils_run.proofs.program.print.print_parts.Given as goal

-- these parts were given and printed
abbrev pub invariant-loop-item : goal.invariant-loop-item
invariant-loop-item g l = record {
  parts : List (List ℕ);
  given : HasGiven l.fn.splitter parts l.item-iterator;
  none : AreToCome l.fn.splitter [] → AreToCome l.item-iterator [];
  printed : Appends (g.W.Write.contents l.initial.writer) (g.W.Write.contents l.writer) (concat (map printed_part parts));
}
