use Rattle.std.proofs.Common.{map, take}
use Rattle.std.specs.Io.KnownBytes.{Appends}
use Rattle.std.specs.List.{concat}
use Rattle.bytes_utils_run.proofs.program.print.print_all.Given as goal

abbrev pub invariant-loop-entry : goal.invariant-loop-entry
invariant-loop-entry g l =
    Appends (g.W.Write.contents l.initial.writer) (g.W.Write.contents l.writer) (concat (map g.E.Printable.printed (take l.entry-index l.entries)))
