use Rattle.std.proofs.Common.{◌≤◌, ◌*◌, length}
use Rattle.std.specs.Io.KnownBytes.{Consumes}
use Rattle.bytes_utils_run.specs.declared.program.input.TheConstants.{BYTES_PER_READ}
use Rattle.bytes_utils_run.proofs.program.input.read_input.Given as goal

abbrev pub invariant-loop : goal.invariant-loop
invariant-loop g l = Consumes (g.R.Read.remaining l.initial.reader) (g.R.Read.remaining l.reader) l.bytes.items
    × (length l.bytes.items ≤ BYTES_PER_READ * l.counter)
