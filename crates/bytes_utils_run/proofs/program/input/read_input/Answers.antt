use Rattle.std.proofs.KnownBytes.{Consumes-trans}
use Rattle.bytes_utils_run.proofs.program.input.read_input.Goals as goal

-- the bytes that the reader gave before, and then those for which memory was refused
pub returns-then-is_err-clause-err : goal.returns-then-is_err-clause-err
returns-then-is_err-clause-err g c = (_, Consumes-trans _ _ _ _ _ c.loop.invariant.0 c.in-Ok.ensures.bytes.0)
