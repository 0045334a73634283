use Rattle.std.proofs.Common.{◌≤◌, ◌++◌, length, take, drop}
use Rattle.std.specs.List.{concat}
use Rattle.bytes_utils_codec.proofs.FindLemmas.{Fills}
use Rattle.bytes_utils_codec.proofs.find.fill_find_window.Given as goal

abbrev pub invariant-loop-i : goal.invariant-loop-i
invariant-loop-i g l =
    (l.filled ≤ length l.window)
    × Fills (length l.fn.window) (l.fn.piece ++ concat (drop l.next l.buf.segments)) l.buf.segments (take l.filled l.window) l.i
