use Rattle.std.specs.List.{concat}
use Rattle.std.proofs.Common.{arith}
use Rattle.bytes_utils_codec.proofs.CursorLemmas.{found_after, missed_after}
use Rattle.bytes_utils_codec.proofs.cursor.Cursor.find.Goals as goal

pub returns-in_err-place-clause-missed : goal.returns-in_err-place-clause-missed
returns-in_err-place-clause-missed g c =
    let q = c.self.inside in
    rw (← c.self.view_is) (rw c.from_residual.ensures (missed_after c.args.needle.now (concat q.buf.now.segments) q.at (omega (arith, c.self.invariant)) c.in_err-place.ensures.found))

pub returns-clause-found : goal.returns-clause-found
returns-clause-found g c =
    let q = c.self.inside in
    rw (← c.self.view_is) (found_after c.args.needle.now (concat q.buf.now.segments) q.at c.in_ok-place.place c.in_ok-place.ensures.found)
