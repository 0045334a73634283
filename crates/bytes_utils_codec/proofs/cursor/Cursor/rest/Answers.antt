use Rattle.std.proofs.Common.{length, arith, ap, length-drop}
use Rattle.std.specs.List.{concat}
use Rattle.bytes_utils_codec.proofs.cursor.Cursor.rest.Goals as goal

pub returns-clause-none : goal.returns-clause-none
returns-clause-none g c empty =
    let q = c.self.inside in
    c.slice.ensures.none (omega (arith, c.self.invariant, length-drop q.at (concat q.buf.now.segments), ap length (rw (← c.self.view_is) at empty)))
