use Rattle.std.proofs.Common.{◌≡◌, ◌-◌, ◌+◌, take, drop, arith, ap, ◌∙◌}
use Rattle.std.specs.List.{concat}
use Rattle.bytes_utils_buf.specs.Segments.{newly_held, take_from_segments}
use Rattle.bytes_utils_codec.specs.Cursor.{CursorReading}
use Rattle.bytes_utils_codec.proofs.CursorLemmas.{CursorTakesFirst-passed}
use Rattle.bytes_utils_codec.proofs.cursor.Cursor.take_segments.Goals as goal

pub returns-clause-gives : goal.returns-clause-gives
returns-clause-gives g c =
    let q = c.self.inside in
    let len = c.args.len in
    let rest = drop q.at (concat q.buf.now.segments) in
    let size : (q.at + len) - q.at ≡ len = omega arith in
    let front : concat c.in_ok-part.part.segments ≡ take len rest = c.in_ok-part.ensures.bytes ∙ ap (λ n. take n rest) size in
    let some = rw (← c.self.view_is) at c.remaining.ensures in
    record {
      bytes = rw (← c.self.view_is, front) (CursorTakesFirst-passed (record { segments = q.buf.now.segments; at = q.at }) len (omega (arith, some)));
      waits = tt;
      segments = ap (λ (r : CursorReading). r.segments) c.self.view_is;
      err = tt;
    }

pub returns-clause-pieces : goal.returns-clause-pieces
returns-clause-pieces g c =
    let q = c.self.inside in
    let part = c.in_ok-part.ensures.ok in
    let size : (q.at + c.args.len) - q.at ≡ c.args.len = omega arith in
    rw (← c.self.view_is) (record {
      rest = part.0;
      skips = part.1;
      are = part.2 ∙ ap (λ n. newly_held (take_from_segments n part.0)) size;
    })
