use Rattle.std.proofs.Common.{ap, arith}
use Rattle.bytes_utils_codec.specs.Cursor.{CursorReading}
use Rattle.bytes_utils_codec.proofs.CursorLemmas.{CursorTakesFirst-passed}
use Rattle.bytes_utils_codec.proofs.cursor.Cursor.take.Goals as goal

pub returns-clause-gives : goal.returns-clause-gives
returns-clause-gives g c =
    let took = c.in_ok-take_bytes.ensures in
    record {
      bytes = rw (took.bytes, took.passed) (CursorTakesFirst-passed c.args.self.now c.args.len (omega arith));
      waits = tt;
      segments = ap (λ (r : CursorReading). r.segments) took.passed;
      err = tt;
    }
