use Rattle.std.proofs.Common.{arith}
use Rattle.bytes_utils_codec.proofs.CursorLemmas.{TakesFrame-passed}
use Rattle.bytes_utils_codec.proofs.cursor.Cursor.read_found.Goals as goal

pub returns-clause-bytes : goal.returns-clause-bytes
returns-clause-bytes g c =
    rw (c.in_ok-front.ensures.bytes, c.advance.ensures, c.in_ok-front.ensures.passed)
    (TakesFrame-passed c.args.self.now c.args.len c.args.needle.now (omega (arith, c.requires.within)) c.requires.found)
