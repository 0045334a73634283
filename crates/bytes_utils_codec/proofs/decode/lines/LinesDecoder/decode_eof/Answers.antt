use Rattle.bytes_utils_codec.specs.Decoding.{decoding}
use Rattle.bytes_utils_codec.proofs.LineReadingLemmas.{ends_line}
use Rattle.bytes_utils_codec.proofs.decode.lines.LinesDecoder.decode_eof.Goals as goal

pub returns : goal.returns
returns c =
    let took = rw c.in_default.is at c.in_ok-line.ensures in
    let old = decoding c.args.self.now c.args.held.now in
    let mid = decoding c.take_line.new.self c.take_line.new.held in
    let new = decoding c.take_last.new.self c.take_last.new.held in
    record { step = ends_line old mid new took c.take_last.result c.take_last.ensures }
