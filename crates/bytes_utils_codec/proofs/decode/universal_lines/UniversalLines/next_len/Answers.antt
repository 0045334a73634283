use Rattle.bytes_utils_codec.specs.Decoding.{decoding}
use Rattle.bytes_utils_codec.proofs.UniversalReadingLemmas.{finds_then, reaches_then}
use Rattle.bytes_utils_codec.proofs.decode.universal_lines.UniversalLines.next_len.Goals as goal

pub returns : goal.returns
returns c =
    let s = decoding c.args.self.now c.args.held.now in
    let mid = decoding c.pass_long.new.self c.pass_long.new.held in
    finds_then s mid c.find_len.result (decoding c.find_len.new.self c.pass_long.new.held)
    (reaches_then s (decoding c.pass_feed.new.self c.pass_feed.new.held) c.pass_feed.ensures mid c.if-not-pass_long.ensures) c.find_len.ensures
