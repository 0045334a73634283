use Rattle.std.proofs.Common.{◌≤◌, length, arith}
use Rattle.std.specs.List.{concat}
use Rattle.bytes_utils_protocols.proofs.MultipartStreamLemmas.{taken_apart}
use Rattle.bytes_utils_protocols.proofs.multipart.waiting.Waiting.take.Goals as goal

pub invariant_of-self-2 : goal.invariant_of-self-2
invariant_of-self-2 c =
    let s = c.self.inside in
    let within : c.min-len.result ≤ length (concat s.pieces.held.segments) = omega (arith, c.chunk.ensures.fits, c.min-len.ensures) in
    taken_apart s.delimiter c.pass.new.search (concat s.pieces.held.segments) (concat c.take_bytes.new.self.held.segments) c.min-len.result within c.in_ok-piece.ensures.bytes c.pass.ensures c.self.invariant
