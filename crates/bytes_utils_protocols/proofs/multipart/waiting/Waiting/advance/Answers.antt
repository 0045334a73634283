use Rattle.std.specs.List.{concat}
use Rattle.bytes_utils_protocols.proofs.MultipartStreamLemmas.{taken_apart}
use Rattle.bytes_utils_protocols.proofs.multipart.waiting.Waiting.advance.Goals as goal

pub invariant_of-self : goal.invariant_of-self
invariant_of-self c =
    let s = c.self.inside in
    taken_apart s.delimiter c.pass.new.search (concat s.pieces.held.segments) (concat c.advance.new.self.held.segments) c.args.len (rw (← c.self.view_is) at c.requires) c.advance.ensures.bytes c.pass.ensures c.self.invariant
