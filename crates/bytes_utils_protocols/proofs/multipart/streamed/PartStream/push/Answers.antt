use Rattle.std.proofs.Common.{◌∙◌, sym, ap}
use Rattle.bytes_utils_protocols.specs.MultipartStream.{part_streaming}
use Rattle.bytes_utils_protocols.proofs.MultipartLemmas.{push_of_all}
use Rattle.bytes_utils_protocols.proofs.MultipartStreamLemmas.{stream_pushed}
use Rattle.bytes_utils_protocols.proofs.multipart.streamed.PartStream.push.Goals as goal

pub returns-clause-pushed : goal.returns-clause-pushed
returns-clause-pushed c =
    let old = c.self.inside.progress in
    let on = sym c.has_ended.ensures ∙ c.if-has_ended.false in
    rw (← c.self.view_is) (push_of_all old.waiting.held c.args.piece c.push.result c.push.ensures (stream_pushed old c.push.new.self c.args.piece (rw (← c.self.view_is) at on)) (ap (λ w. part_streaming (record old { waiting = w }))))
