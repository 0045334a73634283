use Rattle.std.proofs.Common.{[], ap, ◌∙◌}
use Rattle.bytes_utils_protocols.proofs.MultipartStreamLemmas.{closes_step}
use Rattle.bytes_utils_protocols.specs.MultipartWaiting.{MultipartWaiting}
use Rattle.bytes_utils_protocols.proofs.multipart.progress.Progress.next_head.Goals as goal

pub returns-then-strip_prefix-clause-step : goal.returns-then-strip_prefix-clause-step
returns-then-strip_prefix-clause-step c =
    let cleared = c.clear.ensures ∙ ap (λ (w : MultipartWaiting). record w { held = [] }) (c.strip_prefix.ensures.stripped c.if-strip_prefix.true) in
    closes_step c.args.self.now c.clear.new.self c.requires.place (c.strip_prefix.ensures.began.0 c.if-strip_prefix.true) cleared
