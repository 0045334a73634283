use Rattle.std.proofs.Common.{List, ℕ, length, drop, ap, ◌∙◌}
use Rattle.std.proofs.lemmas.List.{drop-drop}
use Rattle.bytes_utils_protocols.specs.Multipart.{multipart_head_end}
use Rattle.bytes_utils_protocols.specs.MultipartWaiting.{MultipartWaiting}
use Rattle.bytes_utils_protocols.specs.declared.multipart.progress.Place.TheVariants.{InBody}
use Rattle.bytes_utils_protocols.proofs.multipart.progress.Progress.pass_head.Goals as goal

pub returns-clause-passed : goal.returns-clause-passed
returns-clause-passed c =
    let old = c.args.self.now in
    let end = length multipart_head_end in
    let waits = c.advance-2.ensures ∙ ap (λ (w : MultipartWaiting). record w { held = drop end w.held }) c.advance.ensures
    ∙ ap (λ (l : List ℕ). record old.waiting { held = l }) (drop-drop end c.args.len old.waiting.held) in
    ap (λ (w : MultipartWaiting). record old { waiting = w; place = InBody; room = old.limits.body }) waits
