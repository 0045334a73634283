use Rattle.std.proofs.Common.{refl, inl, ap, ◌∙◌}
use Rattle.std.proofs.lemmas.Result.{err_from_is_err_and}
use Rattle.bytes_utils_protocols.specs.MultipartStream.{part_streaming}
use Rattle.bytes_utils_protocols.proofs.MultipartStreamLemmas.{failed_step, over_step}
use Rattle.bytes_utils_protocols.proofs.multipart.progress.Progress.next_event.Goals as goal

pub returns-in_err-pass_preamble-clause-call : goal.returns-in_err-pass_preamble-clause-call
returns-in_err-pass_preamble-clause-call c =
    let old = part_streaming c.args.self.now in
    let why = c.in_err-pass_preamble.ensures.over in
    let out = err_from_is_err_and c.from_residual.result c.from_residual.ensures.1 in
    (old, inl refl, failed_step old (part_streaming c.pass_preamble.new.self) c.from_residual.result out.0 out.1 (ap part_streaming c.in_err-pass_preamble.ensures.err) (over_step old out.0 (inl why.1) (out.2 ∙ why.0) why.2 c.in_err-pass_preamble.ensures.many))

pub returns-clause-call : goal.returns-clause-call
returns-clause-call c = (part_streaming c.pass_preamble.new.self, c.in_ok-pass_preamble.ensures.ok, c.next_after_preamble.ensures.step)
