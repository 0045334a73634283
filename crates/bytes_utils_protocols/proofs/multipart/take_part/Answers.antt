use Rattle.std.proofs.Common.{◌∙◌, sym, take, drop, ◌+◌, length}
use Rattle.std.proofs.lemmas.Result.{err_from_is_err_and}
use Rattle.std.specs.List.{concat}
use Rattle.bytes_utils_protocols.specs.Multipart.{multipart_head_end}
use Rattle.bytes_utils_protocols.specs.declared.multipart.limits.PartError.TheVariants.{Refused}
use Rattle.bytes_utils_protocols.proofs.MultipartLemmas.{fault_in_found, raw_fault}
use Rattle.bytes_utils_protocols.proofs.multipart.take_part.Goals as goal

pub returns-in_err-front-clause-fault : goal.returns-in_err-front-clause-fault
returns-in_err-front-clause-fault c =
    let s = c.args.sections.now in
    let raw = concat s.found.segments in
    let at = c.requires.within c.requires.found in
    let out = err_from_is_err_and c.from_residual.result c.from_residual.ensures.1 in
    rw (out.1, out.2) (fault_in_found s c.requires.found c.requires.divided c.args.limits c.requires.few (Refused c.in_err-front.field-0.0) (c.in_err-front.ensures.reason, take s.head_len raw, drop (s.head_len + length multipart_head_end) raw, at.1))

pub returns-in_err-text-clause-fault : goal.returns-in_err-text-clause-fault
returns-in_err-text-clause-fault c =
    let s = c.args.sections.now in
    let at = c.requires.within c.requires.found in
    let front = c.in_ok-front.ensures.value in
    let why = c.in_err-text.ensures in
    let out = err_from_is_err_and c.from_residual-in_err-text.result c.from_residual-in_err-text.ensures.1 in
    rw out.1 (fault_in_found s c.requires.found c.requires.divided c.args.limits c.requires.few out.0
    (raw_fault c.args.limits (concat s.found.segments) s.head_len at out.0
    (λ is. rw front at why.malformed (sym out.2 ∙ is))
    (λ is. why.too_large (sym out.2 ∙ is))
    (λ is. rw front at why.not_utf8 (sym out.2 ∙ is))
    (λ reason is. why.reason reason (sym out.2 ∙ is))))
