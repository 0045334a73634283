use Rattle.std.proofs.Common.{◌∙◌, subst, sym}
use Rattle.std.proofs.lemmas.Result.{IfOk-weaker}
use Rattle.std.specs.Str.{IsTrimStart}
use Rattle.bytes_utils.proofs.EndsLemmas.{start_boundary, start_is}
use Rattle.bytes_utils.proofs.string.text.StrInner.trim_start_bytes.Goals as goal

pub cut_before-requires : goal.cut_before-requires
cut_before-requires g c = rw (← c.as_str-text.ensures.value) (start_boundary _ _ c.trim_start.utf8 c.trim_start.ensures.value)

pub returns-clause-place : goal.returns-clause-place
returns-clause-place g c =
    let is = start_is _ _ c.trim_start.utf8 c.trim_start.ensures.value in
    rw (← c.as_str-text.ensures.value) (IfOk-weaker c.cut_before.result _ (IsTrimStart c.as_str-text.result.now) (λ part e. subst (IsTrimStart c.as_str-text.result.now) (sym (e ∙ is)) c.trim_start.ensures.value) (rw (← c.as_str-text.ensures.value) at c.cut_before.ensures.rest))
