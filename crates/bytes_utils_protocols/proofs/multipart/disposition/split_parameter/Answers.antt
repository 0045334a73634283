use Rattle.std.proofs.Common.{subst, sym}
use Rattle.bytes_utils_protocols.specs.Disposition.{TakesDispositionSign, TakesDispositionValue}
use Rattle.bytes_utils_protocols.proofs.DispositionLemmas.{TakesDispositionSign-same, TakesDispositionToken-same}
use Rattle.bytes_utils_protocols.proofs.multipart.disposition.split_parameter.Goals as goal

pub returns-in_err-name-clause-none : goal.returns-in_err-name-clause-none
returns-in_err-name-clause-none c = rw c.from_residual.ensures (λ parameter rest is. c.in_err-name.ensures.none parameter.name is.after_name is.name)

pub returns-in_err-after_sign-clause-none : goal.returns-in_err-after_sign-clause-none
returns-in_err-after_sign-clause-none c =
    rw c.from_residual-in_err-after_sign.ensures (λ parameter rest is.
    let same = (TakesDispositionToken-same c.in_ok-name.ensures.some is.name).1 in
    c.in_err-after_sign.ensures.none is.after_sign (subst (λ l. TakesDispositionSign l is.after_sign) (sym same) is.sign))

pub returns-in_err-value-clause-none : goal.returns-in_err-value-clause-none
returns-in_err-value-clause-none c =
    rw c.from_residual-in_err-value.ensures (λ parameter rest is.
    let same = (TakesDispositionToken-same c.in_ok-name.ensures.some is.name).1 in
    let signs = TakesDispositionSign-same c.in_ok-after_sign.ensures.some (subst (λ l. TakesDispositionSign l is.after_sign) (sym same) is.sign) in
    c.in_err-value.ensures.none parameter.value rest (subst (λ l. TakesDispositionValue l parameter.value rest) (sym signs) is.value))
