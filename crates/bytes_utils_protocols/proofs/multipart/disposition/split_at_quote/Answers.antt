use Rattle.std.proofs.Common.{subst, sym, length}
use Rattle.bytes_utils_protocols.specs.Disposition.{IsDispositionStringEnd}
use Rattle.bytes_utils_protocols.proofs.DispositionLemmas.{string_end_boundary, string_end_is}
use Rattle.bytes_utils_protocols.proofs.multipart.disposition.split_at_quote.Goals as goal

pub returns-in_err-len-clause-none : goal.returns-in_err-len-clause-none
returns-in_err-len-clause-none c =
    rw c.from_residual.ensures (λ inner rest is. c.in_err-len.ensures.none (length inner) (subst (λ l. IsDispositionStringEnd l (length inner)) (sym c.as_bytes.ensures.value) (string_end_is is)))

pub split_at-requires-2 : goal.split_at-requires-2
split_at-requires-2 c = string_end_boundary c.args.text.now c.in_ok-len.len c.utf8.text (subst (λ l. IsDispositionStringEnd l c.in_ok-len.len) c.as_bytes.ensures.value c.in_ok-len.ensures.some)
