use Rattle.std.proofs.Common.{◌+◌, ◌∷◌, ◌++◌, [], false, ◌∙◌, sym, ap, append-nil, take, drop, arith}
use Rattle.std.proofs.lemmas.List.{drop_more, take_all}
use Rattle.bytes_utils_protocols.specs.Disposition.{fit_between_disposition_quotes}
use Rattle.bytes_utils_protocols.proofs.DispositionLemmas.{no_string_end}
use Rattle.bytes_utils_protocols.proofs.multipart.disposition.quote_place.Goals as goal

pub returns-then-not-escaped-clause-some : goal.returns-then-not-escaped-clause-some
returns-then-not-escaped-clause-some c =
    let text = c.args.text.now in
    let place = c.loop-place.place in
    record {
      here = drop_more text place 0 (omega (arith, c.loop-place-test.true)) ∙ ap (λ b. b ∷ drop (place + 1) text) c.if-byte-eq34.true;
      fit = ap (fit_between_disposition_quotes false) (sym (append-nil (take place text))) ∙ c.loop-place.invariant [] ∙ ap (λ e. fit_between_disposition_quotes e []) c.if-not-escaped.true;
    }

pub returns-clause-none : goal.returns-clause-none
returns-clause-none c =
    let text = c.args.text.now in
    let all = take_all c.loop-place.place text (omega (arith, c.loop-place-test.false)) in
    no_string_end text c.loop-place.escaped (λ more. ap (λ l. fit_between_disposition_quotes false (l ++ more)) (sym all) ∙ c.loop-place.invariant more)
