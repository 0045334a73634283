use Rattle.std.proofs.Common.{rules, ◌≢◌, ◌∙◌, sym, subst, inl, inr, [], ◌∷◌, ◌++◌, List, ℕ, arith, option_map}
use Rattle.std.proofs.lemmas.Bool.{false≢true}
use Rattle.std.proofs.lemmas.List.Elements.{All-nil}
use Rattle.bytes_utils_protocols.specs.Disposition.{DispositionParameter, IsDispositionNamed, TakesDispositionParameter, TakesDispositionToken, without_disposition_separators}
use Rattle.bytes_utils_protocols.proofs.DispositionLemmas.{found_named, found_none, lacks_next, not_two, read_kind, read_more, read_whole, seen_first, seen_none, seen_other, seen_some, whole_is}
use Rattle.bytes_utils_protocols.proofs.multipart.disposition.parameter_of.Goals as goal

pub returns-in_err-rest-clause-none : goal.returns-in_err-rest-clause-none
returns-in_err-rest-clause-none c =
    rw c.from_residual.ensures (λ value has.
    c.in_err-rest.ensures.none has.is.kind has.is.rest (subst (λ l. TakesDispositionToken l has.is.kind has.is.rest) (sym c.after_blanks.ensures.value) has.is.kind_is))

pub loop-rest-init : goal.loop-rest-init
loop-rest-init c = record {
  seen = [];
  so_far = read_kind (subst (λ l. TakesDispositionToken l c.in_ok-rest.field-0-0.now c.in_ok-rest.rest.now) c.after_blanks.ensures.value c.in_ok-rest.ensures.some);
  found = All-nil (λ other. ¬ IsDispositionNamed c.args.name.now other);
  text = search rules;
}

pub returns-then-not-begins_with_semicolon-clause-none : goal.returns-then-not-begins_with_semicolon-clause-none
returns-then-not-begins_with_semicolon-clause-none c value has =
    let now = c.loop-rest.invariant in
    let some : without_disposition_separators c.loop-rest.rest.now ≢ [] = λ e. false≢true (sym c.loop-rest-test.true ∙ c.has_only_separators.ensures.1 e) in
    lacks_next now.seen now.so_far some (inl (λ begins. false≢true (sym c.if-not-begins_with_semicolon.true ∙ c.begins_with_semicolon.ensures.1 begins))) has.parameters has.is

pub returns-in_err-parameter-clause-none : goal.returns-in_err-parameter-clause-none
returns-in_err-parameter-clause-none c =
    let now = c.loop-rest.invariant in
    let some : without_disposition_separators c.loop-rest.rest.now ≢ [] = λ e. false≢true (sym c.loop-rest-test.true ∙ c.has_only_separators.ensures.1 e) in
    let none : (parameter : DispositionParameter) (more : List ℕ) → ¬ TakesDispositionParameter (without_disposition_separators c.loop-rest.rest.now) parameter more =
    λ parameter more is. c.in_err-parameter.ensures.none parameter more (subst (λ l. TakesDispositionParameter l parameter more) (sym c.after_separators.ensures.value) is) in
    rw c.from_residual-in_err-parameter.ensures (λ value has. lacks_next now.seen now.so_far some (inr none) has.parameters has.is)

pub returns-then-is_some-clause-none : goal.returns-then-is_some-clause-none
returns-then-is_some-clause-none c value has =
    let now = c.loop-rest.invariant in
    let some : without_disposition_separators c.loop-rest.rest.now ≢ [] = λ e. false≢true (sym c.loop-rest-test.true ∙ c.has_only_separators.ensures.1 e) in
    let begins = c.begins_with_semicolon.ensures.0 c.if-not-begins_with_semicolon.false in
    let parameter : DispositionParameter = record { name = c.in_ok-parameter.parameter.name.now; value = c.in_ok-parameter.parameter.value.now } in
    let is = subst (λ l. TakesDispositionParameter l parameter c.in_ok-parameter.after.now) c.after_separators.ensures.value c.in_ok-parameter.ensures.some in
    let known = seen_some c.args.name.now now.seen c.loop-rest.found (sym c.is_some.ensures ∙ c.if-is_some.true) now.found in
    not_two now.seen now.so_far some begins is c.args.name.now known.1 (c.eq_ignore_ascii_case.ensures.test.0 c.if-eq_ignore_ascii_case.true) value has

pub loop-rest-smaller-else-is_some : goal.loop-rest-smaller-else-is_some
loop-rest-smaller-else-is_some c = omega (arith, c.in_ok-parameter.ensures.fewer, c.after_separators.ensures.fewer)

pub loop-rest-smaller : goal.loop-rest-smaller
loop-rest-smaller c = omega (arith, c.in_ok-parameter.ensures.fewer, c.after_separators.ensures.fewer)

pub loop-rest-preserved-else-is_some : goal.loop-rest-preserved-else-is_some
loop-rest-preserved-else-is_some c =
    let now = c.loop-rest.invariant in
    let some : without_disposition_separators c.loop-rest.rest.now ≢ [] = λ e. false≢true (sym c.loop-rest-test.true ∙ c.has_only_separators.ensures.1 e) in
    let begins = c.begins_with_semicolon.ensures.0 c.if-not-begins_with_semicolon.false in
    let parameter : DispositionParameter = record { name = c.in_ok-parameter.parameter.name.now; value = c.in_ok-parameter.parameter.value.now } in
    let is = subst (λ l. TakesDispositionParameter l parameter c.in_ok-parameter.after.now) c.after_separators.ensures.value c.in_ok-parameter.ensures.some in
    let none = seen_none c.args.name.now now.seen c.loop-rest.found (sym c.is_some.ensures ∙ c.if-is_some.false) now.found in
    record {
      seen = now.seen ++ parameter ∷ [];
      so_far = read_more now.seen now.so_far some begins is;
      found = seen_first c.args.name.now now.seen parameter none (c.eq_ignore_ascii_case.ensures.test.0 c.if-eq_ignore_ascii_case.true);
      text = search rules;
    }

pub loop-rest-preserved : goal.loop-rest-preserved
loop-rest-preserved c =
    let now = c.loop-rest.invariant in
    let some : without_disposition_separators c.loop-rest.rest.now ≢ [] = λ e. false≢true (sym c.loop-rest-test.true ∙ c.has_only_separators.ensures.1 e) in
    let begins = c.begins_with_semicolon.ensures.0 c.if-not-begins_with_semicolon.false in
    let parameter : DispositionParameter = record { name = c.in_ok-parameter.parameter.name.now; value = c.in_ok-parameter.parameter.value.now } in
    let is = subst (λ l. TakesDispositionParameter l parameter c.in_ok-parameter.after.now) c.after_separators.ensures.value c.in_ok-parameter.ensures.some in
    record {
      seen = now.seen ++ parameter ∷ [];
      so_far = read_more now.seen now.so_far some begins is;
      found = seen_other c.args.name.now now.seen parameter (option_map (λ value. value.now) c.loop-rest.found) now.found (λ named. false≢true (sym c.if-eq_ignore_ascii_case.false ∙ c.eq_ignore_ascii_case.ensures.test.1 named));
      text = search rules;
    }

pub returns-clause-some : goal.returns-clause-some
returns-clause-some c =
    let now = c.loop-rest.invariant in
    let none = c.has_only_separators.ensures.0 c.loop-rest-test.false in
    found_named c.args.name.now c.args.text.now now.seen c.loop-rest.found (read_whole now.seen now.so_far none) now.found

pub returns-clause-none : goal.returns-clause-none
returns-clause-none c =
    let now = c.loop-rest.invariant in
    let none = c.has_only_separators.ensures.0 c.loop-rest-test.false in
    found_none c.args.name.now c.args.text.now now.seen c.loop-rest.found (whole_is now.seen now.so_far none) now.found
