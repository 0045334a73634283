use Rattle.std.proofs.Common.{◌≡◌, ℕ, Bool, true, false, List, take, sym, subst, ap, ◌∙◌}
use Rattle.std.proofs.lemmas.Bool.{false≢true}
use Rattle.std.proofs.lemmas.Result.{err_from_is_err_and}
use Rattle.bytes_utils_protocols.specs.Multipart.{AreMultipartFields, IsMultipartHead, IsMultipartPadding}
use Rattle.bytes_utils_protocols.specs.MultipartStream.{IsPartHeadFault, part_streaming}
use Rattle.bytes_utils_protocols.specs.declared.multipart.progress.Progress.{Progress}
use Rattle.bytes_utils_protocols.proofs.MultipartStreamLemmas.{asks_at_head, awaits_step, empty_head_given, failed_step, fault_at_head, head_given, no_wait_at_head, parse_fault, refused_step}
use Rattle.bytes_utils_protocols.proofs.multipart.progress.Progress.take_head.Goals as goal

-- more than padding is before the end of a head
not_padding : (held old : List ℕ) (len : ℕ) (is : Bool) → held ≡ old → is ≡ false → (IsMultipartPadding (take len held) → is ≡ true) → ¬ IsMultipartPadding (take len old)
not_padding held old len is same unset set padding = false≢true (sym unset ∙ set (subst (λ l. IsMultipartPadding (take len l)) (sym same) padding))

pub returns-in_err-len-clause-step : goal.returns-in_err-len-clause-step
returns-in_err-len-clause-step c =
    let old = c.args.self.now in
    let out = err_from_is_err_and c.from_residual.result c.from_residual.ensures.1 in
    let why = subst (λ e. IsPartHeadFault e old.waiting.delimiter old.limits old.waiting.held) (sym out.2) c.in_err-len.ensures.found.0 in
    failed_step (part_streaming old) (part_streaming c.head_len.new.self) c.from_residual.result out.0 out.1 (ap part_streaming c.head_len.ensures.same)
    (fault_at_head out.0 (part_streaming old) (c.requires.place, c.requires.goes_on) (no_wait_at_head old c.requires.place c.in_err-len.ensures.found.1) why)

pub returns-in_default-clause-step : goal.returns-in_default-clause-step
returns-in_default-clause-step c =
    awaits_step c.args.self.now (part_streaming c.head_len.new.self) c.requires.place c.requires.goes_on (ap part_streaming c.head_len.ensures.same) (rw c.in_default.is at c.in_ok-len.ensures.found)

pub returns-then-begins_with_padding-clause-step : goal.returns-then-begins_with_padding-clause-step
returns-then-begins_with_padding-clause-step c =
    let old = c.args.self.now in
    let found = rw c.in-Some.is at c.in_ok-len.ensures.found in
    let padding = subst (λ (p : Progress). IsMultipartPadding (take c.in-Some.len p.waiting.held)) c.head_len.ensures.same (c.begins_with_padding.ensures.0 c.if-begins_with_padding.true) in
    empty_head_given old c.head_len.new.self c.pass_head.new.self c.head_len.new.self.head_end c.in-Some.len c.pass_head.result c.empty.result c.head_len.ensures.same c.requires.place
    found.0 padding c.empty.ensures c.pass_head.ensures.event c.pass_head.ensures.passed

pub returns-in_err-peek-clause-step : goal.returns-in_err-peek-clause-step
returns-in_err-peek-clause-step c =
    let old = c.args.self.now in
    let out = err_from_is_err_and c.from_residual-in_err-peek.result c.from_residual-in_err-peek.ensures.1 in
    let some = not_padding c.head_len.new.self.waiting.held old.waiting.held c.in-Some.len _ (ap (λ (p : Progress). p.waiting.held) c.head_len.ensures.same) c.if-begins_with_padding.false c.begins_with_padding.ensures.1 in
    let found = rw c.in-Some.is at c.in_ok-len.ensures.found in
    refused_step (part_streaming old) (part_streaming c.head_len.new.self) c.from_residual-in_err-peek.result out.0 c.in_err-peek.field-0.0 out.1 out.2 c.in_err-peek.ensures.reason
    (asks_at_head old c.in-Some.len c.requires.place c.requires.goes_on found.0 some) (no_wait_at_head old c.requires.place found.1) (ap part_streaming c.head_len.ensures.same)

pub returns-in_err-head-clause-step : goal.returns-in_err-head-clause-step
returns-in_err-head-clause-step c =
    let old = c.args.self.now in
    let len = c.in-Some.len in
    let out = err_from_is_err_and c.from_residual-in_err-head.result c.from_residual-in_err-head.ensures.1 in
    let some = not_padding c.head_len.new.self.waiting.held old.waiting.held len _ (ap (λ (p : Progress). p.waiting.held) c.head_len.ensures.same) c.if-begins_with_padding.false c.begins_with_padding.ensures.1 in
    let front : c.in_ok-peek.field-0 ≡ take len old.waiting.held = c.in_ok-peek.ensures.value ∙ ap (λ (p : Progress). take len p.waiting.held) c.head_len.ensures.same in
    failed_step (part_streaming old) (part_streaming c.head_len.new.self) c.from_residual-in_err-head.result out.0 out.1 (ap part_streaming c.head_len.ensures.same)
    (parse_fault old len c.requires.place c.requires.goes_on (rw c.in-Some.is at c.in_ok-len.ensures.found) some out.0
    (λ is. subst (λ l. (head : List ℕ) → IsMultipartHead l head → ¬ AreMultipartFields head) front (c.in_err-head.ensures.malformed (sym out.2 ∙ is)))
    (λ is. c.in_err-head.ensures.too_large (sym out.2 ∙ is))
    (λ is. let found = c.in_err-head.ensures.not_utf8 (sym out.2 ∙ is) in (found.0, subst (λ l. IsMultipartHead l found.0) front found.1, found.2))
    (λ reason is. c.in_err-head.ensures.reason reason (sym out.2 ∙ is)))

pub returns-clause-step : goal.returns-clause-step
returns-clause-step c =
    let old = c.args.self.now in
    let len = c.in-Some.len in
    let head = c.in_ok-head.head in
    let front : c.in_ok-peek.field-0 ≡ take len old.waiting.held = c.in_ok-peek.ensures.value ∙ ap (λ (p : Progress). take len p.waiting.held) c.head_len.ensures.same in
    let found = rw c.in-Some.is at c.in_ok-len.ensures.found in
    head_given old c.head_len.new.self c.pass_head-2.new.self c.head_len.new.self.head_end len head c.pass_head-2.result c.head_len.ensures.same c.requires.place
    found.0 (subst (λ l. IsMultipartHead l head.text) front c.in_ok-head.ensures.head) c.in_ok-head.ensures.fields c.in_ok-head.ensures.name
    c.in_ok-head.ensures.file_name c.pass_head-2.ensures.event c.pass_head-2.ensures.passed
