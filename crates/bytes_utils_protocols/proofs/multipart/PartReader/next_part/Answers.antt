use Rattle.std.proofs.Common.{arith, ◌<◌, ◌≤◌, ◌+◌, ◌∙◌, sym, refl, subst, length}
use Rattle.std.proofs.lemmas.Bool.{false≢true}
use Rattle.std.proofs.lemmas.Result.{err_from_is_err_and}
use Rattle.bytes_utils_protocols.specs.Multipart.{AfterMultipartSearch}
use Rattle.bytes_utils_protocols.specs.declared.multipart.limits.PartError.TheVariants.{TooLarge}
use Rattle.bytes_utils_protocols.proofs.MultipartLemmas.{due_by_fault, fault_is, fault_of_same, few_wait, idle_after, none_after, none_by_fault, over_limits}
use Rattle.bytes_utils_protocols.proofs.multipart.PartReader.next_part.Goals as goal

pub returns-in_err-search-clause-malformed : goal.returns-in_err-search-clause-malformed
returns-in_err-search-clause-malformed c =
    let out = err_from_is_err_and c.from_residual.result c.from_residual.ensures.1 in
    rw (← c.self.view_is) (rw out.1 (λ is. (fault_is c.self.inside.sections c.self.inside.limits _ _ c.in_err-search.ensures.fault (sym out.2 ∙ is)).1))

pub returns-in_err-search-clause-due : goal.returns-in_err-search-clause-due
returns-in_err-search-clause-due c =
    let out = err_from_is_err_and c.from_residual.result c.from_residual.ensures.1 in
    rw (← c.self.view_is) (rw out.1 (λ not_large. due_by_fault c.self.inside.sections c.self.inside.limits _ c.in_err-search.ensures.fault (λ is. not_large (out.2 ∙ is))))

pub returns-in_err-search-clause-too_large : goal.returns-in_err-search-clause-too_large
returns-in_err-search-clause-too_large c =
    let out = err_from_is_err_and c.from_residual.result c.from_residual.ensures.1 in
    rw (← c.self.view_is) (rw out.1 (λ is. none_by_fault c.self.inside.sections c.self.inside.limits _ c.in_err-search.ensures.fault (sym out.2 ∙ is)))

pub returns-in_err-search-clause-over : goal.returns-in_err-search-clause-over
returns-in_err-search-clause-over c =
    let out = err_from_is_err_and c.from_residual.result c.from_residual.ensures.1 in
    rw (← c.self.view_is) (rw out.1 (λ is. fault_is c.self.inside.sections c.self.inside.limits _ _ c.in_err-search.ensures.fault (sym out.2 ∙ is)))

pub returns-in_err-search-clause-not_utf8 : goal.returns-in_err-search-clause-not_utf8
returns-in_err-search-clause-not_utf8 c =
    let out = err_from_is_err_and c.from_residual.result c.from_residual.ensures.1 in
    rw (← c.self.view_is) (rw out.1 (λ is. let f = fault_is c.self.inside.sections c.self.inside.limits _ _ c.in_err-search.ensures.fault (sym out.2 ∙ is) in (f.1, f.2, f.3, f.4)))

pub returns-in_err-search-clause-reason : goal.returns-in_err-search-clause-reason
returns-in_err-search-clause-reason c =
    let out = err_from_is_err_and c.from_residual.result c.from_residual.ensures.1 in
    rw out.1 (λ reason is. (fault_is c.self.inside.sections c.self.inside.limits _ _ c.in_err-search.ensures.fault (sym out.2 ∙ is)).0)

pub returns-in_err-search-clause-asks : goal.returns-in_err-search-clause-asks
returns-in_err-search-clause-asks c =
    let out = err_from_is_err_and c.from_residual.result c.from_residual.ensures.1 in
    rw (← c.self.view_is) (rw out.1 (λ reason is. (fault_is c.self.inside.sections c.self.inside.limits _ _ c.in_err-search.ensures.fault (sym out.2 ∙ is)).1))

pub returns-then-is_over-clause-too_large : goal.returns-then-is_over-clause-too_large
returns-then-is_over-clause-too_large c _ =
    let new = c.search.new.self in
    let limits = c.self.inside.limits in
    let waits = c.is_over.ensures.over.0 c.if-is_over.true in
    let long : limits.head + limits.body + length new.waiting.delimiter < length new.waiting.held = omega (arith, waits.1, c.is_over.ensures.fits, c.most_multipart_bytes.ensures) in
    let over = over_limits limits c.self.inside.sections new new.stage refl c.in_ok-search.ensures.ok c.search.ensures.divided waits.0 long in
    rw (← c.self.view_is) (none_by_fault c.self.inside.sections limits TooLarge over refl)

pub returns-then-is_over-clause-over : goal.returns-then-is_over-clause-over
returns-then-is_over-clause-over c _ =
    let new = c.search.new.self in
    let limits = c.self.inside.limits in
    let waits = c.is_over.ensures.over.0 c.if-is_over.true in
    let long : limits.head + limits.body + length new.waiting.delimiter < length new.waiting.held = omega (arith, waits.1, c.is_over.ensures.fits, c.most_multipart_bytes.ensures) in
    rw (← c.self.view_is) (over_limits limits c.self.inside.sections new new.stage refl c.in_ok-search.ensures.ok c.search.ensures.divided waits.0 long)

pub returns-in_err-take_part-in-Found-clause-malformed : goal.returns-in_err-take_part-in-Found-clause-malformed
returns-in_err-take_part-in-Found-clause-malformed c =
    let s = c.self.inside.sections in
    let same = subst (λ stage. AfterMultipartSearch stage s c.search.new.self) c.in-Found.is c.in_ok-search.ensures.ok in
    let why = fault_of_same s c.search.new.self same c.self.inside.limits _ c.in_err-take_part-in-Found.ensures.fault in
    let out = err_from_is_err_and c.from_residual-in_err-take_part-in-Found.result c.from_residual-in_err-take_part-in-Found.ensures.1 in
    rw (← c.self.view_is) (rw out.1 (λ is. (fault_is s c.self.inside.limits _ _ why (sym out.2 ∙ is)).1))

pub returns-in_err-take_part-in-Found-clause-due : goal.returns-in_err-take_part-in-Found-clause-due
returns-in_err-take_part-in-Found-clause-due c =
    let s = c.self.inside.sections in
    let same = subst (λ stage. AfterMultipartSearch stage s c.search.new.self) c.in-Found.is c.in_ok-search.ensures.ok in
    let why = fault_of_same s c.search.new.self same c.self.inside.limits _ c.in_err-take_part-in-Found.ensures.fault in
    let out = err_from_is_err_and c.from_residual-in_err-take_part-in-Found.result c.from_residual-in_err-take_part-in-Found.ensures.1 in
    rw (← c.self.view_is) (rw out.1 (λ not_large. due_by_fault s c.self.inside.limits _ why (λ is. not_large (out.2 ∙ is))))

pub returns-in_err-take_part-in-Found-clause-too_large : goal.returns-in_err-take_part-in-Found-clause-too_large
returns-in_err-take_part-in-Found-clause-too_large c =
    let s = c.self.inside.sections in
    let same = subst (λ stage. AfterMultipartSearch stage s c.search.new.self) c.in-Found.is c.in_ok-search.ensures.ok in
    let why = fault_of_same s c.search.new.self same c.self.inside.limits _ c.in_err-take_part-in-Found.ensures.fault in
    let out = err_from_is_err_and c.from_residual-in_err-take_part-in-Found.result c.from_residual-in_err-take_part-in-Found.ensures.1 in
    rw (← c.self.view_is) (rw out.1 (λ is. none_by_fault s c.self.inside.limits _ why (sym out.2 ∙ is)))

pub returns-in_err-take_part-in-Found-clause-over : goal.returns-in_err-take_part-in-Found-clause-over
returns-in_err-take_part-in-Found-clause-over c =
    let s = c.self.inside.sections in
    let same = subst (λ stage. AfterMultipartSearch stage s c.search.new.self) c.in-Found.is c.in_ok-search.ensures.ok in
    let why = fault_of_same s c.search.new.self same c.self.inside.limits _ c.in_err-take_part-in-Found.ensures.fault in
    let out = err_from_is_err_and c.from_residual-in_err-take_part-in-Found.result c.from_residual-in_err-take_part-in-Found.ensures.1 in
    rw (← c.self.view_is) (rw out.1 (λ is. fault_is s c.self.inside.limits _ _ why (sym out.2 ∙ is)))

pub returns-in_err-take_part-in-Found-clause-not_utf8 : goal.returns-in_err-take_part-in-Found-clause-not_utf8
returns-in_err-take_part-in-Found-clause-not_utf8 c =
    let s = c.self.inside.sections in
    let same = subst (λ stage. AfterMultipartSearch stage s c.search.new.self) c.in-Found.is c.in_ok-search.ensures.ok in
    let why = fault_of_same s c.search.new.self same c.self.inside.limits _ c.in_err-take_part-in-Found.ensures.fault in
    let out = err_from_is_err_and c.from_residual-in_err-take_part-in-Found.result c.from_residual-in_err-take_part-in-Found.ensures.1 in
    rw (← c.self.view_is) (rw out.1 (λ is. let f = fault_is s c.self.inside.limits _ _ why (sym out.2 ∙ is) in (f.1, f.2, f.3, f.4)))

pub returns-in_err-take_part-in-Found-clause-reason : goal.returns-in_err-take_part-in-Found-clause-reason
returns-in_err-take_part-in-Found-clause-reason c =
    let s = c.self.inside.sections in
    let same = subst (λ stage. AfterMultipartSearch stage s c.search.new.self) c.in-Found.is c.in_ok-search.ensures.ok in
    let why = fault_of_same s c.search.new.self same c.self.inside.limits _ c.in_err-take_part-in-Found.ensures.fault in
    let out = err_from_is_err_and c.from_residual-in_err-take_part-in-Found.result c.from_residual-in_err-take_part-in-Found.ensures.1 in
    rw out.1 (λ reason is. (fault_is s c.self.inside.limits _ _ why (sym out.2 ∙ is)).0)

pub returns-in_err-take_part-in-Found-clause-asks : goal.returns-in_err-take_part-in-Found-clause-asks
returns-in_err-take_part-in-Found-clause-asks c =
    let s = c.self.inside.sections in
    let same = subst (λ stage. AfterMultipartSearch stage s c.search.new.self) c.in-Found.is c.in_ok-search.ensures.ok in
    let why = fault_of_same s c.search.new.self same c.self.inside.limits _ c.in_err-take_part-in-Found.ensures.fault in
    let out = err_from_is_err_and c.from_residual-in_err-take_part-in-Found.result c.from_residual-in_err-take_part-in-Found.ensures.1 in
    rw (← c.self.view_is) (rw out.1 (λ reason is. (fault_is s c.self.inside.limits _ _ why (sym out.2 ∙ is)).1))

pub returns-in_default-clause-waits : goal.returns-in_default-clause-waits
returns-in_default-clause-waits c =
    let new = c.search.new.self in
    rw (← c.self.view_is) (none_after c.self.inside.limits c.self.inside.sections new new.stage c.in_ok-search.ensures.ok c.in_default.not-Found)

pub returns-in_default-clause-idle : goal.returns-in_default-clause-idle
returns-in_default-clause-idle c =
    let new = c.search.new.self in
    rw (← c.self.view_is)
    (idle_after c.self.inside.limits c.self.inside.sections new new.stage refl c.search.ensures.delimiter c.in_ok-search.ensures.ok c.in_default.not-Found)

pub returns-in_default-clause-few : goal.returns-in_default-clause-few
returns-in_default-clause-few c =
    let new = c.search.new.self in
    let limits = c.self.inside.limits in
    let not_long : c.most_multipart_bytes.result + length new.waiting.delimiter < length new.waiting.held → ⊥ =
    λ long. false≢true (sym c.if-is_over.false ∙ c.is_over.ensures.over.1 (c.in_default.not-Found, long)) in
    let few : length new.waiting.held ≤ limits.head + limits.body + length new.waiting.delimiter = omega (arith, not_long, c.most_multipart_bytes.ensures) in
    few_wait limits c.self.inside.sections new c.in_ok-search.ensures.few few new.stage c.in_ok-search.ensures.ok c.in_default.not-Found c.search.ensures.divided
