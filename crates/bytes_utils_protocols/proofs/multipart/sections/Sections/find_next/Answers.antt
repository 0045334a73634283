use Rattle.std.proofs.Common.{rules, ◌≢◌, take, drop, ◌+◌, length, ap, ◌∙◌}
use Rattle.std.proofs.lemmas.Result.{err_from_is_err_and}
use Rattle.bytes_utils_protocols.specs.Multipart.{multipart_dashes}
use Rattle.bytes_utils_protocols.specs.MultipartWaiting.{MultipartWaiting}
use Rattle.bytes_utils_protocols.proofs.MultipartLemmas.{fault_before_next, none_found}
use Rattle.bytes_utils_protocols.proofs.multipart.sections.Sections.find_next.Goals as goal

pub returns-else-ahead-clause-ok : goal.returns-else-ahead-clause-ok
returns-else-ahead-clause-ok c =
    let s = c.args.self.now in
    let here = c.strip_prefix.ensures.same c.if-strip_prefix.false in
    let same = c.search-ahead.ensures.same ∙ here in
    let lacks = rw here at (c.search-ahead.ensures.ahead.lacks c.if-ahead.false) in
    let other : take 2 s.waiting.held ≢ multipart_dashes = λ two. search (rules, two) in
    none_found s c.requires.waiting c.requires.divided (record s { waiting = c.search-ahead.new.self }) (ap (λ (w : MultipartWaiting). record s { waiting = w }) same) lacks other

pub returns-in_err-take_section-clause-fault : goal.returns-in_err-take_section-clause-fault
returns-in_err-take_section-clause-fault c =
    let s = c.args.self.now in
    let here = c.strip_prefix.ensures.same c.if-strip_prefix.false in
    let same = c.search-ahead.ensures.same ∙ here in
    let ahead = rw here at c.search-ahead.ensures.ahead in
    let other : take 2 s.waiting.held ≢ multipart_dashes = λ two. search (rules, two) in
    let len = c.search-ahead.result.len in
    let held = s.waiting.held in
    let why = rw same at c.in_err-take_section.ensures.fault in
    let out = err_from_is_err_and c.from_residual.result c.from_residual.ensures.1 in
    rw (out.1, out.2) (fault_before_next s c.requires.waiting c.requires.divided c.args.limits (take len held) (drop (len + length s.waiting.delimiter) held) (ahead.here c.if-ahead.true) other c.requires.few c.in_err-take_section.field-0.0 why)
