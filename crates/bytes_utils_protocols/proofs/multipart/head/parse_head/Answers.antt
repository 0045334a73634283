use Rattle.std.proofs.Common.{subst, ◌∙◌, sym, rules}
use Rattle.std.proofs.lemmas.Bool.{false≢true}
use Rattle.bytes_utils_protocols.specs.Multipart.{AreMultipartFields}
use Rattle.bytes_utils_protocols.proofs.MultipartLemmas.{one_head}
use Rattle.bytes_utils_protocols.proofs.multipart.head.parse_head.Goals as goal

pub returns-in_default-clause-malformed : goal.returns-in_default-clause-malformed
returns-in_default-clause-malformed c _ head is = absurd (c.in_default.ensures.none head is)

pub returns-in_default-from_inner-clause-not_utf8 : goal.returns-in_default-from_inner-clause-not_utf8
returns-in_default-from_inner-clause-not_utf8 c _ = (c.in-Some.head, c.in-Some.ensures.some, λ utf8. search (rules, utf8))

pub returns-then-not-has_fields-clause-malformed : goal.returns-then-not-has_fields-clause-malformed
returns-then-not-has_fields-clause-malformed c _ head is are =
    let same = one_head c.args.front head c.in-Some.head is c.in-Some.ensures.some in
    let text = c.as_str.ensures.value ∙ c.in-Ok.ensures.ok in
    false≢true (sym c.if-not-has_fields.true ∙ c.has_fields.ensures.1 (subst AreMultipartFields (sym text) (subst AreMultipartFields same are)))

pub returns-clause-name : goal.returns-clause-name
returns-clause-name c = (_, rw c.as_str-2.ensures.value at c.in_ok-disposition.ensures.ok, c.in_ok-name.ensures.ok)

pub returns-clause-file_name : goal.returns-clause-file_name
returns-clause-file_name c = (_, rw c.as_str-2.ensures.value at c.in_ok-disposition.ensures.ok, c.in_ok-file_name.ensures.ok)
