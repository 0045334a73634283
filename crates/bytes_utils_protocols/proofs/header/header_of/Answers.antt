use Rattle.std.proofs.Common.{◌≡◌, sym, ap, ◌∙◌, ◌<◌, ◌∷◌, length, arith}
use Rattle.std.proofs.lemmas.Grind.{common_steps}
use Rattle.bytes_utils_protocols.specs.Digits.{colon}
use Rattle.bytes_utils_protocols.proofs.HeaderReports.{cut_after_name, cut_of_header, header_of_cut, one_cut}
use Rattle.bytes_utils_protocols.proofs.header.header_of.Goals as goal
use Rattle.bytes_utils_protocols.proofs.header.header_of.Goals.{then-is_empty-via-then-is_empty, then-is_empty-via-else-is_empty+then-colon-ne58}

pub returns-in_err-colon-clause-none : goal.returns-in_err-colon-clause-none
returns-in_err-colon-clause-none c = rw c.from_residual.ensures (λ name value is.
    let cut = cut_after_name c.args.line.now c.header_name_len.result c.header_name_len.ensures.count c.split_at.ensures.front c.split_at.ensures.back in
    let same = one_cut cut (cut_of_header c.args.line.now name value is) in
    omega (arith, ap length same.1, c.in_err-colon.ensures.cases))

pub returns-then-is_empty-clause-none : goal.returns-then-is_empty-clause-none
returns-then-is_empty-clause-none c = λ name value is.
    let cut = cut_after_name c.args.line.now c.header_name_len.result c.header_name_len.ensures.count c.split_at.ensures.front c.split_at.ensures.back in
    let same = one_cut cut (cut_of_header c.args.line.now name value is) in
    let some : 0 < length c.split_at.result.0.now = omega (arith, ap length same.0, is.some) in
    let rest : c.in_ok-colon.colon.now ∷ c.in_ok-colon.value.now ≡ colon ∷ value = sym c.in_ok-colon.ensures.cases.0 ∙ same.1 in
    let first : c.in_ok-colon.colon.now ≡ colon = cc in
    elim c.then-is_empty.branch [
      | then-is_empty-via-then-is_empty w ↦ grind (arith, common_steps)
      | then-is_empty-via-else-is_empty+then-colon-ne58 w ↦ w.if-colon-ne58.true first
    ]

pub returns-clause-some : goal.returns-clause-some
returns-clause-some c =
    let cut = cut_after_name c.args.line.now c.header_name_len.result c.header_name_len.ensures.count c.split_at.ensures.front c.split_at.ensures.back in
    let some : 0 < length c.split_at.result.0.now = grind (arith, common_steps) in
    header_of_cut c.in_ok-colon.value.now cut some (c.in_ok-colon.ensures.cases.0 ∙ ap (λ b. b ∷ c.in_ok-colon.value.now) c.if-colon-ne58.false)
