use Rattle.std.proofs.Common.{◌≡◌, ◌↔◌, ◌≤◌, ◌+◌, ◌^◌, length, IfErr, inl, refl, rules}
use Rattle.std.specs.List.{concat}
use Rattle.bytes_utils_buf.specs.declared.refused.Reason.TheVariants.{TooLong}
use Rattle.bytes_utils_protocols.proofs.MultipartLemmas.{still_divided, waits_in}
use Rattle.bytes_utils_protocols.proofs.multipart.PartReader.push_slice.Goals as goal

pub invariant_of-self : goal.invariant_of-self
invariant_of-self c =
    (still_divided c.self.inside.sections c.push_slice.new.self c.args.piece.now c.push_slice.result c.push_slice.ensures.ok c.push_slice.ensures.err (search rules) c.self.invariant.0, c.self.invariant.1)

pub returns-in_err-push_slice-clause-too_long : goal.returns-in_err-push_slice-clause-too_long
returns-in_err-push_slice-clause-too_long c =
    let s = c.self.inside.sections in
    let over : IfErr c.from_residual.result (λ reason. (reason ≡ TooLong) ↔ (2 ^ 64 ≤ length s.waiting.held + length c.args.piece.now)) = search rules in
    let waits = waits_in s.stage s.waiting.delimiter s.preamble (concat s.found.segments) s.waiting.held c.self.invariant.0 in
    rw (← c.self.view_is) (s.waiting.held, waits, over)

pub returns-in_ok-push_slice-clause-too_long : goal.returns-in_ok-push_slice-clause-too_long
returns-in_ok-push_slice-clause-too_long c = (c.args.self.now.held, inl refl, tt)
