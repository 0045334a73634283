use Rattle.std.proofs.Common.{inl, inr}
use Rattle.std.proofs.lemmas.Result.{IfErr-weaker}
use Rattle.bytes_utils_buf.proofs.PackingLemmas.{packed_skips}
use Rattle.bytes_utils_buf.proofs.segmented.packed.PackedBufBufParts.copy_out.Goals as goal

pub invariant_of-self : goal.invariant_of-self
invariant_of-self c = packed_skips _ _ _ _ c.copy_out.ensures.skips c.self.invariant

pub returns-clause-lost : goal.returns-clause-lost
returns-clause-lost c =
    IfErr-weaker c.copy_out.result _ _ (λ e lost. elim lost [ inl (front, within, most, inl (none, less)) ↦ inl none | inl (front, within, most, inr none) ↦ inl none | inr across ↦ across ])
    c.copy_out.ensures.lost
