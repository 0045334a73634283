use Rattle.std.proofs.Common.{◌≡◌, length, ap, arith, rules}
use Rattle.bytes_utils_buf.specs.Packing.{last_packed}
use Rattle.bytes_utils_buf.proofs.PackingLemmas.{packed-accepting}
use Rattle.bytes_utils_buf.proofs.segmented.packed.PackedBuf.push_block.Goals as goal

pub invariant_of-self-2 : goal.invariant_of-self-2
invariant_of-self-2 c =
    let bytes : c.extend_reserved.new.self.items ≡ c.args.bytes.now = search rules in
    let count = ap (λ b. length b.held.segments) c.self.view_is in
    let last = ap (λ b. length (last_packed b.held.segments)) c.self.view_is in
    let threshold = ap (λ b. b.threshold) c.self.view_is in
    rw (c.in_ok-push.ensures.ok, bytes)
    (packed-accepting c.self.inside.threshold c.self.inside.held c.args.bytes.now
    (λ _ some. omega (arith, c.requires.over (omega (arith, count, some)), last, threshold)) c.self.invariant)
