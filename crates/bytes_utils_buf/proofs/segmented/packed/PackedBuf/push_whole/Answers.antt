use Rattle.std.proofs.Common.{ap, arith}
use Rattle.bytes_utils_buf.proofs.PackingLemmas.{packed-accepted}
use Rattle.bytes_utils_buf.proofs.segmented.packed.PackedBuf.push_whole.Goals as goal

pub invariant_of-self : goal.invariant_of-self
invariant_of-self c =
    packed-accepted c.self.inside.threshold c.self.inside.held c.try_push.new.self c.args.piece c.try_push.result c.try_push.ensures.ok c.try_push.ensures.err
    (λ some _. omega (arith, c.requires some, ap (λ b. b.threshold) c.self.view_is)) c.self.invariant
