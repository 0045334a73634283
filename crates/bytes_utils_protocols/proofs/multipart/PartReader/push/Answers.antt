use Rattle.std.proofs.Common.{sym, ◌∙◌}
use Rattle.bytes_utils_protocols.proofs.MultipartLemmas.{still_divided, is_pushed}
use Rattle.bytes_utils_protocols.proofs.multipart.PartReader.push.Goals as goal

pub invariant_of-self : goal.invariant_of-self
invariant_of-self c =
    let on = sym c.has_ended.ensures.value ∙ c.if-has_ended.false in
    (still_divided c.self.inside.sections c.push.new.self c.args.piece c.push.result c.push.ensures.ok c.push.ensures.err (rw (← c.self.view_is) at on) c.self.invariant.0, c.self.invariant.1)

pub returns-clause-pushed : goal.returns-clause-pushed
returns-clause-pushed c =
    let s = c.self.inside.sections in
    let on = sym c.has_ended.ensures.value ∙ c.if-has_ended.false in
    rw (← c.self.view_is) (is_pushed s c.push.new.self c.self.inside.limits c.args.piece c.push.result c.push.ensures (rw (← c.self.view_is) at on) c.self.invariant.0)
