use Rattle.std.proofs.Common.{refl}
use Rattle.bytes_utils.proofs.WalkLemmas.{whole-walk}
use Rattle.bytes_utils.proofs.split.closure.BytesIter.new.Goals as goal

pub returns-clause-run : goal.returns-clause-run
returns-clause-run g c =
    let text_is = rw c.as_str.ensures.value at c.as_str.utf8 in
    λ items run. whole-walk _ _ c.args.direction c.requires items _ c.args.s text_is refl refl run
