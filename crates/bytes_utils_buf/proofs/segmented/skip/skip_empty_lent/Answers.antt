use Rattle.std.proofs.Common.{map, arith, rules}
use Rattle.std.proofs.lemmas.List.{length-map}
use Rattle.bytes_utils_buf.proofs.Lists.{length-concat-take_more}
use Rattle.bytes_utils_buf.proofs.LentLemmas.{Trimmed-from_count}
use Rattle.bytes_utils_buf.proofs.segmented.skip.skip_empty_lent.Goals as goal

pub loop-tally-preserved : goal.loop-tally-preserved
loop-tally-preserved g c =
    let lists = map g.B.Buf.unread c.args.bufs.now in
    let some = c.in-Some.ensures.some in
    let sum = length-concat-take_more lists c.loop-tally.empty (omega (arith, some.0, length-map c.args.bufs.now g.B.Buf.unread)) in
    (omega (arith, some.0), omega (arith, sum, some.1, some.2, c.loop-tally.invariant.1), search rules)

pub returns-clause-read_out : goal.returns-clause-read_out
returns-clause-read_out g c =
    let size = length-map c.args.bufs.now g.B.Buf.unread in
    (Trimmed-from_count _ c.loop-tally.empty (omega (arith, size, c.loop-tally.invariant.0)) (omega (arith, c.loop-tally.invariant.1))
    (λ h. c.in_default.ensures.none (omega (arith, h, size)))).before

pub returns-clause-skips : goal.returns-clause-skips
returns-clause-skips g c =
    let size = length-map c.args.bufs.now g.B.Buf.unread in
    (Trimmed-from_count _ c.loop-tally.empty (omega (arith, size, c.loop-tally.invariant.0)) (omega (arith, c.loop-tally.invariant.1))
    (λ h. c.in_default.ensures.none (omega (arith, h, size)))).skips
