use Rattle.std.proofs.Common.{length-take, arith}
use Rattle.std.proofs.lemmas.Bool.{false≢true}
use Rattle.std.specs.List.{concat}
use Rattle.bytes_utils_codec.proofs.FindLemmas.{found_by_first_bytes, passed_by_first_bytes, missed_by_first_bytes, occurs_from_held, held_from_occurs}
use Rattle.bytes_utils_codec.proofs.find.find_far.Goals as goal

pub returns-then-holds_at : goal.returns-then-holds_at
returns-then-holds_at g c =
    let all = concat c.args.buf.now.segments in
    let p = c.args.needle.now in
    found_by_first_bytes all p 16 c.args.start c.loop-at.from c.in-Some.at c.loop-at.invariant.low c.loop-at.invariant.none (rw c.new-finder-2.ensures at c.in-Some.ensures.found)
    (occurs_from_held all p c.in-Some.at (c.holds_at.ensures.0 c.if-holds_at.true))

pub overflow_add-from : goal.overflow_add-from
overflow_add-from g c =
    omega (arith, (rw c.new-finder-2.ensures at c.in-Some.ensures.found).1.fits, c.find_front-in-loop-at.ensures.fits, length-take 16 c.args.needle.now, c.if-needle-le-SHORT.false)

pub loop-at-preserved : goal.loop-at-preserved
loop-at-preserved g c =
    let all = concat c.args.buf.now.segments in
    let p = c.args.needle.now in
    record {
      low = omega (arith, c.loop-at.invariant.low, (rw c.new-finder-2.ensures at c.in-Some.ensures.found).0.low);
      none = passed_by_first_bytes all p 16 c.args.start c.loop-at.from c.in-Some.at c.loop-at.invariant.none (rw c.new-finder-2.ensures at c.in-Some.ensures.found)
          (λ here. false≢true (c.if-holds_at.ensures.1 (held_from_occurs all p c.in-Some.at here)));
    }

pub returns : goal.returns
returns g c =
    let all = concat c.args.buf.now.segments in
    missed_by_first_bytes all c.args.needle.now 16 c.args.start c.loop-at.from c.loop-at.invariant.none (rw c.new-finder-2.ensures at c.in_default.ensures.found)

pub returns-then-needle-le-SHORT : goal.returns-then-needle-le-SHORT
returns-then-needle-le-SHORT g c = rw c.new-finder.ensures at c.find_front.ensures.found
