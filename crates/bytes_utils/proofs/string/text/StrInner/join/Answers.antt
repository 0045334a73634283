use Rattle.std.proofs.Common.{◌++◌, ap, ◌∙◌}
use Rattle.std.proofs.iter.Next.{Yields-more}
use Rattle.bytes_utils.proofs.Joins.{join-more, gap-more, gap-empty, item-empty}
use Rattle.bytes_utils.proofs.string.text.StrInner.join.Goals as goal

pub loop-part-preserved : goal.loop-part-preserved
loop-part-preserved g c =
    let before = c.loop-part.invariant in
    let pushed = c.in_ok-push_str.ensures.ok ∙ (λ k. before.joined k ++ before.between k) in
    record {
      joined = c.in_ok-push_str-2.ensures.ok ∙ ap (λ text. text ++ c.in-Some.part.now) pushed ∙ join-more c.args.separator.now (λ part. part.now) c.loop-part.yielded c.in-Some.part;
      between = gap-more c.args.separator.now (λ part. part.now) c.loop-part.yielded c.in-Some.part;
    }

-- a refused separator has a byte
pub returns-in_err-push_str-clause-empty : goal.returns-in_err-push_str-clause-empty
returns-in_err-push_str-clause-empty g c along =
    let came = Yields-more g.I.Iterator.next_gives c.into_iter-part-iterator.result c.loop-part.yielded c.loop-part.part-iterator c.in-Some.part c.next.new.self c.loop-part.yielded_by c.in-Some.ensures.steps in
    let none = along _ c.next.new.self (rw c.into_iter-part-iterator.ensures.into_iter_gives at came) in
    absurd (cc (c.in_err-push_str.ensures.empty (c.loop-part.invariant.between ∙ gap-empty c.args.separator.now (λ part. part.now) c.loop-part.yielded c.in-Some.part none)))

-- a refused part has a byte
pub returns-in_err-push_str-2-clause-empty : goal.returns-in_err-push_str-2-clause-empty
returns-in_err-push_str-2-clause-empty g c along =
    let came = Yields-more g.I.Iterator.next_gives c.into_iter-part-iterator.result c.loop-part.yielded c.loop-part.part-iterator c.in-Some.part c.next.new.self c.loop-part.yielded_by c.in-Some.ensures.steps in
    let none = along _ c.next.new.self (rw c.into_iter-part-iterator.ensures.into_iter_gives at came) in
    absurd (cc (c.in_err-push_str-2.ensures.empty (item-empty c.args.separator.now (λ part. part.now) c.loop-part.yielded c.in-Some.part none)))
