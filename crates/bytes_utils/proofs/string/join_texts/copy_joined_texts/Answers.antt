use Rattle.std.proofs.Common.{◌++◌, ◌∙◌}
use Rattle.bytes_utils.proofs.Joins.{join-next, gap-next, gap_next-empty, item_next-empty}
use Rattle.bytes_utils.proofs.string.join_texts.copy_joined_texts.Goals as goal

pub loop-text-preserved : goal.loop-text-preserved
loop-text-preserved c =
    let before = c.loop-text.invariant in
    let pushed = c.in_ok-push_str.ensures.ok ∙ (λ k. before.joined k ++ before.between k) in
    record {
      joined = c.in_ok-push_str-2.ensures.ok ∙ (λ k. pushed k ++ c.as_str.ensures.value k)
          ∙ join-next c.args.separator.now c.args.texts.now c.loop-text.text-index c.text-item.result c.loop-text-test.true c.text-item.is;
      between = gap-next c.args.separator.now c.args.texts.now c.loop-text.text-index c.loop-text-test.true;
    }

-- a refused separator has a byte
pub returns-in_err-push_str-clause-none : goal.returns-in_err-push_str-clause-none
returns-in_err-push_str-clause-none c none =
    absurd (cc (c.in_err-push_str.ensures.empty (c.loop-text.invariant.between
    ∙ gap_next-empty c.args.separator.now c.args.texts.now c.loop-text.text-index c.text-item.result c.loop-text-test.true c.text-item.is none)))

-- a refused text has a byte
pub returns-in_err-push_str-2-clause-none : goal.returns-in_err-push_str-2-clause-none
returns-in_err-push_str-2-clause-none c none =
    absurd (cc (c.in_err-push_str-2.ensures.empty (c.as_str.ensures.value
    ∙ item_next-empty c.args.separator.now c.args.texts.now c.loop-text.text-index c.text-item.result c.loop-text-test.true c.text-item.is none)))
