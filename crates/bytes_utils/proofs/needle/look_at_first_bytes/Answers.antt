use Rattle.std.proofs.Common.{arith}
use Rattle.std.proofs.lemmas.Bool.{false≢true}
use Rattle.bytes_utils.proofs.NeedleLemmas.{range_rest}
use Rattle.bytes_utils.proofs.NeedleLemmas.{none_before_first, none_before_next, found_at_start, found_from}
use Rattle.bytes_utils.proofs.needle.look_at_first_bytes.Goals as goal

pub loop-at-init : goal.loop-at-init
loop-at-init c = record {
  low = omega arith;
  within = c.requires.within;
  none = none_before_first c.args.needle.now c.args.piece.now c.args.from c.requires.some c.requires.none;
}

pub returns-then-is_prefix-clause-found : goal.returns-then-is_prefix-clause-found
returns-then-is_prefix-clause-found c =
    let piece = c.args.piece.now in
    let at = c.loop-at.at in
    let here = rw (range_rest piece at) at (c.is_prefix.ensures.0 c.if-is_prefix.true) in
    found_from c.args.needle.now piece at c.loop-at.invariant.within c.loop-at.invariant.none 0 _ (omega arith) (found_at_start _ _ here)

pub loop-at-preserved : goal.loop-at-preserved
loop-at-preserved c =
    let piece = c.args.piece.now in
    let at = c.loop-at.at in
    let next = c.place_from-at.ensures in record {
      low = omega (arith, c.loop-at.invariant.low, next.low);
      within = next.within;
      none = none_before_next c.args.needle.now piece at c.loop-at.invariant.within c.loop-at.invariant.none c.place_from-at.result c.requires.some
          (λ here. false≢true (c.if-is_prefix.ensures.1 (rw (← range_rest piece at) at here))) (λ k low high. next.none k (omega (arith, low)) high);
    }

pub returns-then-looks-le1-clause-none : goal.returns-then-looks-le1-clause-none
returns-then-looks-le1-clause-none c =
    let piece = c.args.piece.now in
    let at = c.loop-at.at in
    none_before_next c.args.needle.now piece at c.loop-at.invariant.within c.loop-at.invariant.none _ c.requires.some
    (λ here. false≢true (c.if-is_prefix.ensures.1 (rw (← range_rest piece at) at here))) (λ k low high _. omega (arith, low, high))
