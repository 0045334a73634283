use Rattle.std.proofs.Common.{arith, ◌≡◌, ◌+◌, ◌≤◌, ◌++◌, ◌∙◌, List, ℕ, [], true, false, sym, subst}
use Rattle.std.specs.List.{concat}
use Rattle.std.proofs.lemmas.Result.{err_from_is_err_and}
use Rattle.bytes_utils_protocols.specs.RedisLine.{RedisLineEndsAt, NoLineEnds}
use Rattle.bytes_utils_protocols.specs.declared.redis.pending.LineEnd.{LineEnd}
use Rattle.bytes_utils_protocols.specs.declared.redis.pending.LineEnd.TheVariants.{Missing, Half, Here}
use Rattle.bytes_utils_protocols.proofs.LineSteps.{read_no_return}
use Rattle.bytes_utils_protocols.proofs.ReplyEnds.{awaits_feed, awaits_line, finds_head, first_line, half_after, none_after, not_checked, stays_none, too_long}
use Rattle.bytes_utils_protocols.proofs.ReplyAsks.{asks_for_line}
use Rattle.bytes_utils_protocols.proofs.redis.pending.read_pending_line.Goals.{In_ok-begun}
use Rattle.bytes_utils_protocols.proofs.redis.pending.read_pending_line.Goals as goal

pub end_of_pending_line-len-requires-clause-none : goal.end_of_pending_line-len-requires-clause-none
end_of_pending_line-len-requires-clause-none c = read_no_return c.args.begun.now.line _ c.requires.1

pub returns-then-len-limits-clause-head : goal.returns-then-len-limits-clause-head
returns-then-len-limits-clause-head c =
    let line = c.end_of_pending_line-len in
    too_long c.args.limits c.args.room (concat c.args.pieces.now.held.segments) line.result.0 line.ensures.within.1 line.ensures.none (c.args.begun.now.len + 1) line.result.1 line.ensures.end
    c.if-len-limits.true

pub returns-in_err-begun-clause-head : goal.returns-in_err-begun-clause-head
returns-in_err-begun-clause-head c =
    let u = concat c.args.pieces.now.held.segments in
    let out = err_from_is_err_and c.from_residual.result c.from_residual.ensures.1 in
    rw out.1 (record {
      malformed = λ is. stays_none c.args.limits c.args.room u c.end_of_pending_line-len.result.0 c.end_of_pending_line-len.ensures.within.1
          c.end_of_pending_line-len.ensures.none (c.in_err-begun.ensures.malformed (sym out.2 ∙ is));
      too_large = λ is. absurd (c.in_err-begun.ensures.too_large (sym out.2 ∙ is));
      memory = λ reason is. (
        c.in_err-begun.ensures.reason reason (sym out.2 ∙ is),
        asks_for_line u c.end_of_pending_line-len.result.0 c.end_of_pending_line-len.ensures.within.1 c.args.limits c.args.begun.now.len c.end_of_pending_line-len.result.1
            c.end_of_pending_line-len.ensures.end c.end_of_pending_line-len.ensures.none (omega (arith, c.if-len-limits.false)) (c.in_err-begun.ensures.due reason (sym out.2 ∙ is)),
      );
    })

-- ---- what was read of a line

module _ (c : In_ok-begun) where
  abbrev bytes : List ℕ
  bytes = concat c.args.pieces.now.held.segments

  abbrev len : ℕ
  len = c.in_ok-begun.field-0.len

  len_is : c.end_of_pending_line-len.result.0 ≡ len
  len_is = sym c.in_ok-begun.ensures.read.0

  none : (more : List ℕ) → NoLineEnds len (bytes ++ more)
  none = subst (λ n. (more : List ℕ) → NoLineEnds n (bytes ++ more)) len_is c.end_of_pending_line-len.ensures.none

  short : len ≤ c.args.limits.line
  short = omega (arith, len_is, c.if-len-limits.false)

  ends : (end : LineEnd) → c.end_of_pending_line-len.result.1 ≡ end → RedisLineEndsAt end len bytes
  ends end is = subst (λ n. RedisLineEndsAt end n bytes) len_is (subst (λ end. RedisLineEndsAt end c.end_of_pending_line-len.result.0 bytes) is c.end_of_pending_line-len.ensures.end)

pub returns-in_err-check-in-Missing-clause-head : goal.returns-in_err-check-in-Missing-clause-head
returns-in_err-check-in-Missing-clause-head c =
    let line = (goal.at.returns-in_err-check-in-Missing-clause-head c).In_ok-begun in
    let read = c.in_ok-begun.ensures.read.1 in
    let out = err_from_is_err_and c.from_residual-in_err-check-in-Missing.result c.from_residual-in_err-check-in-Missing.ensures.1 in
    let check = c.in_err-check-in-Missing.ensures in
    let all = ends line Missing c.in-Missing.is in
    rw out.1 (not_checked c.args.limits c.args.room (bytes line) (len line) read.0 (none line) c.in_ok-begun.field-0.line read.1 (c.args.begun.now.len + 1) false
    (first_line (bytes line) (len line) read.0 Missing all (none line)) (none_after (bytes line) (len line) all) out.0 (λ is. check.malformed (sym out.2 ∙ is)) (λ is. check.too_large (sym out.2 ∙ is)) (λ reason is. check.reason reason (sym out.2 ∙ is)))

pub returns-in_err-check-in-Half-clause-head : goal.returns-in_err-check-in-Half-clause-head
returns-in_err-check-in-Half-clause-head c =
    let line = (goal.at.returns-in_err-check-in-Half-clause-head c).In_ok-begun in
    let read = c.in_ok-begun.ensures.read.1 in
    let half = ends line Half c.in-Half.is in
    let out = err_from_is_err_and c.from_residual-in_err-check-in-Half.result c.from_residual-in_err-check-in-Half.ensures.1 in
    let check = c.in_err-check-in-Half.ensures in
    rw out.1 (not_checked c.args.limits c.args.room (bytes line) (len line) read.0 (none line) c.in_ok-begun.field-0.line read.1 (c.args.begun.now.len + 1) true
    (first_line (bytes line) (len line) read.0 Half half (none line)) ([], half_after (bytes line) (len line) read.0 half) out.0 (λ is. check.malformed (sym out.2 ∙ is)) (λ is. check.too_large (sym out.2 ∙ is))
    (λ reason is. check.reason reason (sym out.2 ∙ is)))

pub returns-in_ok-check-in-Missing-clause-head : goal.returns-in_ok-check-in-Missing-clause-head
returns-in_ok-check-in-Missing-clause-head c =
    let line = (goal.at.returns-in_ok-check-in-Missing-clause-head c).In_ok-begun in
    let read = c.in_ok-begun.ensures.read.1 in
    let check = c.in_ok-check-in-Missing.ensures in
    awaits_line c.args.limits c.args.room (bytes line) (len line) read.0 (none line) c.in_ok-begun.field-0.line read.1 (short line)
    (ends line Missing c.in-Missing.is) c.in_ok-check-in-Missing.field-0 check.head check.lacks

pub returns-in_ok-check-in-Half-clause-head : goal.returns-in_ok-check-in-Half-clause-head
returns-in_ok-check-in-Half-clause-head c =
    let line = (goal.at.returns-in_ok-check-in-Half-clause-head c).In_ok-begun in
    let read = c.in_ok-begun.ensures.read.1 in
    let check = c.in_ok-check-in-Half.ensures in
    awaits_feed c.args.limits c.args.room (bytes line) (len line) read.0 (none line) c.in_ok-begun.field-0.line read.1 (short line)
    (ends line Half c.in-Half.is) c.in_ok-check-in-Half.field-0 check.head check.lacks

pub returns-in-Here-clause-head : goal.returns-in-Here-clause-head
returns-in-Here-clause-head c =
    let line = (goal.at.returns-in-Here-clause-head c).In_ok-begun in
    let read = c.in_ok-begun.ensures.read.1 in
    let check = c.check-in-Here.ensures in
    finds_head c.args.limits c.args.room (bytes line) (len line) read.0 (none line) c.in_ok-begun.field-0.line read.1 (short line)
    (c.args.begun.now.len + 1) (ends line Here c.in-Here.is) c.check-in-Here.result check.head check.lacks check.malformed check.too_large check.reason
