use Rattle.std.proofs.Common.{rules, ◌==◌, subst, Ok}
use Rattle.std.proofs.iter.Serving.{serving}
use Rattle.std.proofs.lemmas.Iterator.Adapters.{YieldsList-from_skip}
use Rattle.std.proofs.lemmas.Iterator.Splits.{YieldsList-from_slice_split}
use Rattle.bytes_utils.specs.Lines.{line_feed}
use Rattle.bytes_utils_protocols.specs.Requests.{ReportRequestError, ReportRequestLength, request_header_lines}
use Rattle.bytes_utils_protocols.proofs.HeadLines.{SoFar, next_given, none_given, so_far_all, so_far_error, so_far_more, so_far_none, so_far_unequal}
use Rattle.bytes_utils_protocols.proofs.HeadReports.{right_error, right_length}
use Rattle.bytes_utils_protocols.proofs.requests.body_len.Goals as goal

pub loop-line-init : goal.loop-line-init
loop-line-init c = record {
  can_next = grind serving;
  is_finite = search rules;
  left = record {
    left = request_header_lines c.args.head.now;
    coming = rw c.into_iter-line-iterator.ensures.into_iter_gives (YieldsList-from_skip 1
        (YieldsList-from_slice_split _ (λ b. b == line_feed) c.args.head.now (search rules) (search rules) (search rules) (λ x b q k. search rules))
        c.skip-line-items.ensures.count);
    so_far = so_far_none (request_header_lines c.args.head.now);
  };
}

pub loop-line-preserved : goal.loop-line-preserved
loop-line-preserved c =
    let now = c.loop-line.invariant.left in
    let next = next_given _ _ c.loop-line.line-iterator c.next.new.self c.in-Some.line now.left now.coming c.in-Some.ensures.steps in
    record {
      can_next = search rules;
      is_finite = search rules;
      left = record {
        left = next.0;
        coming = next.2;
        so_far = so_far_more _ _ c.in-Some.line.now _ c.in_ok-reported_request_len.field-0 _
            (subst (λ left. SoFar (request_header_lines c.args.head.now) left c.loop-line.known) next.1 now.so_far)
            (rw c.in_ok-reported_request_len.was at c.reported_request_len.ensures) c.in_ok-known.ensures.ok;
      };
    }

-- the line reports an error
line_error : (c : goal.After-from_residual) → ReportRequestError (request_header_lines c.args.head.now) c.in_err-reported_request_len.field-0.0
line_error c =
    let now = c.loop-line.invariant.left in
    let next = next_given _ _ c.loop-line.line-iterator c.next.new.self c.in-Some.line now.left now.coming c.in-Some.ensures.steps in
    so_far_error _ _ c.in-Some.line.now _ _ (subst (λ left. SoFar (request_header_lines c.args.head.now) left c.loop-line.known) next.1 now.so_far)
    (rw c.in_err-reported_request_len.was at c.reported_request_len.ensures)

pub returns-in_err-reported_request_len-clause-ok : goal.returns-in_err-reported_request_len-clause-ok
returns-in_err-reported_request_len-clause-ok c =
    let error = line_error c in right_length (request_header_lines c.args.head.now) c.from_residual.result (search (rules, error))

pub returns-in_err-reported_request_len-clause-err : goal.returns-in_err-reported_request_len-clause-err
returns-in_err-reported_request_len-clause-err c =
    let error = line_error c in right_error (request_header_lines c.args.head.now) c.from_residual.result (search (rules, error))

-- the line reports another length than one before it
unequal_lengths : (c : goal.After-from_residual-in_err-known) → ReportRequestError (request_header_lines c.args.head.now) c.in_err-known.field-0.0
unequal_lengths c =
    let now = c.loop-line.invariant.left in
    let next = next_given _ _ c.loop-line.line-iterator c.next.new.self c.in-Some.line now.left now.coming c.in-Some.ensures.steps in
    so_far_unequal _ _ c.in-Some.line.now _ c.in_ok-reported_request_len.field-0 _
    (subst (λ left. SoFar (request_header_lines c.args.head.now) left c.loop-line.known) next.1 now.so_far)
    (rw c.in_ok-reported_request_len.was at c.reported_request_len.ensures) c.in_err-known.ensures.err

pub returns-in_err-known-clause-ok : goal.returns-in_err-known-clause-ok
returns-in_err-known-clause-ok c =
    let error = unequal_lengths c in right_length (request_header_lines c.args.head.now) c.from_residual-in_err-known.result (search (rules, error))

pub returns-in_err-known-clause-err : goal.returns-in_err-known-clause-err
returns-in_err-known-clause-err c =
    let error = unequal_lengths c in right_error (request_header_lines c.args.head.now) c.from_residual-in_err-known.result (search (rules, error))

-- no line is left
all_lines : (c : goal.After-unwrap_or) → ReportRequestLength (request_header_lines c.args.head.now) c.unwrap_or.result
all_lines c =
    let now = c.loop-line.invariant.left in
    let none = none_given _ _ _ _ now.left now.coming c.in-None.ensures.steps in
    rw c.unwrap_or.ensures (so_far_all (request_header_lines c.args.head.now) c.loop-line.known
    (subst (λ left. SoFar (request_header_lines c.args.head.now) left c.loop-line.known) none now.so_far))

pub returns-clause-ok : goal.returns-clause-ok
returns-clause-ok c = right_length (request_header_lines c.args.head.now) (Ok c.unwrap_or.result) (all_lines c)

pub returns-clause-err : goal.returns-clause-err
returns-clause-err c = right_error (request_header_lines c.args.head.now) (Ok c.unwrap_or.result) (all_lines c)
