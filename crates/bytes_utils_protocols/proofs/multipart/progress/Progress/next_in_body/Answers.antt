use Rattle.std.proofs.Common.{◌-◌, arith, inr, ap, ◌∙◌}
use Rattle.std.proofs.lemmas.Result.{err_from_is_err_and}
use Rattle.bytes_utils_protocols.specs.MultipartStream.{part_streaming}
use Rattle.bytes_utils_protocols.proofs.MultipartStreamLemmas.{asks_in_body, body_awaits, end_given, failed_step, is_set, no_wait_in_body, over_step, piece_given, refused_step, unset}
use Rattle.bytes_utils_protocols.proofs.multipart.progress.Progress.next_in_body.Goals as goal

pub returns-in_err-ahead-clause-step : goal.returns-in_err-ahead-clause-step
returns-in_err-ahead-clause-step c =
    let old = part_streaming c.args.self.now in
    let why = c.in_err-ahead.ensures.over in
    let out = err_from_is_err_and c.from_residual.result c.from_residual.ensures.1 in
    failed_step old (part_streaming c.look_ahead.new.self) c.from_residual.result out.0 out.1 (ap part_streaming c.look_ahead.ensures.same) (over_step old out.0 (inr c.requires) (out.2 ∙ why.0) why.1 c.in_err-ahead.ensures.many)

pub returns-in_err-piece-clause-step : goal.returns-in_err-piece-clause-step
returns-in_err-piece-clause-step c =
    let p = c.look_ahead.new.self in
    let out = err_from_is_err_and c.from_residual-in_err-piece.result c.from_residual-in_err-piece.ensures.1 in
    refused_step (part_streaming c.args.self.now) (part_streaming (record p { waiting = c.take.new.self })) c.from_residual-in_err-piece.result out.0 c.in_err-piece.field-0.0 out.1 out.2 c.in_err-piece.ensures.reason
    (asks_in_body c.args.self.now c.in_ok-ahead.ahead c.in_ok-ahead.ensures.ahead c.in_ok-ahead.ensures.within c.requires c.if-ahead-gt0.true)
    (no_wait_in_body c.args.self.now c.in_ok-ahead.ahead c.in_ok-ahead.ensures.ahead c.in_ok-ahead.ensures.within c.requires c.if-ahead-gt0.true) (ap (λ w. part_streaming (record p { waiting = w })) c.in_err-piece.ensures.err ∙ ap part_streaming c.look_ahead.ensures.same)

pub returns-then-ahead-gt0-clause-step : goal.returns-then-ahead-gt0-clause-step
returns-then-ahead-gt0-clause-step c =
    let p = c.look_ahead.new.self in
    piece_given c.args.self.now c.in_ok-ahead.ahead c.in_ok-ahead.ensures.ahead c.in_ok-ahead.ensures.within p c.in_ok-piece.piece c.take.new.self (p.room - c.len.result) c.look_ahead.ensures.same c.requires c.in_ok-piece.ensures.piece c.in_ok-piece.ensures.some
    c.in_ok-piece.ensures.most c.take.ensures.delimiter (ap (λ n. p.room - n) c.len.ensures.value)

pub returns-then-not-ahead-clause-step : goal.returns-then-not-ahead-clause-step
returns-then-not-ahead-clause-step c =
    body_awaits c.args.self.now c.in_ok-ahead.ahead c.in_ok-ahead.ensures.ahead c.in_ok-ahead.ensures.within c.look_ahead.new.self c.look_ahead.ensures.same c.requires (omega (arith, c.if-ahead-gt0.false)) (unset c.in_ok-ahead.ahead.has_come c.if-not-ahead.true)

pub returns-clause-step : goal.returns-clause-step
returns-clause-step c =
    end_given c.args.self.now c.in_ok-ahead.ahead c.in_ok-ahead.ensures.ahead c.in_ok-ahead.ensures.within c.look_ahead.new.self c.pass_delimiter.new.self c.look_ahead.ensures.same c.requires (omega (arith, c.if-ahead-gt0.false))
    (is_set c.in_ok-ahead.ahead.has_come c.if-not-ahead.false) c.pass_delimiter.ensures
