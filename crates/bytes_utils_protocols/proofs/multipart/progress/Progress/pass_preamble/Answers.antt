use Rattle.std.proofs.Common.{refl}
use Rattle.bytes_utils_protocols.proofs.MultipartStreamLemmas.{preamble_awaits, preamble_dropped, preamble_passed}
use Rattle.bytes_utils_protocols.proofs.multipart.progress.Progress.pass_preamble.Goals as goal

pub returns-then-ahead-clause-ok : goal.returns-then-ahead-clause-ok
returns-then-ahead-clause-ok c =
    preamble_passed c.args.self.now c.in_ok-ahead.ahead c.in_ok-ahead.ensures.ahead c.in_ok-ahead.ensures.within c.look_ahead.new.self c.pass_delimiter.new.self c.look_ahead.ensures.same c.in-Preamble.is c.if-ahead.true c.pass_delimiter.ensures

pub returns-clause-ok : goal.returns-clause-ok
returns-clause-ok c =
    preamble_dropped c.args.self.now c.in_ok-ahead.ahead c.in_ok-ahead.ensures.ahead c.in_ok-ahead.ensures.within c.look_ahead.new.self c.advance.new.self _ c.look_ahead.ensures.same c.in-Preamble.is c.advance.ensures refl

pub returns-clause-awaits : goal.returns-clause-awaits
returns-clause-awaits c _ =
    preamble_awaits c.args.self.now c.in_ok-ahead.ahead c.in_ok-ahead.ensures.ahead c.in_ok-ahead.ensures.within c.look_ahead.new.self c.advance.new.self c.look_ahead.ensures.same c.if-ahead.false c.advance.ensures
