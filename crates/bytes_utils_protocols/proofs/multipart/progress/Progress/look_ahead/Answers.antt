use Rattle.std.proofs.Common.{arith, refl}
use Rattle.bytes_utils_protocols.proofs.MultipartStreamLemmas.{many_ahead, over_room}
use Rattle.bytes_utils_protocols.proofs.multipart.progress.Progress.look_ahead.Goals as goal

pub returns-then-ahead-self-clause-over : goal.returns-then-ahead-self-clause-over
returns-then-ahead-self-clause-over c =
    let s = c.args.self.now in
    (refl, over_room s.waiting.delimiter s.waiting.held c.search-ahead.result.len s.room c.search-ahead.ensures.ahead.apart c.if-ahead-self.true)

pub returns-then-ahead-self-clause-many : goal.returns-then-ahead-self-clause-many
returns-then-ahead-self-clause-many c =
    let s = c.args.self.now in
    many_ahead s.waiting.delimiter s.waiting.held c.search-ahead.result c.search-ahead.ensures.ahead (omega (arith, c.if-ahead-self.true)) c.search-ahead.result.has_come refl
