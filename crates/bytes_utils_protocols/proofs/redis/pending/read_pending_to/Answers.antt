use Rattle.std.proofs.Common.{arith, ◌≡◌, ◌≢◌, ◌+◌, ◌++◌, ◌∙◌, refl, ap, subst, take, append_assoc, sym}
use Rattle.std.proofs.lemmas.Bool.{false≢true}
use Rattle.std.proofs.lemmas.Result.{err_from_is_err_and}
use Rattle.std.specs.List.{concat, slice_range}
use Rattle.bytes_utils_buf.specs.Segments.{IsInOneSegment}
use Rattle.bytes_utils_protocols.specs.Redis.{IsRedisLineOf}
use Rattle.bytes_utils_protocols.specs.RedisLine.{IsRedisLineReadAs}
use Rattle.bytes_utils_protocols.proofs.ReplyEnds.{byte_in_segment, read_on}
use Rattle.bytes_utils_protocols.proofs.redis.pending.read_pending_to.Goals as goal

pub returns-in-Some-clause-read : goal.returns-in-Some-clause-read
returns-in-Some-clause-read c =
    let u = concat c.args.pieces.now.held.segments in
    let begun = c.args.begun in
    let front : take begun.len u ++ c.deref.result.now ≡ take c.args.len u =
    ap (λ l. take begun.len u ++ l) (c.deref.ensures.value ∙ c.in_ok-bytes.ensures.value ∙ ap (λ held. slice_range (concat held.segments) begun.len c.args.len) c.as_segmented.ensures)
    ∙ read_on u begun.len c.args.len c.requires.further in
    (refl, (c.requires.within, subst (IsRedisLineReadAs c.in-Some.line) front (c.in-Some.ensures (take begun.len u) c.requires.begun.1)))

pub returns-clause-malformed : goal.returns-clause-malformed
returns-clause-malformed c _ item more line =
    let u = concat c.args.pieces.now.held.segments in
    let begun = c.args.begun in
    let front : take begun.len u ++ c.deref.result.now ≡ take c.args.len u =
    ap (λ l. take begun.len u ++ l) (c.deref.ensures.value ∙ c.in_ok-bytes.ensures.value ∙ ap (λ held. slice_range (concat held.segments) begun.len c.args.len) c.as_segmented.ensures)
    ∙ read_on u begun.len c.args.len c.requires.further in
    c.in-None.ensures (take begun.len u) c.requires.begun.1 item more
    (subst (IsRedisLineOf item) (ap (λ l. l ++ more) (sym front) ∙ append_assoc (take begun.len u) c.deref.result.now more) line)

pub returns-in_err-bytes-clause-due : goal.returns-in_err-bytes-clause-due
returns-in_err-bytes-clause-due c =
    let out = err_from_is_err_and c.from_residual.result c.from_residual.ensures.1 in
    let other : c.args.begun.len ≢ c.args.len = λ same. false≢true (c.in_err-bytes.ensures.none same) in
    let next : c.args.len ≢ c.args.begun.len + 1 = λ one.
    let held = byte_in_segment c.args.pieces.now.held.segments c.args.begun.len c.args.len one c.requires.within in
    false≢true (c.in_err-bytes.ensures.one (subst (λ held. IsInOneSegment c.args.begun.len c.args.len held.segments) (sym c.as_segmented.ensures) held)) in
    rw out.1 (λ reason is. omega (arith, c.requires.further, other, next))
