use Rattle.std.proofs.Common.{◌≡◌, ◌++◌, ◌∙◌, sym, drop, take, subst}
use Rattle.std.specs.List.{concat}
use Rattle.std.proofs.lemmas.List.{length-take-le}
use Rattle.std.proofs.lemmas.Result.{err_from_is_err_and}
use Rattle.bytes_utils_codec.specs.Cursor.{unread}
use Rattle.bytes_utils_protocols.specs.Redis.{BeginsRedisBody, HasNoRedisBody}
use Rattle.bytes_utils_protocols.specs.RedisPending.{IsNoPendingItem}
use Rattle.bytes_utils_protocols.proofs.PendingReplies.{awaits_bulk, cursor_at, wrong_bulk}
use Rattle.bytes_utils_protocols.proofs.ReplyAsks.{asks_for_bulk, refused_item}
use Rattle.bytes_utils_protocols.proofs.redis.pending.pending_bulk.Goals as goal

pub returns-in_err-pass_pending_body-clause-found : goal.returns-in_err-pass_pending_body-clause-found
returns-in_err-pass_pending_body-clause-found c limits room seen few awaits =
    let u = concat c.args.pieces.now.held.segments in
    let len = c.args.len in
    let same : unread c.advance.new.self ≡ drop c.args.start u = cursor_at c.args.pieces.now.held.segments c.args.start c.new-cursor.result c.advance.new.self (rw c.as_segmented.ensures at c.new-cursor.ensures) c.advance.ensures in
    let out = err_from_is_err_and c.from_residual.result c.from_residual.ensures.1 in
    let wrong = wrong_bulk limits room u c.args.start len awaits seen (λ more. subst (λ l. HasNoRedisBody len (l ++ more)) same (c.in_err-pass_pending_body.ensures.malformed more)) in
    rw out.1 (subst (IsNoPendingItem limits room u seen) (sym (out.2 ∙ c.in_err-pass_pending_body.ensures.err)) wrong)

pub returns-then-not-branch-clause-found : goal.returns-then-not-branch-clause-found
returns-then-not-branch-clause-found c limits room seen few awaits =
    let u = concat c.args.pieces.now.held.segments in
    let len = c.args.len in
    let same : unread c.advance.new.self ≡ drop c.args.start u = cursor_at c.args.pieces.now.held.segments c.args.start c.new-cursor.result c.advance.new.self (rw c.as_segmented.ensures at c.new-cursor.ensures) c.advance.ensures in
    let waits = rw c.if-not-branch.true at c.in_ok-pass_pending_body.ensures.waits in
    let begins = rw c.if-not-branch.true at c.in_ok-pass_pending_body.ensures.begins in
    awaits_bulk limits room u c.args.start len awaits (subst (HasNoRedisBody len) same waits) (subst (BeginsRedisBody len) same begins)

pub returns-in_err-bytes-clause-found : goal.returns-in_err-bytes-clause-found
returns-in_err-bytes-clause-found c limits room seen few awaits =
    let u = concat c.args.pieces.now.held.segments in
    let old = unread c.advance.new.self in
    let rest = unread c.pass_pending_body.new.cursor in
    let same : old ≡ drop c.args.start u = cursor_at c.args.pieces.now.held.segments c.args.start c.new-cursor.result c.advance.new.self (rw c.as_segmented.ensures at c.new-cursor.ensures) c.advance.ensures in
    let body = rw c.if-not-branch.false at c.in_ok-pass_pending_body.ensures.body in
    let size = length-take-le c.args.len old (rw c.if-not-branch.false at c.in_ok-pass_pending_body.ensures.len) in
    let out = err_from_is_err_and c.from_residual-in_err-bytes.result c.from_residual-in_err-bytes.ensures.1 in
    rw out.1 (subst (IsNoPendingItem limits room u seen) (sym out.2) (refused_item limits room u seen _ c.in_err-bytes.ensures.reason
    (asks_for_bulk limits u c.args.start c.args.len awaits (take c.args.len old) rest size (sym same ∙ body) seen few)))
