use Rattle.std.proofs.Common.{◌≡◌, ◌<◌, ◌^◌, ◌++◌, length, ap, sym, subst, arith}
use Rattle.std.proofs.lemmas.Grind.{common_steps}
use Rattle.std.proofs.lemmas.Result.{err_from_is_err_and}
use Rattle.std.specs.List.{concat}
use Rattle.bytes_utils_protocols.specs.Redis.{TakesRedisReply}
use Rattle.bytes_utils_protocols.specs.RedisCommand.{redis_command_bytes, redis_command_items}
use Rattle.bytes_utils_protocols.proofs.RedisCommandLemmas.{bulks_before, takes_command}
use Rattle.bytes_utils_protocols.proofs.redis.commands.command.Goals as goal

pub returns-in_err-push_command_word-clause-too_long : goal.returns-in_err-push_command_word-clause-too_long
returns-in_err-push_command_word-clause-too_long c =
    let out = err_from_is_err_and c.from_residual-in_err-push_command_word.result c.from_residual-in_err-push_command_word.ensures.1 in
    rw (out.1, out.2) (λ too_long.
    bulks_before c.args.words.now c.loop-word.word-index (2 ^ 64) (concat c.loop-word.whole.held.segments) c.word-item.result c.loop-word-test.true c.word-item.is
    c.loop-word.invariant.bytes (c.in_err-push_command_word.ensures.too_long too_long))

pub returns-clause-reads : goal.returns-clause-reads
returns-clause-reads c limits rest within =
    let words = c.args.words.now in
    let bytes : concat c.in_ok-into_shared.field-0.segments ≡ redis_command_bytes words = grind (arith, common_steps) in
    let fits : length (redis_command_bytes words) < 2 ^ 64 = omega (arith, ap length bytes, ap length c.in_ok-into_shared.ensures.bytes, c.loop-word.invariant.fits) in
    subst (λ l. TakesRedisReply limits (l ++ rest) (redis_command_items words) rest) (sym bytes) (takes_command limits words rest fits within)
