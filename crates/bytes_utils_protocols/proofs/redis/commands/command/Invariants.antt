use Rattle.std.proofs.Common.{◌≡◌, ◌<◌, ◌^◌, ◌++◌, length, take}
use Rattle.std.specs.List.{concat, flat_map}
use Rattle.bytes_utils_protocols.specs.RedisCommand.{redis_bulk_bytes, redis_length_bytes}
use Rattle.bytes_utils_protocols.proofs.redis.commands.command.Given as goal

abbrev pub invariant-loop-word : goal.invariant-loop-word
invariant-loop-word l = record {
  bytes : concat l.whole.held.segments ≡ redis_length_bytes 42 (length l.words) ++ flat_map redis_bulk_bytes (take l.word-index l.words);
  fits : length (concat l.whole.held.segments) < 2 ^ 64;
}
