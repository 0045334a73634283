use Rattle.std.proofs.Common.{List, ℕ, ◌++◌, take}
use Rattle.bytes_utils_protocols.specs.RedisLine.{IsRedisLineReadAs}
use Rattle.bytes_utils_protocols.proofs.redis.line.Line.read.Given as goal

-- the bytes before this one were read
abbrev pub invariant-loop-byte : goal.invariant-loop-byte
invariant-loop-byte l = (bytes : List ℕ) → IsRedisLineReadAs l.fn.self bytes → IsRedisLineReadAs l.line (bytes ++ take l.byte-index l.bytes)
