-- Bytes that were let go.
use Rattle.std.specs.Prelude.{ℕ, List, [], ◌++◌, take}
use Rattle.std.specs.List.{concat}
use Rattle.bytes_utils_protocols.specs.declared.redis.passed.Log.{Log, Start, More'}

-- the bytes that a log has
abbrev pub passed_bytes : Log → List ℕ
passed_bytes Start = []
passed_bytes (More' len bytes m before) = passed_bytes before ++ take len (concat bytes.value.held.segments)
