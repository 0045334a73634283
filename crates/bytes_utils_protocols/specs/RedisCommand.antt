-- Commands to a server of the Redis protocol, version 2, which are arrays of bulk strings
-- (https://redis.io/docs/latest/develop/reference/protocol-spec/).
use Rattle.std.specs.Prelude.{ℕ, ◌<◌, ◌≤◌, List, ◌∷◌, ◌++◌, length, map, Some, All, decimal}
use Rattle.std.specs.List.{flat_map}
use Rattle.bytes_utils_protocols.specs.Redis.{redis_line_end}
use Rattle.bytes_utils_protocols.specs.declared.redis.item.Item.{Item}
use Rattle.bytes_utils_protocols.specs.declared.redis.item.Item.TheVariants.{Bulk, Array}
use Rattle.bytes_utils_protocols.specs.declared.redis.limits.Limits.{Limits}

-- the line that begins with this byte and writes this length, and its end
abbrev pub redis_length_bytes : ℕ → ℕ → List ℕ
redis_length_bytes kind n = kind ∷ decimal n ++ redis_line_end

-- a word as a bulk string
abbrev pub redis_bulk_bytes : List ℕ → List ℕ
redis_bulk_bytes word = redis_length_bytes 36 (length word) ++ word ++ redis_line_end

-- the number of words, and each of them
abbrev pub redis_command_bytes : List (List ℕ) → List ℕ
redis_command_bytes words = redis_length_bytes 42 (length words) ++ flat_map redis_bulk_bytes words

-- what a reader makes of a word
abbrev pub redis_bulk_item : List ℕ → Item
redis_bulk_item word = Bulk (Some word)

-- what a reader makes of a command
abbrev pub redis_command_items : List (List ℕ) → List Item
redis_command_items words = Array (Some (length words)) ∷ map redis_bulk_item words

-- The limits of a reader allow the command: a line with any `usize`, each word, and one item more than the words.
pub record IsRedisCommandWithin (limits : Limits) (words : List (List ℕ)) : Type 0 where
  pub lines : 21 ≤ limits.line
  pub bulk : All (λ word. length word ≤ limits.bulk) words
  pub items : length words < limits.items
