-- Commands of the Redis protocol are read as they were written.
use Rattle.std.proofs.Common.{◌≡◌, ℕ, ◌+◌, ◌-◌, ◌<◌, ◌≤◌, ◌^◌, List, [], ◌∷◌, ◌++◌, length, map, take, get_or, Some, All, decimal, ap, ◌∙◌, sym, refl, subst, arith, append_assoc, length-append}
use Rattle.std.specs.List.{flat_map}
use Rattle.std.proofs.lemmas.List.{length-map}
use Rattle.std.proofs.lemmas.List.Elements.{All-head, All-tail}
use Rattle.std.proofs.lemmas.List.Folds.{length-flat_map-take}
use Rattle.bytes_utils_codec.specs.Frames.{TakesFrame}
use Rattle.bytes_utils_codec.specs.StreamRuns.{AreFirstOfRun}
use Rattle.bytes_utils_protocols.specs.Redis.{redis_line_end, redis_first_byte, redis_body, after_redis_line, IsRedisLineOf, IsRedisLineRest, TakesRedisItem, AreWholeRedisItems, TakesRedisReply}
use Rattle.bytes_utils_protocols.specs.RedisCommand.{IsRedisCommandWithin, redis_bulk_bytes, redis_bulk_item, redis_command_bytes, redis_command_items, redis_length_bytes}
use Rattle.bytes_utils_protocols.specs.declared.redis.item.Item.{Item}
use Rattle.bytes_utils_protocols.specs.declared.redis.item.Item.TheVariants.{Array}
use Rattle.bytes_utils_protocols.specs.declared.redis.limits.Limits.{Limits}
use Rattle.bytes_utils_protocols.proofs.DigitsLemmas.{WriteNumber-decimal, decimal_short}
use Rattle.bytes_utils_protocols.proofs.ReplyLines.{framed_line, line_no_return}

-- ---- how long a command is

bulk_longer : (word : List ℕ) → length word < length (redis_bulk_bytes word)
bulk_longer word =
    let line = redis_length_bytes 36 (length word) in
    omega (arith, length-append (line ++ word) redis_line_end, length-append line word, length-append (36 ∷ decimal (length word)) redis_line_end)

bulks_more : (words : List (List ℕ)) → length words ≤ length (flat_map redis_bulk_bytes words)
bulks_more [] = omega arith
bulks_more (word ∷ words) =
    omega (arith, bulk_longer word, bulks_more words, length-append (redis_bulk_bytes word) (flat_map redis_bulk_bytes words))

-- what came before a word, and the word
pub bulks_before : (words : List (List ℕ)) (i n : ℕ) (whole word : List ℕ) → i < length words → word ≡ get_or words i word
    → whole ≡ redis_length_bytes 42 (length words) ++ flat_map redis_bulk_bytes (take i words) → n ≤ length whole + length (redis_bulk_bytes word) → n ≤ length (redis_command_bytes words)
bulks_before words i n whole word inside at is long =
    let line = redis_length_bytes 42 (length words) in
    let those = flat_map redis_bulk_bytes (take i words) in
    omega (
      arith,
      long,
      ap length is,
      length-append line those,
      length-append line (flat_map redis_bulk_bytes words),
      ap (λ w. length (redis_bulk_bytes w)) at,
      length-flat_map-take redis_bulk_bytes words i word inside,
    )

-- ---- its items

bulks_whole : (words : List (List ℕ)) (n : ℕ) → n ≡ length words → AreWholeRedisItems n (map redis_bulk_item words)
bulks_whole [] n is = is
bulks_whole (word ∷ words) n is = (omega (arith, is), bulks_whole words ((n - 1) + 0) (omega (arith, is)))

module _ (limits : Limits) (lines : 21 ≤ limits.line) where
  -- a line with a length, and what follows it
  takes_length : (item : Item) (n : ℕ) (rest : List ℕ) → n < 2 ^ 64 → IsRedisLineRest item (decimal n) → length (redis_body item) ≤ limits.bulk
      → TakesRedisItem limits (redis_length_bytes (redis_first_byte item) n ++ (after_redis_line item ++ rest)) item rest
  takes_length item n rest fits says small =
      let line = redis_first_byte item ∷ decimal n in
      let following = after_redis_line item ++ rest in
      let is : IsRedisLineOf item line = (decimal n, refl, says) in
      record {
        line = line;
        is = is;
        bytes = subst (λ l. TakesFrame redis_line_end l line following) (sym (append_assoc line redis_line_end following))
            (framed_line line following (line_no_return item line is));
        short = omega (arith, lines, decimal_short n fits);
        small = small;
      }

  takes_bulk : (word rest : List ℕ) → length word < 2 ^ 64 → length word ≤ limits.bulk → TakesRedisItem limits (redis_bulk_bytes word ++ rest) (redis_bulk_item word) rest
  takes_bulk word rest fits small =
      let line = redis_length_bytes 36 (length word) in
      let same : line ++ ((word ++ redis_line_end) ++ rest) ≡ redis_bulk_bytes word ++ rest =
      sym (append_assoc line (word ++ redis_line_end) rest) ∙ ap (λ l. l ++ rest) (sym (append_assoc line word redis_line_end)) in
      subst (λ l. TakesRedisItem limits l (redis_bulk_item word) rest) same
      (takes_length (redis_bulk_item word) (length word) rest fits (WriteNumber-decimal (length word) fits) small)

  takes_bulks : (words : List (List ℕ)) (rest : List ℕ) → length (flat_map redis_bulk_bytes words) < 2 ^ 64 → All (λ word. length word ≤ limits.bulk) words
      → AreFirstOfRun (TakesRedisItem limits) (flat_map redis_bulk_bytes words ++ rest) (map redis_bulk_item words) rest
  takes_bulks [] rest fits small = refl
  takes_bulks (word ∷ words) rest fits small =
      let others = flat_map redis_bulk_bytes words in
      let size = length-append (redis_bulk_bytes word) others in (
        others ++ rest,
        subst (λ l. TakesRedisItem limits l (redis_bulk_item word) (others ++ rest)) (sym (append_assoc (redis_bulk_bytes word) others rest))
            (takes_bulk word (others ++ rest) (omega (arith, fits, size, bulk_longer word)) (All-head (λ word. length word ≤ limits.bulk) word words small)),
        takes_bulks words rest (omega (arith, fits, size)) (All-tail (λ word. length word ≤ limits.bulk) word words small),
      )

-- ---- the whole of it

pub takes_command : (limits : Limits) (words : List (List ℕ)) (rest : List ℕ) → length (redis_command_bytes words) < 2 ^ 64 → IsRedisCommandWithin limits words
    → TakesRedisReply limits (redis_command_bytes words ++ rest) (redis_command_items words) rest
takes_command limits words rest fits within =
    let line = redis_length_bytes 42 (length words) in
    let bulks = flat_map redis_bulk_bytes words in
    let size = length-append line bulks in
    let count : length words < 2 ^ 64 = omega (arith, fits, size, bulks_more words, length-append (42 ∷ decimal (length words)) redis_line_end) in
    let item = Array (Some (length words)) in
    record {
      are = (
        bulks ++ rest,
        subst (λ l. TakesRedisItem limits l item (bulks ++ rest)) (sym (append_assoc line bulks rest))
            (takes_length limits within.lines item (length words) (bulks ++ rest) count (WriteNumber-decimal (length words) count) (omega arith)),
        takes_bulks limits within.lines words rest (omega (arith, fits, size)) within.bulk,
      );
      whole = (omega arith, bulks_whole words ((1 - 1) + length words) (omega arith));
      few = omega (arith, within.items, length-map words redis_bulk_item);
    }
