-- Bytes of a stream that wait for a delimiter.
use Rattle.std.specs.Prelude.{◌≡◌, ℕ, ◌+◌, ◌-◌, ◌<◌, ◌≤◌, true, false, List, length, take, drop}
use Rattle.bytes_utils.specs.Occurrence.{Occurs}
use Rattle.bytes_utils_codec.specs.Frames.{TakesFrame}
use Rattle.bytes_utils_codec.specs.Search.{NoneBeginsInSearch, Searching}
use Rattle.bytes_utils_protocols.specs.declared.multipart.waiting.Ahead.{Ahead}

-- what clauses see of them: the delimiter, and the bytes
pub record MultipartWaiting : Type 0 where
  pub delimiter : List ℕ
  pub held : List ℕ

-- Of the bytes, a search has passed none in which its needle begins, whatever comes after them, and none of the last ones, one fewer than it has.
pub record IsSearchWithin (search : Searching) (held : List ℕ) : Type 0 where
  pub none : NoneBeginsInSearch search.needle held search.searched
  pub within : search.searched ≤ length held - (length search.needle - 1)

-- What a search for a needle found: how many bytes there are at the front in which none begins, whatever comes after all. The needle comes after those,
-- or it has not come, and they are all bytes but the last ones, one fewer than it has.
pub record IsAheadOfNeedle (needle held : List ℕ) (ahead : Ahead) : Type 0 where
  pub within : ahead.len ≤ length held
  pub apart : NoneBeginsInSearch needle held ahead.len
  pub here : ahead.has_come ≡ true → TakesFrame needle held (take ahead.len held) (drop (ahead.len + length needle) held)
  pub fits : ahead.has_come ≡ true → ahead.len + length needle ≤ length held
  pub lacks : ahead.has_come ≡ false → ¬ Occurs needle held
  pub most : ahead.has_come ≡ false → ahead.len ≡ length held - (length needle - 1)
  pub some : 0 < length needle
