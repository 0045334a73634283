-- Writing a buffer out.
use Rattle.std.specs.Prelude.{◌≡◌, ℕ, ◌+◌, ◌-◌, ◌≤◌, List, ◌++◌, length, take, Option}
use Rattle.std.specs.Io.KnownBytes.{Appends}

-- The writer held `held` and now holds `held'`: the first of the unread bytes were written, and the others are left.
pub record WritesFront (held held' : Option (List ℕ)) (unread unread' : List ℕ) : Type 0 where
  pub written : List ℕ
  pub appends : Appends held held' written
  pub whole : written ++ unread' ≡ unread

-- The writer held `held` and now holds `held'`: the number of first bytes by which the count rose was written.
pub record WritesCounted (held held' : Option (List ℕ)) (count count' : ℕ) (bytes : List ℕ) : Type 0 where
  pub rises : count ≤ count'
  pub within : count' ≤ count + length bytes
  pub appends : Appends held held' (take (count' - count) bytes)
