-- A text split once: what is before a separator and what is after it.
use Rattle.std.specs.Prelude.{◌≡◌, ◌<◌, List, [], ◌++◌, length}
use Rattle.bytes_utils.specs.Occurrence.{OccursFirstAt, OccursLastAt}

-- The halves of t around the first p in it, as Rust's `str::split_once` gives them. The empty p occurs first at the
-- start of t.
pub record AreHalvesAtFirst {X : Type 0} (t p before following : List X) : Type 0 where
  pub joined : before ++ (p ++ following) ≡ t
  pub first : OccursFirstAt p t (length before)

-- The halves of t around the last p in it, as Rust's `str::rsplit_once` gives them. The empty p occurs everywhere, so
-- the halves are around the end of t.
pub record AreHalvesAtLast {X : Type 0} (t p before following : List X) : Type 0 where
  pub joined : before ++ (p ++ following) ≡ t
  pub last : 0 < length p → OccursLastAt p t (length before)
  pub at_end : length p ≡ 0 → following ≡ []
