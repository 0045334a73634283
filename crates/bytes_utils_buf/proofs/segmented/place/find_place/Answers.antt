use Rattle.std.proofs.Common.{arith, refl}
use Rattle.bytes_utils_buf.proofs.Lists.{SkipsSegments-from_place}
use Rattle.bytes_utils_buf.proofs.segmented.place.find_place.Goals as goal

pub returns-then-at-len-clause-skips : goal.returns-then-at-len-clause-skips
returns-then-at-len-clause-skips g c = SkipsSegments-from_place _ _ _ _ _ c.place_from_front.ensures (omega (arith, c.requires.len, c.requires.within)) refl

pub returns-else-at-len-clause-skips : goal.returns-else-at-len-clause-skips
returns-else-at-len-clause-skips g c = SkipsSegments-from_place _ _ _ _ _ c.place_from_back.ensures (omega (arith, c.requires.len, c.requires.within)) refl
