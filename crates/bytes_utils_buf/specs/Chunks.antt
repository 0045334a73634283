-- What an iterator over the segments of a `SegmentedBuf` yields.
use Rattle.std.specs.Prelude.{ℕ, List, drop}
use Rattle.bytes_utils_buf.specs.declared.segmented.buf.chunks.Chunks.{Chunks}

-- the unread bytes of each segment still to come, front first
abbrev pub to_come : {B : Type 0} → Chunks B → List (List ℕ)
to_come chunks = drop chunks.place chunks.buf.now.segments
