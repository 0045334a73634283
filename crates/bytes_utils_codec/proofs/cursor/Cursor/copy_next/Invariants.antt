use Rattle.std.proofs.Common.{◌≡◌, ◌-◌, ◌≤◌, length, take}
use Rattle.bytes_utils_codec.specs.Cursor.{passed_on, unread}
use Rattle.bytes_utils_codec.proofs.cursor.Cursor.copy_next.Given as goal

abbrev pub invariant-loop-filled : goal.invariant-loop-filled
invariant-loop-filled g l =
    (l.filled ≤ length l.dst)
    × (take l.filled l.dst ≡ take l.filled (unread l.fn.self))
    × (l.self ≡ passed_on l.filled l.fn.self)

abbrev pub decreases-loop-filled : goal.decreases-loop-filled
decreases-loop-filled g l = length l.initial.dst - l.filled
