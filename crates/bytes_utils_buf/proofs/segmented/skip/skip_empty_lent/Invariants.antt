use Rattle.std.proofs.Common.{◌≡◌, ◌+◌, ◌-◌, ◌≤◌, length, map, take}
use Rattle.std.specs.List.{concat}
use Rattle.bytes_utils_buf.proofs.segmented.skip.skip_empty_lent.Given as goal

abbrev pub invariant-loop-tally : goal.invariant-loop-tally
invariant-loop-tally g l =
    (l.empty ≤ length l.fn.bufs)
    × (length (concat (take l.empty (map g.B.Buf.unread l.fn.bufs))) ≡ 0)
    × (l.tally ≡ record { given = l.fn.tally.given; dropped = l.fn.tally.dropped; calls = l.fn.tally.calls; turns = l.fn.tally.turns + l.empty })

abbrev pub decreases-loop-tally : goal.decreases-loop-tally
decreases-loop-tally g l = length l.fn.bufs - l.empty
