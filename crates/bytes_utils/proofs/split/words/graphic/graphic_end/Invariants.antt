use Rattle.std.proofs.Common.{◌≡◌, ◌+◌, ◌-◌, ◌≤◌, length, drop}
use Rattle.std.specs.Char.{is_ascii_graphic}
use Rattle.std.specs.List.{prefix_len}
use Rattle.bytes_utils.proofs.split.words.graphic.graphic_end.Given as goal

-- all bytes so far are graphic
abbrev pub invariant-loop-at : goal.invariant-loop-at
invariant-loop-at l =
    (prefix_len is_ascii_graphic l.bytes ≡ l.at + prefix_len is_ascii_graphic (drop l.at l.bytes)) × (l.at ≤ length l.bytes)

abbrev pub decreases-loop-at : goal.decreases-loop-at
decreases-loop-at l = length l.bytes - l.at
