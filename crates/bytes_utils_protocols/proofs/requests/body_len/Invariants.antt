use Rattle.bytes_utils_protocols.specs.Requests.{request_header_lines}
use Rattle.bytes_utils_protocols.proofs.HeadLines.{LeavesLines, SoFar}
use Rattle.bytes_utils_protocols.proofs.requests.body_len.Given as goal

-- these lines are left
abbrev pub invariant-loop-line : goal.invariant-loop-line
invariant-loop-line l = record {
  can_next : (goal.iterator-loop-line).can_next l.line-iterator;
  is_finite : (goal.iterator-loop-line).is_finite l.line-iterator;
  left : LeavesLines (goal.iterator-loop-line).next_gives (λ line. line.now) l.line-iterator (λ left. SoFar (request_header_lines l.fn.head) left l.known);
}
