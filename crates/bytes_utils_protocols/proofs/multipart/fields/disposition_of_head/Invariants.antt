use Rattle.std.proofs.Common.{option_map, string_bytes}
use Rattle.std.specs.Str.Lines.{lines}
use Rattle.bytes_utils_protocols.proofs.HeadLines.{LeavesLines}
use Rattle.bytes_utils_protocols.proofs.MultipartLemmas.{ReadsDispositionLines}
use Rattle.bytes_utils_protocols.proofs.multipart.fields.disposition_of_head.Given as goal

-- these lines are left
abbrev pub invariant-loop-line : goal.invariant-loop-line
invariant-loop-line l = record {
  can_next : (goal.iterator-loop-line).can_next l.line-iterator;
  is_finite : (goal.iterator-loop-line).is_finite l.line-iterator;
  left : LeavesLines (goal.iterator-loop-line).next_gives (λ line. line.now) l.line-iterator (ReadsDispositionLines (lines l.fn.head) (option_map string_bytes l.found));
}
