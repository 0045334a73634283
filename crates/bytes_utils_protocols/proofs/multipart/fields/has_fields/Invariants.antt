use Rattle.std.proofs.Common.{◌≡◌, List, ℕ, ◌++◌, All}
use Rattle.std.specs.Str.Lines.{lines}
use Rattle.std.proofs.lemmas.Iterator.{YieldsList}
use Rattle.bytes_utils_protocols.specs.Multipart.{IsMultipartFieldLine}
use Rattle.bytes_utils_protocols.proofs.multipart.fields.has_fields.Given as goal

-- these lines are left, and each of those before them is right
abbrev pub invariant-loop-line : goal.invariant-loop-line
invariant-loop-line l = record {
  can_next : (goal.iterator-loop-line).can_next l.line-iterator;
  is_finite : (goal.iterator-loop-line).is_finite l.line-iterator;
  before : List (List ℕ);
  left : List (List ℕ);
  coming : YieldsList (goal.iterator-loop-line).next_gives (λ line. line.now) l.line-iterator left;
  parts : lines l.fn.head ≡ before ++ left;
  each : All IsMultipartFieldLine before;
}
