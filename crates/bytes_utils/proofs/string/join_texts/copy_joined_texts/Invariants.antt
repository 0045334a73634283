use Rattle.std.proofs.Common.{◌≡◌, take}
use Rattle.bytes_utils.specs.Parts.{join}
use Rattle.bytes_utils.proofs.Joins.{gap}
use Rattle.bytes_utils.proofs.string.join_texts.copy_joined_texts.Given as goal

-- the joined texts so far, and what comes before the next one
abbrev pub invariant-loop-text : goal.invariant-loop-text
invariant-loop-text l = record {
  joined : l.joined ≡ join l.fn.separator (take l.text-index l.texts);
  between : l.between ≡ gap l.fn.separator (take l.text-index l.texts);
}
