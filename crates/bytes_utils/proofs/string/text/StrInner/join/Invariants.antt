use Rattle.std.proofs.Common.{◌≡◌, map}
use Rattle.bytes_utils.specs.Parts.{join}
use Rattle.bytes_utils.proofs.Joins.{gap}
use Rattle.bytes_utils.proofs.string.text.StrInner.join.Given as goal

-- the text is the joined parts so far, and `between` is what comes before the next part
abbrev pub invariant-loop-part : goal.invariant-loop-part
invariant-loop-part g l = record {
  joined : l.text ≡ join l.fn.separator (map (λ part. part.now) l.yielded);
  between : l.between ≡ gap l.fn.separator (map (λ part. part.now) l.yielded);
}
