use Rattle.std.proofs.Common.{◌≡◌, ◌++◌, map}
use Rattle.std.specs.List.{concat}
use Rattle.bytes_utils.proofs.string.text.StrInner.extend_strs.Given as goal

-- the text is the old one and then the items so far
abbrev pub invariant-loop-s : goal.invariant-loop-s
invariant-loop-s g l = l.self ≡ l.fn.self ++ concat (map (λ s. s.now) l.yielded)
