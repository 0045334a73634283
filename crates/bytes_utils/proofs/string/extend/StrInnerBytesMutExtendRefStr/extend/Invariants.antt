use Rattle.std.proofs.Common.{◌≡◌, ◌++◌}
use Rattle.std.specs.List.{flat_map}
use Rattle.bytes_utils.proofs.string.extend.StrInnerBytesMutExtendRefStr.extend.Given as goal

-- the text is the old one and then the items so far
abbrev pub invariant-loop-part : goal.invariant-loop-part
invariant-loop-part g l = l.self ≡ l.fn.self ++ flat_map (λ item. item.now) l.yielded
