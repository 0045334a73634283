use Rattle.std.proofs.Common.{◌≡◌, ◌++◌, string_bytes}
use Rattle.std.specs.List.{flat_map}
use Rattle.bytes_utils.proofs.string.extend.StrInnerBytesMutExtendString.extend.Given as goal

-- the text is the old one and then the items so far
abbrev pub invariant-loop-string : goal.invariant-loop-string
invariant-loop-string g l = l.self ≡ l.fn.self ++ flat_map string_bytes l.yielded
