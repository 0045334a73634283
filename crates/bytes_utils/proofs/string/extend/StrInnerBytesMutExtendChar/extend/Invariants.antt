use Rattle.std.proofs.Common.{◌≡◌, ◌++◌}
use Rattle.std.specs.Str.{encode_utf8_all}
use Rattle.bytes_utils.proofs.string.extend.StrInnerBytesMutExtendChar.extend.Given as goal

-- the text is the old one and then the items so far
abbrev pub invariant-loop-c : goal.invariant-loop-c
invariant-loop-c g l = l.self ≡ l.fn.self ++ encode_utf8_all l.yielded
