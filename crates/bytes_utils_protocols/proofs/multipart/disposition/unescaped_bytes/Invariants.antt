use Rattle.std.proofs.Common.{◌≡◌, ◌++◌, false, drop}
use Rattle.bytes_utils_protocols.specs.Disposition.{unescaped_disposition}
use Rattle.bytes_utils_protocols.proofs.multipart.disposition.unescaped_bytes.Given as goal

-- the bytes so far without their escapes, and what is left
abbrev pub invariant-loop-byte : goal.invariant-loop-byte
invariant-loop-byte l = l.bytes.items ++ unescaped_disposition l.escaped (drop l.byte-index l.written) ≡ unescaped_disposition false l.written
