use Rattle.std.proofs.Common.{◌≤◌, take}
use Rattle.std.specs.List.{prefix_len}
use Rattle.bytes_utils_protocols.specs.Headers.{is_header_blank}
use Rattle.bytes_utils_protocols.proofs.multipart.waiting.Waiting.begins_with_padding.Given as goal

-- the bytes before this place are blanks
abbrev pub invariant-loop-place : goal.invariant-loop-place
invariant-loop-place l = l.place ≤ prefix_len is_header_blank (take l.len l.self.held)
