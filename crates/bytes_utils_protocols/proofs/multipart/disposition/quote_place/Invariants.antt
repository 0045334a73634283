use Rattle.std.proofs.Common.{◌≡◌, List, ℕ, ◌++◌, false, take}
use Rattle.bytes_utils_protocols.specs.Disposition.{fit_between_disposition_quotes}
use Rattle.bytes_utils_protocols.proofs.multipart.disposition.quote_place.Given as goal

-- all bytes so far may be between quotes
abbrev pub invariant-loop-place : goal.invariant-loop-place
invariant-loop-place l = (more : List ℕ) → fit_between_disposition_quotes false (take l.place l.text ++ more) ≡ fit_between_disposition_quotes l.escaped more
