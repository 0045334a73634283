use Rattle.std.proofs.Common.{◌≡◌, ◌<◌, take, map}
use Rattle.std.specs.Prelude.{All}
use Rattle.serde_json.specs.View.{view}
use Rattle.bytes_utils.specs.Json.{json_number}
use Rattle.bytes_utils.proofs.json.json_bytes.Given as goal

-- the members so far are the numbers of the bytes so far
abbrev pub invariant-loop-member : goal.invariant-loop-member
invariant-loop-member g l = record {
  are : map view (take l.member-index l.members) ≡ map json_number (g.S.Storage.stored l.bytes);
  in_range : All (λ b. b < 256) (g.S.Storage.stored l.bytes);
}
