-- The members of a JSON list, and the bytes that they are.
use Rattle.std.proofs.Common.{◌≡◌, ◌≢◌, ℕ, ◌+◌, ◌<◌, List, [], ◌∷◌, ◌++◌, length, get_or, take, map, sym, ap, ◌∙◌, arith}
use Rattle.std.specs.Prelude.{All}
use Rattle.std.proofs.lemmas.List.{take_more, get_or-map, length-map, map_push}
use Rattle.serde_json.specs.View.{view}
use Rattle.serde_json.specs.declared.value.Value.{Value}
use Rattle.bytes_utils.specs.Json.{json_number}

-- one more member, which is a whole number
pub members_push : (members : List Value) (i : ℕ) (bytes : List ℕ) (member : Value) (byte : ℕ) → i < length members → member ≡ get_or members i member
    → view member ≡ json_number byte → map view (take i members) ≡ map json_number bytes → map view (take (i + 1) members) ≡ map json_number (bytes ++ byte ∷ [])
members_push members i bytes member byte within here is so_far =
    rw (take_more members i member within, map_push view (take i members) (get_or members i member), ← here, is, so_far) (sym (map_push json_number bytes byte))

-- a list with a member that is no whole number from 0 to 255 is not a list of bytes
pub other_member : (members : List Value) (i : ℕ) (member : Value) → i < length members → member ≡ get_or members i member
    → ((n : ℕ) → n < 256 → view member ≢ json_number n)
    → (ns : List ℕ) → All (λ n. n < 256) ns → map view members ≢ map json_number ns
other_member members i member within here other ns in_range same =
    let long : length members ≡ length ns = sym (length-map members view) ∙ ap length same ∙ length-map ns json_number in
    let below : i < length ns = omega arith in
    other (get_or ns i 0) (in_range i 0 below)
    (ap view here ∙ sym (get_or-map view members i member (view member) within) ∙ ap (λ values. get_or values i (view member)) same
    ∙ get_or-map json_number ns i 0 (view member) below)
