use Rattle.std.proofs.Common.{rules, ◌≡◌, length}
use Rattle.bytes_utils.proofs.NextPart.{no_chars}
use Rattle.bytes_utils.proofs.Places.{last_place}
use Rattle.bytes_utils.proofs.split.character.last_character_start.Goals as goal

pub returns-in_err-inside_last : goal.returns-in_err-inside_last
returns-in_err-inside_last c =
    let none : length c.args.text.now ≡ 0 = search rules in
    rw c.from_residual.ensures (no_chars c.args.text.now none)

pub returns : goal.returns
returns c =
    last_place c.args.text.now c.utf8.text _ (search rules) c.floor_char_boundary.ensures.boundary (λ i above below. c.floor_char_boundary.ensures.nearest i above (search rules))
