use Rattle.std.proofs.Common.{◌≡◌, [], ◌∷◌}
use Rattle.bytes_utils.proofs.Joins.{empty_back}
use Rattle.bytes_utils.proofs.NoText.{along_then}
use Rattle.bytes_utils.proofs.string.text.StrInner.from_chars.Goals as goal

-- a character came
pub returns-in_err-extend_chars-clause-empty : goal.returns-in_err-extend_chars-clause-empty
returns-in_err-extend_chars-clause-empty g c along =
    let came = c.in_err-extend_chars.ensures.err in
    let refused = c.in_err-extend_chars.field-0.0.back in
    let none : refused ∷ [] ≡ [] =
    empty_back came.0 _ (along_then g.I.Iterator.next_gives c.args.chars (λ items. items ≡ []) came.0 refused came.1 along came.2) in
    absurd cc
