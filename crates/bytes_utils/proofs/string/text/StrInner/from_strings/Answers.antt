use Rattle.std.proofs.Common.{◌≡◌, [], map, string_bytes}
use Rattle.std.specs.List.{concat}
use Rattle.bytes_utils.proofs.NoText.{along_then, texts_last}
use Rattle.bytes_utils.proofs.string.text.StrInner.from_strings.Goals as goal

-- the refused item has a byte
pub returns-in_err-extend_strings-clause-empty : goal.returns-in_err-extend_strings-clause-empty
returns-in_err-extend_strings-clause-empty g c along =
    let came = c.in_err-extend_strings.ensures.err in
    let refused = c.in_err-extend_strings.field-0.0.back in
    let none = along_then g.I.Iterator.next_gives c.args.strings (λ items. concat (map string_bytes items) ≡ []) came.0 refused came.1 along came.2 in
    absurd (c.in_err-extend_strings.ensures.empty (texts_last string_bytes came.0 refused none))
