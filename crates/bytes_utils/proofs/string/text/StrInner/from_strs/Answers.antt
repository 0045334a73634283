use Rattle.std.proofs.Common.{◌≡◌, [], map}
use Rattle.std.specs.List.{concat}
use Rattle.bytes_utils.proofs.NoText.{along_then, texts_last}
use Rattle.bytes_utils.proofs.string.text.StrInner.from_strs.Goals as goal

-- the refused item has a byte
pub returns-in_err-extend_strs-clause-empty : goal.returns-in_err-extend_strs-clause-empty
returns-in_err-extend_strs-clause-empty g c along =
    let came = c.in_err-extend_strs.ensures.err in
    let refused = c.in_err-extend_strs.field-0.0.back in
    let none = along_then g.I.Iterator.next_gives c.args.strs (λ items. concat (map (λ s. s.now) items) ≡ []) came.0 refused came.1 along came.2 in
    absurd (c.in_err-extend_strs.ensures.empty (texts_last (λ s. s.now) came.0 refused none))
