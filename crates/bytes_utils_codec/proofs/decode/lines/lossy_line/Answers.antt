use Rattle.std.proofs.Common.{◌∙◌, sym, refl}
use Rattle.std.specs.Prelude.{IsUtf8}
use Rattle.std.proofs.lemmas.Str.{utf8_lossy-IsUtf8}
use Rattle.bytes_utils_codec.proofs.decode.lines.lossy_line.Goals as goal

pub returns-in-Ok-clause-ok : goal.returns-in-Ok-clause-ok
returns-in-Ok-clause-ok c =
    let utf8 : IsUtf8 c.args.bytes = c.in-Ok.ensures.variant.0 refl in
    c.in-Ok.ensures.ok ∙ sym (utf8_lossy-IsUtf8 c.args.bytes utf8)
