use Rattle.std.proofs.Common.{◌∙◌, sym, ap, subst, OnOk, OnErr}
use Rattle.std.proofs.lemmas.Str.{encodes-chars}
use Rattle.std.specs.Io.KnownBytes.{Appends}
use Rattle.std.specs.Str.{chars, encode_utf8_all as encodes}
use Rattle.bytes_utils_run.specs.AppendsAndConsumes.{AppendsBeginning}
use Rattle.bytes_utils_run.specs.Printed.{printed}
use Rattle.bytes_utils_run.proofs.program.print.StrInnerPrintable.print.Goals as goal

-- a part's bytes are the UTF-8 of its characters
pub returns-clause-ok : goal.returns-clause-ok
returns-clause-ok g c =
    let same = c.as_bytes.ensures.value ∙ sym (encodes-chars c.as_str.result.now c.as_str.utf8) ∙ ap (λ z. encodes (chars z)) c.as_str.ensures.value in
    subst (λ bytes. OnOk c.output_bytes.result (Appends (g.W.Write.contents c.args.writer.now) (g.W.Write.contents c.output_bytes.new.writer) (printed bytes))) same c.output_bytes.ensures.ok

pub returns-clause-err : goal.returns-clause-err
returns-clause-err g c =
    let same = c.as_bytes.ensures.value ∙ sym (encodes-chars c.as_str.result.now c.as_str.utf8) ∙ ap (λ z. encodes (chars z)) c.as_str.ensures.value in
    subst (λ bytes. OnErr c.output_bytes.result (AppendsBeginning (g.W.Write.contents c.args.writer.now) (g.W.Write.contents c.output_bytes.new.writer) (printed bytes))) same c.output_bytes.ensures.err
