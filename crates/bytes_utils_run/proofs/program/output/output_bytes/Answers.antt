use Rattle.std.proofs.Common.{◌++◌, codes, decimal, length}
use Rattle.std.proofs.KnownBytes.{Appends-trans}
use Rattle.std.proofs.lemmas.Result.{on_err_weaker}
use Rattle.bytes_utils_buf.proofs.Results.{OnErr-always}
use Rattle.bytes_utils_run.proofs.Beginnings.{AppendsBeginning-after, AppendsBeginning-more}
use Rattle.bytes_utils_run.proofs.program.output.output_bytes.Goals as goal

-- the length was written, and none or all of the colon
pub returns-in_err-write_output-2-clause-err : goal.returns-in_err-write_output-2-clause-err
returns-in_err-write_output-2-clause-err g c =
    let part = c.args.bytes.now in
    let size = rw (c.as_bytes.ensures.value, c.format.ensures.text) at c.in_ok-write_output.ensures.ok in
    OnErr-always _ _
    (AppendsBeginning-more _ _ (decimal (length part) ++ codes ":" ++ part) (codes "\n")
    (AppendsBeginning-more _ _ (decimal (length part) ++ codes ":") part
    (AppendsBeginning-after _ _ _ (decimal (length part)) (codes ":") size c.in_err-write_output-2.ensures.err)))

-- the length and the colon were written, and first bytes of the part
pub returns-in_err-write_output-3-clause-err : goal.returns-in_err-write_output-3-clause-err
returns-in_err-write_output-3-clause-err g c =
    let part = c.args.bytes.now in
    let size = rw (c.as_bytes.ensures.value, c.format.ensures.text) at c.in_ok-write_output.ensures.ok in
    let head = Appends-trans _ _ _ (decimal (length part)) (codes ":") size c.in_ok-write_output-2.ensures.ok in
    OnErr-always _ _
    (AppendsBeginning-more _ _ (decimal (length part) ++ codes ":" ++ part) (codes "\n")
    (AppendsBeginning-after _ _ _ (decimal (length part) ++ codes ":") part head c.in_err-write_output-3.ensures.err))

-- all but the line feed was written, and none or all of that
pub returns-clause-err : goal.returns-clause-err
returns-clause-err g c =
    let part = c.args.bytes.now in
    let size = rw (c.as_bytes.ensures.value, c.format.ensures.text) at c.in_ok-write_output.ensures.ok in
    let head = Appends-trans _ _ _ (decimal (length part)) (codes ":") size c.in_ok-write_output-2.ensures.ok in
    let body = Appends-trans _ _ _ (decimal (length part) ++ codes ":") part head c.in_ok-write_output-3.ensures.ok in
    on_err_weaker c.write_output-4.result
    (λ begun. AppendsBeginning-after _ _ _ (decimal (length part) ++ codes ":" ++ part) (codes "\n") body begun)
    c.write_output-4.ensures.err
