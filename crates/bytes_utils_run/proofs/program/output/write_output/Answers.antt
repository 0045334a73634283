use Rattle.std.proofs.Common.{◌-◌, ◌++◌, length, take, take-add, drop, sym, ap, subst, ◌∙◌, arith, length-take}
use Rattle.std.proofs.lemmas.List.{take-take}
use Rattle.std.proofs.KnownBytes.{Appends-trans}
use Rattle.std.specs.Io.KnownBytes.{Appends}
use Rattle.bytes_utils_run.proofs.program.output.write_output.Goals as goal

-- the bytes written before this call and those that it took are the bytes written now
pub loop-written-preserved : goal.loop-written-preserved
loop-written-preserved g c =
    let written = c.loop-written.written in
    let count = c.in-Ok.count in
    let bytes = c.args.bytes.now in
    let before = c.loop-written.invariant in
    let fits = c.in-Ok.ensures.bound in
    let most = length-take (length bytes - written) (drop written bytes) in
    let joined = ap (λ part. take written bytes ++ part) (take-take count (length bytes - written) (drop written bytes) (omega arith)) ∙ sym (take-add written count bytes) in
    (omega arith, subst (Appends _ _) joined (Appends-trans _ _ _ _ _ before.1 c.in-Ok.ensures.bytes))
