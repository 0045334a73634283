use Rattle.std.proofs.Common.{◌≡◌, ◌++◌, sym, subst, arith}
use Rattle.std.proofs.lemmas.Grind.{common_steps}
use Rattle.std.specs.List.{concat}
use Rattle.bytes_utils_protocols.specs.Netstrings.{TakesNetstringWithin, netstring_bytes}
use Rattle.bytes_utils_protocols.proofs.NetstringsLemmas.{takes_written}
use Rattle.bytes_utils_protocols.proofs.netstrings.netstring.Goals as goal

pub returns-clause-reads : goal.returns-clause-reads
returns-clause-reads c limit rest within =
    let text = c.args.text in
    let bytes : concat c.push-3.new.self.segments ≡ netstring_bytes text = grind (arith, common_steps) in
    subst (λ l. TakesNetstringWithin limit (l ++ rest) text rest) (sym bytes) (takes_written limit text rest (omega (arith, c.len.ensures.value, c.len.ensures.bound)) within)
