use Rattle.std.proofs.Common.{arith, rules}
use Rattle.std.proofs.lemmas.Str.Pattern.{strip_prefix_char}
use Rattle.bytes_utils_protocols.proofs.DispositionLemmas.{semicolon_found}
use Rattle.bytes_utils_protocols.proofs.multipart.disposition.begins_with_semicolon.Goals as goal

pub returns : goal.returns
returns c =
    let found = semicolon_found c.args.text.now c.after_blanks.result.now c.strip_prefix.result c.after_blanks.ensures.value
    (strip_prefix_char 59 c.after_blanks.result.now c.strip_prefix.result c.strip_prefix.ensures.cases (omega arith)) in
    search (rules, found)
