use Rattle.std.proofs.Common.{arith}
use Rattle.std.proofs.lemmas.Str.Pattern.{strip_prefix_char}
use Rattle.bytes_utils_protocols.proofs.DispositionLemmas.{no_value}
use Rattle.bytes_utils_protocols.proofs.multipart.disposition.split_value.Goals as goal

pub returns-in-None-clause-none : goal.returns-in-None-clause-none
returns-in-None-clause-none c =
    let none = strip_prefix_char 34 c.args.text.now c.strip_prefix.result c.strip_prefix.ensures.cases (omega arith) in
    no_value c.args.text.now c.split_token.result (rw c.in-None.is at none) c.split_token.ensures.none
