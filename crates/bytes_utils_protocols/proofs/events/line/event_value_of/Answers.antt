use Rattle.std.proofs.Common.{◌∙◌, ap, arith, refl}
use Rattle.std.proofs.lemmas.Str.Pattern.{strip_prefix_char}
use Rattle.bytes_utils_protocols.proofs.EventsLemmas.{without_space_found}
use Rattle.bytes_utils_protocols.proofs.events.line.event_value_of.Goals as goal

pub returns : goal.returns
returns c =
    let found = strip_prefix_char 32 c.args.text.now c.strip_prefix.result c.strip_prefix.ensures.cases (omega arith) in
    ap (λ t. t.now) c.unwrap_or.ensures ∙ without_space_found c.args.text.now c.strip_prefix.result found c.args.text refl
