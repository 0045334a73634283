use Rattle.std.proofs.Common.{List, length, option_map}
use Rattle.bytes_utils_protocols.specs.Disposition.{DispositionParameter}
use Rattle.bytes_utils_protocols.proofs.DispositionLemmas.{ReadDispositionSoFar, SeenDispositionNamed}
use Rattle.bytes_utils_protocols.proofs.multipart.disposition.parameter_of.Given as goal
use denote.Shadow.{shadow}
use denote.Text.{Utf8}

-- these parameters were read
abbrev pub invariant-loop-rest : goal.invariant-loop-rest
invariant-loop-rest l = record {
  seen : List DispositionParameter;
  so_far : ReadDispositionSoFar l.text seen l.rest;
  found : SeenDispositionNamed l.name seen (option_map (λ value. value.now) l.found);
  text : shadow (Utf8 l.rest);
}

abbrev pub decreases-loop-rest : goal.decreases-loop-rest
decreases-loop-rest l = length l.rest
