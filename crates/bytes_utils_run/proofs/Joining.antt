-- All parts of a text, joined, are the text.
use Rattle.std.proofs.Common.{ℕ, List, Option, None, Some}
use Rattle.std.specs.Option.{IfNone}
use Rattle.bytes_utils.specs.Outcome.{Outcome}
use Rattle.bytes_utils.proofs.Rejoining.{front_rejoins, back_rejoins}
use Rattle.bytes_utils_run.specs.Cutting.{Cutting, ByWords, ByAsciiWords, ByLines, FromFront, FromBack, Keeping, ArePartsBy, JoinTo}

parts_join : (by : Cutting) (t : List ℕ) (parts : List (List ℕ)) → ArePartsBy by t parts → JoinTo by t parts
parts_join ByWords t parts are = tt
parts_join ByAsciiWords t parts are = tt
parts_join ByLines t parts are = tt
parts_join (FromFront p limit) t parts are = λ some. front_rejoins t p limit parts some are
parts_join (FromBack p limit) t parts are = λ some. back_rejoins t p limit parts some are
parts_join (Keeping p) t parts are = are.joined

pub outcome_joins : {E : Type 0} (by : Cutting) (t : List ℕ) (given : List (List ℕ)) (refused : Option E) → Outcome (ArePartsBy by t) given refused
    → IfNone refused (JoinTo by t given)
outcome_joins by t given None are = parts_join by t given are
outcome_joins by t given (Some reason) are = tt
