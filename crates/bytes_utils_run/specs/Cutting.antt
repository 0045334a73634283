-- The ways to split a text, and the list of parts that each gives.
use Rattle.std.specs.Prelude.{◌≡◌, ℕ, ◌<◌, List, [], length, reverse, Option, None, Some, IfSome, ⊤}
use Rattle.std.specs.Char.{is_whitespace, is_ascii_whitespace}
use Rattle.std.specs.Str.{chars}
use Rattle.bytes_utils.specs.Lines.{lines}
use Rattle.bytes_utils.specs.Parts.{join, ArePartsFromFront, ArePartsFromBack, AreInclusiveParts}
use Rattle.bytes_utils.specs.Words.{words}
use Rattle.bytes_utils_run.specs.declared.how.How.{How}
use Rattle.bytes_utils_run.specs.declared.how.How.TheVariants.{Words, AsciiWords, Lines, Split, SplitN, RSplit, RSplitN, Inclusive}

-- A way to split: into words, words between ASCII white space, or lines; by a separator, as characters, from the front
-- or the back, with or without a limit; or into parts that keep the separator.
pub data Cutting : Type 0 where
  ByWords : Cutting
  ByAsciiWords : Cutting
  ByLines : Cutting
  FromFront : List ℕ → Option ℕ → Cutting
  FromBack : List ℕ → Option ℕ → Cutting
  Keeping : List ℕ → Cutting

-- these are the parts of the text t by this way to split
abbrev pub ArePartsBy : Cutting → List ℕ → List (List ℕ) → Type 0
ArePartsBy ByWords t parts = parts ≡ words is_whitespace t
ArePartsBy ByAsciiWords t parts = parts ≡ words is_ascii_whitespace t
ArePartsBy ByLines t parts = parts ≡ lines t
ArePartsBy (FromFront p limit) t parts = ArePartsFromFront t p limit parts
ArePartsBy (FromBack p limit) t parts = ArePartsFromBack t p limit parts
ArePartsBy (Keeping p) t parts = AreInclusiveParts t p parts

-- These parts, joined by the separator, are the text t: parts from the back in reverse, and parts that keep the
-- separator with nothing between. A limit of 0 gives no parts, so nothing is said of it. Nothing is said of words and
-- lines either, since what was between them is lost.
abbrev pub JoinTo : Cutting → List ℕ → List (List ℕ) → Type 0
JoinTo (FromFront p limit) t parts = IfSome limit (λ most. 0 < most) → join p parts ≡ t
JoinTo (FromBack p limit) t parts = IfSome limit (λ most. 0 < most) → join p (reverse parts) ≡ t
JoinTo (Keeping p) t parts = join [] parts ≡ t
JoinTo by t parts = ⊤

-- the way to split that a caller asks for
abbrev pub cutting : How → Cutting
cutting Words = ByWords
cutting AsciiWords = ByAsciiWords
cutting Lines = ByLines
cutting (Split separator) = FromFront (chars separator.now) None
cutting (SplitN most separator) = FromFront (chars separator.now) (Some most)
cutting (RSplit separator) = FromBack (chars separator.now) None
cutting (RSplitN most separator) = FromBack (chars separator.now) (Some most)
cutting (Inclusive separator) = Keeping (chars separator.now)

-- what a caller may ask for: the separator of parts that keep it isn't empty
abbrev pub IsCuttingAllowed : How → Type 0
IsCuttingAllowed (Inclusive separator) = 0 < length separator.now
IsCuttingAllowed how = ⊤
