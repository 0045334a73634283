use Rattle.std.proofs.Common.{ℕ, List, Option}
use Rattle.std.specs.Str.{chars}
use Rattle.bytes_utils.specs.Splitting.{ArePartsToCome, all_of}
use Rattle.bytes_utils.specs.declared.split.direction.Direction.{Direction}
use Rattle.bytes_utils.specs.declared.split.direction.Direction.TheVariants.{Forward, Backward}
use Rattle.bytes_utils.proofs.FromEnds.{has_front, has_back}
use Rattle.bytes_utils.proofs.split.separator_step.SeparatedText.new.Goals as goal

has_parts : (from : Direction) (text separator : List ℕ) (limit : Option ℕ) → (parts : List (List ℕ)) × ArePartsToCome from (all_of text separator limit) parts
has_parts Forward text separator = has_front (chars text) (chars separator)
has_parts Backward text separator = has_back (chars text) (chars separator)

pub returns-clause-coming : goal.returns-clause-coming
returns-clause-coming g c = has_parts c.args.from c.args.text c.args.separator.now c.args.limit
