use Rattle.std.proofs.lemmas.Str.{chars-IsAscii}
use Rattle.bytes_utils_run.proofs.laws.ascii_characters.Goals as goal

pub returns : goal.returns
returns c = chars-IsAscii
