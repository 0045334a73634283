use Rattle.std.proofs.Common.{sym}
use Rattle.bytes_utils_codec.proofs.CharacterEnds.{none_of_text}
use Rattle.bytes_utils_codec.proofs.texts.text_fault_len.Goals as goal

pub returns-in-Ok : goal.returns-in-Ok
returns-in-Ok c = sym (none_of_text c.args.bytes.now c.in-Ok.ensures.cases.1 c.requires)
