use Rattle.bytes_utils_codec.proofs.DelimitedLemmas.{delimited_frames_law, delimited_whole_law, delimited_held_law}
use Rattle.bytes_utils_codec.proofs.decode.delimited.delimited_laws.Goals as goal

pub returns : goal.returns
returns c = record { items = delimited_frames_law; whole = delimited_whole_law; held = delimited_held_law }
