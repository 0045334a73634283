use Rattle.bytes_utils_codec.proofs.CursorLemmas.{same_read_law, stays_read_law, stays_wrong_law, one_reply_law}
use Rattle.bytes_utils_codec.proofs.cursor.cursor_laws.Goals as goal

pub returns : goal.returns
returns c = record { same = same_read_law; stays = stays_read_law; wrong = stays_wrong_law; one = one_reply_law }
