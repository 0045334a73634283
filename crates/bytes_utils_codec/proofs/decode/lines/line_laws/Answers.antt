use Rattle.bytes_utils_codec.proofs.LineReadingLemmas.{line_items_law, whole_lines_law}
use Rattle.bytes_utils_codec.proofs.StreamLinesLemmas.{first_lines_law, same_lines_law, text_lines_law}
use Rattle.bytes_utils_codec.proofs.decode.lines.line_laws.Goals as goal

pub returns : goal.returns
returns c = record { items = line_items_law; whole = whole_lines_law; lines = first_lines_law; text = text_lines_law; same = same_lines_law }
