use Rattle.bytes_utils_codec.proofs.UniversalReadingLemmas.{universal_items_law, whole_universal_law}
use Rattle.bytes_utils_codec.proofs.UniversalLinesLemmas.{all_universal_law, same_universal_law, text_universal_law}
use Rattle.bytes_utils_codec.proofs.decode.universal_lines.universal_line_laws.Goals as goal

pub returns : goal.returns
returns c =
    record {
      items = universal_items_law;
      whole = whole_universal_law;
      lines = all_universal_law;
      text = text_universal_law;
      same = same_universal_law;
    }
