use Rattle.bytes_utils_codec.proofs.ReadItemLemmas.{read_items_law, read_whole_law, read_same_law}
use Rattle.bytes_utils_codec.proofs.decode.read.read_item_laws.Goals as goal

pub returns : goal.returns
returns g c =
    let gives = g.D.Decoder.gives in
    let stable = g.met.D.Decoder.stable in
    record {
      run = read_items_law gives stable;
      whole = read_whole_law gives stable;
      same = read_same_law gives stable g.met.D.Decoder.single;
    }
