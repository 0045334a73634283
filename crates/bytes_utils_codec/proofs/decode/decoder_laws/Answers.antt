use Rattle.bytes_utils_codec.proofs.DecodingLemmas.{decoder_run, decoder_all, decoder_whole}
use Rattle.bytes_utils_codec.proofs.decode.decoder_laws.Goals as goal

pub returns : goal.returns
returns g c =
    let gives = g.D.Decoder.gives in
    record {
      run = decoder_run gives g.D.Decoder.waits g.D.Decoder.fails g.D.Decoder.keeps g.met.D.Decoder.stable g.met.D.Decoder.same;
      all = decoder_all gives g.met.D.Decoder.single;
      whole = decoder_whole gives g.met.D.Decoder.single;
    }
