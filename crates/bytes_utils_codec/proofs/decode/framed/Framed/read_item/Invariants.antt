use Rattle.bytes_utils_codec.specs.ReadItem.{IsLeftWaiting, ReadsMore}
use Rattle.bytes_utils_codec.proofs.decode.framed.Framed.read_item.Given as goal

abbrev pub invariant-loop : goal.invariant-loop
invariant-loop g l = record {
  reads : ReadsMore g.D.Decoder.gives (g.R.Read.remaining l.fn.input) (g.R.Read.remaining l.input) l.fn.self l.self;
  waiting : IsLeftWaiting g.D.Decoder.waits g.D.Decoder.keeps l.self;
  waited : g.D.Decoder.waits l.fn.self;
}
