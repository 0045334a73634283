use Rattle.std.specs.List.{concat}
use Rattle.bytes_utils_codec.proofs.FoundLemmas.{within_found, frame_at_front, none_at_front}
use Rattle.bytes_utils_codec.proofs.find.find.Goals as goal

pub returns : goal.returns
returns g c =
    let all = concat c.args.buf.now.segments in
    let p = c.args.needle.now in
    let found = c.find_from.ensures.found in
    record {
      found = found;
      frame = frame_at_front p all c.find_from.result found;
      within = within_found p all 0 c.find_from.result found;
      none = none_at_front p all c.find_from.result found;
    }
