use Rattle.std.proofs.Common.{Some}
use Rattle.std.specs.List.{concat}
use Rattle.bytes_utils_codec.proofs.FindLemmas.{found_later}
use Rattle.bytes_utils_codec.proofs.FoundLemmas.{start_found, within_found, frame_found, none_found}
use Rattle.bytes_utils_codec.proofs.find.find_from.Goals as goal

pub returns-in-Ok-clause-frame : goal.returns-in-Ok-clause-frame
returns-in-Ok-clause-frame g c = frame_found c.args.needle.now (concat c.args.buf.now.segments) c.args.start (Some c.in-Ok.at) c.in-Ok.ensures.found

pub returns-in-Err : goal.returns-in-Err
returns-in-Err g c =
    let p = c.args.needle.now in
    let all = concat c.args.buf.now.segments in
    let start = c.args.start in
    let result = c.find_far.result in
    let found = found_later all p start c.in-Err.from result c.in-Err.ensures.low c.in-Err.ensures.none c.find_far.ensures in
    record {
      found = found;
      start = start_found p all start result found;
      frame = frame_found p all start result found;
      within = within_found p all start result found;
      none = none_found p all start result found;
    }
