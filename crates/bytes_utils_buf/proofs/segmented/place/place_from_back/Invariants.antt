use Rattle.std.proofs.Common.{◌≡◌, ◌+◌, ◌<◌, ◌≤◌, [], length, map, take, get_or}
use Rattle.std.specs.List.{concat}
use Rattle.bytes_utils_buf.proofs.segmented.place.place_from_back.Given as goal

abbrev pub invariant-loop-before : goal.invariant-loop-before
invariant-loop-before g l =
    let lists = map g.B.Buf.unread l.bufs.items in
    record {
      begins : l.before ≡ length (concat (take l.passed lists));
      within : l.passed ≤ length l.bufs.items;
      inside : l.passed < length lists → l.at < l.before + length (get_or lists l.passed []);
    }

abbrev pub decreases-loop-before : goal.decreases-loop-before
decreases-loop-before g l = l.passed
