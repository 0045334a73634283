use Rattle.std.proofs.Common.{ap, ◌∙◌}
use Rattle.std.specs.List.{concat}
use Rattle.bytes_utils_codec.specs.Search.{Searching}
use Rattle.bytes_utils_protocols.proofs.MultipartStreamLemmas.{ahead_found, ahead_missed}
use Rattle.bytes_utils_protocols.proofs.multipart.waiting.look_ahead.Goals as goal

pub returns-in-Some-clause-ahead : goal.returns-in-Some-clause-ahead
returns-in-Some-clause-ahead c =
    let old = c.args.search.now in
    let found = rw c.as_segmented.ensures at c.in-Some.ensures.found in
    ahead_found old.needle (concat c.args.pieces.now.held.segments) old.searched c.find.ensures.needle c.requires.none c.in-Some.len found

pub returns-in-None-clause-ahead : goal.returns-in-None-clause-ahead
returns-in-None-clause-ahead c =
    let old = c.args.search.now in
    let missed = rw c.as_segmented.ensures at c.in-None.ensures.found in
    let same = rw c.as_segmented.ensures at c.in-None.ensures.none in
    let at = c.searched.ensures ∙ ap (λ (s : Searching). s.searched) same in
    ahead_missed old.needle (concat c.args.pieces.now.held.segments) old.searched c.find.ensures.needle c.requires.none c.searched.result at c.requires.within missed
