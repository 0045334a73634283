use Rattle.std.proofs.Common.{◌≡◌, ◌+◌, length, rules}
use Rattle.bytes_utils.proofs.ByteHalves.{first_ends, first_in_bytes}
use Rattle.bytes_utils.proofs.SearchLemmas.{chars-some}
use Rattle.bytes_utils.proofs.PartCut.{gives_first, gives_whole}
use Rattle.bytes_utils.proofs.split.separator_step.first_separated_part.Goals as goal

pub search_by-requires : goal.search_by-requires
search_by-requires g c = record { some = rw c.requires.needle c.requires.some; utf8 = rw c.requires.needle c.utf8.separator }

pub cut_at_separator-requires : goal.cut_at_separator-requires
cut_at_separator-requires g c =
    let found = rw (c.requires.needle, c.as_str.ensures.value) at c.in-Some.ensures in
    (found.0, found.1, found.2.here)

pub returns-in_default-clause-gives : goal.returns-in_default-clause-gives
returns-in_default-clause-gives g c =
    let lacks = rw (c.requires.needle, c.as_str.ensures.value) at c.in_default.ensures in
    gives_whole _ _ (chars-some _ c.utf8.separator c.requires.some) lacks

pub returns-in_err-part-clause-ends : goal.returns-in_err-part-clause-ends
returns-in_err-part-clause-ends g c = λ ends.
    let text_is = rw c.as_str.ensures.value at c.as_str.utf8 in
    let found = rw (c.requires.needle, c.as_str.ensures.value) at c.in-Some.ensures in
    let first = first_in_bytes _ _ text_is c.utf8.separator _ _ found.1 found.2 in
    let at_end : c.in-Some.at + length c.args.separator.now ≡ length c.args.text = first_ends _ _ ends.0 _ first ends.1 in
    search rules

pub returns-clause-gives : goal.returns-clause-gives
returns-clause-gives g c =
    let found = rw c.requires.needle at c.in-Some.ensures in
    let part_is = rw (← c.as_str.ensures.value) at c.in_ok-part.ensures.before in
    let rest_is = rw (← c.as_str.ensures.value) at c.in_ok-part.ensures.after in
    rw (← c.as_str.ensures.value) (gives_first _ _ c.as_str.utf8 c.utf8.separator _ _ found.1 found.2.here found.2.none_before _ _ c.requires.some part_is rest_is)
