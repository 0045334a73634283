use Rattle.std.proofs.Common.{◌≡◌, ◌+◌, length, arith, rules}
use Rattle.bytes_utils.proofs.ByteHalves.{last_ends}
use Rattle.bytes_utils.proofs.HalvesLemmas.{IsFoundLast}
use Rattle.bytes_utils.proofs.SearchLemmas.{chars-some}
use Rattle.bytes_utils.proofs.PartCut.{gives_last, gives_whole_back}
use Rattle.bytes_utils.proofs.split.separator_step.last_separated_part.Goals as goal

pub rsearch_by-requires : goal.rsearch_by-requires
rsearch_by-requires g c = record { some = rw c.requires.needle c.requires.some; utf8 = rw c.requires.needle c.utf8.separator }

pub cut_at_separator-requires : goal.cut_at_separator-requires
cut_at_separator-requires g c =
    let found = rw (c.requires.needle, c.as_str.ensures.value) at c.in-Some.ensures in
    (found.0, found.1, found.2.here)

pub returns-in_default-clause-gives : goal.returns-in_default-clause-gives
returns-in_default-clause-gives g c =
    let lacks = rw (c.requires.needle, c.as_str.ensures.value) at c.in_default.ensures in
    gives_whole_back _ _ (chars-some _ c.utf8.separator c.requires.some) lacks

pub returns-in_err-rest-clause-ends : goal.returns-in_err-rest-clause-ends
returns-in_err-rest-clause-ends g c = λ ends.
    let text_is = rw c.as_str.ensures.value at c.as_str.utf8 in
    let found = rw (c.requires.needle, c.as_str.ensures.value) at c.in-Some.ensures in
    let long = chars-some _ c.utf8.separator c.requires.some in
    let last : IsFoundLast c.args.text c.args.separator.now c.in-Some.at = record {
      place = found.0;
      at_is = found.1;
      here = found.2.here;
      none_after = λ _. found.2.none_after;
      at_end = λ none. absurd (omega (arith, none, long));
    } in
    let at_end : c.in-Some.at + length c.args.separator.now ≡ length c.args.text = last_ends _ _ text_is c.utf8.separator _ last ends in
    search rules

pub returns-clause-gives : goal.returns-clause-gives
returns-clause-gives g c =
    let found = rw c.requires.needle at c.in-Some.ensures in
    let part_is = rw (← c.as_str.ensures.value) at c.in_ok-rest.ensures.after in
    let rest_is = rw (← c.as_str.ensures.value) at c.in_ok-rest.ensures.before in
    rw (← c.as_str.ensures.value) (gives_last _ _ c.as_str.utf8 c.utf8.separator _ _ found.1 found.2.here found.2.none_after _ _ c.requires.some part_is rest_is)
