use Rattle.std.proofs.Common.{◌≡◌, ◌<◌, length, rules}
use Rattle.bytes_utils.proofs.CharacterCut.{boundary, gives_first_character, after_shorter, only_first, text_some}
use Rattle.bytes_utils_buf.proofs.Results.{OnErr-always}
use Rattle.bytes_utils.proofs.split.empty_separator.first_by_empty_separator.Goals as goal

pub cut_around-requires-clause-end : goal.cut_around-requires-clause-end
cut_around-requires-clause-end g c = rw (← c.as_str.ensures.value) (boundary _ c.as_str.utf8 1 _ c.in-Some.ensures.1)

pub cut_around-requires-clause-next : goal.cut_around-requires-clause-next
cut_around-requires-clause-next g c = rw (← c.as_str.ensures.value) (boundary _ c.as_str.utf8 1 _ c.in-Some.ensures.1)

pub returns-in_err-part-clause-err : goal.returns-in_err-part-clause-err
returns-in_err-part-clause-err g c =
    let some : 0 < length c.args.text = rw (← c.as_str.ensures.value) (text_some _ c.as_str.utf8 c.in-Some.end c.in-Some.ensures.0) in
    OnErr-always _ _ some

pub returns-in_err-part-clause-ends : goal.returns-in_err-part-clause-ends
returns-in_err-part-clause-ends g c = λ few.
    let text_is = rw c.as_str.ensures.value at c.as_str.utf8 in
    let some = rw c.as_str.ensures.value at c.in-Some.ensures.0 in
    let place = rw c.as_str.ensures.value at c.in-Some.ensures.1 in
    let all : c.in-Some.end ≡ length c.args.text = only_first _ text_is _ some place few in
    search rules

pub returns-clause-gives : goal.returns-clause-gives
returns-clause-gives g c =
    let part_is = rw (← c.as_str.ensures.value) at c.in_ok-part.ensures.before in
    let rest_is = rw (← c.as_str.ensures.value) at c.in_ok-part.ensures.after in
    rw (← c.as_str.ensures.value) (gives_first_character _ c.as_str.utf8 _ c.in-Some.ensures.0 c.in-Some.ensures.1 _ _ part_is rest_is)

pub returns-clause-shorter : goal.returns-clause-shorter
returns-clause-shorter g c =
    let rest_is = rw (← c.as_str.ensures.value) at c.in_ok-part.ensures.after in
    rw (← c.as_str.ensures.value) (after_shorter _ c.as_str.utf8 _ c.in-Some.ensures.0 c.in-Some.ensures.1 _ rest_is)
