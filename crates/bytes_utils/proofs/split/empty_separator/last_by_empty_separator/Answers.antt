use Rattle.std.proofs.Common.{◌≡◌, ◌<◌, length, rules}
use Rattle.bytes_utils.proofs.CharacterCut.{boundary, gives_last_character, before_shorter, only_last, text_some}
use Rattle.bytes_utils_buf.proofs.Results.{OnErr-always}
use Rattle.bytes_utils.proofs.split.empty_separator.last_by_empty_separator.Goals as goal

pub cut_around-requires-clause-end : goal.cut_around-requires-clause-end
cut_around-requires-clause-end g c = rw (← c.as_str.ensures.value) (boundary _ c.as_str.utf8 _ _ c.in-Some.ensures.1)

pub cut_around-requires-clause-next : goal.cut_around-requires-clause-next
cut_around-requires-clause-next g c = rw (← c.as_str.ensures.value) (boundary _ c.as_str.utf8 _ _ c.in-Some.ensures.1)

pub returns-in_err-rest-clause-err : goal.returns-in_err-rest-clause-err
returns-in_err-rest-clause-err g c =
    let some : 0 < length c.args.text = rw (← c.as_str.ensures.value) (text_some _ c.as_str.utf8 c.in-Some.start c.in-Some.ensures.0) in
    OnErr-always _ _ some

pub returns-in_err-rest-clause-ends : goal.returns-in_err-rest-clause-ends
returns-in_err-rest-clause-ends g c = λ few.
    let text_is = rw c.as_str.ensures.value at c.as_str.utf8 in
    let some = rw c.as_str.ensures.value at c.in-Some.ensures.0 in
    let place = rw c.as_str.ensures.value at c.in-Some.ensures.1 in
    let none : c.in-Some.start ≡ 0 = only_last _ text_is _ some place few in
    search rules

pub returns-clause-gives : goal.returns-clause-gives
returns-clause-gives g c =
    let part_is = rw (← c.as_str.ensures.value) at c.in_ok-rest.ensures.after in
    let rest_is = rw (← c.as_str.ensures.value) at c.in_ok-rest.ensures.before in
    rw (← c.as_str.ensures.value) (gives_last_character _ c.as_str.utf8 _ c.in-Some.ensures.0 c.in-Some.ensures.1 _ _ part_is rest_is)

pub returns-clause-shorter : goal.returns-clause-shorter
returns-clause-shorter g c =
    let rest_is = rw (← c.as_str.ensures.value) at c.in_ok-rest.ensures.before in
    rw (← c.as_str.ensures.value) (before_shorter _ c.as_str.utf8 _ c.in-Some.ensures.0 c.in-Some.ensures.1 _ rest_is)
