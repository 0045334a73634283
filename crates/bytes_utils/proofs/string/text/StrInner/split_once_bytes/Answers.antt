use Rattle.std.proofs.Common.{◌≡◌, ◌+◌, length, rules}
use Rattle.bytes_utils.proofs.ByteHalves.{byte_halves_at_first, empty_first, first_ends, first_in_bytes, lacks_in_bytes}
use Rattle.bytes_utils.proofs.HalvesLemmas.{halves_at_first}
use Rattle.bytes_utils.proofs.string.text.StrInner.split_once_bytes.Goals as goal

pub cut_at_separator-requires : goal.cut_at_separator-requires
cut_at_separator-requires g c =
    let found = rw c.as_str.ensures.value at c.in-Some.ensures in
    (found.0, found.1, found.2.here)

pub returns-clause-halves : goal.returns-clause-halves
returns-clause-halves g c =
    let found = c.in-Some.ensures in
    let before_is = rw (← c.as_str.ensures.value) at c.in_ok-before.ensures.before in
    let after_is = rw (← c.as_str.ensures.value) at c.in_ok-before.ensures.after in
    rw (← c.as_str.ensures.value) (halves_at_first _ _ c.as_str.utf8 c.utf8.separator _ _ found.1 found.2.here _ _ before_is after_is found.2.none_before)

pub returns-in_default-clause-in_bytes : goal.returns-in_default-clause-in_bytes
returns-in_default-clause-in_bytes g c = rw (← c.as_str.ensures.value) (lacks_in_bytes _ _ c.as_str.utf8 c.utf8.separator c.in_default.ensures)

pub returns-clause-in_bytes : goal.returns-clause-in_bytes
returns-clause-in_bytes g c =
    let found = c.in-Some.ensures in
    let before_is = rw (← c.as_str.ensures.value) at c.in_ok-before.ensures.before in
    let after_is = rw (← c.as_str.ensures.value) at c.in_ok-before.ensures.after in
    rw (← c.as_str.ensures.value) (byte_halves_at_first _ _ c.as_str.utf8 c.utf8.separator _ _ _ before_is after_is _ found.1 found.2)

pub returns-in_err-before-clause-ends : goal.returns-in_err-before-clause-ends
returns-in_err-before-clause-ends g c = λ before halves.
    let text_is = rw c.as_str.ensures.value at c.as_str.utf8 in
    let found = rw c.as_str.ensures.value at c.in-Some.ensures in
    let first = first_in_bytes _ _ text_is c.utf8.separator _ _ found.1 found.2 in
    let at_end : c.in-Some.at + length c.args.separator.now ≡ length c.args.self = first_ends _ _ before _ first halves in
    search rules

pub returns-in_err-before-clause-empty : goal.returns-in_err-before-clause-empty
returns-in_err-before-clause-empty g c = λ none.
    let text_is = rw c.as_str.ensures.value at c.as_str.utf8 in
    let found = rw c.as_str.ensures.value at c.in-Some.ensures in
    let first = first_in_bytes _ _ text_is c.utf8.separator _ _ found.1 found.2 in
    let at_start : c.in-Some.at + length c.args.separator.now ≡ 0 = empty_first _ _ _ first none in
    search rules
