use Rattle.std.proofs.Common.{◌≡◌, ◌+◌, length, Some, None, rules}
use Rattle.std.specs.Str.{chars}
use Rattle.bytes_utils.specs.Occurrence.{Occurs}
use Rattle.bytes_utils.proofs.ByteHalves.{byte_halves_at_last, lacks_in_bytes, last_ends}
use Rattle.bytes_utils.proofs.HalvesLemmas.{found_last, halves_at_last}
use Rattle.bytes_utils_buf.proofs.Results.{OnErr-always}
use Rattle.bytes_utils.proofs.string.text.StrInner.rsplit_once_bytes.Goals as goal

pub cut_at_separator-requires : goal.cut_at_separator-requires
cut_at_separator-requires g c =
    let found = found_last _ _ c.as_str.utf8 c.utf8.separator (Some c.in-Some.at) c.in-Some.ensures.last c.in-Some.ensures.empty in
    rw (← c.as_str.ensures.value) (found.place, found.at_is, found.here)

pub returns-in_err-before-clause-err : goal.returns-in_err-before-clause-err
returns-in_err-before-clause-err g c =
    let found = found_last _ _ c.as_str.utf8 c.utf8.separator (Some c.in-Some.at) c.in-Some.ensures.last c.in-Some.ensures.empty in
    let in_lent : Occurs (chars c.args.separator.now) (chars c.as_str.result.now) = (found.place, found.here) in
    let occurs : Occurs (chars c.args.separator.now) (chars c.args.self) = rw (← c.as_str.ensures.value) in_lent in
    OnErr-always _ _ occurs

pub returns-clause-halves : goal.returns-clause-halves
returns-clause-halves g c =
    let found = found_last _ _ c.as_str.utf8 c.utf8.separator (Some c.in-Some.at) c.in-Some.ensures.last c.in-Some.ensures.empty in
    let before_is = rw (← c.as_str.ensures.value) at c.in_ok-before.ensures.before in
    let after_is = rw (← c.as_str.ensures.value) at c.in_ok-before.ensures.after in
    rw (← c.as_str.ensures.value)
    (halves_at_last _ _ c.as_str.utf8 c.utf8.separator _ _ found.at_is found.here _ _ before_is after_is found.none_after found.at_end)

pub returns-in_default-clause-in_bytes : goal.returns-in_default-clause-in_bytes
returns-in_default-clause-in_bytes g c =
    let lacks = found_last _ _ c.as_str.utf8 c.utf8.separator None c.in_default.ensures.last c.in_default.ensures.empty in
    rw (← c.as_str.ensures.value) (lacks_in_bytes _ _ c.as_str.utf8 c.utf8.separator lacks)

pub returns-clause-in_bytes : goal.returns-clause-in_bytes
returns-clause-in_bytes g c =
    let found = found_last _ _ c.as_str.utf8 c.utf8.separator (Some c.in-Some.at) c.in-Some.ensures.last c.in-Some.ensures.empty in
    let before_is = rw (← c.as_str.ensures.value) at c.in_ok-before.ensures.before in
    let after_is = rw (← c.as_str.ensures.value) at c.in_ok-before.ensures.after in
    rw (← c.as_str.ensures.value) (byte_halves_at_last _ _ c.as_str.utf8 c.utf8.separator _ _ _ before_is after_is found)

pub returns-in_err-before-clause-ends : goal.returns-in_err-before-clause-ends
returns-in_err-before-clause-ends g c = λ ends.
    let found = found_last _ _ c.as_str.utf8 c.utf8.separator (Some c.in-Some.at) c.in-Some.ensures.last c.in-Some.ensures.empty in
    let text_is = rw c.as_str.ensures.value at c.as_str.utf8 in
    let at_end : c.in-Some.at + length c.args.separator.now ≡ length c.args.self =
    last_ends _ _ text_is c.utf8.separator _ (rw c.as_str.ensures.value at found) ends in
    search rules
