use Rattle.std.proofs.Common.{rules, arith, ap, ◌≡◌, ◌+◌, ◌≤◌, length, take, drop, inl, inr}
use Rattle.bytes_utils.proofs.PartCut.{next_boundary}
use Rattle.bytes_utils.proofs.KeepingLemmas.{gives_whole, gives_through, ends_text, cuts_after}
use Rattle.bytes_utils.proofs.split.inclusive.inclusive_part.Goals as goal

pub returns-in_default-clause-gives : goal.returns-in_default-clause-gives
returns-in_default-clause-gives g c =
    let lacks = rw c.as_str.ensures.value at c.in_default.ensures in
    let text_is = rw c.as_str.ensures.value at c.as_str.utf8 in
    gives_whole _ _ text_is c.requires.text (inr lacks)

pub overflow_add-end : goal.overflow_add-end
overflow_add-end g c =
    let fits : c.in-Some.at + length c.args.separator.now ≤ length c.as_str.result.now =
    (next_boundary _ _ c.as_str.utf8 c.utf8.separator _ _ c.in-Some.ensures.1 c.in-Some.ensures.2.here).0 in
    search rules

pub returns-then-end-as_str-clause-gives : goal.returns-then-end-as_str-clause-gives
returns-then-end-as_str-clause-gives g c =
    let text_is = rw c.as_str.ensures.value at c.as_str.utf8 in
    let found = rw c.as_str.ensures.value at c.in-Some.ensures in
    let whole = rw c.as_str-2.ensures.value at c.if-end-as_str.true in
    gives_whole _ _ text_is c.requires.text (inl (ends_text _ _ text_is c.utf8.separator _ found c.requires.separator whole))

pub into_halves-requires : goal.into_halves-requires
into_halves-requires g c = rw (← c.as_str.ensures.value) (next_boundary _ _ c.as_str.utf8 c.utf8.separator _ _ c.in-Some.ensures.1 c.in-Some.ensures.2.here)

pub returns-in_err-part-clause-err : goal.returns-in_err-part-clause-err
returns-in_err-part-clause-err g c =
    let text_is = rw c.as_str.ensures.value at c.as_str.utf8 in
    let found = rw c.as_str.ensures.value at c.in-Some.ensures in
    let fits = next_boundary _ _ text_is c.utf8.separator _ _ found.1 found.2.here in
    let cuts = cuts_after _ _ text_is c.utf8.separator _ found c.requires.separator (omega (arith, fits.0, ap length c.as_str-2.ensures.value, c.if-end-as_str.false)) in
    search rules

pub returns-clause-gives : goal.returns-clause-gives
returns-clause-gives g c =
    let text_is = rw c.as_str.ensures.value at c.as_str.utf8 in
    let found = rw c.as_str.ensures.value at c.in-Some.ensures in
    let fits = next_boundary _ _ text_is c.utf8.separator _ _ found.1 found.2.here in
    let part_is : c.in_ok-part.part ≡ take (c.in-Some.at + length c.args.separator.now) c.args.text = search rules in
    let rest_is : c.in_ok-part.rest ≡ drop (c.in-Some.at + length c.args.separator.now) c.args.text = search rules in
    gives_through _ _ text_is c.utf8.separator _ found c.requires.separator (omega (arith, fits.0, ap length c.as_str-2.ensures.value, c.if-end-as_str.false)) _ _ part_is rest_is
