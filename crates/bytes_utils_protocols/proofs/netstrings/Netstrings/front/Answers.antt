use Rattle.std.proofs.Common.{◌≡◌, ◌<◌, ◌≤◌, ◌∙◌, ◌+◌, ℕ, List, [], ◌∷◌, ◌++◌, length, min, take, drop, ap, subst, inl, inr, arith, length-take, take_all, take_at}
use Rattle.std.proofs.lemmas.List.{take_min}
use Rattle.std.specs.List.{concat}
use Rattle.bytes_utils.specs.Occurrence.{Occurs}
use Rattle.bytes_utils_protocols.specs.Digits.{colon}
use Rattle.bytes_utils_protocols.proofs.NetstringsLemmas.{colon_missed, length_read, no_number}
use Rattle.bytes_utils_protocols.proofs.netstrings.Netstrings.front.Goals as goal

-- the bytes that were looked at are the first 21
looked_at : (all bytes others copied : List ℕ) (count : ℕ) → all ≡ bytes → count ≡ min 21 (length all) → copied ≡ take count all ++ others → take count copied ≡ take 21 bytes
looked_at all bytes others copied count same size are =
    ap (take count) are ∙ take_at (take count all) others count (length-take count all ∙ omega (arith, size)) ∙ ap (λ n. take n all) size ∙ take_min 21 all ∙ ap (take 21) same

pub returns-then-count-gt20-clause-err : goal.returns-then-count-gt20-clause-err
returns-then-count-gt20-clause-err c =
    let held = concat c.args.held.now.held.segments in
    let seen = looked_at _ held _ _ _ (ap (λ h. concat h.segments) c.as_segmented.ensures) c.peek-count.ensures.count c.peek-count.ensures.bytes in
    let many : 20 < length held = omega (arith, rw c.as_segmented.ensures at c.peek-count.ensures.count, c.if-count-gt20.true) in
    inl (many, subst (λ l. ¬ Occurs (colon ∷ []) l) seen (colon_missed _ c.in_default.ensures))

pub returns-in_default-clause-none : goal.returns-in_default-clause-none
returns-in_default-clause-none c =
    let held = concat c.args.held.now.held.segments in
    let seen = looked_at _ held _ _ _ (ap (λ h. concat h.segments) c.as_segmented.ensures) c.peek-count.ensures.count c.peek-count.ensures.bytes in
    let few : length held ≤ 20 = omega (arith, rw c.as_segmented.ensures at c.peek-count.ensures.count, c.if-count-gt20.false) in
    inl (subst (λ l. ¬ Occurs (colon ∷ []) l) (seen ∙ take_all 21 held (omega (arith, few))) (colon_missed _ c.in_default.ensures), few)

pub returns-in_default-number-clause-err : goal.returns-in_default-number-clause-err
returns-in_default-number-clause-err c =
    let held = concat c.args.held.now.held.segments in
    let seen = looked_at _ held _ _ _ (ap (λ h. concat h.segments) c.as_segmented.ensures) c.peek-count.ensures.count c.peek-count.ensures.bytes in
    no_number held _ seen c.in-Some.colon c.in-Some.ensures c.in_default-number.ensures

pub returns-then-len-self-clause-err : goal.returns-then-len-self-clause-err
returns-then-len-self-clause-err c =
    let held = concat c.args.held.now.held.segments in
    let seen = looked_at _ held _ _ _ (ap (λ h. concat h.segments) c.as_segmented.ensures) c.peek-count.ensures.count c.peek-count.ensures.bytes in
    let read = length_read held _ seen c.in-Some.colon c.in-Some.ensures c.in-Some-number.len c.in-Some-number.ensures in
    inr (c.in-Some-number.len, drop (c.in-Some.colon + 1) held, read.0, omega (arith, c.if-len-self.true))

pub returns-clause-begins : goal.returns-clause-begins
returns-clause-begins c =
    let held = concat c.args.held.now.held.segments in
    let seen = looked_at _ held _ _ _ (ap (λ h. concat h.segments) c.as_segmented.ensures) c.peek-count.ensures.count c.peek-count.ensures.bytes in
    let read = length_read held _ seen c.in-Some.colon c.in-Some.ensures c.in-Some-number.len c.in-Some-number.ensures in
    (read.0, read.1, omega (arith, c.if-len-self.false))
