use Rattle.std.proofs.Common.{◌≡◌, ◌∙◌, ap, subst, sym, IfOk}
use Rattle.std.proofs.lemmas.Result.{IfOk-weaker}
use Rattle.std.specs.Str.{trim, trim_end}
use Rattle.bytes_utils.specs.Ends.{IsBetweenSpaceAtEnds}
use Rattle.bytes_utils.proofs.EndsLemmas.{part_end, part_is, start_in_front, between}
use Rattle.bytes_utils.proofs.string.text.StrInner.trim_bytes.Goals as goal

pub cut_front-requires : goal.cut_front-requires
cut_front-requires g c =
    rw (← c.as_str-text.ensures.value)
    (part_end _ _ _ c.trim_start-following.utf8 c.trim_end.utf8 c.trim_start-following.ensures.value c.trim_end.ensures.value)

pub cut_before-requires : goal.cut_before-requires
cut_before-requires g c =
    rw (c.in_ok-front.ensures.front, ← c.as_str-text.ensures.value)
    (start_in_front _ _ _ c.trim_start-following.utf8 c.trim_end.utf8 c.trim_start-following.ensures.value c.trim_end.ensures.value)

-- what is returned is what `trim_end` leaves of what `trim_start` leaves
returned : (g : _) (c : goal.After-cut_before g) → IfOk c.cut_before.result (λ part. part ≡ c.trim_end.result.now)
returned g c =
    let is = part_is _ _ _ c.trim_start-following.utf8 c.trim_end.utf8 c.trim_start-following.ensures.value c.trim_end.ensures.value in
    IfOk-weaker c.cut_before.result _ (λ part. part ≡ c.trim_end.result.now) (λ part e. e ∙ is)
    (rw (c.in_ok-front.ensures.front, ← c.as_str-text.ensures.value) at c.cut_before.ensures.rest)

pub returns-clause-part : goal.returns-clause-part
returns-clause-part g c =
    IfOk-weaker c.cut_before.result _ (λ part. part ≡ trim c.args.self)
    (λ part e. e ∙ c.trim_end.ensures.trim ∙ ap trim_end c.trim_start-following.ensures.trim ∙ ap trim c.as_str-text.ensures.value)
    (returned g c)

pub returns-clause-place : goal.returns-clause-place
returns-clause-place g c =
    let is = between _ _ _ c.trim_start-following.utf8 c.trim_end.utf8 c.trim_start-following.ensures.value c.trim_end.ensures.value in
    rw (← c.as_str-text.ensures.value)
    (IfOk-weaker c.cut_before.result _ (λ part. IsBetweenSpaceAtEnds part c.as_str-text.result.now)
    (λ part e. subst (λ l. IsBetweenSpaceAtEnds l c.as_str-text.result.now) (sym e) is) (returned g c))
