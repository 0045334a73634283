-- The parts of a text between separators, joined, are the text: for every separator, and every limit but 0.
use Rattle.std.proofs.Common.{◌≡◌, refl, sym, ap, ◌∙◌, ℕ, zero, suc, ◌<◌, ◌≤◌, List, [], ◌∷◌, ◌++◌, Option, length, take, reverse, append-nil, take-append-drop, arith}
use Rattle.std.specs.Option.{IfSome}
use Rattle.std.proofs.lemmas.Bool.{cond_both, ltb-true}
use Rattle.std.proofs.lemmas.List.{reverse-reverse}
use Rattle.bytes_utils.specs.EmptySeparator.{each_by_empty_separator, by_empty_separator, by_empty_separator_backward}
use Rattle.bytes_utils.specs.Parts.{join, ArePartsFromFront, ArePartsFromBack}
use Rattle.bytes_utils.proofs.Mirror.{reverse-join}

join-first : {X : Type 0} (part : List X) (parts : List (List X)) → join [] (part ∷ parts) ≡ part ++ join [] parts
join-first part [] = sym (append-nil part)
join-first part (next ∷ parts) = refl

join-each_by_empty_separator : {X : Type 0} (t : List X) → join [] (each_by_empty_separator t) ≡ t
join-each_by_empty_separator [] = refl
join-each_by_empty_separator (x ∷ t) = join-first (x ∷ []) (each_by_empty_separator t) ∙ ap (λ l. x ∷ l) (join-each_by_empty_separator t)

-- the first n elements, and then a part more
join-some : {X : Type 0} (t : List X) (n : ℕ) (last : List X) → n ≤ length t → join [] (take n (each_by_empty_separator t) ++ (last ∷ [])) ≡ take n t ++ last
join-some t zero last within = refl
join-some [] (suc n) last within = absurd (omega (arith, within))
join-some (x ∷ t) (suc n) last within =
    join-first (x ∷ []) (take n (each_by_empty_separator t) ++ (last ∷ [])) ∙ ap (λ l. x ∷ l) (join-some t n last (omega (arith, within)))

join-by_empty_separator : {X : Type 0} (t : List X) (limit : Option ℕ) → IfSome limit (λ most. 0 < most) → join [] (by_empty_separator t limit) ≡ t
join-by_empty_separator t limit h = grind (arith, cond_both, join-each_by_empty_separator, join-first, join-some, ltb-true, take-append-drop)

join-by_empty_separator_backward : {X : Type 0} (t : List X) (limit : Option ℕ) → IfSome limit (λ most. 0 < most) → join [] (reverse (by_empty_separator_backward t limit)) ≡ t
join-by_empty_separator_backward t limit some =
    sym (reverse-join [] (by_empty_separator (reverse t) limit)) ∙ ap reverse (join-by_empty_separator (reverse t) limit some) ∙ reverse-reverse t

module _ {X : Type 0} (t : List X) where
  pub front_rejoins : (p : List X) (limit : Option ℕ) (parts : List (List X)) → IfSome limit (λ most. 0 < most) → ArePartsFromFront t p limit parts → join p parts ≡ t
  front_rejoins p limit parts some are = grind (arith, join-by_empty_separator)

  pub back_rejoins : (p : List X) (limit : Option ℕ) (parts : List (List X)) → IfSome limit (λ most. 0 < most) → ArePartsFromBack t p limit parts → join p (reverse parts) ≡ t
  back_rejoins p limit parts some are = grind (arith, join-by_empty_separator_backward)
