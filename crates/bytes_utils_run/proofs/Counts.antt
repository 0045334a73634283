-- The greatest number of parts that a text can have: two more than it has characters.
use Rattle.std.proofs.Common.{◌≡◌, ap, ℕ, zero, suc, ◌+◌, ◌<◌, ◌≤◌, Bool, true, false, List, [], ◌∷◌, ◌++◌, Option, None, Some, All, length, map, take, drop, reverse, arith, length-append, length-take}
use Rattle.std.specs.Char.{is_whitespace, is_ascii_whitespace}
use Rattle.std.specs.List.{starts_with}
use Rattle.std.specs.Prelude.{nat_lt, nat_eq, ◌==◌, ◌&&◌, if◌then◌else◌}
use Rattle.std.proofs.lemmas.Bool.{cond_both, ltb-true}
use Rattle.std.proofs.lemmas.List.{length-map, length-reverse}
use Rattle.std.proofs.lemmas.List.Elements.{All-head, All-tail}
use Rattle.bytes_utils.specs.EmptySeparator.{each_by_empty_separator, by_empty_separator, by_empty_separator_backward}
use Rattle.bytes_utils.specs.Lines.{line_feed, carriage_return, lines, first_led_by}
use Rattle.bytes_utils.specs.Outcome.{Outcome}
use Rattle.bytes_utils.specs.Parts.{ArePartsFromFront, ArePartsFromBack, join}
use Rattle.bytes_utils.specs.Words.{words}
use Rattle.bytes_utils_run.specs.Cutting.{Cutting, ByWords, ByAsciiWords, ByLines, FromFront, FromBack, Keeping, ArePartsBy}

-- each part but the last comes with at least the length of the separator
length-join : {X : Type 0} (p : List X) (parts : List (List X)) → 0 < length p → length parts ≤ length (join p parts) + 1
length-join p [] some = omega arith
length-join p (part ∷ []) some = omega arith
length-join p (part ∷ next ∷ parts) some =
    omega (arith, length-join p (next ∷ parts) some, length-append part (p ++ join p (next ∷ parts)), length-append p (join p (next ∷ parts)))

-- parts that aren't empty have at least an element each
length-join_nothing : {X : Type 0} (parts : List (List X)) → All (λ part. 0 < length part) parts → length parts ≤ length (join [] parts)
length-join_nothing [] some = omega arith
length-join_nothing (part ∷ []) some = omega (arith, All-head (λ p. 0 < length p) part [] some)
length-join_nothing (part ∷ next ∷ parts) some =
    omega (
      arith,
      All-head (λ p. 0 < length p) part (next ∷ parts) some,
      length-join_nothing (next ∷ parts) (All-tail (λ p. 0 < length p) part (next ∷ parts) some),
      length-append part (join [] (next ∷ parts)),
    )

length-each_by_empty_separator : {X : Type 0} (t : List X) → length (each_by_empty_separator t) ≡ length t + 1
length-each_by_empty_separator {X} t = omega (arith, length-append (map (λ x. x ∷ []) t) ([] ∷ []), length-map t (λ (x : X). x ∷ []))

-- the empty separator gives an empty part, the characters, and an empty part, or fewer parts
length-by_empty_separator : {X : Type 0} (t : List X) (limit : Option ℕ) → length (by_empty_separator t limit) ≤ length t + 2
length-by_empty_separator t None = omega (arith, length-each_by_empty_separator t)
length-by_empty_separator t (Some zero) = omega arith
length-by_empty_separator t (Some (suc zero)) = omega arith
length-by_empty_separator t (Some (suc (suc most))) =
    cond_both (nat_lt most (length t)) (take most (each_by_empty_separator t) ++ (drop most t ∷ [])) (each_by_empty_separator t) (λ parts. length ([] ∷ parts) ≤ length t + 2)
    (λ below. omega (arith, ltb-true most (length t) below, length-append (take most (each_by_empty_separator t)) (drop most t ∷ []), length-take most (each_by_empty_separator t)))
    (λ _. omega (arith, length-each_by_empty_separator t))

length-front : (t p : List ℕ) (limit : Option ℕ) (parts : List (List ℕ)) → ArePartsFromFront t p limit parts → length parts ≤ length t + 2
length-front t [] limit parts are = omega (arith, ap length are, length-by_empty_separator t limit)
length-front t (c ∷ p) None parts are = omega (arith, ap length are.joined, length-join (c ∷ p) parts (omega arith))
length-front t (c ∷ p) (Some zero) parts are = omega (arith, ap length are)
length-front t (c ∷ p) (Some (suc most)) parts are = omega (arith, ap length are.joined, length-join (c ∷ p) parts (omega arith))

length-backward : (t : List ℕ) (limit : Option ℕ) → length (by_empty_separator_backward t limit) ≤ length t + 2
length-backward t limit = omega (arith, length-map (by_empty_separator (reverse t) limit) reverse, length-by_empty_separator (reverse t) limit, length-reverse t)

length-back : (t p : List ℕ) (limit : Option ℕ) (parts : List (List ℕ)) → ArePartsFromBack t p limit parts → length parts ≤ length t + 2
length-back t [] limit parts are = omega (arith, ap length are, length-backward t limit)
length-back t (c ∷ p) None parts are = omega (arith, ap length are.joined, length-join (c ∷ p) (reverse parts) (omega arith), length-reverse parts)
length-back t (c ∷ p) (Some zero) parts are = omega (arith, ap length are)
length-back t (c ∷ p) (Some (suc most)) parts are = omega (arith, ap length are.joined, length-join (c ∷ p) (reverse parts) (omega arith), length-reverse parts)

length-led : (c : ℕ) (parts : List (List ℕ)) → length (first_led_by c parts) ≤ length parts + 1
length-led c [] = omega arith
length-led c (part ∷ parts) = omega arith

-- one more character makes at most one more line
length-way : (feed returns : Bool) (c : ℕ) (ls : List (List ℕ)) → length (if feed then [] ∷ ls else if returns then ls else first_led_by c ls) ≤ length ls + 1
length-way true returns c ls = omega arith
length-way false true c ls = omega arith
length-way false false c ls = length-led c ls

-- a text has at most as many lines as characters, and at most as many words
length-lines : (t : List ℕ) → length (lines t) ≤ length t
length-lines [] = omega arith
length-lines (c ∷ t) =
    omega (arith, length-lines t, length-way (c == line_feed) (c == carriage_return && starts_with nat_eq t (line_feed ∷ [])) c (lines t))

length-words : (is_space : ℕ → Bool) (t : List ℕ) → length (words is_space t) ≤ length t
length-words is_space [] = omega arith
length-words is_space (c ∷ t) = grind (arith, length-words is_space t, length-led c (words is_space t))

length-parts : (way : Cutting) (t : List ℕ) (parts : List (List ℕ)) → ArePartsBy way t parts → length parts ≤ length t + 2
length-parts ByWords t parts are = omega (arith, ap length are, length-words is_whitespace t)
length-parts ByAsciiWords t parts are = omega (arith, ap length are, length-words is_ascii_whitespace t)
length-parts ByLines t parts are = omega (arith, ap length are, length-lines t)
length-parts (FromFront p limit) t parts are = length-front t p limit parts are
length-parts (FromBack p limit) t parts are = length-back t p limit parts are
length-parts (Keeping p) t parts are = omega (arith, ap length are.joined, length-join_nothing parts are.none_empty)

-- all of the parts, and so each beginning of them, are at most `length t + 2`
pub length-outcome : {E : Type 0} (way : Cutting) (t : List ℕ) (given : List (List ℕ)) (refused : Option E) → Outcome (ArePartsBy way t) given refused → length given ≤ length t + 2
length-outcome way t given None whole = length-parts way t given whole
length-outcome way t given (Some reason) begun = omega (arith, length-parts way t (given ++ begun.0) begun.2, length-append given begun.0)
