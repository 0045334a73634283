-- The next part if one part is the limit, and that there is one.
use Rattle.std.proofs.Common.{◌≡◌, ◌≢◌, refl, ap, ℕ, suc, ◌<◌, List, [], ◌∷◌, Bool, Option, Some, Result, Ok, Err, IfOk, length, reverse, arith}
use Rattle.std.proofs.lemmas.List.{length-map}
use Rattle.std.proofs.lemmas.Str.{chars-nil}
use Rattle.std.specs.Option.{IfSome, option_map}
use Rattle.std.specs.Str.{chars}
use Rattle.bytes_utils.specs.EmptySeparator.{by_empty_separator}
use Rattle.bytes_utils.specs.Occurrence.{Occurs}
use Rattle.bytes_utils.specs.Parts.{ArePartsFromFront, ArePartsFromBack}
use Rattle.bytes_utils.specs.Splitting.{ArePartsToCome, LeavesMoreToSplit}
use Rattle.bytes_utils.specs.declared.split.direction.Direction.{Direction}
use Rattle.bytes_utils.proofs.EachCharacter.{by_empty_separator-following}

-- an empty separator has no characters, so it occurs in every text
pub no_chars : (sep : List ℕ) → length sep ≡ 0 → chars sep ≡ []
no_chars [] none = chars-nil
no_chars (c ∷ sep) none = absurd (omega (arith, none))

pub occurs-empty : (sep text : List ℕ) → length sep ≡ 0 → Occurs (chars sep) (chars text)
occurs-empty sep text none = rw (no_chars sep none) (0, refl)

some-limit : (limit : Option ℕ) → limit ≢ Some 0 → IfSome limit (λ most. 0 < most)
some-limit h not = grind arith

-- if the limit allows a part, a part of what is left is to come
some_from_front : (t p : List ℕ) (limit : Option ℕ) → IfSome limit (λ most. 0 < most) → ArePartsFromFront t p limit [] → ⊥
some_from_front t p limit some are = grind arith

some_from_back : (t p : List ℕ) (limit : Option ℕ) → IfSome limit (λ most. 0 < most) → ArePartsFromBack t p limit [] → ⊥
some_from_back t p limit some are = grind arith

after_front : (t : List ℕ) (limit : Option ℕ) → IfSome limit (λ most. 0 < most) → ArePartsFromFront t [] (option_map suc limit) ([] ∷ []) → ⊥
after_front t limit some are = omega (arith, ap length are, by_empty_separator-following t limit some)

after_back : (t : List ℕ) (limit : Option ℕ) → IfSome limit (λ most. 0 < most) → ArePartsFromBack t [] (option_map suc limit) ([] ∷ []) → ⊥
after_back t limit some are =
    omega (arith, ap length are, by_empty_separator-following (reverse t) limit some, length-map (by_empty_separator (reverse t) (option_map suc limit)) reverse)

pub some_to_come : (from : Direction) (text sep : List ℕ) (limit : Option ℕ) (begun : Bool) → limit ≢ Some 0
    → ¬ ArePartsToCome from (record { rest = Some text; separator = sep; limit = limit; begun = begun }) []
some_to_come from text sep h begun not = grind (arith, after_back, after_front, some-limit, some_from_back, some_from_front)

-- a limit that allows a part, and not exactly one, leaves more
pub leaves-more : (limit : Option ℕ) → limit ≢ Some 0 → limit ≢ Some 1 → LeavesMoreToSplit limit
leaves-more limit not_none not_one = grind arith

-- what holds of a cut under every limit that leaves more holds under this one
pub at_limit : {E C : Type 0} (r : Result C E) (G : C → Option ℕ → Type 0) (limit : Option ℕ) → limit ≢ Some 0 → limit ≢ Some 1
    → IfOk r (λ cut. (most : Option ℕ) → LeavesMoreToSplit most → G cut most) → IfOk r (λ cut. G cut limit)
at_limit (Ok cut) G limit not_none not_one gives = gives limit (leaves-more limit not_none not_one)
at_limit (Err e) G limit not_none not_one gives = tt
