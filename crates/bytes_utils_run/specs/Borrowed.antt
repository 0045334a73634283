-- What std's iterators over borrowed parts of a text give, and what their patterns find.
use Rattle.std.specs.Prelude.{◌≡◌, ℕ, ◌<◌, List, [], ◌∷◌, ◌++◌, length, map, Bool, true, Option, MatchOption, ⊤}
use denote.Param.Members.{Mut}
use denote.Ref.{Bor}
use Rattle.std.specs.Fn.{AlwaysReturns}
use Rattle.std.specs.Iterator.{Yields, Drains}
use Rattle.std.specs.Str.{chars, NonePass}
use Rattle.std.specs.Str.Pattern.{FindsText, RFindsText, FindsBy}
use Rattle.bytes_utils_buf.specs.declared.refused.Reason.{Reason}
use Rattle.bytes_utils.specs.Occurrence.{Occurs}
use Rattle.bytes_utils.specs.Outcome.{Outcome}
use Rattle.bytes_utils_run.specs.Cutting.{Cutting, ArePartsBy, Keeping}

-- each of these texts as its characters
abbrev pub borrowed_characters : List (Bor (List ℕ)) → List (List ℕ)
borrowed_characters = map (λ text. chars text.now)

-- `steps` says what a call of `next` does, and Is which lists of parts are right. From the state s, a run to the end gives a right list, and
-- a run that stops early gives the first parts of a right list.
pub record GivesBorrowedParts {S : Type 0} (steps : S → Option (Bor (List ℕ)) → S → Type 0) (s : S) (Is : List (List ℕ) → Type 0) : Type 0 where
  pub whole : (items : List (Bor (List ℕ))) → Drains steps s items → Is (borrowed_characters items)
  pub stopped : (items : List (Bor (List ℕ))) (t : S) → Yields steps s items t → (others : List (List ℕ)) × Is (borrowed_characters items ++ others)

-- what a text as a pattern finds, from the front and from the back, and what a search keeps of the pattern
abbrev pub finds_borrowed_text : Bor (List ℕ) → List ℕ → Option (ℕ × ℕ) → Type 0
finds_borrowed_text pattern = FindsText pattern.now

abbrev pub rfinds_borrowed_text : Bor (List ℕ) → List ℕ → Option (ℕ × ℕ) → Type 0
rfinds_borrowed_text pattern = RFindsText pattern.now

abbrev pub keeps_borrowed_text : Bor (List ℕ) → Bor (List ℕ) → Type 0
keeps_borrowed_text pattern after = after.now ≡ pattern.now

-- what a search keeps of a character as a pattern
abbrev pub keeps_character : ℕ → ℕ → Type 0
keeps_character pattern after = after ≡ pattern

-- from now on, each call of the closure f returns the result of the test `passes`
abbrev pub AnswersBy : {F : Type 0} → Mut F (ℕ × Unit {0}) Bool → F → (ℕ → Bool) → Type 0
AnswersBy calls f passes = AlwaysReturns calls (λ a r. r ≡ passes a.0) f

-- What a closure as a pattern finds, and what a search keeps of it. `answers f passes` says that from now on each call of the closure f
-- returns the result of the test `passes`.
module _ {F : Type 0} (answers : F → (ℕ → Bool) → Type 0) where
  abbrev pub finds_tested : F → List ℕ → Option (ℕ × ℕ) → Type 0
  finds_tested f text found = (passes : ℕ → Bool) → answers f passes → FindsBy passes text found

  abbrev pub keeps_tested : F → F → Type 0
  keeps_tested f after = (passes : ℕ → Bool) → answers f passes → answers after passes

-- The parts of t between the characters that pass a test: no part holds such a character, and one follows each part but the last.
abbrev pub AreBorrowedPartsByTest : (ℕ → Bool) → List ℕ → List (List ℕ) → Type 0
AreBorrowedPartsByTest passes t [] = ⊥
AreBorrowedPartsByTest passes t (part ∷ []) = (t ≡ part) × NonePass passes part
AreBorrowedPartsByTest passes t (part ∷ next ∷ parts) = (c : ℕ) × (rest : List ℕ) × (t ≡ part ++ c ∷ rest) × (passes c ≡ true) × NonePass passes part
    × AreBorrowedPartsByTest passes rest (next ∷ parts)

-- the separator of parts that keep it is not empty
abbrev pub HasSeparator : Cutting → Type 0
HasSeparator (Keeping p) = 0 < length p
HasSeparator how = ⊤

-- For the text t and a way to split: the owned parts, which a refusal may cut short, and the parts that the method of `str` gives, all as
-- characters. Without a refusal both lists are the same. With one, the owned parts are the first of the others, and some are missing.
abbrev pub OwnedAsBorrowedLaw : Type 0
OwnedAsBorrowedLaw = (how : Cutting) (t : List ℕ) (owned lent : List (List ℕ)) (refused : Option Reason) → HasSeparator how
    → Outcome (ArePartsBy how t) owned refused → ArePartsBy how t lent → Outcome (λ parts. parts ≡ lent) owned refused

-- `halves` are right halves of t around p, by the relation Are, or there are none and p does not occur; all as characters
abbrev pub IsCutOnceAsBorrowed : (List ℕ → List ℕ → List ℕ → List ℕ → Type 0) → List ℕ → List ℕ → Option (List ℕ × List ℕ) → Type 0
IsCutOnceAsBorrowed Are t p halves = MatchOption halves (¬ Occurs p t) (λ both. Are t p both.0 both.1)

-- for right halves by the relation Are, a text split once has the same owned halves as the method of `str` gives
abbrev pub OnceAsBorrowedLaw : (List ℕ → List ℕ → List ℕ → List ℕ → Type 0) → Type 0
OnceAsBorrowedLaw Are = (t p : List ℕ) (owned lent : Option (List ℕ × List ℕ)) → IsCutOnceAsBorrowed Are t p owned → IsCutOnceAsBorrowed Are t p lent → owned ≡ lent
