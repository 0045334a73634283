-- The parts of a text between separators.
use Rattle.std.specs.Prelude.{◌≡◌, ◌⊎◌, ℕ, zero, suc, ◌-◌, ◌<◌, ◌≤◌, List, [], ◌∷◌, ◌++◌, length, reverse, Option, None, Some, ⊤, IfSome, All}
use Rattle.bytes_utils.specs.Occurrence.{Occurs, OccursFirstAt, OccursLastAt}
use Rattle.bytes_utils.specs.EmptySeparator.{by_empty_separator, by_empty_separator_backward}

-- the parts in order, with p between neighbours, as Rust's `parts.join(p)`
abbrev pub join : {X : Type 0} → List X → List (List X) → List X
join p [] = []
join p (part ∷ []) = part
join p (part ∷ next ∷ parts) = part ++ (p ++ join p (next ∷ parts))

-- P holds of each member but the last
abbrev pub EachPartButLast : {X : Type 0} → (X → Type 0) → List X → Type 0
EachPartButLast P [] = ⊤
EachPartButLast P (x ∷ []) = ⊤
EachPartButLast P (x ∷ y ∷ xs) = P x × EachPartButLast P (y ∷ xs)

-- P holds of the last member, if there is one
abbrev pub OfLastPart : {X : Type 0} → (X → Type 0) → List X → Type 0
OfLastPart P [] = ⊤
OfLastPart P (x ∷ []) = P x
OfLastPart P (x ∷ y ∷ xs) = OfLastPart P (y ∷ xs)

-- The first p in the part followed by p is the one after the part: a split at the first p gives the part whole.
abbrev pub IsPartCutAtFirst : {X : Type 0} → List X → List X → Type 0
IsPartCutAtFirst p part = OccursFirstAt p (part ++ p) (length part)

-- The parts of t between separators p, split from the front, at most as many as the limit, if there is one: Rust's
-- `str::split`, and `str::splitn` with a limit. For p not empty and a limit of at least 1; the empty separator has its
-- own definition.
pub record AreForwardParts {X : Type 0} (t p : List X) (limit : Option ℕ) (parts : List (List X)) : Type 0 where
  pub some : 0 < length parts
  pub few : IfSome limit (λ most. length parts ≤ most)
  pub joined : join p parts ≡ t
  pub cut_at_first : EachPartButLast (IsPartCutAtFirst p) parts
  -- unless the limit was reached, the last part holds no p
  pub last : IfSome limit (λ most. length parts < most) → OfLastPart (λ part. ¬ Occurs p part) parts

-- Parts that can be joined with p between and split again into the same parts: there is at least one part, each but the
-- last is split at its first p, and the last holds no p. That no part holds p isn't enough: `a-` and `b`, joined with
-- `--`, are split into `a` and `-b`.
pub record AreSeparable {X : Type 0} (p : List X) (parts : List (List X)) : Type 0 where
  pub some : 0 < length parts
  pub cut_at_first : EachPartButLast (IsPartCutAtFirst p) parts
  pub last : OfLastPart (λ part. ¬ Occurs p part) parts

-- The parts of t between separators p, split from the back and listed from the back, at most as many as the limit, if
-- there is one: Rust's `str::rsplit`, and `str::rsplitn` with a limit. For p not empty and a limit of at least 1.
pub record AreBackwardParts {X : Type 0} (t p : List X) (limit : Option ℕ) (parts : List (List X)) : Type 0 where
  pub some : 0 < length parts
  pub few : IfSome limit (λ most. length parts ≤ most)
  pub joined : join p (reverse parts) ≡ t
  -- of each part but the last in the list, with p before it, the last p is the one before the part
  pub cut_at_last : EachPartButLast (λ part. OccursLastAt p (p ++ part) 0) parts
  -- unless the limit was reached, the last part in the list holds no p
  pub last : IfSome limit (λ most. length parts < most) → OfLastPart (λ part. ¬ Occurs p part) parts

-- p occurs at the end of the part and nowhere before
abbrev pub PartEndsAtFirst : {X : Type 0} → List X → List X → Type 0
PartEndsAtFirst p part = OccursFirstAt p part (length part - length p)

-- The parts of t that keep the separator p at their ends: Rust's `str::split_inclusive`. For p not empty. The empty t
-- has no parts.
pub record AreInclusiveParts {X : Type 0} (t p : List X) (parts : List (List X)) : Type 0 where
  pub joined : join [] parts ≡ t
  pub none_empty : All (λ part. 0 < length part) parts
  pub cut_after_first : EachPartButLast (PartEndsAtFirst p) parts
  pub last : OfLastPart (λ part. PartEndsAtFirst p part ⊎ (¬ Occurs p part)) parts

-- The parts of t from the front, for every separator and every limit: Rust's `str::split` and `str::splitn`. A limit of
-- 0 gives no parts; the empty separator has its own definition.
abbrev pub ArePartsFromFront : {X : Type 0} → List X → List X → Option ℕ → List (List X) → Type 0
ArePartsFromFront t [] limit parts = parts ≡ by_empty_separator t limit
ArePartsFromFront t (x ∷ p) None parts = AreForwardParts t (x ∷ p) None parts
ArePartsFromFront t (x ∷ p) (Some zero) parts = parts ≡ []
ArePartsFromFront t (x ∷ p) (Some (suc most)) parts = AreForwardParts t (x ∷ p) (Some (suc most)) parts

-- The parts of t from the back, for every separator and every limit: Rust's `str::rsplit` and `str::rsplitn`.
abbrev pub ArePartsFromBack : {X : Type 0} → List X → List X → Option ℕ → List (List X) → Type 0
ArePartsFromBack t [] limit parts = parts ≡ by_empty_separator_backward t limit
ArePartsFromBack t (x ∷ p) None parts = AreBackwardParts t (x ∷ p) None parts
ArePartsFromBack t (x ∷ p) (Some zero) parts = parts ≡ []
ArePartsFromBack t (x ∷ p) (Some (suc most)) parts = AreBackwardParts t (x ∷ p) (Some (suc most)) parts
