-- A text to which one more item is appended.
use Rattle.std.proofs.Common.{◌≡◌, ℕ, List, [], ◌∷◌, ◌++◌, map, encode_utf8, encode_utf8_all}
use Rattle.std.specs.List.{concat}
use Rattle.std.proofs.lemmas.List.{append_assoc, append-nil, map_push}
use Rattle.std.proofs.lemmas.List.Folds.{concat-append}
use Rattle.std.proofs.lemmas.Str.{encodes-append, IsUtf8-between, IsUtf8-drop, IsUtf8-take, IsCharBoundary-start}

-- a text that is split between characters gives texts
pub ruleset pieces = (IsUtf8-between, IsUtf8-drop, IsUtf8-take)

-- the start of a text is a boundary
pub ruleset start = (IsCharBoundary-start)

-- a character after the characters so far
pub characters_push : (old cs : List ℕ) (c : ℕ) → (old ++ encode_utf8_all cs) ++ encode_utf8 c ≡ old ++ encode_utf8_all (cs ++ c ∷ [])
characters_push old cs c = simp (append_assoc, encodes-append, append-nil)

-- a text after the texts so far
pub texts_push : {X : Type 0} (f : X → List ℕ) (old : List ℕ) (xs : List X) (x : X) → (old ++ concat (map f xs)) ++ f x ≡ old ++ concat (map f (xs ++ x ∷ []))
texts_push f old xs x = simp (append_assoc, map_push, concat-append, append-nil)
