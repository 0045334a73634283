-- Frames of bytes. Each is ended by a separator, which is not empty.
use Rattle.std.specs.Prelude.{◌≡◌, ◌↔◌, ℕ, ◌<◌, ◌≤◌, List, [], ◌∷◌, ◌++◌, length, map, None, All, IsUtf8}
use Rattle.std.specs.Str.{chars}
use Rattle.bytes_utils.specs.Occurrence.{Occurs, OccursFirstAt}
use Rattle.bytes_utils.specs.Parts.{IsPartCutAtFirst, ArePartsFromFront}
use Rattle.bytes_utils_codec.specs.StreamRuns.{AreFirstOfRun, SameFirstOfRunLaw}

-- the old bytes are the frame, the separator and the rest, and no separator begins before this one
pub record TakesFrame (separator old frame rest : List ℕ) : Type 0 where
  pub bytes : old ≡ frame ++ (separator ++ rest)
  pub first : OccursFirstAt separator old (length frame)

-- the first frame has come, and has some bytes
pub record HasFrame (separator bytes : List ℕ) : Type 0 where
  pub frame : List ℕ
  pub rest : List ℕ
  pub takes : TakesFrame separator bytes frame rest
  pub some : 0 < length frame

-- the first frame has come, has some bytes, and is within the limit
abbrev pub HasFrameWithin : ℕ → List ℕ → List ℕ → Type 0
HasFrameWithin limit separator bytes = (has : HasFrame separator bytes) × (length has.frame ≤ limit)

-- these are the first frames of the bytes, in order, and the bytes after them
abbrev pub AreFrames : List ℕ → List ℕ → List (List ℕ) → List ℕ → Type 0
AreFrames separator bytes frames rest = AreFirstOfRun (TakesFrame separator) bytes frames rest

-- All frames of the bytes, and the bytes after them, are the parts between separators, of which there is one list.
abbrev pub FramePartsLaw : Type 0
FramePartsLaw = (separator bytes : List ℕ) (frames : List (List ℕ)) (rest : List ℕ) → AreFrames separator bytes frames rest
    → (¬ Occurs separator rest) → ArePartsFromFront bytes separator None (frames ++ rest ∷ [])

-- these frames one after another, each with the separator after it, and then the rest
abbrev pub framed : List ℕ → List (List ℕ) → List ℕ → List ℕ
framed separator [] rest = rest
framed separator (frame ∷ frames) rest = frame ++ (separator ++ framed separator frames rest)

-- Frames that are put together are taken out again, exactly if each is cut at its first separator.
abbrev pub PutFramesLaw : Type 0
PutFramesLaw = (separator : List ℕ) (frames : List (List ℕ)) (rest : List ℕ) → 0 < length separator
    → AreFrames separator (framed separator frames rest) frames rest ↔ All (IsPartCutAtFirst separator) frames

-- If the bytes and the separator are those of texts, then the frames and the bytes after them are the parts of the text, of which there is also one
-- list.
abbrev pub TextFramesLaw : Type 0
TextFramesLaw = (separator text : List ℕ) (frames : List (List ℕ)) (rest : List ℕ) → IsUtf8 separator → IsUtf8 text → AreFrames separator text frames rest
    → (¬ Occurs separator rest) → ArePartsFromFront (chars text) (chars separator) None (map chars (frames ++ rest ∷ []))

-- two lists of frames of the same bytes that have the same length are the same, with the same bytes after them
abbrev pub SameFramesLaw : Type 0
SameFramesLaw = (separator : List ℕ) → SameFirstOfRunLaw (TakesFrame separator)

-- two lists of frames of the same bytes with no separator after them are the same, with the same bytes after them
abbrev pub AllFramesLaw : Type 0
AllFramesLaw = (separator bytes : List ℕ) (xs ys : List (List ℕ)) (x y : List ℕ) → AreFrames separator bytes xs x → AreFrames separator bytes ys y
    → (¬ Occurs separator x) → (¬ Occurs separator y) → (xs ≡ ys) × (x ≡ y)
