-- Frames of bytes.
use Rattle.std.proofs.Common.{map, All, IsUtf8, drop-drop, ◌≤◌, ◌≡◌, true, false, ℕ, zero, suc, ◌+◌, ◌<◌, List, [], ◌∷◌, ◌++◌, length, take, drop, None, Some, ap, ◌∙◌, sym, refl, subst, arith, append_assoc}
use Rattle.std.proofs.lemmas.Bool.{false≢true}
use Rattle.std.proofs.lemmas.List.{append_cancel_left, length-take-le, take_at, drop_at}
use Rattle.std.proofs.lemmas.List.Elements.{All-nil, All-cons, All-head, All-tail}
use Rattle.std.proofs.lemmas.Str.{IsUtf8-drop}
use Rattle.std.specs.Str.{chars}
use Rattle.memchr.specs.Find.{FindsNeedle}
use Rattle.memchr.proofs.lemmas.MatchLemmas.{OccursAt-part}
use Rattle.bytes_utils.specs.Occurrence.{Occurs, OccursAt, OccursFirstAt}
use Rattle.bytes_utils.specs.Parts.{IsPartCutAtFirst, AreForwardParts}
use Rattle.bytes_utils_codec.specs.Frames.{HasFrame, HasFrameWithin, TakesFrame, AreFrames, framed, FramePartsLaw, PutFramesLaw, SameFramesLaw, AllFramesLaw, TextFramesLaw}
use Rattle.bytes_utils.proofs.Boundaries.{OccursAt-fits, HasNeedleAt-from_occurs}
use Rattle.bytes_utils.proofs.OccurrenceLemmas.{OccursFirstAt-append, first_places_same}
use Rattle.bytes_utils.proofs.Joins.{append_same}
use Rattle.bytes_utils.proofs.Forward.{AreForwardParts-led, AreForwardParts-last, AreForwardParts-more}
use Rattle.bytes_utils.proofs.FromEnds.{front-from}
use Rattle.bytes_utils.proofs.PartLists.{first-from_cut, cut-from_first}
use Rattle.bytes_utils.proofs.PartCut.{next_boundary, chars_before, chars_after}
use Rattle.bytes_utils_codec.proofs.StreamRunsLemmas.{AreFirstOfRun-more, AreFirstOfRun-next, same_first_law, all_first_law}
use Rattle.bytes_utils.proofs.SearchLemmas.{chars-some, FindsFirstOccurrence-from_needle}

-- ---- a frame is taken

-- what is never refused if it has no bytes has some
pub some_from_refused : (n : ℕ) → (n ≡ 0 → false ≡ true) → 0 < n
some_from_refused zero none = absurd (false≢true (none refl))
some_from_refused (suc n) none = omega arith

-- a frame with some bytes has come
pub HasFrameWithin-taken : (limit : ℕ) (p held : List ℕ) (len : ℕ) → len + length p ≤ length held → TakesFrame p held (take len held) (drop (len + length p) held) → 0 < len
    → len ≤ limit → HasFrameWithin limit p held
HasFrameWithin-taken limit p held len fits takes some within =
    let size = length-take-le len held (omega (arith, fits)) in
    (record { frame = take len held; rest = drop (len + length p) held; takes = takes; some = omega (arith, some, size) }, omega (arith, within, size))

pub HasFrame-taken : (p held : List ℕ) (len : ℕ) → len + length p ≤ length held → TakesFrame p held (take len held) (drop (len + length p) held) → 0 < len → HasFrame p held
HasFrame-taken p held len fits takes some = (HasFrameWithin-taken len p held len fits takes some (omega arith)).0

-- ---- bytes that follow

pub first_more : (p xs ys : List ℕ) (i : ℕ) → OccursFirstAt p xs i → OccursFirstAt p (xs ++ ys) i
first_more [] xs ys i first = record { here = refl; none_before = λ j there. omega (arith, first.none_before 0 refl) }
first_more (x ∷ p) xs ys i first = OccursFirstAt-append (x ∷ p) xs ys i (omega arith) first

pub TakesFrame-more : (p old frame rest piece : List ℕ) → TakesFrame p old frame rest → TakesFrame p (old ++ piece) frame (rest ++ piece)
TakesFrame-more p old frame rest piece takes = record {
  bytes = ap (λ l. l ++ piece) takes.bytes ∙ append_assoc frame (p ++ rest) piece ∙ ap (λ l. frame ++ l) (append_assoc p rest piece);
  first = first_more p old piece (length frame) takes.first;
}

pub AreFrames-more : (p bytes : List ℕ) (frames : List (List ℕ)) (rest piece : List ℕ) → AreFrames p bytes frames rest → AreFrames p (bytes ++ piece) frames (rest ++ piece)
AreFrames-more p bytes frames rest piece are = AreFirstOfRun-more (λ l piece. l ++ piece) (TakesFrame p) (TakesFrame-more p) bytes frames rest piece are

pub AreFrames-next : (p bytes : List ℕ) (frames : List (List ℕ)) (held frame rest : List ℕ) → AreFrames p bytes frames held → TakesFrame p held frame rest
    → AreFrames p bytes (frames ++ frame ∷ []) rest
AreFrames-next p bytes frames held frame rest are takes = AreFirstOfRun-next (TakesFrame p) bytes frames held frame rest are takes

-- ---- the list of parts

frame_parts : (p bytes : List ℕ) (frames : List (List ℕ)) (rest : List ℕ) → 0 < length p → AreFrames p bytes frames rest → (¬ Occurs p rest)
    → AreForwardParts bytes p None (frames ++ rest ∷ [])
frame_parts p bytes [] rest some are lacks = subst (λ l. AreForwardParts l p None (rest ∷ [])) (sym are) (AreForwardParts-last p rest None tt lacks)
frame_parts p bytes (frame ∷ frames) rest some are lacks =
    let takes = are.1 in
    let first = cut-from_first p frame are.0 some (subst (λ l. OccursFirstAt p l (length frame)) takes.bytes takes.first) in
    subst (λ l. AreForwardParts l p None (frame ∷ (frames ++ rest ∷ []))) (sym takes.bytes)
    (AreForwardParts-led p frame are.0 None first (frames ++ rest ∷ []) (frame_parts p are.0 frames rest some are.2 lacks))

pub frame_parts_law : FramePartsLaw
frame_parts_law [] bytes frames rest are lacks = absurd (lacks (0, refl))
frame_parts_law (x ∷ p) bytes frames rest are lacks = frame_parts (x ∷ p) bytes frames rest (omega arith) are lacks

-- ---- frames of a text

-- a frame ends at the first separator, as a search finds it
TakesFrame-finds : (p old frame rest : List ℕ) → 0 < length p → TakesFrame p old frame rest → FindsNeedle old p 0 (Some (length frame))
TakesFrame-finds p old frame rest some takes =
    let fits = OccursAt-fits p old (length frame) some takes.first.here in (
      record { low = omega arith; high = omega (arith, fits); before = λ j low high here. omega (arith, high, takes.first.none_before j (OccursAt-part old p j here)) },
      HasNeedleAt-from_occurs p old (length frame) some takes.first.here,
    )

text_parts : (p text : List ℕ) (frames : List (List ℕ)) (rest : List ℕ) → 0 < length p → IsUtf8 p → IsUtf8 text → AreFrames p text frames rest → (¬ Occurs p rest)
    → AreForwardParts (chars text) (chars p) None (map chars (frames ++ rest ∷ []))
text_parts p text [] rest some p_is text_is are lacks =
    let none = FindsFirstOccurrence-from_needle text p text_is p_is some None (λ k low high here. lacks (k, subst (λ l. OccursAt p l k) are (OccursAt-part text p k here))) in
    subst (λ l. AreForwardParts (chars text) (chars p) None (chars l ∷ [])) are (AreForwardParts-last (chars p) (chars text) None tt none)
text_parts p text (frame ∷ frames) rest some p_is text_is are lacks =
    let takes = are.1 in
    let at = length frame in
    let place = FindsFirstOccurrence-from_needle text p text_is p_is some (Some at) (TakesFrame-finds p text frame are.0 some takes) in
    let here = place.2.here in
    let before : frame ≡ take at text = sym (take_at frame (p ++ are.0) at refl) ∙ ap (take at) (sym takes.bytes) in
    let following : are.0 ≡ drop (at + length p) text =
    sym (drop_at p are.0 (length p) refl) ∙ ap (drop (length p)) (sym (drop_at frame (p ++ are.0) at refl)) ∙ drop-drop (length p) at (frame ++ (p ++ are.0))
    ∙ ap (drop (at + length p)) (sym takes.bytes) in
    let boundary = next_boundary text p text_is p_is at place.0 place.1 here in
    let after_is = subst IsUtf8 (sym following) (IsUtf8-drop text (at + length p) text_is boundary) in
    let later = text_parts p are.0 frames rest some p_is after_is are.2 lacks in
    let parts = map chars (frames ++ rest ∷ []) in
    subst (λ part. AreForwardParts (chars text) (chars p) None (part ∷ parts)) (sym (chars_before text p text_is p_is at place.0 place.1 here frame before))
    (AreForwardParts-more (chars p) (chars text) place.0 (chars-some p p_is some) place.2 None tt parts
    (subst (λ l. AreForwardParts l (chars p) None parts) (chars_after text p text_is p_is at place.0 place.1 here are.0 following) later))

pub text_frames_law : TextFramesLaw
text_frames_law [] text frames rest p_is text_is are lacks = absurd (lacks (0, refl))
text_frames_law (x ∷ p) text frames rest p_is text_is are lacks =
    front-from (chars text) (chars (x ∷ p)) None (map chars (frames ++ rest ∷ [])) (chars-some (x ∷ p) p_is (omega arith)) tt
    (text_parts (x ∷ p) text frames rest (omega arith) p_is text_is are lacks)

-- ---- one list of frames

pub TakesFrame-same : (p bytes f g x y : List ℕ) → TakesFrame p bytes f x → TakesFrame p bytes g y → (f ≡ g) × (x ≡ y)
TakesFrame-same p bytes f g x y s t =
    let same = append_same f g (p ++ x) (p ++ y) (first_places_same p bytes (length f) (length g) s.first t.first) (sym s.bytes ∙ t.bytes) in
    (same.0, append_cancel_left p x y same.1)

pub same_frames_law : SameFramesLaw
same_frames_law p = same_first_law (TakesFrame p) (TakesFrame-same p)

pub all_frames_law : AllFramesLaw
all_frames_law p bytes xs ys x y a b none_x none_y = all_first_law (TakesFrame p) (TakesFrame-same p) bytes xs ys x y a b
    (λ frame rest takes. none_x (length frame, takes.first.here)) (λ frame rest takes. none_y (length frame, takes.first.here))

-- ---- frames that are put together

module _ (p : List ℕ) (some : 0 < length p) where
  each_cut : (frames : List (List ℕ)) (rest : List ℕ) → AreFrames p (framed p frames rest) frames rest → All (IsPartCutAtFirst p) frames
  each_cut [] rest are = All-nil (IsPartCutAtFirst p)
  each_cut (frame ∷ frames) rest are =
      let whole = framed p frames rest in
      let following : whole ≡ are.0 = append_cancel_left p whole are.0 (append_cancel_left frame (p ++ whole) (p ++ are.0) are.1.bytes) in
      All-cons (IsPartCutAtFirst p) frame frames (cut-from_first p frame whole some are.1.first)
      (each_cut frames rest (subst (λ l. AreFrames p l frames rest) (sym following) are.2))

  cut_each : (frames : List (List ℕ)) (rest : List ℕ) → All (IsPartCutAtFirst p) frames → AreFrames p (framed p frames rest) frames rest
  cut_each [] rest cut = refl
  cut_each (frame ∷ frames) rest cut =
      let whole = framed p frames rest in (
        whole,
        record { bytes = refl; first = first-from_cut p frame whole some (All-head (IsPartCutAtFirst p) frame frames cut) },
        cut_each frames rest (All-tail (IsPartCutAtFirst p) frame frames cut),
      )

pub put_frames_law : PutFramesLaw
put_frames_law p frames rest some = (each_cut p some frames rest, cut_each p some frames rest)

pub ruleset frame_laws = (frame_parts_law, text_frames_law, same_frames_law, all_frames_law, put_frames_law)
