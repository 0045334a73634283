-- What each run of `str::split` and `str::rsplit` gives, by a pattern that finds a separator that isn't empty.
use Rattle.std.proofs.Common.{◌≡◌, refl, sym, ap, subst, ◌∙◌, ℕ, ◌+◌, ◌<◌, List, [], ◌∷◌, Option, None, Some, Bool, true, false, length, take, drop, arith, Bor, IsUtf8, MatchBool}
use Rattle.std.specs.Option.{is_some}
use Rattle.std.specs.Str.{chars}
use Rattle.std.specs.Str.Pattern.{IsSplitAtFirstMatch, IsSplitAtLastMatch}
use Rattle.std.specs.Str.Iter.{split_steps, split_text, split_has_more, split_pattern, rsplit_steps, rsplit_text, rsplit_has_more, rsplit_pattern}
use Rattle.std.specs.declared.str.Split.{Split}
use Rattle.std.specs.declared.str.RSplit.{RSplit}
use Rattle.bytes_utils.specs.Occurrence.{Occurs, OccursFirstAt, OccursLastAt}
use Rattle.bytes_utils.specs.Parts.{ArePartsFromFront, ArePartsFromBack}
use Rattle.bytes_utils.specs.Splitting.{LeavesMoreToSplit, limit_after_split}
use Rattle.bytes_utils.proofs.Forward.{AreForwardParts-more, AreForwardParts-last}
use Rattle.bytes_utils.proofs.Backward.{AreBackwardParts-more, AreBackwardParts-last}
use Rattle.bytes_utils.proofs.FromEnds.{positive, positive-less, front-from, front-to, back-from, back-to, has_front, has_back}
use Rattle.bytes_utils_run.specs.Borrowed.{GivesBorrowedParts}
use Rattle.bytes_utils_run.proofs.BorrowedRuns.{GivesBorrowedParts-from_steps, GivesBorrowedParts-map}
use Rattle.bytes_utils_run.proofs.BorrowedCuts.{FindsCut, First, Last, Seeks}

-- if more is to come, the parts are right by Is; otherwise there are none
abbrev pub ToCome : Bool → (List (List ℕ) → Type 0) → List (List ℕ) → Type 0
ToCome live Is parts = MatchBool live (Is parts) (parts ≡ [])

-- some list is to come if there is a right one
pub some_to_come : (live : Bool) (Is : List (List ℕ) → Type 0) → (parts : List (List ℕ)) × Is parts → (parts : List (List ℕ)) × ToCome live Is parts
some_to_come true Is right = right
some_to_come false Is right = ([], refl)

-- By the relation Are, which says which lists are the parts of a text with a limit: if another part is to come, the rest is text, and each
-- list of parts that is then to come, with the limit that is left, follows this part.
pub record Leads (Are : List ℕ → Option ℕ → List (List ℕ) → Type 0) (text part : List ℕ) (live : Bool) (rest : List ℕ) (limit next : Option ℕ) : Type 0 where
  pub left : live ≡ true → IsUtf8 rest
  pub each : (others : List (List ℕ)) → ToCome live (Are (chars rest) next) others → Are (chars text) limit (chars part ∷ others)

module _ (Are : List ℕ → Option ℕ → List (List ℕ) → Type 0) (text part : List ℕ) (live : Bool) (rest : List ℕ) (limit next : Option ℕ) where
  -- the part is all of the text, and no other part is to come
  pub Leads-last_part : live ≡ false → part ≡ text → Are (chars text) limit (chars text ∷ []) → Leads Are text part live rest limit next
  Leads-last_part ends whole alone = record {
    left = λ goes_on. let both : true ≡ false = sym goes_on ∙ ends in cc;
    each = λ others are.
        let none : others ≡ [] = subst (λ b. ToCome b (Are (chars rest) next) others) ends are in
        rw (whole, none) alone;
  }

  pub Leads-first_part : live ≡ true → IsUtf8 rest → ((others : List (List ℕ)) → Are (chars rest) next others → Are (chars text) limit (chars part ∷ others))
      → Leads Are text part live rest limit next
  Leads-first_part goes_on rest_is each = record {
    left = λ _. rest_is;
    each = λ others are. each others (subst (λ b. ToCome b (Are (chars rest) next) others) goes_on are);
  }

-- the parts of a text by the separator p
abbrev pub from_front : List ℕ → List ℕ → Option ℕ → List (List ℕ) → Type 0
from_front p t limit parts = ArePartsFromFront t p limit parts

abbrev pub from_back : List ℕ → List ℕ → Option ℕ → List (List ℕ) → Type 0
from_back p t limit parts = ArePartsFromBack t p limit parts

module _ (p : List ℕ) (some : 0 < length p) where
  module _ (limit : Option ℕ) (more : LeavesMoreToSplit limit) where
    front_whole : (t : List ℕ) → (¬ Occurs p t) → from_front p t limit (t ∷ [])
    front_whole t lacks = front-from t p limit (t ∷ []) some (positive limit more) (AreForwardParts-last p t limit (positive limit more) lacks)

    back_whole : (t : List ℕ) → (¬ Occurs p t) → from_back p t limit (t ∷ [])
    back_whole t lacks = back-from t p limit (t ∷ []) some (positive limit more) (AreBackwardParts-last p t limit (positive limit more) lacks)

    front_more : (t : List ℕ) (k : ℕ) → OccursFirstAt p t k → (others : List (List ℕ)) → from_front p (drop (k + length p) t) (limit_after_split limit) others → from_front p t limit (take k t ∷ others)
    front_more t k first others are =
        front-from t p limit (take k t ∷ others) some (positive limit more)
        (AreForwardParts-more p t k some first limit more others (front-to (drop (k + length p) t) p (limit_after_split limit) others some (positive-less limit more) are))

    back_more : (t : List ℕ) (k : ℕ) → OccursLastAt p t k → (others : List (List ℕ)) → from_back p (take k t) (limit_after_split limit) others → from_back p t limit (drop (k + length p) t ∷ others)
    back_more t k last others are =
        back-from t p limit (drop (k + length p) t ∷ others) some (positive limit more)
        (AreBackwardParts-more p t k some last limit more others (back-to (take k t) p (limit_after_split limit) others some (positive-less limit more) are))

    module _ (text part : List ℕ) (live : Bool) (rest : List ℕ) where
      pub Leads-first : (F : List ℕ → Option (ℕ × ℕ) → Type 0) → ((found : Option (ℕ × ℕ)) → F text found → FindsCut First p text found)
          → IsSplitAtFirstMatch F text part live rest → Leads (from_front p) text part live rest limit (limit_after_split limit)
      Leads-first F cuts (_, (None, finds, is)) =
          Leads-last_part (from_front p) text part live rest limit (limit_after_split limit) is.1 is.0 (front_whole (chars text) (cuts None finds))
      Leads-first F cuts (_, (Some (i, j), finds, is)) =
          let at = cuts (Some (i, j)) finds in
          let longer = at.longer in
          let cut_is = is (omega (arith, longer)) in
          let part_chars : chars part ≡ take at.place (chars text) = ap chars cut_is.0 ∙ at.before in
          let rest_chars : chars rest ≡ drop (at.place + length p) (chars text) = ap chars cut_is.2 ∙ at.following in
          Leads-first_part (from_front p) text part live rest limit (limit_after_split limit) cut_is.1 (rw cut_is.2 at.after_is)
          (λ others are. rw part_chars (front_more (chars text) at.place at.found others (subst (λ z. from_front p z (limit_after_split limit) others) rest_chars are)))

      pub Leads-last : (F : List ℕ → Option (ℕ × ℕ) → Type 0) → ((found : Option (ℕ × ℕ)) → F text found → FindsCut Last p text found)
          → IsSplitAtLastMatch F text part live rest → Leads (from_back p) text part live rest limit (limit_after_split limit)
      Leads-last F cuts (_, (None, finds, is)) =
          Leads-last_part (from_back p) text part live rest limit (limit_after_split limit) is.1 is.0 (back_whole (chars text) (cuts None finds))
      Leads-last F cuts (_, (Some (i, j), finds, is)) =
          let at = cuts (Some (i, j)) finds in
          let longer = at.longer in
          let fits = at.fits in
          let cut_is = is (omega (arith, longer, fits)) in
          let part_chars : chars part ≡ drop (at.place + length p) (chars text) = ap chars cut_is.0 ∙ at.following in
          let rest_chars : chars rest ≡ take at.place (chars text) = ap chars cut_is.2 ∙ at.before in
          Leads-first_part (from_back p) text part live rest limit (limit_after_split limit) cut_is.1 (rw cut_is.2 at.before_is)
          (λ others are. rw part_chars (back_more (chars text) at.place at.found others (subst (λ z. from_back p z (limit_after_split limit) others) rest_chars are)))

-- Steps that each cut one part off. Of a state, `text` is what is left, `limit` how many parts may come of it, and `live` whether one comes.
module _ {S P : Type 0} (steps : S → Option (Bor (List ℕ)) → S → Type 0) (text : S → List ℕ) (limit : S → Option ℕ) (live : S → Bool) (pattern : S → P) (is : P → Type 0)
    (Are : List ℕ → Option ℕ → List (List ℕ) → Type 0) (has : (t : List ℕ) (n : Option ℕ) → (parts : List (List ℕ)) × Are t n parts)
    (lives : (s t : S) (x : Option (Bor (List ℕ))) → steps s x t → is_some x ≡ live s)
    (leads : (s t : S) (x : Bor (List ℕ)) → IsUtf8 (text s) → is (pattern s) → steps s (Some x) t
    → Leads Are (text s) x.now (live t) (text t) (limit s) (limit t) × (live t ≡ true → is (pattern t))) where
  -- the parts to come, if one comes
  abbrev to_come : S → List (List ℕ) → Type 0
  to_come s = ToCome (live s) (Are (chars (text s)) (limit s))

  pub gives : (s : S) (t : List ℕ) (n : Option ℕ) → text s ≡ t → limit s ≡ n → IsUtf8 t → is (pattern s)
      → ((parts : List (List ℕ)) → ToCome (live s) (Are (chars t) n) parts → Are (chars t) n parts) → GivesBorrowedParts steps s (Are (chars t) n)
  gives s t n text_is limit_is utf8 pattern_is all =
      GivesBorrowedParts-map steps s (ToCome (live s) (Are (chars t) n)) (Are (chars t) n) all
      (rw (← text_is, ← limit_is) (GivesBorrowedParts-from_steps steps (λ s. live s ≡ true → IsUtf8 (text s) × is (pattern s)) to_come
      (λ s s_is. some_to_come (live s) (Are (chars (text s)) (limit s)) (has (chars (text s)) (limit s)))
      (λ s u s_is step. subst (λ b. ToCome b (Are (chars (text s)) (limit s)) []) (lives s u None step) refl)
      (λ s t x s_is step.
      let more : true ≡ live s = lives s t (Some x) step in
      let left = s_is (sym more) in
      let led = leads s t x left.0 left.1 step in (
        λ goes_on. (led.0.left goes_on, led.1 goes_on),
        λ others are. subst (λ b. ToCome b (Are (chars (text s)) (limit s)) (chars x.now ∷ others)) more (led.0.each others are),
      ))
      s (λ _. (subst IsUtf8 (sym text_is) utf8, pattern_is))))

-- `str::split` by patterns of which `is` holds, if each split at the first match leads to the other parts
module _ {P : Type 0} (finds : P → List ℕ → Option (ℕ × ℕ) → Type 0) (keeps : P → P → Type 0) (is : P → Type 0) (Are : List ℕ → Option ℕ → List (List ℕ) → Type 0)
    (has : (t : List ℕ) (n : Option ℕ) → (parts : List (List ℕ)) × Are t n parts) (kept : (pattern after : P) → is pattern → keeps pattern after → is after)
    (leads : (pattern : P) (text part : List ℕ) (live : Bool) (rest : List ℕ) → is pattern → IsUtf8 text → IsSplitAtFirstMatch (finds pattern) text part live rest → Leads Are text part live rest None None) where
  pub split-gives_by : (s : Split P) → (text : List ℕ) → split_text s ≡ text → split_has_more s ≡ true → IsUtf8 text → is (split_pattern s)
      → GivesBorrowedParts (split_steps finds keeps) s (Are (chars text) None)
  split-gives_by s text text_is more utf8 pattern_is =
      gives (split_steps finds keeps) split_text (λ _. None) split_has_more split_pattern is Are has (λ s t x step. step.0)
      (λ s t x utf8 pattern_is step. (leads _ _ _ _ _ pattern_is utf8 step.1.1, λ _. kept _ _ pattern_is step.1.0))
      s text None text_is refl utf8 pattern_is (λ parts are. subst (λ b. ToCome b (Are (chars text) None) parts) more are)

module _ {P : Type 0} {finds : P → List ℕ → Option (ℕ × ℕ) → Type 0} {keeps : P → P → Type 0} {p : List ℕ} {is : P → Type 0} where
  pub split-gives : Seeks finds keeps First p is → (s : Split P) → (text : List ℕ) → split_text s ≡ text → split_has_more s ≡ true → IsUtf8 text → is (split_pattern s)
      → GivesBorrowedParts (split_steps finds keeps) s (ArePartsFromFront (chars text) p None)
  split-gives seeks = split-gives_by finds keeps is (from_front p) (λ t. has_front t p) seeks.kept
      (λ pattern text part live rest pattern_is text_is cut.
      Leads-first p seeks.some None tt text part live rest (finds pattern) (λ found. seeks.cuts pattern text found pattern_is text_is) cut)

  pub rsplit-gives : Seeks finds keeps Last p is → (s : RSplit P) → (text : List ℕ) → rsplit_text s ≡ text → rsplit_has_more s ≡ true → IsUtf8 text → is (rsplit_pattern s)
      → GivesBorrowedParts (rsplit_steps finds keeps) s (ArePartsFromBack (chars text) p None)
  rsplit-gives seeks s text text_is more utf8 pattern_is =
      gives (rsplit_steps finds keeps) rsplit_text (λ _. None) rsplit_has_more rsplit_pattern is (from_back p) (λ t. has_back t p) (λ s t x step. step.0)
      (λ s t x utf8 pattern_is step. (
        Leads-last p seeks.some None tt _ _ _ _ (finds (rsplit_pattern s)) (λ found. seeks.cuts _ _ found pattern_is utf8) step.1.1,
        λ _. seeks.kept _ _ pattern_is step.1.0,
      ))
      s text None text_is refl utf8 pattern_is (λ parts are. subst (λ b. ToCome b (from_back p (chars text) None) parts) more are)
