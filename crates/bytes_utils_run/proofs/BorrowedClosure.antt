-- What each run of `str::split` by a closure on characters gives.
use Rattle.std.proofs.Common.{◌≡◌, refl, ap, ℕ, List, [], ◌∷◌, ◌++◌, Option, None, Some, Bool, true, false, arith, IsUtf8}
use Rattle.std.specs.Str.{chars, NonePass}
use Rattle.std.specs.Str.Pattern.{FindsBy, IsSplitAtFirstMatch}
use Rattle.std.specs.Str.Iter.{split_steps, split_text, split_has_more, split_pattern}
use Rattle.std.specs.declared.str.Split.{Split}
use Rattle.bytes_utils.proofs.WordsLemmas.{NonePass-chars}
use Rattle.bytes_utils_run.specs.Borrowed.{AreBorrowedPartsByTest, GivesBorrowedParts, finds_tested, keeps_tested}
use Rattle.bytes_utils_run.proofs.BorrowedCuts.{IsCutBy-from_finds}
use Rattle.bytes_utils_run.proofs.BorrowedParts.{Leads, Leads-first_part, Leads-last_part, split-gives_by}

module _ (passes : ℕ → Bool) where
  -- a character that passes follows the first part
  ByTest-more : (t part rest : List ℕ) (c : ℕ) → t ≡ part ++ c ∷ rest → passes c ≡ true → NonePass passes part → (others : List (List ℕ)) → AreBorrowedPartsByTest passes rest others
      → AreBorrowedPartsByTest passes t (part ∷ others)
  ByTest-more t part rest c whole passing none [] are = absurd are
  ByTest-more t part rest c whole passing none (next ∷ others) are = (c, rest, whole, passing, none, are)

  -- any other character is the first of the first part
  ByTest-led : (c : ℕ) (t : List ℕ) → passes c ≡ false → (parts : List (List ℕ)) × AreBorrowedPartsByTest passes t parts → (parts : List (List ℕ)) × AreBorrowedPartsByTest passes (c ∷ t) parts
  ByTest-led c t other ([], are) = absurd are
  ByTest-led c t other ((part ∷ []), are) = ((c ∷ part) ∷ [], (ap (λ z. c ∷ z) are.0, (other, are.1)))
  ByTest-led c t other ((part ∷ next ∷ parts), are) = ((c ∷ part) ∷ next ∷ parts, (are.0, are.1, ap (λ z. c ∷ z) are.2, are.3, (other, are.4), are.5))

  ByTest-cons : (c : ℕ) (t : List ℕ) (b : Bool) → passes c ≡ b → (parts : List (List ℕ)) × AreBorrowedPartsByTest passes t parts → (parts : List (List ℕ)) × AreBorrowedPartsByTest passes (c ∷ t) parts
  ByTest-cons c t true passing has = ([] ∷ has.0, ByTest-more (c ∷ t) [] t c refl passing tt has.0 has.1)
  ByTest-cons c t false other has = ByTest-led c t other has

  -- every text has such parts
  has_tested : (t : List ℕ) → (parts : List (List ℕ)) × AreBorrowedPartsByTest passes t parts
  has_tested [] = ([] ∷ [], (refl, tt))
  has_tested (c ∷ t) = ByTest-cons c t (passes c) refl (has_tested t)

  -- the same, with a limit that is ignored
  abbrev by_test : List ℕ → Option ℕ → List (List ℕ) → Type 0
  by_test t limit parts = AreBorrowedPartsByTest passes t parts

  Leads-test : (text part : List ℕ) (live : Bool) (rest : List ℕ) (F : List ℕ → Option (ℕ × ℕ) → Type 0) → ((found : Option (ℕ × ℕ)) → F text found → FindsBy passes text found)
      → IsUtf8 text → IsSplitAtFirstMatch F text part live rest → Leads by_test text part live rest None None
  Leads-test text part live rest F finds text_is (_, (None, found, is)) =
      Leads-last_part by_test text part live rest None None is.1 is.0 (refl, NonePass-chars passes text text_is (finds None found))
  Leads-test text part live rest F finds text_is (_, (Some (i, j), found, is)) =
      let at = IsCutBy-from_finds passes text i j text_is (finds (Some (i, j)) found) in
      let longer = at.longer in
      let cut_is = is (omega (arith, longer)) in
      Leads-first_part by_test text part live rest None None cut_is.1 (rw cut_is.2 at.after_is)
      (ByTest-more (chars text) (chars part) (chars rest) at.character (rw (cut_is.0, cut_is.2) at.whole) at.passing (rw cut_is.0 at.before_none))

  -- a closure that returns the result of the test
  pub split_tested-gives : {F : Type 0} (answers : F → (ℕ → Bool) → Type 0) (s : Split F) (text : List ℕ) → split_text s ≡ text → split_has_more s ≡ true → IsUtf8 text
      → answers (split_pattern s) passes → GivesBorrowedParts (split_steps (finds_tested answers) (keeps_tested answers)) s (AreBorrowedPartsByTest passes (chars text))
  split_tested-gives answers = split-gives_by (finds_tested answers) (keeps_tested answers) (λ f. answers f passes) by_test (λ t n. has_tested t)
      (λ f after is keeps. keeps passes is)
      (λ f text part live rest is text_is cut. Leads-test text part live rest (finds_tested answers f) (λ found finds. finds passes is) text_is cut)
