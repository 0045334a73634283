-- The words of a text are its maximal runs.
use Rattle.std.proofs.Common.{◌≡◌, refl, sym, ap, subst, ◌∙◌, ℕ, Bool, true, false, not, if◌then◌else◌, List, [], ◌∷◌, ◌++◌, arith}
use Rattle.std.proofs.lemmas.List.Elements.{All-nil, All-cons, All-head, All-tail}
use Rattle.std.specs.List.{AllPass}
use Rattle.std.specs.Str.{NonePass}
use Rattle.bytes_utils.specs.Lines.{first_led_by}
use Rattle.bytes_utils.specs.Words.{words, ends_word}
use Rattle.bytes_utils.proofs.WordsLemmas.{is_other, words-after_space, words-of_space, words-run}
use Rattle.bytes_utils_run.specs.WordRuns.{AreWordRuns, WordRunsLaw}

module _ (is_space : ℕ → Bool) where
  abbrev Passes : ℕ → Type 0
  Passes c = is_space c ≡ true

  -- characters that are all white space include no other one
  pub NonePass-spaces : (cs : List ℕ) → AllPass is_space cs → NonePass (is_other is_space) cs
  NonePass-spaces [] all = tt
  NonePass-spaces (c ∷ cs) all = (ap not (All-head Passes c cs all), NonePass-spaces cs (All-tail Passes c cs all))

  -- white space before a text
  runs-after_space : (c : ℕ) (t : List ℕ) (runs : List (List ℕ)) → is_space c ≡ true → AreWordRuns is_space t runs → AreWordRuns is_space (c ∷ t) runs
  runs-after_space c t [] space are = All-cons Passes c t space are
  runs-after_space c t (run ∷ runs) space are =
      (c ∷ are.0, are.1, ap (λ z. c ∷ z) are.2, All-cons Passes c are.0 space are.3, are.4, are.5, are.6, are.7)

  -- a character that isn't white space, before another one
  runs-led : (c : ℕ) (t : List ℕ) (runs : List (List ℕ)) → is_space c ≡ false → ends_word is_space t ≡ false → AreWordRuns is_space t runs → AreWordRuns is_space (c ∷ t) (first_led_by c runs)
  runs-led c [] [] other goes_on are = let both : true ≡ false = goes_on in cc
  runs-led c (d ∷ t) [] other goes_on are = let both : true ≡ false = sym (All-head Passes d t are) ∙ goes_on in cc
  runs-led c t (run ∷ runs) other goes_on are = no_gap are.0 are.2 are.3
    where
      no_gap : (gap : List ℕ) → t ≡ gap ++ (run ++ are.1) → AllPass is_space gap → AreWordRuns is_space (c ∷ t) ((c ∷ run) ∷ runs)
      no_gap [] whole spaces = ([], are.1, ap (λ z. c ∷ z) whole, All-nil Passes, omega arith, (other, are.5), are.6, are.7)
      no_gap (g ∷ gap) whole spaces =
          let ends : ends_word is_space t ≡ true = ap (ends_word is_space) whole ∙ All-head Passes g gap spaces in
          let both : true ≡ false = sym ends ∙ goes_on in
          cc

  runs-cons : (c : ℕ) (t : List ℕ) (runs : List (List ℕ)) (space ends : Bool) → is_space c ≡ space → ends_word is_space t ≡ ends → AreWordRuns is_space t runs
      → AreWordRuns is_space (c ∷ t) (if space then runs else if ends then (c ∷ []) ∷ runs else first_led_by c runs)
  runs-cons c t runs true ends space ends_is are = runs-after_space c t runs space are
  runs-cons c t runs false true other ends_is are = ([], t, refl, All-nil Passes, omega arith, (other, tt), ends_is, are)
  runs-cons c t runs false false other goes_on are = runs-led c t runs other goes_on are

  -- the words are such runs
  AreWordRuns-words : (t : List ℕ) → AreWordRuns is_space t (words is_space t)
  AreWordRuns-words [] = All-nil Passes
  AreWordRuns-words (c ∷ t) = runs-cons c t (words is_space t) (is_space c) (ends_word is_space t) refl refl (AreWordRuns-words t)

  -- such runs are the words
  words-from_runs : (t : List ℕ) (runs : List (List ℕ)) → AreWordRuns is_space t runs → runs ≡ words is_space t
  words-from_runs t [] are = sym (words-of_space is_space t (NonePass-spaces t are))
  words-from_runs t (run ∷ runs) are =
      let following = are.1 in
      sym (ap (words is_space) are.2 ∙ words-after_space is_space are.0 (run ++ following) (NonePass-spaces are.0 are.3)
      ∙ words-run is_space run following are.4 are.5 are.6 ∙ ap (λ z. run ∷ z) (sym (words-from_runs following runs are.7)))

pub words_law : WordRunsLaw
words_law is_space t parts = (λ are. subst (AreWordRuns is_space t) (sym are) (AreWordRuns-words is_space t), words-from_runs is_space t parts)
