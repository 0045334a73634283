-- What each run of `str::split_whitespace` and `str::split_ascii_whitespace` gives.
use Rattle.std.proofs.Common.{◌≡◌, refl, sym, ap, subst, ◌∙◌, ℕ, ◌<◌, Bool, true, List, [], ◌∷◌, ◌++◌, length, arith, IsUtf8}
use Rattle.std.proofs.lemmas.Bool.Decides.{nat_tests}
use Rattle.std.proofs.lemmas.List.Elements.{All-head, All-weaker}
use Rattle.std.proofs.lemmas.Str.{chars-nil, chars_past_char, encodes-IsAscii}
use Rattle.std.proofs.lemmas.Str.Ascii.{IsAscii-from_all}
use Rattle.std.specs.Char.{is_whitespace, is_ascii_whitespace}
use Rattle.std.specs.List.{AllPass}
use Rattle.std.specs.Str.{chars, encode_utf8_all as encodes, NonePass, NoCharPasses, EmptyOrStartsWithPassing}
use Rattle.std.specs.Str.Iter.{split_whitespace_steps, split_whitespace_rest, split_ascii_whitespace_steps, split_ascii_whitespace_text, IsAsciiSeparator}
use Rattle.std.specs.declared.str.SplitWhitespace.{SplitWhitespace}
use Rattle.std.specs.declared.str.SplitAsciiWhitespace.{SplitAscii}
use Rattle.bytes_utils.specs.Words.{words, ends_word}
use Rattle.bytes_utils.proofs.SearchLemmas.{chars-some}
use Rattle.bytes_utils.proofs.WordsLemmas.{is_other, words-none, words-after_space, words-run}
use Rattle.bytes_utils_run.specs.Borrowed.{GivesBorrowedParts}
use Rattle.bytes_utils_run.proofs.BorrowedRuns.{gives_all_of}
use Rattle.bytes_utils_run.proofs.TextBeginnings.{following, between}
use Rattle.bytes_utils_run.proofs.WordRunsLemmas.{NonePass-spaces}

module _ (is_space : ℕ → Bool) where
  -- what follows a word ends it
  ends-from_passing : (rest more : List ℕ) → IsUtf8 rest → EmptyOrStartsWithPassing is_space rest more → ends_word is_space (chars rest) ≡ true
  ends-from_passing [] more rest_is starts = ap (ends_word is_space) chars-nil
  ends-from_passing (b ∷ rest) more rest_is starts =
      let first = starts (omega arith) in
      ap (ends_word is_space) (chars_past_char (b ∷ rest) more first.0 rest_is first.2) ∙ first.1

  -- white space, a word, and what follows it
  first_word : (text gap x rest : List ℕ) → IsUtf8 text → text ≡ gap ++ (x ++ rest) → 0 < length x → NoCharPasses (is_other is_space) gap → NoCharPasses is_space x
      → (IsUtf8 rest → ends_word is_space (chars rest) ≡ true) → IsUtf8 rest × (words is_space (chars text) ≡ chars x ∷ words is_space (chars rest))
  first_word text gap x rest text_is e some spaces others ends =
      let bytes : text ≡ encodes spaces.0 ++ (encodes others.0 ++ rest) = e ∙ ap (λ z. z ++ (x ++ rest)) (sym spaces.1) ∙ ap (λ z. encodes spaces.0 ++ (z ++ rest)) (sym others.1) in
      let cut = between spaces.0 others.0 text rest x text_is bytes others.1 in (
        cut.1,
        ap (words is_space) cut.2 ∙ words-after_space is_space spaces.0 (chars x ++ chars rest) spaces.2
            ∙ words-run is_space (chars x) (chars rest) (chars-some x cut.0 some) (subst (NonePass is_space) (sym cut.3) others.2) (ends cut.1),
      )

pub words-gives : (s : SplitWhitespace) (text : List ℕ) → split_whitespace_rest s ≡ text → IsUtf8 text → GivesBorrowedParts split_whitespace_steps s (λ parts. parts ≡ words is_whitespace (chars text))
words-gives = gives_all_of split_whitespace_steps split_whitespace_rest (words is_whitespace)
    (λ s u s_is step. sym (words-none is_whitespace (split_whitespace_rest s) s_is step.1))
    (λ s t x s_is step. first_word is_whitespace (split_whitespace_rest s) step.0 x.now (split_whitespace_rest t) s_is step.1 step.2 step.3 step.4
    (λ rest_is. ends-from_passing is_whitespace (split_whitespace_rest t) step.5.0 rest_is step.5.1))

-- ---- ASCII white space: its bytes are its characters

abbrev Spaces : List ℕ → Type 0
Spaces = AllPass is_ascii_whitespace

spaces-low : (b : ℕ) → is_ascii_whitespace b ≡ true → b < 128
spaces-low b is = grind (arith, nat_tests)

encodes-spaces : (cs : List ℕ) → Spaces cs → encodes cs ≡ cs
encodes-spaces cs are = encodes-IsAscii cs (IsAscii-from_all cs (All-weaker (λ b. is_ascii_whitespace b ≡ true) (λ b. b < 128) spaces-low cs are))

NoCharPasses-spaces : (bs : List ℕ) → Spaces bs → NoCharPasses (is_other is_ascii_whitespace) bs
NoCharPasses-spaces bs all = (bs, encodes-spaces bs all, NonePass-spaces is_ascii_whitespace bs all)

-- what follows a word: one byte of white space, or the end of the text
after_word : (sep rest : List ℕ) → IsAsciiSeparator sep rest → IsUtf8 (sep ++ rest)
    → IsUtf8 rest × (ends_word is_ascii_whitespace (chars (sep ++ rest)) ≡ true) × (words is_ascii_whitespace (chars (sep ++ rest)) ≡ words is_ascii_whitespace (chars rest))
after_word [] [] sep_is both_is = (both_is, ap (ends_word is_ascii_whitespace) chars-nil, refl)
after_word [] (b ∷ rest) sep_is both_is = absurd (omega (arith, sep_is.2 refl))
after_word (c ∷ sep) rest sep_is both_is =
    let cut = following (c ∷ sep) (c ∷ sep ++ rest) rest both_is (ap (λ z. z ++ rest) (sym (encodes-spaces (c ∷ sep) sep_is.0))) in (
      cut.0,
      ap (ends_word is_ascii_whitespace) cut.1 ∙ All-head (λ b. is_ascii_whitespace b ≡ true) c sep sep_is.0,
      ap (words is_ascii_whitespace) cut.1 ∙ words-after_space is_ascii_whitespace (c ∷ sep) (chars rest) (NonePass-spaces is_ascii_whitespace (c ∷ sep) sep_is.0),
    )

pub ascii_words-gives : (s : SplitAscii) (text : List ℕ) → split_ascii_whitespace_text s ≡ text → IsUtf8 text → GivesBorrowedParts split_ascii_whitespace_steps s (λ parts. parts ≡ words is_ascii_whitespace (chars text))
ascii_words-gives = gives_all_of split_ascii_whitespace_steps split_ascii_whitespace_text (words is_ascii_whitespace)
    (λ s u s_is step. sym (words-none is_ascii_whitespace (split_ascii_whitespace_text s) s_is (NoCharPasses-spaces (split_ascii_whitespace_text s) step.0)))
    (λ s t x s_is step.
    let cut = step.3 in
    let rest = split_ascii_whitespace_text t in
    let one = first_word is_ascii_whitespace (split_ascii_whitespace_text s) cut.0 x.now (cut.1 ++ rest) s_is cut.2 step.0 (NoCharPasses-spaces cut.0 cut.3) step.1
    (λ both_is. (after_word cut.1 rest cut.4 both_is).1) in
    let last = after_word cut.1 rest cut.4 one.0 in
    (last.0, one.1 ∙ ap (λ z. chars x.now ∷ z) last.2))
