-- Commands read from a line, in bytes and in characters.
use Rattle.std.proofs.Common.{◌≡◌, ◌≢◌, refl, sym, ap, subst, ◌∙◌, ℕ, suc, ◌+◌, ◌<◌, List, [], ◌∷◌, ◌++◌, Bool, true, false, Option, None, Some, MatchOption, Bor, length, take, drop, take-append-drop, length-append, get_or, codes, arith, IsUtf8, IsCharBoundary}
use Rattle.std.proofs.lemmas.Bool.{false≢true, ltb-true}
use Rattle.std.proofs.lemmas.Fmt.{IsAscii-from_digits}
use Rattle.std.proofs.lemmas.List.{append_cancel_left, drop_at}
use Rattle.std.proofs.lemmas.List.Elements.{All-weaker}
use Rattle.std.proofs.lemmas.List.Sums.{AllPass-from_list_all}
use Rattle.std.proofs.lemmas.Str.Ascii.{IsAscii-from_all}
use Rattle.std.proofs.lemmas.Str.{chars-append, encodes-chars, encodes-append, encodes-IsAscii, chars-IsAscii, IsUtf8-take, IsUtf8-drop, IsUtf8-append, IsUtf8-from_ascii, IsCharBoundary-at_seam}
use Rattle.std.specs.Option.{IfSome}
use Rattle.std.specs.Str.Parse.{AllDigits}
use Rattle.std.specs.Bool.{MatchBool}
use Rattle.std.specs.Str.{IsAscii, bytes_eq}
use Rattle.std.proofs.lemmas.Slice.Eq.{bytes_eq-Decides}
use Rattle.std.specs.Str.Pattern.{LacksTextAt, FindsText, FindsTextPrefix}
use Rattle.std.specs.Str.{chars, encode_utf8_all as encodes}
use Rattle.std.specs.Char.{encode_utf8, digit_value, is_ascii}
use Rattle.std.specs.List.{list_all}
use Rattle.bytes_utils_run.specs.CallLine.{IsNumberedCallLine}
use Rattle.bytes_utils_run.specs.Command.{IsCommand, IsCommandCount, IsCommandCountAfter, IsReadFrom}
use Rattle.bytes_utils_run.specs.Cutting.{Cutting, ByWords, ByAsciiWords, ByLines, FromFront, FromBack, Keeping, IsCuttingAllowed, cutting}
use Rattle.bytes_utils_run.specs.declared.how.How.{How}
use Rattle.bytes_utils_run.specs.Number.{IsNumber}
use Rattle.bytes_utils_run.specs.declared.program.command.Command.{Command}
use Rattle.bytes_utils_run.specs.declared.program.command.Command.TheVariants.{Cut, Buf}

-- what follows the word in the bytes follows it in the characters
pub chars-following : (word line rest : List ℕ) (n : ℕ) → IsUtf8 word → line ≡ word ++ drop n line → rest ≡ drop n line → chars line ≡ chars word ++ chars rest
chars-following word line rest n word_is begins rest_is = ap chars (begins ∙ ap (λ z. word ++ z) (sym rest_is)) ∙ chars-append word rest word_is

-- a line whose characters begin with the word has bytes that begin with it
pub lacks-word : (word line rest : List ℕ) → IsUtf8 word → IsUtf8 line → LacksTextAt word line 0 → chars line ≡ chars word ++ rest → ⊥
lacks-word word line rest word_is line_is lacks e =
    lacks (encodes rest)
    (sym (encodes-chars line line_is) ∙ ap encodes e ∙ encodes-append (chars word) rest ∙ ap (λ z. z ++ encodes rest) (encodes-chars word word_is))

-- texts of the same characters have the same bytes
pub same-bytes : (line word : List ℕ) → IsUtf8 line → IsUtf8 word → chars line ≡ chars word → line ≡ word
same-bytes line word line_is word_is e = sym (encodes-chars line line_is) ∙ ap encodes e ∙ encodes-chars word word_is

-- what a comparison of bytes says about the characters
pub reports_word : (line word : List ℕ) → IsUtf8 line → IsUtf8 word → (r : Bool) → r ≡ bytes_eq line word → MatchBool r (chars line ≡ chars word) (chars line ≢ chars word)
reports_word line word line_is word_is true e = ap chars ((bytes_eq-Decides line word).0 (sym e))
reports_word line word line_is word_is false e = λ same. absurd (false≢true (e ∙ (bytes_eq-Decides line word).1 (same-bytes line word line_is word_is same)))

word_is_ascii : (word : List ℕ) → list_all is_ascii word ≡ true → IsAscii word
word_is_ascii word all = IsAscii-from_all word (All-weaker (λ b. is_ascii b ≡ true) (λ b. b < 128) (λ b. ltb-true b 128) word (AllPass-from_list_all is_ascii word all))

-- a word of ASCII, such as one in source code, is its own characters
pub chars_word : (word : List ℕ) → list_all is_ascii word ≡ true → chars word ≡ word
chars_word word all = chars-IsAscii word (word_is_ascii word all)

space-bytes : encodes (codes " ") ≡ codes " "
unfolding encode_utf8
space-bytes = refl

-- the line is the word and this rest, in characters and so in bytes
pub chars-word_before : (word line rest : List ℕ) → list_all is_ascii word ≡ true → word ++ rest ≡ line → chars line ≡ word ++ chars rest
chars-word_before word line rest all is =
    let ascii = word_is_ascii word all in
    ap chars (sym is) ∙ chars-append word rest (IsUtf8-from_ascii word ascii) ∙ ap (λ w. w ++ chars rest) (chars-IsAscii word ascii)

pub word_before-chars : (word line rest : List ℕ) → list_all is_ascii word ≡ true → IsUtf8 line → IsUtf8 rest → chars line ≡ word ++ chars rest → word ++ rest ≡ line
word_before-chars word line rest all line_is rest_is is =
    (λ i. sym (encodes-IsAscii word (word_is_ascii word all)) i ++ sym (encodes-chars rest rest_is) i)
    ∙ sym (encodes-append word (chars rest)) ∙ ap encodes (sym is) ∙ encodes-chars line line_is

space-utf8 : IsUtf8 (codes " ")
space-utf8 = IsUtf8-from_ascii (codes " ") (word_is_ascii (codes " ") refl)

-- digits before a space, in the bytes
counted-bytes : (text digits rest : List ℕ) → IsUtf8 text → AllDigits 10 digits → chars text ≡ digits ++ (codes " " ++ rest) → text ≡ digits ++ (codes " " ++ encodes rest)
counted-bytes text digits rest text_is all e =
    sym (encodes-chars text text_is) ∙ ap encodes e ∙ encodes-append digits (codes " " ++ rest)
    ∙ (λ k. encodes-IsAscii digits (IsAscii-from_digits digits all) k ++ encodes-append (codes " ") rest k) ∙ ap (λ z. digits ++ (z ++ encodes rest)) space-bytes

-- if `front` holds no space and a space follows it, it is the digits before the space
front-is-digits : (front back digits rest : List ℕ) → ((k : ℕ) → k < length front → (more : List ℕ) → drop k (front ++ (codes " " ++ back)) ≢ codes " " ++ more) → AllDigits 10 digits
    → front ++ (codes " " ++ back) ≡ digits ++ (codes " " ++ rest) → front ≡ digits
front-is-digits [] back [] rest lacks all e = refl
front-is-digits [] back (d ∷ digits) rest lacks all e =
    let is_space : 32 ≡ d = ap (λ z. get_or z 0 0) e in
    let value : digit_value 32 < 10 = subst (λ z. digit_value z < 10) (sym is_space) all.0 in
    absurd (omega (arith, value))
front-is-digits (x ∷ front) back [] rest lacks all e = absurd (lacks 0 (omega arith) rest e)
front-is-digits (x ∷ front) back (d ∷ digits) rest lacks all e =
    let head : x ≡ d = ap (λ z. get_or z 0 0) e in
    let tail : front ++ (codes " " ++ back) ≡ digits ++ (codes " " ++ rest) = ap (drop 1) e in
    let more = front-is-digits front back digits rest (λ k l others f. lacks (suc k) (omega (arith, l)) others f) all.1 tail in
    (λ k. head k ∷ more k)

-- what `strip_prefix` gives, in characters
pub rest_after_is : (line word : List ℕ) → IsUtf8 line → IsUtf8 word → (r : Option (Bor (List ℕ)))
    → MatchOption r (FindsTextPrefix word line None) (λ x. (n : ℕ) × FindsTextPrefix word line (Some n) × (x.now ≡ drop n line) × (length x.now + n ≡ length line))
    → MatchOption r ((rest : List ℕ) → chars line ≢ chars word ++ rest) (λ x. chars line ≡ chars word ++ chars x.now)
rest_after_is line word line_is word_is None lacks = λ rest. lacks-word word line rest word_is line_is lacks
rest_after_is line word line_is word_is (Some x) strip = chars-following word line x.now strip.0 word_is strip.1.1 strip.2

pub rest_after_utf8 : (line word : List ℕ) → IsUtf8 line → (r : Option (Bor (List ℕ)))
    → MatchOption r (FindsTextPrefix word line None) (λ x. (n : ℕ) × FindsTextPrefix word line (Some n) × (x.now ≡ drop n line) × (length x.now + n ≡ length line))
    → IfSome r (λ x. IsUtf8 x.now)
rest_after_utf8 line word line_is None lacks = tt
rest_after_utf8 line word line_is (Some x) strip =
    subst IsUtf8 (sym (strip.2 ∙ ap (λ k. drop k line) strip.1.0)) (IsUtf8-drop line (length word) line_is strip.1.2)

-- a text without a space has no number before a space
pub no-space : (text : List ℕ) → IsUtf8 text → FindsText (codes " ") text None → (most : ℕ) (rest : List ℕ) → ¬ IsCommandCount (chars text) most rest
no-space text text_is lacks most rest is =
    let whole = counted-bytes text is.0 rest text_is is.1.digits.1 is.2 in
    lacks (length is.0) (omega (arith, ap length whole, length-append is.0 (codes " " ++ encodes rest))) (encodes rest)
    (ap (drop (length is.0)) whole ∙ drop_at is.0 (codes " " ++ encodes rest) (length is.0) refl)

-- A text split around its first space.
module _ (text front back : List ℕ) (text_is : IsUtf8 text) (i j : ℕ) (finds : FindsText (codes " ") text (Some (i, j)))
    (front_is : front ≡ take i text) (back_is : back ≡ drop j text) (size : length front ≡ i) where
  whole : text ≡ front ++ (codes " " ++ back)
  whole = sym (take-append-drop i text) ∙ (λ k. sym front_is k ++ finds.1.split k) ∙ ap (λ z. front ++ (codes " " ++ z)) (sym back_is)

  front_utf8 : IsUtf8 front
  front_utf8 =
      let following : IsUtf8 back = subst IsUtf8 (sym back_is) (IsUtf8-drop text j text_is (subst (IsCharBoundary text) (sym finds.1.ends) finds.1.after)) in
      let seam : IsCharBoundary text (length front) = IsCharBoundary-at_seam text front (codes " " ++ back) whole (IsUtf8-append (codes " ") back space-utf8 following) in
      subst IsUtf8 (sym (front_is ∙ ap (λ k. take k text) (sym size))) (IsUtf8-take text (length front) text_is seam)

  pub counted-found : (n : ℕ) → IsNumber (chars front) n → IsCommandCount (chars text) n (chars back)
  counted-found n is = (
    chars front,
    is,
    ap chars whole ∙ chars-append front (codes " " ++ back) front_utf8
        ∙ ap (λ z. chars front ++ z) (chars-append (codes " ") back space-utf8 ∙ ap (λ z. z ++ chars back) (chars_word (codes " ") refl)),
  )

  pub no-number : ((n : ℕ) → ¬ IsNumber (chars front) n) → (most : ℕ) (rest : List ℕ) → ¬ IsCommandCount (chars text) most rest
  no-number none most rest is =
      let all = is.1.digits.1 in
      let bytes = counted-bytes text is.0 rest text_is all is.2 in
      let lacks = (λ (k : ℕ) (l : k < length front) (more : List ℕ) (e : drop k (front ++ (codes " " ++ back)) ≡ codes " " ++ more).
      finds.0 k (omega (arith, l, size)) more (ap (drop k) whole ∙ e)) in
      let same : front ≡ is.0 = front-is-digits front back is.0 (encodes rest) lacks all (sym whole ∙ bytes) in
      none most (subst (λ z. IsNumber z most) (sym (ap chars same ∙ chars-IsAscii is.0 (IsAscii-from_digits is.0 all))) is.1)

-- a number and a space after a word, if the text after the word begins with them
pub counted-rest_after_word-is : (line word text : List ℕ) → chars line ≡ chars word ++ chars text → (r : Option (ℕ × Bor (List ℕ)))
    → MatchOption r ((most : ℕ) (rest : List ℕ) → ¬ IsCommandCount (chars text) most rest) (λ found. IsCommandCount (chars text) found.0 (chars found.1.now))
    → MatchOption r ((most : ℕ) (rest : List ℕ) → ¬ IsCommandCountAfter (chars word) (chars line) most rest)
    (λ found. IsCommandCountAfter (chars word) (chars line) found.0 (chars found.1.now))
counted-rest_after_word-is line word text e None none = λ most rest is.
    none most rest (subst (λ z. IsCommandCount z most rest) (append_cancel_left (chars word) is.0 (chars text) (sym is.2 ∙ e)) is.1)
counted-rest_after_word-is line word text e (Some found) is = (chars text, is, e)

no-way : (line : List ℕ) → (line ≢ codes "words") × (line ≢ codes "ascii") × (line ≢ codes "lines")
    → ((p : List ℕ) → (¬ IsCommand (FromFront p None) line) × (¬ IsCommand (FromBack p None) line) × (¬ IsCommand (Keeping p) line))
    → ((p : List ℕ) (most : ℕ) → (¬ IsCommand (FromFront p (Some most)) line) × (¬ IsCommand (FromBack p (Some most)) line))
    → (way : Cutting) → ¬ IsCommand way line
no-way line plain separator limit ByWords = plain.0
no-way line plain separator limit ByAsciiWords = plain.1
no-way line plain separator limit ByLines = plain.2
no-way line plain separator limit (FromFront p None) = (separator p).0
no-way line plain separator limit (FromFront p (Some most)) = (limit p most).0
no-way line plain separator limit (FromBack p None) = (separator p).1
no-way line plain separator limit (FromBack p (Some most)) = (limit p most).1
no-way line plain separator limit (Keeping p) = (separator p).2

-- a line that is none of the first commands is one of the others, or no command
pub split_mode_is : (line : List ℕ) → (line ≢ codes "words") × (line ≢ codes "ascii") × (line ≢ codes "lines")
    → ((p : List ℕ) → (¬ IsCommand (FromFront p None) line) × (¬ IsCommand (FromBack p None) line) × (¬ IsCommand (Keeping p) line))
    → (r : Option How) → MatchOption r ((p : List ℕ) (most : ℕ) → (¬ IsCommand (FromFront p (Some most)) line) × (¬ IsCommand (FromBack p (Some most)) line))
    (λ how. IsCuttingAllowed how × IsCommand (cutting how) line)
    → MatchOption r ((way : Cutting) → ¬ IsCommand way line) (λ how. IsCuttingAllowed how × IsCommand (cutting how) line)
split_mode_is line plain separator None limit = no-way line plain separator limit
split_mode_is line plain separator (Some how) is = is

-- no command is empty
no-empty_cut : (how : Cutting) → ¬ IsCommand how []
no-empty_cut ByWords is = absurd (omega (arith, ap length is))
no-empty_cut ByAsciiWords is = absurd (omega (arith, ap length is))
no-empty_cut ByLines is = absurd (omega (arith, ap length is))
no-empty_cut (FromFront p None) is = absurd (omega (arith, ap length is))
no-empty_cut (FromFront p (Some most)) is = absurd (omega (arith, ap length is.2))
no-empty_cut (FromBack p None) is = absurd (omega (arith, ap length is))
no-empty_cut (FromBack p (Some most)) is = absurd (omega (arith, ap length is.2))
no-empty_cut (Keeping p) is = absurd (omega (arith, ap length is.1))

pub no-empty_command : (command : Command) → ¬ IsReadFrom [] command
no-empty_command (Cut how) is = no-empty_cut (cutting how) is.1
no-empty_command Buf is = absurd (omega (arith, ap length is))

-- a number after a word, if the rest of the line is a number
pub call_line_number-is : (line word rest : List ℕ) → chars line ≡ chars word ++ chars rest → (r : Option ℕ)
    → MatchOption r ((n : ℕ) → ¬ IsNumber (chars rest) n) (λ n. IsNumber (chars rest) n)
    → MatchOption r ((n : ℕ) → ¬ IsNumberedCallLine (chars word) n (chars line)) (λ n. IsNumberedCallLine (chars word) n (chars line))
call_line_number-is line word rest e None none = λ n is. none n (subst (λ z. IsNumber z n) (append_cancel_left (chars word) is.0 (chars rest) (sym is.2 ∙ e)) is.1)
call_line_number-is line word rest e (Some n) is = (chars rest, is, e)
