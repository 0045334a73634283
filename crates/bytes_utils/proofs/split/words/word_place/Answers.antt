-- Two searches find a word: for the first character that isn't white space, and from there on for the first white
-- space.
use Rattle.std.proofs.Common.{rules, arith, drop, Some}
use Rattle.std.proofs.lemmas.List.Sorted.{answers_always}
use Rattle.std.proofs.lemmas.Str.{IsCharBoundary-from_rest}
use Rattle.std.specs.Str.Pattern.{FindsBy}
use Rattle.bytes_utils.proofs.WordsLemmas.{is_other, words-none, EndsWord, word-some, space-before, space-after_word, space-following, words-first}
use Rattle.bytes_utils.proofs.split.words.word_place.Goals as goal

pub returns-in_err-start-clause-word : goal.returns-in_err-start-clause-word
returns-in_err-start-clause-word g c =
    let is_space = g.W.WhiteSpace.is_space in
    rw c.from_residual.ensures (words-none is_space _ c.utf8.text (c.in_err-start.ensures.cases (is_other is_space) (answers_always _ _ _ (λ f a r f' k. search rules))))

found : (g : _) (c : goal.After-word_length-length g) → FindsBy (is_other g.W.WhiteSpace.is_space) c.args.text.now (Some (c.in_ok-start.start, c.in_ok-start.ensures.cases.0))
found g c = c.in_ok-start.ensures.cases.1 (is_other g.W.WhiteSpace.is_space) (answers_always _ _ _ (λ f a r f' k. search rules))

ends : (g : _) (c : goal.After-word_length-length g) → EndsWord g.W.WhiteSpace.is_space (drop c.in_ok-start.start c.args.text.now) c.word_length-length.result
ends g c =
    let is = c.word_length-length.ensures in
    rw (← c.range_from.ensures.value) (record { boundary = is.boundary; none = is.none; ends = is.ends })

pub returns : goal.returns
returns g c =
    let is_space = g.W.WhiteSpace.is_space in
    let starts = c.in_ok-start.ensures.cases.3 in
    let some = word-some is_space _ c.utf8.text _ _ _ starts (found g c) (ends g c) in
    record {
      order = omega arith;
      start = search rules;
      end = IsCharBoundary-from_rest _ _ _ starts.0 (ends g c).boundary;
      before = space-before is_space _ c.utf8.text _ _ _ starts (found g c) (ends g c);
      after = space-following is_space _ c.utf8.text _ _ _ starts (found g c) (ends g c);
      follows = space-after_word is_space _ c.utf8.text _ _ _ starts (found g c) (ends g c);
      word = words-first is_space _ c.utf8.text _ _ _ starts (found g c) (ends g c);
    }
