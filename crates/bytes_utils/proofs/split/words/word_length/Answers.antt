-- The graphic ASCII at the front, passed a block at a time, and from there on a search for white space.
use Rattle.std.proofs.Common.{rules, ◌≡◌, ◌∙◌, ap, drop}
use Rattle.std.proofs.lemmas.List.Sorted.{answers_always}
use Rattle.bytes_utils.proofs.WordsLemmas.{graphic_run, run-boundary, EndsWord, EndsWord-from_find, EndsWord-after_run}
use Rattle.bytes_utils.proofs.split.words.word_length.Goals as goal

pub range_from-rest-requires : goal.range_from-rest-requires
range_from-rest-requires g c = rw (c.graphic_end-graphic.ensures, c.as_bytes.ensures.value) (λ some. run-boundary _ c.utf8.text)

pub returns : goal.returns
returns g c =
    let is_space = g.W.WhiteSpace.is_space in
    let run_is : c.graphic_end-graphic.result ≡ graphic_run c.args.text.now = c.graphic_end-graphic.ensures ∙ ap graphic_run c.as_bytes.ensures.value in
    let from_find = EndsWord-from_find is_space _ _ _ c.range_from-rest.utf8 (answers_always _ _ _ (λ f a r f' k. search rules)) c.find.ensures.cases in
    let following : EndsWord is_space (drop (graphic_run c.args.text.now) c.args.text.now) c.unwrap_or-length.result =
    rw (← run_is, ← c.range_from-rest.ensures.value, c.unwrap_or-length.ensures) from_find in
    let ends = rw (← run_is) at (EndsWord-after_run is_space c.no_graphic.ensures _ _ c.utf8.text following) in
    record { boundary = ends.boundary; none = ends.none; ends = ends.ends }
