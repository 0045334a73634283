use Rattle.std.proofs.Common.{◌≡◌, ℕ, ◌+◌, ◌<◌, ◌≤◌, true, false, List, inl, inr, length, get_or, take, ap, refl, sym, ◌∙◌, arith, length-drop}
use Rattle.std.specs.List.{prefix_len}
use Rattle.std.proofs.lemmas.Bool.{cases_lt, false≢true}
use Rattle.std.proofs.lemmas.List.{drop_all, get_or-take, length-take-le}
use Rattle.std.proofs.lemmas.List.Sums.{prefix_len_passes, prefix_len_stops}
use Rattle.bytes_utils_protocols.specs.Headers.{is_header_blank}
use Rattle.bytes_utils_protocols.specs.Multipart.{IsMultipartPadding}
use Rattle.bytes_utils_protocols.proofs.multipart.waiting.Waiting.begins_with_padding.Goals as goal

module _ (held : List ℕ) (len place : ℕ) (within : len ≤ length held) (below : place < len) where
  here : get_or (take len held) place 0 ≡ get_or held place 0
  here = get_or-take len held place 0 below

  -- one more byte is a blank
  one_more : place ≤ prefix_len is_header_blank (take len held) → is_header_blank (get_or held place 0) ≡ true → place + 1 ≤ prefix_len is_header_blank (take len held)
  one_more so_far blank = elim (cases_lt place (prefix_len is_header_blank (take len held))) [
    | inl more ↦ omega (arith, more)
    | inr all ↦
        let same : prefix_len is_header_blank (take len held) ≡ place = omega (arith, all, so_far) in
        let stops = prefix_len_stops is_header_blank (take len held) 0 (omega (arith, same, below, length-take-le len held within)) in
        absurd (false≢true (sym stops ∙ ap (λ n. is_header_blank (get_or (take len held) n 0)) same ∙ ap is_header_blank here ∙ blank))
  ]

  -- a byte is no blank
  other : is_header_blank (get_or held place 0) ≡ false → ¬ IsMultipartPadding (take len held)
  other not_blank padding =
      let passes = prefix_len_passes is_header_blank (take len held) place 0
      (omega (arith, below, length-take-le len held within, ap length padding, length-drop (prefix_len is_header_blank (take len held)) (take len held))) in
      false≢true (sym not_blank ∙ ap is_header_blank (sym here) ∙ passes)

pub loop-place-preserved : goal.loop-place-preserved
loop-place-preserved c =
    one_more c.args.self.now.held c.args.len c.loop-place.place c.requires (omega arith) c.loop-place.invariant (sym c.has_blank_at.ensures ∙ c.if-not-has_blank_at.false)

pub returns-then-not-has_blank_at : goal.returns-then-not-has_blank_at
returns-then-not-has_blank_at c = (
  λ is. absurd (false≢true is),
  λ padding. absurd (other c.args.self.now.held c.args.len c.loop-place.place c.requires (omega arith) (sym c.has_blank_at.ensures ∙ c.if-not-has_blank_at.true) padding),
)

pub returns : goal.returns
returns c =
    let held = c.args.self.now.held in
    (λ _. drop_all (prefix_len is_header_blank (take c.args.len held)) (take c.args.len held) (omega (arith, c.loop-place.invariant, length-take-le c.args.len held c.requires)), λ _. refl)
