use Rattle.std.proofs.Common.{◌≡◌, ◌∙◌, ap, sym, subst, MatchBool}
use Rattle.std.specs.List.{concat}
use Rattle.bytes_utils_codec.specs.Decoding.{decoding}
use Rattle.bytes_utils_codec.specs.UniversalReading.{PassesLongUniversal, SkipsUniversal, after_universal_end, after_universal_feed, dropped_universal}
use Rattle.bytes_utils_codec.specs.UniversalReadingLaws.{UniversalState, universal_state}
use Rattle.bytes_utils_codec.proofs.UniversalReadingLemmas.{long_found, long_missed}
use Rattle.bytes_utils_codec.proofs.decode.universal_lines.UniversalLines.pass_long.Goals as goal
use Rattle.bytes_utils_codec.proofs.decode.universal_lines.UniversalLines.pass_long.Goals.{in-Some, in-None}

pub returns : goal.returns
returns c =
    let q = c.self.inside in
    let held = c.args.held.now in
    let s : UniversalState = universal_state q.max_length held.threshold q.searched q.lossy q.place (concat held.held.segments) in
    let end = decoding c.match-find_end.self c.match-find_end.held in
    rw (← c.self.view_is) (elim c.match-find_end.branch [
      | in-Some w ↦
          let found = rw c.as_segmented.ensures at w.in-Some.ensures in
          let ending = decoding w.pass_end.new.self w.pass_end.new.held in
          let gone = w.advance.ensures in
          let ends = w.pass_end.ensures
          ∙ (λ i. after_universal_end 0 (record { decoder = sym c.self.view_is i; held = gone.bytes i; threshold = gone.threshold i })) in
          let there : end ≡ after_universal_feed ending = (λ i. decoding (w.self-is i) (w.held-is i)) ∙ w.pass_feed.ensures in
          subst (λ b. MatchBool b (PassesLongUniversal s end) (SkipsUniversal s × (end ≡ dropped_universal s))) (sym w.result-is)
          (long_found s c.in-LongLine.is ending end w.in-Some.len found ends there)
      | in-None w ↦
          let missed = rw c.as_segmented.ensures at w.in-None.ensures in
          let passed = w.advance-in-None.ensures in
          let rest = ap (λ p. concat p.held.segments) w.held-is ∙ passed.bytes in
          let threshold = ap (λ p. p.threshold) w.held-is ∙ passed.threshold in
          let begins = w.self-is ∙ ap (λ n. record s.decoder { searched = n }) w.saturating_sub-self-inside.ensures in
          subst (λ b. MatchBool b (PassesLongUniversal s end) (SkipsUniversal s × (end ≡ dropped_universal s))) (sym w.result-is)
          (long_missed s c.in-LongLine.is end w.remaining-len.result missed w.remaining-len.ensures
          (λ i. record { decoder = begins i; held = rest i; threshold = threshold i }))
    ])
