use Rattle.std.proofs.Common.{◌∙◌, ap, sym, arith, ℕ, ◌+◌, ◌<◌, ◌≤◌, Bool, length, ⊎_elim}
use Rattle.std.proofs.lemmas.Bool.{cases_lt, false≢true}
use Rattle.std.specs.List.{concat}
use Rattle.bytes_utils_buf.specs.Packing.{Packing}
use Rattle.bytes_utils_codec.specs.Decoding.{Decoding, decoding}
use Rattle.bytes_utils_codec.specs.Delimited.{Delimiting}
use Rattle.bytes_utils_codec.specs.Search.{Searching}
use Rattle.bytes_utils_codec.proofs.DelimitedLemmas.{found_from, awaits_missed, over_missed, over_found}
use Rattle.bytes_utils_codec.proofs.decode.delimited.Delimited.next_len.Goals as goal
use Rattle.bytes_utils_codec.proofs.decode.delimited.Delimited.next_len.Goals.{in_default-via-in-Some+else-len-self, in_default-via-in-None+else-not-is_overlong}

-- a decoder, and what is held
abbrev state : Searching → ℕ → Bool → Packing → Decoding Delimiting
state search limit skipping held =
    decoding (record { separator = search.needle; max_length = limit; searched = search.searched; skipping = skipping }) held

pub returns-in-Some-clause-frame : goal.returns-in-Some-clause-frame
returns-in-Some-clause-frame c =
    let q = c.self.inside.search in
    let found = rw c.as_segmented.ensures at c.in-Some.ensures.found in
    rw (← c.self.view_is) (found_from q.needle (concat c.args.held.now.held.segments) q.searched c.in-Some.ensures.needle c.in-Some.len found)

pub returns-in-None-clause-waits : goal.returns-in-None-clause-waits
returns-in-None-clause-waits c =
    let q = c.self.inside in
    let held = concat c.args.held.now.held.segments in
    let missed = rw c.as_segmented.ensures at c.in-None.ensures.found in
    let same = ap (λ (s : Searching). length s.needle) c.in-None.ensures.none in
    let few : length held < q.max_length + length q.search.needle =
    ⊎_elim (λ below. below)
    (λ many. absurd (false≢true (sym c.if-not-is_overlong.true ∙ c.is_overlong.ensures.1 (omega (arith, many, same, c.remaining.ensures)))))
    (cases_lt (length held) (q.max_length + length q.search.needle)) in
    rw (← c.self.view_is) (awaits_missed (state q.search q.max_length q.skipping c.args.held.now) c.in-None.ensures.needle missed few)

pub returns-in_default-clause-over : goal.returns-in_default-clause-over
returns-in_default-clause-over c =
    let q = c.self.inside in
    let held = concat c.args.held.now.held.segments in
    let s = state q.search q.max_length q.skipping c.args.held.now in
    rw (← c.self.view_is) (elim c.in_default.branch [
      | in_default-via-in-Some+else-len-self w ↦
          let found = rw c.as_segmented.ensures at w.in-Some.ensures.found in
          over_found s w.in-Some.ensures.needle w.in-Some.len found w.if-len-self.false
      | in_default-via-in-None+else-not-is_overlong w ↦
          let missed = rw c.as_segmented.ensures at w.in-None.ensures.found in
          let same = ap (λ (s : Searching). length s.needle) w.in-None.ensures.none in
          let many : q.max_length + length q.search.needle ≤ length held =
          omega (arith, same, w.remaining.ensures, w.is_overlong.ensures.0 w.if-not-is_overlong.false) in
          over_missed s w.in-None.ensures.needle missed many
    ])
