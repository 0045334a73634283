use Rattle.std.proofs.Common.{◌≡◌, ℕ, List, [], ◌∷◌, ◌++◌, zero, suc, length, map, drop, replicate, ap, ◌∙◌, sym, refl, arith, length-drop}
use Rattle.std.proofs.lemmas.List.{drop-drop}
use Rattle.std.specs.List.{concat}
use Rattle.bytes_utils_buf.specs.Segments.{cut_front_segment}
use Rattle.bytes_utils_buf.proofs.Lists.{length-cut_front_segment}
use Rattle.bytes_utils_buf_tests.proofs.cases.segmented.caller.caller_skips.Goals as goal

-- the bytes of emptied lists, and of the lists after them
concat-read_out : (place : ℕ) (segments : List (List ℕ)) → concat (replicate place [] ++ segments) ≡ concat segments
concat-read_out zero segments = refl
concat-read_out (suc place) segments = concat-read_out place segments

pub returns-clause-bytes : goal.returns-clause-bytes
returns-clause-bytes g c =
    let left = c.advance.new.self in
    ap concat c.into_lent.ensures.lists
    ∙ concat-read_out left.place left.segments
    ∙ c.advance.ensures.skips.segments.bytes
    ∙ ap (drop c.args.cnt) (c.get_u8.ensures.rest ∙ ap (drop 1) c.new-all.ensures.skips.bytes)
    ∙ drop-drop c.args.cnt 1 (concat (map g.B.Buf.unread c.args.bufs.now))

-- the lists, from what a generic read keeps
kept_lists : (lists : List (List ℕ)) → map (λ (p : List ℕ × ℕ). p.0) (map (λ (s : List ℕ). (s, zero)) lists) ≡ lists
kept_lists [] = refl
kept_lists (s ∷ lists) = ap (λ l. s ∷ l) (kept_lists lists)

pub returns-clause-lists : goal.returns-clause-lists
returns-clause-lists g c =
    let left = c.advance.new.self in
    let reading = c.into_lent.ensures.reading in
    let skips = reading.skips in
    let pairs = ap (λ (kept : List (List ℕ × ℕ)). map (λ (p : List ℕ × ℕ). p.0) (drop 1 kept)) c.get_u8.ensures.kept in
    let read : c.get_u8.new.self.handed_in ≡ c.new-all.result.handed_in =
    sym (kept_lists c.get_u8.new.self.handed_in) ∙ pairs ∙ kept_lists c.new-all.result.handed_in in
    let handed_in = c.advance.ensures.skips.handed_in ∙ read ∙ c.new-all.ensures.handed_in in
    let place : skips.passed ≡ left.place =
    omega (arith, skips.within, reading.place, ap length skips.rest, length-cut_front_segment skips.cut (drop skips.passed left.handed_in), length-drop skips.passed left.handed_in) in
    let segments = skips.rest ∙ ap (λ k. cut_front_segment skips.cut (drop k left.handed_in)) place ∙ ap (λ l. cut_front_segment skips.cut (drop left.place l)) handed_in in
    (left.place, skips.cut, c.into_lent.ensures.lists ∙ ap (λ l. replicate left.place [] ++ l) segments)
