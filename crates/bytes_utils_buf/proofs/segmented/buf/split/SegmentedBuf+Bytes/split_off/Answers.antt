use Rattle.std.proofs.Common.{◌≡◌, ℕ, List, [], length, ap, ◌∙◌, sym, subst, arith}
use Rattle.std.proofs.lemmas.List.{drop_all}
use Rattle.std.specs.List.{concat}
use Rattle.bytes_utils_buf.specs.Segments.{NoSegmentEmpty, SkipsSegments, cut_front_segment, newly_held}
use Rattle.bytes_utils_buf.proofs.Pieces.{take_from_segments-all}
use Rattle.bytes_utils_buf.proofs.segmented.buf.split.SegmentedBuf+Bytes.split_off.Goals as goal

-- all bytes are skipped
SkipsSegments-all : (n : ℕ) (xs ys : List (List ℕ)) → n ≡ length (concat xs) → ys ≡ [] → SkipsSegments n xs ys
SkipsSegments-all n xs ys all none = record {
  passed = length xs;
  cut = 0;
  within = omega arith;
  rest = none ∙ sym (ap (cut_front_segment 0) (drop_all (length xs) xs (omega arith)));
  bytes = ap concat none ∙ sym (drop_all n (concat xs) (omega (arith, all)));
  front = λ some. absurd (omega (arith, some, ap length none));
}

pub returns-then-at-self-clause-kept : goal.returns-then-at-self-clause-kept
returns-then-at-self-clause-kept c =
    let held = c.args.self.now.segments in
    let some : NoSegmentEmpty held = subst (λ q. NoSegmentEmpty q.segments) c.self.view_is c.self.invariant.1 in
    let all : c.args.at ≡ length (concat held) =
    omega (arith, c.if-at-self.true, c.self.invariant.0, ap (λ q. length (concat q.segments)) c.self.view_is) in
    c.keep_all.ensures.kept ∙ ap newly_held (sym (take_from_segments-all held c.args.at some all))

pub returns-then-at-self-clause-skips : goal.returns-then-at-self-clause-skips
returns-then-at-self-clause-skips c =
    let held = c.args.self.now.segments in
    let all : c.args.at ≡ length (concat held) =
    omega (arith, c.if-at-self.true, c.self.invariant.0, ap (λ q. length (concat q.segments)) c.self.view_is) in
    SkipsSegments-all c.args.at held c.keep_all.result.segments all c.keep_all.ensures.rest
