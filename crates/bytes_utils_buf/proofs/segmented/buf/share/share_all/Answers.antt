use Rattle.std.proofs.Math.Seq.{map-set_same}
use Rattle.std.proofs.Common.{◌≡◌, ℕ, List, length, map, ap, ◌∙◌, sym, arith}
use Rattle.std.proofs.lemmas.List.{length-map}
use Rattle.bytes_utils_buf.specs.Packing.{packed_bytes}
use Rattle.bytes_utils_buf.proofs.segmented.buf.share.share_all.Goals as goal

-- the elements are as many as before
size : {X : Type 0} (f : X → List ℕ) (xs ys : List X) → map f xs ≡ map f ys → length xs ≡ length ys
size f xs ys same = sym (length-map xs f) ∙ ap length same ∙ length-map ys f

pub index_mut-requires : goal.index_mut-requires
index_mut-requires c =
    omega (arith, size packed_bytes _ _ c.loop-place.invariant, c.loop-place-test.true, c.len-place-end.ensures)

pub returns-in_err-share_piece-clause-same : goal.returns-in_err-share_piece-clause-same
returns-in_err-share_piece-clause-same c =
    map-set_same packed_bytes c.loop-place.pieces.items c.loop-place.place _ c.index_mut.result.now (c.share_piece.ensures.same ∙ ap packed_bytes c.index_mut.ensures.value)
    ∙ c.loop-place.invariant

pub loop-place-preserved : goal.loop-place-preserved
loop-place-preserved c =
    map-set_same packed_bytes c.loop-place.pieces.items c.loop-place.place _ c.index_mut.result.now (c.share_piece.ensures.same ∙ ap packed_bytes c.index_mut.ensures.value)
    ∙ c.loop-place.invariant
