-- Graphic ASCII characters at the front of bytes: a block is tested at once, and blocks are passed one after another.
use Rattle.std.proofs.Common.{◌≡◌, ◌≢◌, ℕ, ◌+◌, ◌-◌, ◌%◌, ◌^◌, ◌<◌, ◌≤◌, Bool, not, List, [], ◌∷◌, cond, eqb, length, drop, map, replicate, refl, sym, ap, ap₂, ◌∙◌, arith, w8, Fits}
use lib.Count.{count_trailing_zeros}
use Rattle.std.proofs.Math.Dec.{ltb}
use Rattle.std.specs.Simd.Lanes.{Each1, zip2, mask_l, top, chunk}
use Rattle.std.proofs.lemmas.Simd.{length-chunk, chunk-drop, zip2_splat, zip2_splat_left, map-map, tops_compared, mask_l-mod, leading_from_mask_l, trailing_mask_l}
use Rattle.std.proofs.lemmas.Bool.{eq-eqb, ne_eqb}
use Rattle.std.proofs.lemmas.Bool.Decides.{nat_tests}
use Rattle.std.proofs.lemmas.List.{length-map}
use Rattle.std.proofs.lemmas.List.Folds.{prefix_len-append}
use Rattle.std.proofs.lemmas.List.Sums.{prefix_len-le-length}
use Rattle.std.specs.Char.{is_ascii_graphic}
use Rattle.std.specs.List.{prefix_len}

-- a byte minus the first graphic one, as a lane computes it
abbrev less : ℕ → ℕ
less x = (x + (2 ^ 8 - 33)) % 2 ^ 8

-- the test of a lane
abbrev is_other : ℕ → Bool
is_other x = ltb 93 (less x)

not_other : (x : ℕ) → x < 256 → not (is_other x) ≡ is_ascii_graphic x
not_other x small = grind (arith, nat_tests, small)

same_run : (v : List ℕ) → Each1 (Fits w8) v → prefix_len (λ x. not (is_other x)) v ≡ prefix_len is_ascii_graphic v
same_run [] fits = refl
same_run (x ∷ v) fits = ap₂ (λ b n. cond b (1 + n) 0) (not_other x fits.0.fits) (same_run v fits.1)

-- the mask that the test of a block gives
abbrev others : List ℕ → ℕ
others v = mask_l (map (top 7) (zip2 (λ a b. cond (ltb a b) 255 0) (replicate 16 93) (zip2 (λ a b. (a + (2 ^ 8 - b)) % 2 ^ 8) v (replicate 16 33)))) % 2 ^ 64

module _ (v : List ℕ) (long : length v ≡ 16) (fits : Each1 (Fits w8) v) where
  others_are : others v ≡ mask_l (map is_other v)
  others_are =
      let lessened : zip2 (λ a b. (a + (2 ^ 8 - b)) % 2 ^ 8) v (replicate 16 33) ≡ map less v = zip2_splat (λ a b. (a + (2 ^ 8 - b)) % 2 ^ 8) v 16 33 long in
      let size : length (map less v) ≡ 16 = length-map v less ∙ long in
      ap (λ w. mask_l (map (top 7) (zip2 (λ a b. cond (ltb a b) 255 0) (replicate 16 93) w)) % 2 ^ 64) lessened
      ∙ ap (λ ms. mask_l ms % 2 ^ 64) (tops_compared w8 ltb (replicate 16 93) (map less v) ∙ zip2_splat_left ltb 93 16 (map less v) size ∙ map-map (ltb 93) less v)
      ∙ mask_l-mod (map is_other v) 64 (omega (arith, length-map v is_other, long))

  pub block_whole : others v ≡ 0 → 16 ≡ prefix_len is_ascii_graphic v
  block_whole none = sym (sym (same_run v fits) ∙ leading_from_mask_l is_other v (sym others_are ∙ none) ∙ long)

  pub block_some : others v ≢ 0 → count_trailing_zeros 64 (others v) ≡ prefix_len is_ascii_graphic v
  block_some some =
      ap (count_trailing_zeros 64) others_are ∙ trailing_mask_l is_other 64 v (omega (arith, long)) (omega (arith, others_are, some)) ∙ same_run v fits

-- the bytes from `at` on, of which sixteen were tested
module _ (bytes : List ℕ) (at : ℕ) (room : at + 16 ≤ length bytes) where
  abbrev front : List ℕ → ℕ
  front = prefix_len is_ascii_graphic

  abbrev block : List ℕ
  block = chunk at 16 bytes

  long : length block ≡ 16
  long = length-chunk at 16 bytes room

  by_block : front (drop at bytes) ≡ cond (eqb (front block) (length block)) (length block + front (drop (at + 16) bytes)) (front block)
  by_block = ap front (chunk-drop at 16 bytes) ∙ prefix_len-append is_ascii_graphic block (drop (at + 16) bytes)

  pub ends_in_block : prefix_len is_ascii_graphic (chunk at 16 bytes) < 16 → prefix_len is_ascii_graphic (drop at bytes) ≡ prefix_len is_ascii_graphic (chunk at 16 bytes)
  ends_in_block inside =
      by_block ∙ ap (λ b. cond b (length block + front (drop (at + 16) bytes)) (front block)) (ne_eqb _ _ (λ (e : front block ≡ length block). omega (arith, e, inside, long)))

  pub passes_block : 16 ≤ prefix_len is_ascii_graphic (chunk at 16 bytes) → prefix_len is_ascii_graphic (drop at bytes) ≡ 16 + prefix_len is_ascii_graphic (drop (at + 16) bytes)
  passes_block whole = grind (arith, by_block, eq-eqb, long, prefix_len-le-length)

pub ruleset blocks = (block_whole, block_some, ends_in_block, passes_block)
