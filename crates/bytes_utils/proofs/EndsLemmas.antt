-- Where a text without the white space at its ends is in the text.
use Rattle.std.proofs.Common.{◌≡◌, ℕ, ◌+◌, ◌-◌, List, ◌++◌, length, take, drop, IsUtf8, arith, ap, ◌∙◌, sym, subst, length-drop, length-take, take-append-drop}
use Rattle.std.proofs.lemmas.Bool.{cases_lt}
use Rattle.std.proofs.lemmas.List.{drop_all, drop-take}
use Rattle.std.proofs.lemmas.Str.{IsCharBoundary-from_drop, IsCharBoundary-from_take, IsCharBoundary-from_rest}
use Rattle.std.specs.Str.{IsCharBoundary, IsTrimStart, IsTrimEnd}
use Rattle.bytes_utils.specs.Ends.{IsBetweenSpaceAtEnds}

module _ (s r : List ℕ) (utf8 : IsUtf8 r) (is : IsTrimStart s r) where
  -- what is left begins as many bytes before the end of the text as it has, also if it is empty
  pub start_is : drop (length s - length r) s ≡ r
  start_is = grind (arith, cases_lt, drop_all, length-drop)

  pub start_boundary : IsCharBoundary s (length s - length r)
  start_boundary = IsCharBoundary-from_drop s (length s - length r) (omega arith) (subst IsUtf8 (sym start_is) utf8)

module _ (s r : List ℕ) (s_utf8 : IsUtf8 s) (utf8 : IsUtf8 r) (is : IsTrimEnd s r) where
  front_is : take (length r) s ≡ r
  front_is = ap (λ n. take n s) is.4 ∙ sym is.1

  pub end_boundary : IsCharBoundary s (length r)
  end_boundary = IsCharBoundary-from_take s (length r) s_utf8 (omega (arith, is.4, is.5)) (subst IsUtf8 (sym front_is) utf8)

-- white space is cut off at the start, and then at the end
module _ (s following part : List ℕ) (following_utf8 : IsUtf8 following) (part_utf8 : IsUtf8 part) (start : IsTrimStart s following) (end : IsTrimEnd following part) where
  pub part_end : IsCharBoundary s (length s - length following + length part)
  part_end = grind (arith, IsCharBoundary-from_rest, end_boundary, start_is)

  pub part_is : drop (length s - length following) (take (length s - length following + length part) s) ≡ part
  part_is = drop-take (length s - length following) (length part) s
      ∙ ap (take (length part)) (start_is s following following_utf8 start) ∙ front_is following part following_utf8 part_utf8 end

  pub start_in_front : IsCharBoundary (take (length s - length following + length part) s) (length s - length following)
  start_in_front = grind (arith, IsCharBoundary-from_drop, length-take, part_end, part_is)

  pub between : IsBetweenSpaceAtEnds part s
  between = (
    take start.0 s,
    drop end.0 following,
    ap (λ l. take start.0 s ++ (l ++ drop end.0 following)) end.1 ∙ ap (λ l. take start.0 s ++ l) (take-append-drop end.0 following ∙ start.1) ∙ take-append-drop start.0 s,
    start.2,
    end.2,
  )
