-- Runs of calls for parts.
use Rattle.std.proofs.Common.{◌≡◌, ℕ, Bool, true, false, List, [], ◌∷◌, ◌++◌, Option, None, Some, ap, ◌∙◌, sym, refl, subst, append_assoc, append-nil, inl, inr, ◌⊎◌}
use Rattle.std.specs.Prelude.{if◌then◌else◌}
use Rattle.std.specs.Bool.{MatchBool}
use Rattle.std.specs.List.{flat_map}
use Rattle.std.specs.Option.{option_to_list}
use Rattle.std.proofs.lemmas.Grind.{flat_map-append}
use Rattle.bytes_utils_codec.specs.Frames.{TakesFrame}
use Rattle.bytes_utils_codec.specs.StreamRuns.{AreFirstOfRun}
use Rattle.bytes_utils_codec.proofs.FramesLemmas.{TakesFrame-more, TakesFrame-same}
use Rattle.bytes_utils_codec.proofs.StreamRunsLemmas.{AreFirstOfRun-more, AreFirstOfRun-next, run_keeps, same_first_law}
use Rattle.bytes_utils_protocols.specs.Multipart.{MultipartReading, MultipartBytes, IsMultipartPart, TakesMultipart, multipart_started, ClosesMultipart, LacksNextInMultipart, multipart_dashes, multipart_line_end, multipart_appended, multipart_closed, IsMultipartIdle, IsMultipartCall, AreMultipartParts, MultipartLaw, SameMultipartLaw}
use Rattle.bytes_utils_protocols.specs.declared.multipart.limits.Limits.{Limits}
use Rattle.bytes_utils_protocols.proofs.MultipartLemmas.{IsMultipartPart-same}

module _ (d : List ℕ) (limits : Limits) where
  -- with more bytes it is the same part
  pub TakesMultipart-more : (old : List ℕ) (part : MultipartBytes) (rest piece : List ℕ) → TakesMultipart d limits old part rest → TakesMultipart d limits (old ++ piece) part (rest ++ piece)
  TakesMultipart-more old part rest piece takes = record {
    preamble = takes.preamble;
    after = takes.after ++ piece;
    begins = TakesFrame-more d old takes.preamble takes.after piece takes.begins;
    raw = takes.raw;
    next = takes.next ++ piece;
    ends = TakesFrame-more d takes.after takes.raw takes.next piece takes.ends;
    is = takes.is;
    few = takes.few;
    left = ap (λ l. l ++ piece) takes.left ∙ append_assoc d takes.next piece;
  }

  -- bytes begin with one part
  TakesMultipart-same : (old : List ℕ) (x y : MultipartBytes) (r s : List ℕ) → TakesMultipart d limits old x r → TakesMultipart d limits old y s → (x ≡ y) × (r ≡ s)
  TakesMultipart-same old x y r s p q =
      let after = TakesFrame-same d old p.preamble q.preamble p.after q.after p.begins q.begins in
      let raw = TakesFrame-same d p.after p.raw q.raw p.next q.next p.ends (subst (λ l. TakesFrame d l q.raw q.next) (sym after.1) q.ends) in (
        IsMultipartPart-same limits limits p.raw x y p.is (subst (λ l. IsMultipartPart limits l y) (sym raw.0) q.is),
        p.left ∙ ap (λ l. d ++ l) raw.1 ∙ sym q.left,
      )

  pub ClosesMultipart-more : (bytes piece : List ℕ) → ClosesMultipart d bytes → ClosesMultipart d (bytes ++ piece)
  ClosesMultipart-more bytes piece closing = (closing.0, closing.1 ++ piece, TakesFrame-more d bytes closing.0 (multipart_dashes ++ closing.1) piece closing.2)

  -- what is known after some calls
  abbrev Holds : List ℕ → List (Option MultipartBytes) → MultipartReading → Type 0
  Holds bytes items s = (s.delimiter ≡ d) × (s.limits ≡ limits) × AreMultipartParts d limits (multipart_line_end ++ bytes) (flat_map option_to_list items) s.ended s.held

  module _ (bytes : List ℕ) (parts : List MultipartBytes) where
    more_after_end : (held other piece : List ℕ) → AreMultipartParts d limits (multipart_line_end ++ bytes) parts true held → AreMultipartParts d limits (multipart_line_end ++ (bytes ++ piece)) parts true other
    more_after_end held other piece known = record {
      rest = known.rest ++ piece;
      are =
          subst (λ l. AreFirstOfRun (TakesMultipart d limits) l parts (known.rest ++ piece)) (append_assoc multipart_line_end bytes piece)
          (AreFirstOfRun-more (λ l piece. l ++ piece) (TakesMultipart d limits) TakesMultipart-more (multipart_line_end ++ bytes) parts known.rest piece known.are);
      left = ClosesMultipart-more known.rest piece known.left;
    }

    more_before_end : (held piece : List ℕ) → AreMultipartParts d limits (multipart_line_end ++ bytes) parts false held → AreMultipartParts d limits (multipart_line_end ++ (bytes ++ piece)) parts false (held ++ piece)
    more_before_end held piece known = record {
      rest = known.rest ++ piece;
      are =
          subst (λ l. AreFirstOfRun (TakesMultipart d limits) l parts (known.rest ++ piece)) (append_assoc multipart_line_end bytes piece)
          (AreFirstOfRun-more (λ l piece. l ++ piece) (TakesMultipart d limits) TakesMultipart-more (multipart_line_end ++ bytes) parts known.rest piece known.are);
      left = ap (λ l. l ++ piece) known.left;
    }

    -- the close delimiter is read
    close : (held : List ℕ) (ended : Bool) → AreMultipartParts d limits (multipart_line_end ++ bytes) parts ended held → ((ended ≡ true) ⊎ ClosesMultipart d held) → AreMultipartParts d limits (multipart_line_end ++ bytes) parts true []
    close held true known why = record { rest = known.rest; are = known.are; left = known.left }
    close held false known (inl ended) = cc
    close held false known (inr closing) = record { rest = known.rest; are = known.are; left = subst (ClosesMultipart d) (sym known.left) closing }

    -- a part is taken
    one_more : (held : List ℕ) (part : MultipartBytes) (new : List ℕ) → AreMultipartParts d limits (multipart_line_end ++ bytes) parts false held → TakesMultipart d limits held part new
        → AreMultipartParts d limits (multipart_line_end ++ bytes) (parts ++ part ∷ []) false new
    one_more held part new known takes = record {
      rest = new;
      are = AreFirstOfRun-next (TakesMultipart d limits) (multipart_line_end ++ bytes) parts held part new (subst (AreFirstOfRun (TakesMultipart d limits) (multipart_line_end ++ bytes) parts) known.left known.are) takes;
      left = refl;
    }

  pushed : (bytes : List ℕ) (items : List (Option MultipartBytes)) (s : MultipartReading) (piece : List ℕ) → Holds bytes items s → Holds (bytes ++ piece) items (multipart_appended s piece)
  pushed bytes items s piece holds = by_end s.ended refl
    where
      by_end : (ended : Bool) → s.ended ≡ ended → Holds (bytes ++ piece) items (multipart_appended s piece)
      by_end true is =
          let same : multipart_appended s piece ≡ s = ap (λ b. if b then s else record s { held = s.held ++ piece }) is in
          let known = subst (λ b. AreMultipartParts d limits (multipart_line_end ++ bytes) (flat_map option_to_list items) b s.held) is holds.2 in
          let more = subst (λ b. AreMultipartParts d limits (multipart_line_end ++ (bytes ++ piece)) (flat_map option_to_list items) b s.held) (sym is)
          (more_after_end bytes (flat_map option_to_list items) s.held s.held piece known) in
          subst (Holds (bytes ++ piece) items) (sym same) (holds.0, holds.1, more)
      by_end false is =
          let same : multipart_appended s piece ≡ record s { held = s.held ++ piece } = ap (λ b. if b then s else record s { held = s.held ++ piece }) is in
          let known = subst (λ b. AreMultipartParts d limits (multipart_line_end ++ bytes) (flat_map option_to_list items) b s.held) is holds.2 in
          let more = subst (λ b. AreMultipartParts d limits (multipart_line_end ++ (bytes ++ piece)) (flat_map option_to_list items) b (s.held ++ piece)) (sym is)
          (more_before_end bytes (flat_map option_to_list items) s.held piece known) in
          subst (Holds (bytes ++ piece) items) (sym same) (holds.0, holds.1, more)

  taken : (bytes : List ℕ) (items : List (Option MultipartBytes)) (s : MultipartReading) (item : Option MultipartBytes) (new : MultipartReading) → Holds bytes items s → IsMultipartCall s item new
      → Holds bytes (items ++ item ∷ []) new
  taken bytes items s (Some part) new holds call =
      let known = subst (λ b. AreMultipartParts d limits (multipart_line_end ++ bytes) (flat_map option_to_list items) b s.held) call.1 holds.2 in
      let takes = subst (λ l. TakesMultipart d l s.held part new.held) holds.1 (subst (λ l. TakesMultipart l s.limits s.held part new.held) holds.0 call.0) in
      let more = one_more bytes (flat_map option_to_list items) s.held part new.held known takes in
      let ended : new.ended ≡ false = ap (λ (s : MultipartReading). s.ended) call.2 ∙ call.1 in (
        ap (λ (s : MultipartReading). s.delimiter) call.2 ∙ holds.0,
        ap (λ (s : MultipartReading). s.limits) call.2 ∙ holds.1,
        rw (flat_map-append option_to_list items (Some part ∷ []), ended) more,
      )
  taken bytes items s None new holds call = by_end new.ended refl (idle call)
    where
      idle : IsMultipartCall s None new → IsMultipartIdle s new
      idle call = call

      none_more : flat_map option_to_list (items ++ None ∷ []) ≡ flat_map option_to_list items
      none_more = flat_map-append option_to_list items (None ∷ []) ∙ append-nil (flat_map option_to_list items)

      by_end : (ended : Bool) → new.ended ≡ ended → IsMultipartIdle s new → Holds bytes (items ++ None ∷ []) new
      by_end true is call =
          let idle = subst (λ b. MatchBool b ((new ≡ multipart_closed s) × ((s.ended ≡ true) ⊎ ClosesMultipart s.delimiter s.held)) ((new ≡ s) × (¬ ClosesMultipart s.delimiter s.held) × LacksNextInMultipart s.delimiter s.held)) is call in
          let why = subst (λ l. (s.ended ≡ true) ⊎ ClosesMultipart l s.held) holds.0 idle.1 in
          let known = close bytes (flat_map option_to_list items) s.held s.ended holds.2 why in
          subst (Holds bytes (items ++ None ∷ [])) (sym idle.0)
          (holds.0, holds.1, subst (λ l. AreMultipartParts d limits (multipart_line_end ++ bytes) l true []) (sym none_more) known)
      by_end false is call =
          let idle = subst (λ b. MatchBool b ((new ≡ multipart_closed s) × ((s.ended ≡ true) ⊎ ClosesMultipart s.delimiter s.held)) ((new ≡ s) × (¬ ClosesMultipart s.delimiter s.held) × LacksNextInMultipart s.delimiter s.held)) is call in
          subst (Holds bytes (items ++ None ∷ [])) (sym idle.0)
          (holds.0, holds.1, subst (λ l. AreMultipartParts d limits (multipart_line_end ++ bytes) l s.ended s.held) (sym none_more) holds.2)

pub parts_law : MultipartLaw
parts_law d limits events end run =
    (run_keeps multipart_appended IsMultipartCall (Holds d limits) (pushed d limits) (taken d limits) [] [] (multipart_started d limits) events end
    (refl, refl, record { rest = multipart_line_end; are = refl; left = refl }) run).2

pub same_parts_law : SameMultipartLaw
same_parts_law d limits = same_first_law (TakesMultipart d limits) (TakesMultipart-same d limits)

pub ruleset part_laws = (parts_law, same_parts_law)
