-- Runs of calls for parts that are given as they come.
use Rattle.std.proofs.Common.{◌≡◌, ℕ, ◌+◌, ◌<◌, ◌≤◌, true, false, List, [], ◌∷◌, ◌++◌, length, Option, None, Some, IfSome, option_map, ap, ◌∙◌, sym, refl, subst, arith, inl, inr, append_assoc, append-nil, length-append, take-append-drop, take, drop}
use Rattle.std.specs.Prelude.{if◌then◌else◌}
use Rattle.std.proofs.lemmas.List.{take_at, take-append-le}
use Rattle.bytes_utils.specs.Occurrence.{Occurs, OccursAt}
use Rattle.bytes_utils.proofs.Boundaries.{OccursAt-fits}
use Rattle.bytes_utils.proofs.OccurrenceLemmas.{OccursFirstAt-front}
use Rattle.bytes_utils_codec.specs.Frames.{TakesFrame}
use Rattle.bytes_utils_codec.specs.Search.{NoneBeginsInSearch}
use Rattle.bytes_utils_codec.specs.StreamRuns.{AreFirstOfRun, given_in_stream}
use Rattle.bytes_utils_codec.proofs.FramesLemmas.{TakesFrame-more, TakesFrame-same}
use Rattle.bytes_utils_codec.proofs.SearchLemmas.{NoneBeginsInSearch-more}
use Rattle.bytes_utils_codec.proofs.StreamRunsLemmas.{AreFirstOfRun-more, AreFirstOfRun-next, run_keeps}
use Rattle.bytes_utils_protocols.specs.Multipart.{ClosesMultipart, IsMultipartHead, MultipartBytes, NoMultipart, TakesMultipart, multipart_bytes, multipart_dashes, multipart_head_end, multipart_line_end}
use Rattle.bytes_utils_protocols.specs.MultipartStream.{PartStreaming, part_stream_started, has_part_stream_ended, part_stream_appended, DropsPreamble, PassesPreamble, AfterPreamble, GivesPartHead, GivesPartPiece, GivesPartEnd, GivesNextOfPart, ClosesPartStream, IsPartStreamCall, IsPartAwaited, GivenParts, no_given_parts, given_next_of_part, given_of_parts, BeginsPart, PartStreamLaw}
use Rattle.bytes_utils_protocols.specs.declared.multipart.event.PartEvent.{PartEvent}
use Rattle.bytes_utils_protocols.specs.declared.multipart.event.PartEvent.TheVariants.{Head, Body, End}
use Rattle.bytes_utils_protocols.specs.declared.multipart.head.PartHead.{PartHead}
use Rattle.bytes_utils_protocols.specs.declared.multipart.limits.Limits.{Limits}
use Rattle.bytes_utils_protocols.specs.declared.multipart.progress.Place.{Place}
use Rattle.bytes_utils_protocols.specs.declared.multipart.progress.Place.TheVariants.{Preamble, AtHead, InBody, Ended}
use Rattle.bytes_utils_protocols.proofs.MultipartLemmas.{no_part_yet, none_closed, one_head}
use Rattle.bytes_utils_protocols.proofs.MultipartLaws.{TakesMultipart-more, ClosesMultipart-more}
use Rattle.bytes_utils_protocols.proofs.MultipartStreamLemmas.{NoneBegins-join, TakesFrame-join, TakesFrame-at_front}

-- one more event
given_more : (g : GivenParts) (items : List (Option PartEvent)) (item : Option PartEvent) → given_of_parts g (items ++ item ∷ []) ≡ given_next_of_part (given_of_parts g items) item
given_more g [] item = refl
given_more g (first ∷ items) item = given_more (given_next_of_part g first) items item

module _ (d : List ℕ) (limits : Limits) where
  -- ---- what is before the held bytes, by their place

  -- these bytes of the preamble were dropped
  record InPreamble (rest held : List ℕ) (room : ℕ) : Type 0 where
    pub gone : List ℕ
    pub parts : rest ≡ gone ++ held
    pub apart : NoneBeginsInSearch d (gone ++ held) (length gone)
    pub few : length gone + room ≤ limits.head + limits.body

  -- a delimiter
  record AfterDelimiter (rest after : List ℕ) : Type 0 where
    pub preamble : List ℕ
    pub begins : TakesFrame d rest preamble after
    pub few : length preamble ≤ limits.head + limits.body

  -- a delimiter, a head and a part of a body
  record AfterHead (rest held : List ℕ) (room : ℕ) (part : MultipartBytes) : Type 0 where
    pub front : List ℕ
    pub after : AfterDelimiter rest ((front ++ (multipart_head_end ++ part.body)) ++ held)
    pub cut : TakesFrame multipart_head_end ((front ++ (multipart_head_end ++ part.body)) ++ held) front (part.body ++ held)
    pub head : IsMultipartHead front part.head
    pub small : length front + length multipart_head_end ≤ limits.head
    pub apart : NoneBeginsInSearch d ((front ++ (multipart_head_end ++ part.body)) ++ held) (length (front ++ (multipart_head_end ++ part.body)))
    pub short : length part.body + room ≡ limits.body

  abbrev Stands : Place → Option MultipartBytes → List ℕ → List ℕ → ℕ → Type 0
  Stands Preamble begun rest held room = (begun ≡ None) × InPreamble rest held room
  Stands AtHead begun rest held room = (begun ≡ None) × AfterDelimiter rest held
  Stands InBody begun rest held room = (part : MultipartBytes) × (begun ≡ Some part) × AfterHead rest held room part
  Stands Ended begun rest held room = (begun ≡ None) × ClosesMultipart d rest

  -- what is known after some calls
  record Known (bytes : List ℕ) (given : GivenParts) (s : PartStreaming) : Type 0 where
    pub delimiter : s.delimiter ≡ d
    pub limits_are : s.limits ≡ limits
    pub rest : List ℕ
    pub are : AreFirstOfRun (TakesMultipart d limits) bytes given.whole rest
    pub stands : Stands s.place given.begun rest s.held s.room

  -- ---- a piece is pushed

  delimiter_more : (rest after piece : List ℕ) → AfterDelimiter rest after → AfterDelimiter (rest ++ piece) (after ++ piece)
  delimiter_more rest after piece s = record { preamble = s.preamble; begins = TakesFrame-more d rest s.preamble after piece s.begins; few = s.few }

  stands_more : (place : Place) (begun : Option MultipartBytes) (rest held : List ℕ) (room : ℕ) (piece : List ℕ) → (place ≡ Ended → ⊥) → Stands place begun rest held room → Stands place begun (rest ++ piece) (held ++ piece) room
  stands_more Preamble begun rest held room piece on s = (
    s.0,
    record {
      gone = s.1.gone;
      parts = ap (λ l. l ++ piece) s.1.parts ∙ append_assoc s.1.gone held piece;
      apart = subst (λ l. NoneBeginsInSearch d l (length s.1.gone)) (append_assoc s.1.gone held piece) (NoneBeginsInSearch-more d (s.1.gone ++ held) piece (length s.1.gone) s.1.apart);
      few = s.1.few;
    },
  )
  stands_more AtHead begun rest held room piece on s = (s.0, delimiter_more rest held piece s.1)
  stands_more InBody begun rest held room piece on s =
      let h = s.2 in
      let raw = h.front ++ (multipart_head_end ++ s.0.body) in
      let joined = append_assoc raw held piece in (
        s.0,
        s.1,
        record {
          front = h.front;
          after = subst (AfterDelimiter (rest ++ piece)) joined (delimiter_more rest (raw ++ held) piece h.after);
          cut = subst (λ l. TakesFrame multipart_head_end l h.front (s.0.body ++ (held ++ piece))) joined
              (subst (TakesFrame multipart_head_end ((raw ++ held) ++ piece) h.front) (append_assoc s.0.body held piece) (TakesFrame-more multipart_head_end (raw ++ held) h.front (s.0.body ++ held) piece h.cut));
          head = h.head;
          small = h.small;
          apart = subst (λ l. NoneBeginsInSearch d l (length raw)) joined (NoneBeginsInSearch-more d (raw ++ held) piece (length raw) h.apart);
          short = h.short;
        },
      )
  stands_more Ended begun rest held room piece on s = absurd (on refl)

  are_more : (bytes : List ℕ) (parts : List MultipartBytes) (rest piece : List ℕ) → AreFirstOfRun (TakesMultipart d limits) bytes parts rest → AreFirstOfRun (TakesMultipart d limits) (bytes ++ piece) parts (rest ++ piece)
  are_more bytes parts rest piece are = AreFirstOfRun-more (λ l piece. l ++ piece) (TakesMultipart d limits) (TakesMultipart-more d limits) bytes parts rest piece are

  -- a state before the end of the stream, with more bytes
  with_more : (bytes piece : List ℕ) (given : GivenParts) (s : PartStreaming) → (s.place ≡ Ended → ⊥) → Known bytes given s → Known (bytes ++ piece) given (record s { held = s.held ++ piece })
  with_more bytes piece given s on known = record {
    delimiter = known.delimiter;
    limits_are = known.limits_are;
    rest = known.rest ++ piece;
    are = are_more bytes given.whole known.rest piece known.are;
    stands = stands_more s.place given.begun known.rest s.held s.room piece on known.stands;
  }

  -- bytes after the close delimiter
  ended_more : (bytes piece : List ℕ) (given : GivenParts) (s : PartStreaming) → s.place ≡ Ended → Known bytes given s → Known (bytes ++ piece) given s
  ended_more bytes piece given s ended known =
      let stands = subst (λ place. Stands place given.begun known.rest s.held s.room) ended known.stands in
      record {
        delimiter = known.delimiter;
        limits_are = known.limits_are;
        rest = known.rest ++ piece;
        are = are_more bytes given.whole known.rest piece known.are;
        stands = subst (λ place. Stands place given.begun (known.rest ++ piece) s.held s.room) (sym ended) (stands.0, ClosesMultipart-more d limits known.rest piece stands.1);
      }

  pushed_open : (bytes piece : List ℕ) (given : GivenParts) (s : PartStreaming) → has_part_stream_ended s.place ≡ false → (s.place ≡ Ended → ⊥) → Known bytes given s → Known (bytes ++ piece) given (part_stream_appended s piece)
  pushed_open bytes piece given s is on known =
      let same : part_stream_appended s piece ≡ record s { held = s.held ++ piece } = ap (λ b. if b then s else record s { held = s.held ++ piece }) is in
      subst (Known (bytes ++ piece) given) (sym same) (with_more bytes piece given s on known)

  pushed_ended : (bytes piece : List ℕ) (given : GivenParts) (s : PartStreaming) → has_part_stream_ended s.place ≡ true → s.place ≡ Ended → Known bytes given s → Known (bytes ++ piece) given (part_stream_appended s piece)
  pushed_ended bytes piece given s is ended known =
      let same : part_stream_appended s piece ≡ s = ap (λ b. if b then s else record s { held = s.held ++ piece }) is in
      subst (Known (bytes ++ piece) given) (sym same) (ended_more bytes piece given s ended known)

  pushed_at : (place : Place) (bytes piece : List ℕ) (given : GivenParts) (s : PartStreaming) → s.place ≡ place → Known bytes given s → Known (bytes ++ piece) given (part_stream_appended s piece)
  pushed_at Preamble bytes piece given s is known = pushed_open bytes piece given s (ap has_part_stream_ended is) (λ ended. cc) known
  pushed_at AtHead bytes piece given s is known = pushed_open bytes piece given s (ap has_part_stream_ended is) (λ ended. cc) known
  pushed_at InBody bytes piece given s is known = pushed_open bytes piece given s (ap has_part_stream_ended is) (λ ended. cc) known
  pushed_at Ended bytes piece given s is known = pushed_ended bytes piece given s (ap has_part_stream_ended is) is known

  -- ---- the preamble is dropped

  dropped : (bytes : List ℕ) (given : GivenParts) (s new : PartStreaming) → Known bytes given s → DropsPreamble s new → Known bytes given new
  dropped bytes given s new known drops =
      let stands = subst (λ place. Stands place given.begun known.rest s.held s.room) drops.place known.stands in
      let gone = stands.1.gone in
      let apart = subst (λ l. NoneBeginsInSearch l s.held (length drops.dropped)) known.delimiter drops.apart in
      let joined : gone ++ s.held ≡ (gone ++ drops.dropped) ++ new.held = ap (λ l. gone ++ l) drops.front ∙ sym (append_assoc gone drops.dropped new.held) in
      let size : length gone + length drops.dropped ≡ length (gone ++ drops.dropped) = sym (length-append gone drops.dropped) in
      let in_preamble : InPreamble known.rest new.held new.room = record {
        gone = gone ++ drops.dropped;
        parts = stands.1.parts ∙ joined;
        apart = subst (λ l. NoneBeginsInSearch d l (length (gone ++ drops.dropped))) joined
            (subst (NoneBeginsInSearch d (gone ++ s.held)) size (NoneBegins-join d gone s.held (length drops.dropped) stands.1.apart apart));
        few = omega (arith, stands.1.few, drops.within, size);
      } in
      record {
        delimiter = ap (λ (s : PartStreaming). s.delimiter) drops.next ∙ known.delimiter;
        limits_are = ap (λ (s : PartStreaming). s.limits) drops.next ∙ known.limits_are;
        rest = known.rest;
        are = known.are;
        stands = subst (λ place. Stands place given.begun known.rest new.held new.room) (sym (ap (λ (s : PartStreaming). s.place) drops.next ∙ drops.place)) (stands.0, in_preamble);
      }

  passed : (bytes : List ℕ) (given : GivenParts) (s new : PartStreaming) → Known bytes given s → PassesPreamble s new → Known bytes given new
  passed bytes given s new known passes =
      let stands = subst (λ place. Stands place given.begun known.rest s.held s.room) passes.place known.stands in
      let gone = stands.1.gone in
      let takes = subst (λ l. TakesFrame l s.held passes.preamble new.held) known.delimiter passes.takes in
      let after : AfterDelimiter known.rest new.held = record {
        preamble = gone ++ passes.preamble;
        begins = subst (λ l. TakesFrame d l (gone ++ passes.preamble) new.held) (sym stands.1.parts) (TakesFrame-join d gone s.held passes.preamble new.held stands.1.apart takes);
        few = omega (arith, stands.1.few, passes.within, length-append gone passes.preamble);
      } in
      record {
        delimiter = ap (λ (s : PartStreaming). s.delimiter) passes.next ∙ known.delimiter;
        limits_are = ap (λ (s : PartStreaming). s.limits) passes.next ∙ known.limits_are;
        rest = known.rest;
        are = known.are;
        stands = subst (λ place. Stands place given.begun known.rest new.held new.room) (sym (ap (λ (s : PartStreaming). s.place) passes.next)) (stands.0, after);
      }

  after_preamble : (bytes : List ℕ) (given : GivenParts) (s new : PartStreaming) → Known bytes given s → AfterPreamble s new → Known bytes given new
  after_preamble bytes given s new known (inl same) = subst (Known bytes given) (sym same) known
  after_preamble bytes given s new known (inr (inl drops)) = dropped bytes given s new known drops
  after_preamble bytes given s new known (inr (inr passes)) = passed bytes given s new known passes

  -- ---- an event is given

  head_given : (bytes : List ℕ) (given : GivenParts) (s : PartStreaming) (head : PartHead) (new : PartStreaming) → Known bytes given s → GivesPartHead s head new → Known bytes (given_next_of_part given (Some (Head head))) new
  head_given bytes given s head new known gives =
      let stands = subst (λ place. Stands place given.begun known.rest s.held s.room) gives.place known.stands in
      let takes = gives.takes in
      let he = multipart_head_end in
      let apart = subst (λ l. NoneBeginsInSearch l s.held (length takes.front + length he)) known.delimiter takes.apart in
      let whole : s.held ≡ (takes.front ++ (he ++ [])) ++ new.held =
      takes.cut.bytes ∙ sym (append_assoc takes.front he new.held) ∙ ap (λ l. (takes.front ++ l) ++ new.held) (sym (append-nil he)) in
      let size : length takes.front + length he ≡ length (takes.front ++ (he ++ [])) = sym (length-append takes.front (he ++ [])) in
      let after : AfterHead known.rest new.held limits.body (multipart_bytes head.text []) = record {
        front = takes.front;
        after = subst (AfterDelimiter known.rest) whole stands.1;
        cut = subst (λ l. TakesFrame he l takes.front new.held) whole takes.cut;
        head = takes.is;
        small = subst (λ (l : Limits). length takes.front + length he ≤ l.head) known.limits_are takes.small;
        apart = subst (λ l. NoneBeginsInSearch d l (length (takes.front ++ (he ++ [])))) whole (subst (NoneBeginsInSearch d s.held) size apart);
        short = omega arith;
      } in
      let room : new.room ≡ limits.body = ap (λ (s : PartStreaming). s.room) gives.next ∙ ap (λ (l : Limits). l.body) known.limits_are in
      record {
        delimiter = ap (λ (s : PartStreaming). s.delimiter) gives.next ∙ known.delimiter;
        limits_are = ap (λ (s : PartStreaming). s.limits) gives.next ∙ known.limits_are;
        rest = known.rest;
        are = known.are;
        stands = subst (λ place. Stands place (Some (multipart_bytes head.text [])) known.rest new.held new.room) (sym (ap (λ (s : PartStreaming). s.place) gives.next))
            (multipart_bytes head.text [], refl, subst (λ n. AfterHead known.rest new.held n (multipart_bytes head.text [])) (sym room) after);
      }

  piece_given : (bytes : List ℕ) (given : GivenParts) (s : PartStreaming) (piece : List ℕ) (new : PartStreaming) → Known bytes given s → GivesPartPiece s piece new → Known bytes (given_next_of_part given (Some (Body piece))) new
  piece_given bytes given s piece new known gives =
      let stands = subst (λ place. Stands place given.begun known.rest s.held s.room) gives.place known.stands in
      let part = stands.0 in
      let h = stands.2 in
      let he = multipart_head_end in
      let raw = h.front ++ (he ++ part.body) in
      let longer = h.front ++ (he ++ (part.body ++ piece)) in
      let apart = subst (λ l. NoneBeginsInSearch l s.held (length piece)) known.delimiter gives.apart in
      let grown : raw ++ piece ≡ longer = append_assoc h.front (he ++ part.body) piece ∙ ap (λ l. h.front ++ l) (append_assoc he part.body piece) in
      let whole : raw ++ s.held ≡ longer ++ new.held = ap (λ l. raw ++ l) gives.front ∙ sym (append_assoc raw piece new.held) ∙ ap (λ l. l ++ new.held) grown in
      let body : part.body ++ s.held ≡ (part.body ++ piece) ++ new.held = ap (λ l. part.body ++ l) gives.front ∙ sym (append_assoc part.body piece new.held) in
      let size : length raw + length piece ≡ length longer = sym (length-append raw piece) ∙ ap length grown in
      let more : MultipartBytes = multipart_bytes part.head (part.body ++ piece) in
      let after : AfterHead known.rest new.held new.room more = record {
        front = h.front;
        after = subst (AfterDelimiter known.rest) whole h.after;
        cut = subst (λ l. TakesFrame he l h.front ((part.body ++ piece) ++ new.held)) whole (subst (TakesFrame he (raw ++ s.held) h.front) body h.cut);
        head = h.head;
        small = h.small;
        apart = subst (λ l. NoneBeginsInSearch d l (length longer)) whole (subst (NoneBeginsInSearch d (raw ++ s.held)) size (NoneBegins-join d raw s.held (length piece) h.apart apart));
        short = omega (arith, h.short, gives.within, length-append part.body piece);
      } in
      let begun : option_map (λ part. multipart_bytes part.head (part.body ++ piece)) given.begun ≡ Some more = ap (option_map (λ part. multipart_bytes part.head (part.body ++ piece))) stands.1 in
      record {
        delimiter = ap (λ (s : PartStreaming). s.delimiter) gives.next ∙ known.delimiter;
        limits_are = ap (λ (s : PartStreaming). s.limits) gives.next ∙ known.limits_are;
        rest = known.rest;
        are = known.are;
        stands = subst (λ place. Stands place (option_map (λ part. multipart_bytes part.head (part.body ++ piece)) given.begun) known.rest new.held new.room) (sym (ap (λ (s : PartStreaming). s.place) gives.next ∙ gives.place))
            (more, begun, after);
      }

  -- longer bytes that begin the same way
  longer : (xs ys more others : List ℕ) → length xs ≤ length ys → xs ++ more ≡ ys ++ others → ys ≡ xs ++ drop (length xs) ys
  longer xs ys more others long same =
      let front : take (length xs) ys ≡ xs = sym (take-append-le (length xs) ys others long) ∙ ap (take (length xs)) (sym same) ∙ take_at xs more (length xs) refl in
      sym (take-append-drop (length xs) ys) ∙ ap (λ l. l ++ drop (length xs) ys) front

  -- the head ends where it did, if only what came before the next delimiter is looked at
  cut_before : (rest held : List ℕ) (room : ℕ) (given : MultipartBytes) → (h : AfterHead rest held room given)
      → TakesFrame multipart_head_end (h.front ++ (multipart_head_end ++ given.body)) h.front given.body
  cut_before rest held room given h =
      let he = multipart_head_end in
      let raw = h.front ++ (he ++ given.body) in
      let fits : length h.front + length he ≤ length raw = omega (arith, length-append h.front (he ++ given.body), length-append he given.body) in
      record { bytes = refl; first = OccursFirstAt-front he raw held (length h.front) (omega arith) h.cut.first fits }

  -- what was given up to the delimiter is a part
  whole_part : (rest held next : List ℕ) (room : ℕ) (part : MultipartBytes) → AfterHead rest held room part → held ≡ d ++ next → TakesMultipart d limits rest part (d ++ next)
  whole_part rest held next room part h is =
      let he = multipart_head_end in
      let raw = h.front ++ (he ++ part.body) in
      let ends : TakesFrame d (raw ++ held) (raw ++ []) next = TakesFrame-join d raw held [] next h.apart (subst (λ l. TakesFrame d l [] next) (sym is) (TakesFrame-at_front d next)) in
      record {
        preamble = h.after.preamble;
        after = raw ++ held;
        begins = h.after.begins;
        raw = raw;
        next = next;
        ends = subst (λ l. TakesFrame d (raw ++ held) l next) (append-nil raw) ends;
        is = record {
          front = h.front;
          ends = record { cut = cut_before rest held room part h; small = h.small; short = omega (arith, h.short) };
          head = h.head;
        };
        few = h.after.few;
        left = refl;
      }

  end_given : (bytes : List ℕ) (given : GivenParts) (s new : PartStreaming) → Known bytes given s → GivesPartEnd s new → Known bytes (given_next_of_part given (Some End)) new
  end_given bytes given s new known gives =
      let stands = subst (λ place. Stands place given.begun known.rest s.held s.room) gives.place known.stands in
      let part = stands.0 in
      let held : s.held ≡ d ++ new.held = gives.delimiter ∙ ap (λ l. l ++ new.held) known.delimiter in
      let takes = whole_part known.rest s.held new.held s.room part stands.2 held in
      record {
        delimiter = ap (λ (s : PartStreaming). s.delimiter) gives.next ∙ known.delimiter;
        limits_are = ap (λ (s : PartStreaming). s.limits) gives.next ∙ known.limits_are;
        rest = d ++ new.held;
        are = rw stands.1 (AreFirstOfRun-next (TakesMultipart d limits) bytes given.whole known.rest part (d ++ new.held) known.are takes);
        stands = subst (λ place. Stands place None (d ++ new.held) new.held new.room) (sym (ap (λ (s : PartStreaming). s.place) gives.next))
            (refl, record { preamble = []; begins = TakesFrame-at_front d new.held; few = omega arith });
      }

  -- the close delimiter is read
  closed : (bytes : List ℕ) (given : GivenParts) (s new : PartStreaming) → Known bytes given s → ClosesPartStream s new → Known bytes given new
  closed bytes given s new known closes =
      let stands = subst (λ place. Stands place given.begun known.rest s.held s.room) closes.place known.stands in
      let after = stands.1 in
      let two = length multipart_dashes in
      let dashes : s.held ≡ multipart_dashes ++ drop two s.held = sym (take-append-drop two s.held) ∙ ap (λ l. l ++ drop two s.held) closes.dashes in
      record {
        delimiter = ap (λ (s : PartStreaming). s.delimiter) closes.next ∙ known.delimiter;
        limits_are = ap (λ (s : PartStreaming). s.limits) closes.next ∙ known.limits_are;
        rest = known.rest;
        are = known.are;
        stands = subst (λ place. Stands place given.begun known.rest new.held new.room) (sym (ap (λ (s : PartStreaming). s.place) closes.next))
            (stands.0, (after.preamble, drop two s.held, subst (TakesFrame d known.rest after.preamble) dashes after.begins));
      }

  next_given : (bytes : List ℕ) (given : GivenParts) (s : PartStreaming) (next : Option PartEvent) (new : PartStreaming) → Known bytes given s → GivesNextOfPart s next new → Known bytes (given_next_of_part given next) new
  next_given bytes given s (Some (Head head)) new known gives = head_given bytes given s head new known gives
  next_given bytes given s (Some (Body piece)) new known gives = piece_given bytes given s piece new known gives
  next_given bytes given s (Some End) new known gives = end_given bytes given s new known gives
  next_given bytes given s None new known (inl same) = subst (Known bytes given) (sym same) known
  next_given bytes given s None new known (inr closes) = closed bytes given s new known closes

  -- ---- a run

  abbrev Holds : List ℕ → List (Option PartEvent) → PartStreaming → Type 0
  Holds bytes items s = Known (multipart_line_end ++ bytes) (given_of_parts no_given_parts items) s

  pushed : (bytes : List ℕ) (items : List (Option PartEvent)) (s : PartStreaming) (piece : List ℕ) → Holds bytes items s → Holds (bytes ++ piece) items (part_stream_appended s piece)
  pushed bytes items s piece known =
      subst (λ l. Known l (given_of_parts no_given_parts items) (part_stream_appended s piece)) (append_assoc multipart_line_end bytes piece)
      (pushed_at s.place (multipart_line_end ++ bytes) piece (given_of_parts no_given_parts items) s refl known)

  called : (bytes : List ℕ) (items : List (Option PartEvent)) (s : PartStreaming) (next : Option PartEvent) (new : PartStreaming) → Holds bytes items s → IsPartStreamCall s next new → Holds bytes (items ++ next ∷ []) new
  called bytes items s next new known call =
      let given = given_of_parts no_given_parts items in
      let settled = after_preamble (multipart_line_end ++ bytes) given s call.0 known call.1 in
      subst (λ g. Known (multipart_line_end ++ bytes) g new) (sym (given_more no_given_parts items next)) (next_given (multipart_line_end ++ bytes) given call.0 next new settled call.2)

  started : Holds [] [] (part_stream_started d limits)
  started = record {
    delimiter = refl;
    limits_are = refl;
    rest = multipart_line_end;
    are = refl;
    stands = (refl, record { gone = []; parts = refl; apart = λ more k here. omega arith; few = omega arith });
  }

  -- ---- what was given of a part is right

  begins_part : (rest held more next : List ℕ) (room : ℕ) (given part : MultipartBytes) → AfterHead rest held room given → TakesMultipart d limits (rest ++ more) part next → BeginsPart given part
  begins_part rest held more next room given part h takes =
      let he = multipart_head_end in
      let raw = h.front ++ (he ++ given.body) in
      let begins = TakesFrame-more d rest h.after.preamble (raw ++ held) more h.after.begins in
      let same = TakesFrame-same d (rest ++ more) h.after.preamble takes.preamble ((raw ++ held) ++ more) takes.after begins takes.begins in
      let ends : TakesFrame d ((raw ++ held) ++ more) takes.raw takes.next = subst (λ l. TakesFrame d l takes.raw takes.next) (sym same.1) takes.ends in
      let long = h.apart more (length takes.raw) ends.first.here in
      let tail = drop (length raw) takes.raw in
      let whole : takes.raw ≡ raw ++ tail = longer raw takes.raw (held ++ more) (d ++ takes.next) long (sym (append_assoc raw held more) ∙ ends.bytes) in
      let cut : TakesFrame he takes.raw h.front (given.body ++ tail) =
      subst (λ l. TakesFrame he l h.front (given.body ++ tail)) (sym whole) (TakesFrame-more he raw h.front given.body tail (cut_before rest held room given h)) in
      let is = takes.is in
      let parts = TakesFrame-same he takes.raw is.front h.front part.body (given.body ++ tail) is.ends.cut cut in
      record {
        head = one_head h.front part.head given.head (subst (λ l. IsMultipartHead l part.head) parts.0 is.head) h.head;
        others = tail;
        body = parts.1;
      }

  begun_right : (place : Place) (begun : Option MultipartBytes) (rest held : List ℕ) (room : ℕ) → Stands place begun rest held room
      → (more : List ℕ) (part : MultipartBytes) (next : List ℕ) → TakesMultipart d limits (rest ++ more) part next → IfSome begun (λ given. BeginsPart given part)
  begun_right Preamble begun rest held room s more part next takes = subst (λ b. IfSome b (λ given. BeginsPart given part)) (sym s.0) tt
  begun_right AtHead begun rest held room s more part next takes = subst (λ b. IfSome b (λ given. BeginsPart given part)) (sym s.0) tt
  begun_right InBody begun rest held room s more part next takes =
      subst (λ b. IfSome b (λ given. BeginsPart given part)) (sym s.1) (begins_part rest held more next room s.0 part s.2 takes)
  begun_right Ended begun rest held room s more part next takes = subst (λ b. IfSome b (λ given. BeginsPart given part)) (sym s.0) tt

  -- ---- no part is left out

  lacks_in : (gone held : List ℕ) → NoneBeginsInSearch d (gone ++ held) (length gone) → length held < length d → ¬ Occurs d (gone ++ held)
  lacks_in gone held apart few (k, here) =
      let low = apart [] k (subst (λ l. OccursAt d l k) (sym (append-nil (gone ++ held))) here) in
      let fits = OccursAt-fits d (gone ++ held) k (omega (arith, few)) here in
      omega (arith, low, fits, few, length-append gone held)

  all_given : (place : Place) (begun : Option MultipartBytes) (rest : List ℕ) (s : PartStreaming) → s.delimiter ≡ d → Stands place begun rest s.held s.room → IsPartAwaited place s → NoMultipart d limits rest
  all_given Preamble begun rest s is stands few =
      let few_d : length s.held < length d = subst (λ l. length s.held < length l) is few in
      let lacks = lacks_in stands.1.gone s.held stands.1.apart few_d in
      no_part_yet d limits rest (λ preamble after takes _. lacks (subst (Occurs d) stands.1.parts (length preamble, takes.first.here)))
  all_given AtHead begun rest s is stands awaits =
      let none = subst (λ l. ¬ Occurs l s.held) is awaits.1.none in
      no_part_yet d limits rest (λ preamble after takes occurs. none (subst (Occurs d) (sym (TakesFrame-same d rest stands.1.preamble preamble s.held after stands.1.begins takes).1) occurs))
  all_given InBody begun rest s is stands few =
      let few_d : length s.held < length d = subst (λ l. length s.held < length l) is few in
      let h = stands.2 in
      let raw = h.front ++ (multipart_head_end ++ stands.0.body) in
      let lacks = lacks_in raw s.held h.apart few_d in
      no_part_yet d limits rest (λ preamble after takes occurs. lacks (subst (Occurs d) (sym (TakesFrame-same d rest h.after.preamble preamble (raw ++ s.held) after h.after.begins takes).1) occurs))
  all_given Ended begun rest s is stands _ = none_closed d limits rest stands.1

pub part_stream_law : PartStreamLaw
part_stream_law d limits events end run =
    let known = run_keeps part_stream_appended IsPartStreamCall (Holds d limits) (pushed d limits) (called d limits) [] [] (part_stream_started d limits) events end (started d limits) run in
    let begun = (given_of_parts no_given_parts (given_in_stream events)).begun in
    record {
      rest = known.rest;
      are = known.are;
      begun = begun_right d limits end.place begun known.rest end.held end.room known.stands;
      all = all_given d limits end.place begun known.rest end known.delimiter known.stands;
      closed = λ ended. (subst (λ place. Stands d limits place begun known.rest end.held end.room) ended known.stands).1;
    }
