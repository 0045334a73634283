-- The lines of a text, each with its end, make up the text.
use Rattle.std.proofs.Common.{◌≡◌, ◌≢◌, refl, sym, ap, subst, ◌∙◌, ℕ, zero, suc, ◌==◌, ◌&&◌, inl, inr, if◌then◌else◌, Bool, true, false, List, [], ◌∷◌, ◌++◌, append-nil, length, length-append, arith, nat_eq, eqb-true, eq-eqb}
use Rattle.std.proofs.lemmas.Bool.{eqb-false, and_parts, and_from}
use Rattle.std.specs.List.{starts_with}
use Rattle.bytes_utils.specs.Lines.{lines, line_feed, carriage_return, first_led_by}
use Rattle.bytes_utils.proofs.LinesLemmas.{LacksFeed as NoFeed, lines-whole, lines-at_end}
use Rattle.bytes_utils_run.specs.LineEnds.{IsLineEnd, AreEndedLines, LineEndsLaw}

NoFeed-nil : NoFeed []
NoFeed-nil (zero, here) = cc
NoFeed-nil (suc i, here) = cc

NoFeed-cons : (c : ℕ) (line : List ℕ) → c ≢ 10 → NoFeed line → NoFeed (c ∷ line)
NoFeed-cons c line other none (zero, here) = let is : c ≡ 10 = cc in other is
NoFeed-cons c line other none (suc i, here) = none (i, here)

-- a text that begins with a line feed
begins_with_feed : (t rest : List ℕ) → t ≡ line_feed ∷ rest → starts_with nat_eq t (line_feed ∷ []) ≡ true
begins_with_feed t rest e = ap (λ z. starts_with nat_eq z (line_feed ∷ [])) e

feed_from_begins : (d : ℕ) (t : List ℕ) → starts_with nat_eq (d ∷ t) (line_feed ∷ []) ≡ true → d ≡ 10
feed_from_begins d t begins = sym (eqb-true 10 d (and_parts (10 == d) true begins).0)

-- a carriage return before a line feed is part of the first line's end
ended-at_return : (t : List ℕ) (ls : List (List ℕ)) → starts_with nat_eq t (line_feed ∷ []) ≡ true → AreEndedLines t ls → AreEndedLines (carriage_return ∷ t) ls
ended-at_return [] ls begins are = let both : false ≡ true = begins in cc
ended-at_return (d ∷ t) [] begins are = absurd (omega (arith, ap length are))
ended-at_return (d ∷ t) ((e ∷ line) ∷ ls) begins are =
    let same : d ≡ e = cc in
    absurd (are.3 (0, ap (λ z. z ∷ []) (sym same ∙ feed_from_begins d t begins)))
ended-at_return (d ∷ t) ([] ∷ ls) begins (end, rest, whole, none, inl (inl return_feed), others) =
    let all : d ∷ t ≡ 13 ∷ 10 ∷ rest = whole ∙ ap (λ z. z ++ rest) return_feed in
    let is : d ≡ 13 = cc in
    absurd (omega (arith, is, feed_from_begins d t begins))
ended-at_return (d ∷ t) ([] ∷ ls) begins (end, rest, whole, none, inl (inr feed), others) =
    (13 ∷ 10 ∷ [], rest, ap (λ z. 13 ∷ z) (whole ∙ ap (λ z. z ++ rest) feed.0), NoFeed-nil, inl (inl refl), others)
ended-at_return (d ∷ t) ([] ∷ ls) begins (end, rest, whole, none, inr last, others) = absurd (omega (arith, last.2))

-- a character that ends no line is the first of the first line
ended-led : (c : ℕ) (t : List ℕ) (ls : List (List ℕ)) → c ≢ 10 → (c ≡ 13 → starts_with nat_eq t (line_feed ∷ []) ≡ true → ⊥) → AreEndedLines t ls → AreEndedLines (c ∷ t) (first_led_by c ls)
ended-led c t [] other no_return are = ([], [], ap (λ z. c ∷ z) are, NoFeed-cons c [] other NoFeed-nil, inr (refl, refl, omega arith), refl)
ended-led c t (line ∷ ls) other no_return are =
    (are.0, are.1, ap (λ z. c ∷ z) are.2, NoFeed-cons c line other are.3, either are.4, are.5)
  where
    either : IsLineEnd line are.0 are.1 → IsLineEnd (c ∷ line) are.0 are.1
    either (inl (inl return_feed)) = inl (inl return_feed)
    either (inr last) = inr (last.0, last.1, omega arith)
    either (inl (inr feed)) = inl (inr (feed.0, no_return_after))
      where
        no_return_after : (front : List ℕ) → (c ∷ line) ≢ front ++ carriage_return ∷ []
        no_return_after [] e =
            let is : c ≡ 13 = cc in
            let empty : line ≡ [] = cc in
            let whole : t ≡ line_feed ∷ are.1 = are.2 ∙ ap (λ z. z ++ (are.0 ++ are.1)) empty ∙ ap (λ z. z ++ are.1) feed.0 in
            no_return is (begins_with_feed t are.1 whole)
        no_return_after (d ∷ front) e = let rest : line ≡ front ++ carriage_return ∷ [] = cc in feed.1 front rest

ended-cons : (c : ℕ) (t : List ℕ) (ls : List (List ℕ)) (feed returns : Bool) → (c == 10) ≡ feed → (c == 13 && starts_with nat_eq t (line_feed ∷ [])) ≡ returns → AreEndedLines t ls
    → AreEndedLines (c ∷ t) (if feed then [] ∷ ls else if returns then ls else first_led_by c ls)
ended-cons c t ls true returns feed returns_is are =
    (10 ∷ [], t, ap (λ z. z ∷ t) (eqb-true c 10 feed), NoFeed-nil, inl (inr (refl, λ front e. omega (arith, ap length e, length-append front (13 ∷ [])))), are)
ended-cons c t ls false true other returns are =
    let both = and_parts (c == 13) (starts_with nat_eq t (line_feed ∷ [])) returns in
    subst (λ z. AreEndedLines (z ∷ t) ls) (sym (eqb-true c 13 both.0)) (ended-at_return t ls both.1 are)
ended-cons c t ls false false other no_return are =
    ended-led c t ls (eqb-false c 10 other)
    (λ is begins. let both : true ≡ false = sym (and_from (c == 13) (starts_with nat_eq t (line_feed ∷ [])) (eq-eqb c 13 is) begins) ∙ no_return in cc) are

-- the lines make up the text
AreEndedLines-lines : (t : List ℕ) → AreEndedLines t (lines t)
AreEndedLines-lines [] = refl
AreEndedLines-lines (c ∷ t) = ended-cons c t (lines t) (c == 10) (c == 13 && starts_with nat_eq t (line_feed ∷ [])) refl refl (AreEndedLines-lines t)

-- a line, its end, and what follows it
lines-at_any_end : (line end rest : List ℕ) → NoFeed line → IsLineEnd line end rest → lines (line ++ (end ++ rest)) ≡ line ∷ lines rest
lines-at_any_end line end rest none (inl fed) = lines-at_end line end rest none fed
lines-at_any_end line end rest none (inr last) = rw (last.0, last.1, append-nil line) (lines-whole line last.2 none)

-- lines that make up the text are its lines
lines-from_ended : (t : List ℕ) (ls : List (List ℕ)) → AreEndedLines t ls → ls ≡ lines t
lines-from_ended t [] are = sym (ap lines are)
lines-from_ended t (line ∷ ls) are =
    sym (ap lines are.2 ∙ lines-at_any_end line are.0 are.1 are.3 are.4 ∙ ap (λ z. line ∷ z) (sym (lines-from_ended are.1 ls are.5)))

pub lines_law : LineEndsLaw
lines_law t parts = (λ are. subst (AreEndedLines t) (sym are) (AreEndedLines-lines t), lines-from_ended t parts)
