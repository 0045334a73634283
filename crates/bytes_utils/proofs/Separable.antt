-- Parts that are joined with a separator between, and split again.
use Rattle.std.proofs.Common.{◌≡◌, ◌↔◌, refl, subst, ℕ, ◌<◌, List, [], ◌∷◌, ◌++◌, None, length, map, All, IsUtf8}
use Rattle.std.proofs.lemmas.List.Elements.{All-head, All-tail}
use Rattle.std.proofs.lemmas.Str.{chars-append, chars-nil}
use Rattle.std.specs.Str.{chars}
use Rattle.bytes_utils.specs.Occurrence.{Occurs}
use Rattle.bytes_utils.specs.Parts.{join, EachPartButLast, IsPartCutAtFirst, OfLastPart, AreSeparable, ArePartsFromFront}
use Rattle.bytes_utils.proofs.FromEnds.{front-from, front-to}
use Rattle.bytes_utils.proofs.PartLists.{cut-lacks}
use Rattle.bytes_utils.proofs.SearchLemmas.{chars-some}
use Rattle.bytes_utils.proofs.ToCome.{front_same}

module _ {X : Type 0} (p : List X) (some : 0 < length p) where
  -- separable parts are the parts of the text that they join to
  pub separable-parts : (parts : List (List X)) → AreSeparable p parts → ArePartsFromFront (join p parts) p None parts
  separable-parts parts are =
      front-from (join p parts) p None parts some tt
      (record { some = are.some; few = tt; joined = refl; cut_at_first = are.cut_at_first; last = λ _. are.last })

  -- and the parts of a text are separable
  pub parts-separable : (t : List X) (parts : List (List X)) → ArePartsFromFront t p None parts → AreSeparable p parts
  parts-separable t parts are =
      let all = front-to t p None parts some tt are in
      record { some = all.some; cut_at_first = all.cut_at_first; last = all.last tt }

  -- the parts of a joined text are the parts that were joined exactly if these are separable
  pub come_back : (parts others : List (List X)) → ArePartsFromFront (join p parts) p None others → (others ≡ parts) ↔ AreSeparable p parts
  come_back parts others are = (
    λ same. parts-separable (join p parts) parts (subst (ArePartsFromFront (join p parts) p None) same are),
    λ separable. front_same (join p parts) p None others parts are (separable-parts parts separable),
  )

  module _ (one : length p ≡ 1) where
    each_cut : (parts : List (List X)) → All (λ part. ¬ Occurs p part) parts → EachPartButLast (IsPartCutAtFirst p) parts
    each_cut [] lack = tt
    each_cut (part ∷ []) lack = tt
    each_cut (part ∷ next ∷ parts) lack =
        (cut-lacks p part one (All-head (λ q. ¬ Occurs p q) part (next ∷ parts) lack), each_cut (next ∷ parts) (All-tail (λ q. ¬ Occurs p q) part (next ∷ parts) lack))

    last_lacks : (parts : List (List X)) → All (λ part. ¬ Occurs p part) parts → OfLastPart (λ part. ¬ Occurs p part) parts
    last_lacks [] lack = tt
    last_lacks (part ∷ []) lack = All-head (λ q. ¬ Occurs p q) part [] lack
    last_lacks (part ∷ next ∷ parts) lack = last_lacks (next ∷ parts) (All-tail (λ q. ¬ Occurs p q) part (next ∷ parts) lack)

    -- if p is one element, parts that hold no p are separable
    pub separable-lack : (parts : List (List X)) → 0 < length parts → All (λ part. ¬ Occurs p part) parts → AreSeparable p parts
    separable-lack parts any lack = record { some = any; cut_at_first = each_cut parts lack; last = last_lacks parts lack }

-- the characters of joined texts are the characters of the texts, joined
pub chars-join : (separator : List ℕ) (parts : List (List ℕ)) → IsUtf8 separator → All IsUtf8 parts → chars (join separator parts) ≡ join (chars separator) (map chars parts)
chars-join separator [] is each = chars-nil
chars-join separator (part ∷ []) is each = refl
chars-join separator (part ∷ next ∷ parts) is each =
    rw (
      chars-append part (separator ++ join separator (next ∷ parts)) (All-head IsUtf8 part (next ∷ parts) each),
      chars-append separator (join separator (next ∷ parts)) is,
      chars-join separator (next ∷ parts) is (All-tail IsUtf8 part (next ∷ parts) each),
    ) refl

-- so a split gives the joined texts back, by characters
pub texts_come_back : (separator : List ℕ) (texts parts : List (List ℕ)) → 0 < length separator → IsUtf8 separator → All IsUtf8 texts
    → ArePartsFromFront (chars (join separator texts)) (chars separator) None parts → (parts ≡ map chars texts) ↔ AreSeparable (chars separator) (map chars texts)
texts_come_back separator texts parts some is each are =
    come_back (chars separator) (chars-some separator is some) (map chars texts) parts
    (subst (λ t. ArePartsFromFront t (chars separator) None parts) (chars-join separator texts is each) are)
