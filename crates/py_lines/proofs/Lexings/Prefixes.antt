-- The longest prefix of a text that is read and ends a line: there is one, and no other. So every text has one list of logical lines, and
-- then its end or one fault.
use Rattle.py_lines.proofs.Prelude.{◌≡◌, ℕ, ◌≤◌, ◌<◌, true, false, ◌==◌, Option, None, Some, List, [], ◌∷◌, ◌++◌, ◌⊎◌, inl, inr, length, take, drop, zero, suc, refl, sym, ap, ◌∙◌, subst, ⊎_elim, take-append-drop, length-append, arith, same_from_push, length-take, take-append_seam, drop-append_seam, both_ways, cases_Bool, cases_lt, eqb-true, eq-eqb, is_return, Class, line_end, Piece, ends, spelled, depth_through, Fault}
use Rattle.py_lines.specs.Balance as balance
use Rattle.py_lines.specs.Reading.{Decodes, EndsLine, IsLongest, IsReadPrefix, IsBalancedReading}
use Rattle.py_lines.specs.Settled.{EndsForGood, IsSettled, IsSettledPrefix}
use Rattle.py_lines.specs.Faults.{IsReadOrFaulty, IsLexicalFault}
use Rattle.py_lines.specs.Lexed.{IsLexed, IsLexedWhole, IsLexedToFault}
use Rattle.py_lines.specs.LogicalLine.{LogicalLine, lines_of}
use Rattle.py_lines.proofs.Text.Decoding.{decoding, decoded}
use Rattle.py_lines.proofs.Fields.OneReading.{one_fielded_reading, one_fielded_lexing}
use Rattle.py_lines.proofs.Lexings.Existence.{fault_unread, read_or_faulty, with_line}
use Rattle.py_lines.proofs.Faults.FaultPrefixes.{field_fault_prefix}
use Rattle.py_lines.proofs.Faults.Verdict.{one_field_fault}

-- two prefixes of one text that are as long are the same
same_prefix : (a b x y : List ℕ) → a ++ x ≡ b ++ y → length a ≡ length b → (a ≡ b) × (x ≡ y)
same_prefix a b x y same len = (
  sym (take-append_seam a x) ∙ (λ i. take (len i) (same i)) ∙ take-append_seam b y,
  sym (drop-append_seam a x) ∙ (λ i. drop (len i) (same i)) ∙ drop-append_seam b y,
)

-- the longest of the prefixes of a text that are good, where the empty one is, and each can be decided
pub record LongestGood (Good : List ℕ → List ℕ → Type 0) (characters : List ℕ) (most : ℕ) : Type 0 where
  pub first : List ℕ
  pub rest : List ℕ
  pub spell : first ++ rest ≡ characters
  pub good : Good first rest
  pub longest : (others after : List ℕ) → others ++ after ≡ characters → Good others after → length others ≤ most → length others ≤ length first

module _ (Good : List ℕ → List ℕ → Type 0) (decide : (xs ys : List ℕ) → Good xs ys ⊎ ¬ (Good xs ys)) (characters : List ℕ) (none : Good [] characters) where
  pub longest_up_to : (n : ℕ) → LongestGood Good characters n
  longest_up_to zero = record { first = []; rest = characters; spell = refl; good = none; longest = λ others after same is few. few }
  longest_up_to (suc n) = go (decide (take (suc n) characters) (drop (suc n) characters)) (longest_up_to n) where
    whole : take (suc n) characters ++ drop (suc n) characters ≡ characters
    whole = take-append-drop (suc n) characters

    go : Good (take (suc n) characters) (drop (suc n) characters) ⊎ ¬ (Good (take (suc n) characters) (drop (suc n) characters)) → LongestGood Good characters n → LongestGood Good characters (suc n)
    go (inl good) best = record {
      first = take (suc n) characters;
      rest = drop (suc n) characters;
      spell = whole;
      good = good;
      longest = λ others after same is few. omega (arith, few, ap length (sym same), length-append others after, length-take (suc n) characters);
    }
    go (inr bad) best = record {
      first = best.first;
      rest = best.rest;
      spell = best.spell;
      good = best.good;
      longest = λ others after same is few. ⊎_elim (λ (less : length others < suc n). best.longest others after same is (omega (arith, less)))
          (λ (all : suc n ≤ length others).
          let cut = same_prefix others (take (suc n) characters) after (drop (suc n) characters) (same ∙ sym whole) (omega (arith, few, all, ap length (sym same), length-append others after, length-take (suc n) characters)) in
          absurd (bad (subst (Good (take (suc n) characters)) cut.1 (subst (λ t. Good t after) cut.0 is)))) (cases_lt (length others) (suc n));
    }

-- whether pieces end a line
last_of : (p : Piece) (ps : List Piece) → (body : List Piece) × (last : Piece) × (p ∷ ps ≡ body ++ last ∷ [])
last_of p [] = ([], p, refl)
last_of p (q ∷ ps) = let others = last_of q ps in (p ∷ others.0, others.1, ap (λ l. p ∷ l) others.2)

line_end_class : (class : Class) → (class ≡ line_end) ⊎ ¬ (class ≡ line_end)
line_end_class line_end = inl refl
line_end_class other = inr (λ h. cc)

pub ends_line_or_not : (pieces : List Piece) → EndsLine pieces ⊎ ¬ (EndsLine pieces)
ends_line_or_not [] = inl (inl refl)
ends_line_or_not (p ∷ ps) = go (last_of p ps) where
  go : (body : List Piece) × (last : Piece) × (p ∷ ps ≡ body ++ last ∷ []) → EndsLine (p ∷ ps) ⊎ ¬ (EndsLine (p ∷ ps))
  go (body, last, is) = by (line_end_class last.class) (cases_Bool (depth_through 0 body == 0)) where
    back : EndsLine (p ∷ ps) → (last.class ≡ line_end) × (depth_through 0 body ≡ 0)
    back (inl none) = absurd (cc)
    back (inr (front, end, so, class, deep)) = let same = same_from_push body front last end (sym is ∙ so) in
        (ap (λ (x : Piece). x.class) same.1 ∙ class, ap (depth_through 0) same.0 ∙ deep)

    by : (last.class ≡ line_end) ⊎ ¬ (last.class ≡ line_end) → (depth_through 0 body == 0 ≡ true) ⊎ (depth_through 0 body == 0 ≡ false) → EndsLine (p ∷ ps) ⊎ ¬ (EndsLine (p ∷ ps))
    by (inl class) (inl level) = inl (inr (body, last, is, class, eqb-true (depth_through 0 body) 0 level))
    by (inr other) level = inr (λ ended. other (back ended).0)
    by (inl class) (inr deep) = inr (λ ended. both_ways _ deep (eq-eqb (depth_through 0 body) 0 (back ended).1))

pub ends_for_good_or_not : (pieces : List Piece) (rest : List ℕ) → EndsForGood pieces rest ⊎ ¬ (EndsForGood pieces rest)
ends_for_good_or_not pieces rest = go rest (ends_line_or_not pieces) (cases_Bool (ends is_return (spelled pieces))) where
  go : (r : List ℕ) → EndsLine pieces ⊎ ¬ (EndsLine pieces) → (ends is_return (spelled pieces) ≡ true) ⊎ (ends is_return (spelled pieces) ≡ false) → EndsForGood pieces r ⊎ ¬ (EndsForGood pieces r)
  go r (inr other) cr = inr (λ is. other is.0)
  go r (inl is) (inr other) = inl (is, λ none. other)
  go [] (inl is) (inl returns) = inr (λ good. both_ways _ (good.1 refl) returns)
  go (c ∷ cs) (inl is) (inl returns) = inl (is, λ none. absurd (cc))

-- the longest prefix that is read and ends so
good_or_not : (EndSo : List Piece → List ℕ → Type 0) → ((pieces : List Piece) (rest : List ℕ) → EndSo pieces rest ⊎ ¬ (EndSo pieces rest)) → (xs ys : List ℕ) → ((pieces : List Piece) × IsBalancedReading pieces xs × EndSo pieces ys) ⊎ ¬ ((pieces : List Piece) × IsBalancedReading pieces xs × EndSo pieces ys)
good_or_not EndSo decide xs ys = go (read_or_faulty xs []) where
  go : IsReadOrFaulty xs [] → ((pieces : List Piece) × IsBalancedReading pieces xs × EndSo pieces ys) ⊎ ¬ ((pieces : List Piece) × IsBalancedReading pieces xs × EndSo pieces ys)
  go (inr (kind, offset, fault)) = inr (λ is. fault_unread kind xs [] offset fault refl is.0 is.1)
  go (inl (whole, (pieces, reading))) = ⊎_elim (λ (ended : EndSo pieces ys). inl (pieces, reading, ended))
      (λ (other : ¬ (EndSo pieces ys)). inr (λ is. other (subst (λ (l : List Piece). EndSo l ys) (one_fielded_reading is.0 pieces xs is.1.reads reading.reads) is.2))) (decide pieces ys)

longest_exists : (EndSo : List Piece → List ℕ → Type 0) → ((pieces : List Piece) (rest : List ℕ) → EndSo pieces rest ⊎ ¬ (EndSo pieces rest)) → (characters : List ℕ) → EndSo [] characters → (pieces : List Piece) × IsLongest EndSo pieces characters
longest_exists EndSo decide characters none =
    let found = longest_up_to _ (good_or_not EndSo decide) characters ([], record { reads = record { spell = refl; fit = tt }; balanced = balance.none [] refl; shallow = tt }, none) (length characters) in
    let pieces = found.good.0 in let reading = found.good.1 in let same : spelled pieces ≡ found.first = reading.reads.spell in (
      pieces,
      record {
        rest = found.rest;
        spell = ap (λ t. t ++ found.rest) same ∙ found.spell;
        reading = subst (IsBalancedReading pieces) (sym same) reading;
        ended = found.good.2;
        longest = λ others after spell read ended. subst (λ t. length (spelled others) ≤ length t) (sym same)
            (found.longest (spelled others) after spell (others, read, ended) (omega (arith, ap length (sym spell) ∙ length-append (spelled others) after)));
      },
    )

-- and it is one
pub one_longest : (EndSo : List Piece → List ℕ → Type 0) (pieces others : List Piece) (characters : List ℕ) → IsLongest EndSo pieces characters → IsLongest EndSo others characters → pieces ≡ others
one_longest EndSo pieces others characters one two = grind (arith, same_prefix, one_fielded_reading)

-- so a text has logical lines, and then its end or its fault
pub some_lexing_of : (text : List ℕ) → (lines : List LogicalLine) × (end : Option Fault) × IsLexed text lines end
some_lexing_of text = go (read_or_faulty (decoding text).characters (decoding text).tail) where
  characters : List ℕ
  characters = (decoding text).characters

  tail : List ℕ
  tail = (decoding text).tail

  go : IsReadOrFaulty characters tail → (lines : List LogicalLine) × (end : Option Fault) × IsLexed text lines end
  go (inl (whole, (pieces, reading))) =
      (lines_of pieces, None, record { characters = characters; pieces = pieces; decodes = subst (Decodes text characters) whole (decoding text).decodes; reading = reading; cut = refl })
  go (inr (kind, offset, at)) = let (fault, is) = with_line characters tail kind offset at in let prefix : (pieces : List Piece) × IsReadPrefix pieces characters = longest_exists _ (λ pieces rest. ends_line_or_not pieces) characters (inl refl) in
      (lines_of prefix.0, Some fault, record { characters = characters; tail = tail; pieces = prefix.0; decodes = (decoding text).decodes; prefix = prefix.1; refused = is; cut = refl })

-- the known bytes of every text settle some lines
pub some_settled : (text : List ℕ) → (lines : List LogicalLine) × IsSettled text lines
some_settled text = let of = decoding text in let prefix : (pieces : List Piece) × IsSettledPrefix pieces of.characters of.tail
    = longest_exists _ (λ pieces rest. ends_for_good_or_not pieces (rest ++ of.tail)) of.characters (inl refl, λ none. refl) in (lines_of prefix.0, search (of, prefix.1))

never_both : (text : List ℕ) (lines others : List LogicalLine) (fault : Fault) → IsLexedWhole text lines → IsLexedToFault text others fault → ⊥
never_both text lines others fault r s =
    let same = decoded text r.characters s.characters [] s.tail r.decodes s.decodes in
    s.refused.unread (sym same.1) r.pieces (subst (λ (t : List ℕ). IsBalancedReading r.pieces t) same.0 r.reading)

-- its fault is of one kind, at one byte, on one line
pub same_fault : (characters tail : List ℕ) (fault second : Fault) → IsLexicalFault characters tail fault → IsLexicalFault characters tail second → fault ≡ second
same_fault characters tail fault second f g =
    let is = one_field_fault characters tail fault.kind second.kind fault.offset second.offset f.place g.place in
    let at = field_fault_prefix fault.kind characters tail fault.offset f.place in
    let line = f.line at.prefix at.rest at.spell at.place ∙ sym (g.line at.prefix at.rest at.spell (at.place ∙ is.1)) in
    λ i. record { kind = is.0 i; offset = is.1 i; line = line i }

-- so it has one list of lines, and one end
pub both_of : (text : List ℕ) (lines others : List LogicalLine) (end other : Option Fault) → IsLexed text lines end → IsLexed text others other → (lines ≡ others) × (end ≡ other)
both_of text lines others None None r s = (one_fielded_lexing text lines others r s, refl)
both_of text lines others None (Some fault) r s = absurd (never_both text lines others fault r s)
both_of text lines others (Some fault) None r s = absurd (never_both text others lines fault s r)
both_of text lines others (Some fault) (Some second) r s =
    let same = decoded text r.characters s.characters r.tail s.tail r.decodes s.decodes in
    let pieces = one_longest _ r.pieces s.pieces s.characters (subst (λ (t : List ℕ). IsReadPrefix r.pieces t) same.0 r.prefix) s.prefix in
    let refused = subst (λ (t : List ℕ). IsLexicalFault t s.tail fault) same.0 (subst (λ (t : List ℕ). IsLexicalFault r.characters t fault) same.1 r.refused) in
    (r.cut ∙ ap lines_of pieces ∙ sym s.cut, ap Some (same_fault s.characters s.tail fault second refused s.refused))

-- the known bytes settle one list of lines
pub one_settled : (text : List ℕ) (lines others : List LogicalLine) → IsSettled text lines → IsSettled text others → lines ≡ others
one_settled text lines others r s =
    let same = decoded text r.characters s.characters r.tail s.tail r.decodes s.decodes in
    let prefix = subst (λ (t : List ℕ). IsSettledPrefix r.pieces s.characters t) same.1 (subst (λ (t : List ℕ). IsSettledPrefix r.pieces t r.tail) same.0 r.prefix) in
    r.cut ∙ ap lines_of (one_longest _ r.pieces s.pieces s.characters prefix s.prefix) ∙ sym s.cut
