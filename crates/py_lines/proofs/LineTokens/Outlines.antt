-- What the text of a logical line shows of it without its tokens: its indentation, and what it holds, by the byte after mark and space.
use Rattle.py_lines.proofs.Prelude.{◌≡◌, ℕ, ◌+◌, ◌-◌, ◌<◌, ◌≤◌, ◌⊎◌, inl, inr, ◌&&◌, ◌||◌, ◌==◌, Bool, true, false, List, [], ◌∷◌, ◌++◌, append-nil, refl, sym, ap, ◌∙◌, subst, transport, arith, ⊎_elim, length, length-drop, length-le-encodes, list_all, drop, encode_utf8_all, if◌then◌else◌, prefix_len, prefix_len-le-length, prefix_len_passes, prefix_len_stops, and_parts, both_ways, cases_lt, or_cases, false_from_ne_true, zero-add, add-zero, is_break, is_hash, is_line_feed, is_return, is_space, depth_after, Token, AreReadBefore, InClass, MayPrecede, EachLiesIn, byte_len-append}
use Rattle.py_lines.specs.Piece.{Class, mark, space, word, string, operator, comment, join, line_end, Piece, begins, begins_marked, is_mark_class, spelled}
use Rattle.py_lines.specs.PieceGrammar.{feed, return_feed, return}
use Rattle.py_lines.specs.LogicalLine.{LogicalLine, byte_len, cut, end_len_of, indent_of, is_code_class, is_line_end_class, kind_of, line_ends, line_of, put_first, space_len, token, tokens_from}
use Rattle.py_lines.specs.declared.token.TokKind.TheVariants as kind
use Rattle.py_lines.specs.declared.unit.UnitKind.TheVariants as unit_kind
use Rattle.py_lines.specs.Private.LineTokens.{AreLineText, AreTextAt, BeginWithPiece, mark_len}
use Rattle.py_lines.specs.Private.Machine.{Start, start_of}
use Rattle.py_lines.specs.Outline.{IsOutlineOf, Outline, outline_of}
use Rattle.py_lines.specs.Private.Outline.{indent_in, kind_from, kind_in, outline_at, unmarked, with_tokens}
use Rattle.py_lines.specs.Private.Run.{IsRunOf}
use Rattle.py_lines.proofs.Lexings.FirstLines.{piece_some}
use Rattle.py_lines.proofs.LineScan.AsciiRuns.{break_low}
use Rattle.py_lines.proofs.LineTokens.FirstCharacters.{BeginsSo, OfStart, begins_so, hash_is}
use Rattle.py_lines.proofs.LineTokens.FirstPieces.{space_unbroken}
use Rattle.py_lines.proofs.LineTokens.Lines.{first_read, first_space, has_mark, is_mark_or, marked_indent, no_line_end, no_mark, text_after, unmarked_indent}
use Rattle.py_lines.proofs.LogicalLines.TokenPlaces.{each_after}
use Rattle.py_lines.proofs.Machine.Starts.{start-feed, start-hash, start-return}
use Rattle.py_lines.proofs.Text.HighBytes.{high_bytes, low_even}
use Rattle.py_lines.proofs.Text.Utf8Shapes.{one}

-- a run of bytes is as long as the prefix that passes
pub run_prefix : (passes : ℕ → Bool) (bytes : List ℕ) (n : ℕ) → IsRunOf passes bytes n → n ≡ prefix_len passes bytes
run_prefix passes bytes n run = ⊎_elim (λ less. absurd (both_ways _ (run.ends (omega (arith, less, prefix_len-le-length passes bytes))) (prefix_len_passes passes bytes n 0 less)))
    (λ more. ⊎_elim (λ less. absurd (both_ways _ (prefix_len_stops passes bytes 0 (omega (arith, less, run.within))) (run.each (prefix_len passes bytes) less)))
    (λ same. omega (arith, more, same)) (cases_lt (prefix_len passes bytes) n)) (cases_lt n (prefix_len passes bytes))

prefix_run : (passes : ℕ → Bool) (bytes : List ℕ) → IsRunOf passes bytes (prefix_len passes bytes)
prefix_run passes bytes = record {
  within = prefix_len-le-length passes bytes;
  each = λ i less. prefix_len_passes passes bytes i 0 less;
  ends = λ less. prefix_len_stops passes bytes 0 less;
}

-- what characters show their bytes show
encoded_kind : (cs : List ℕ) → kind_from (encode_utf8_all cs) ≡ kind_from cs
encoded_kind [] = refl
encoded_kind (c ∷ cs) = ⊎_elim (λ low. ap (λ t. kind_from (t ++ encode_utf8_all cs)) (one c low)) high (cases_lt c 128) where
  hash_low : (d : ℕ) → is_hash d ≡ true → d < 128
  hash_low d is = omega (arith, hash_is d is)

  high : 128 ≤ c → kind_from (encode_utf8_all (c ∷ cs)) ≡ kind_from (c ∷ cs)
  high up =
      let bytes = high_bytes c up in
      let breaks = low_even is_break break_low bytes.first c bytes.high.0 up in
      let hashes = low_even is_hash hash_low bytes.first c bytes.high.0 up in
      ap (λ t. kind_from (t ++ encode_utf8_all cs)) bytes.is
      ∙ (λ i. if breaks i then unit_kind.Blank else (if hashes i then unit_kind.Comment else unit_kind.Code))

break_cases : (c : ℕ) → is_break c ≡ true → (is_line_feed c ≡ true) ⊎ (is_return c ≡ true)
unfolding is_break is_line_feed is_return
break_cases c is = or_cases ((c == 10) || false) ((c == 13) || false) (grind (arith, is))

-- a piece that is code begins with no line end and no `#`
code_shown : (p : Class) (text rest : List ℕ) → is_code_class p ≡ true → BeginsSo p text → kind_from (text ++ rest) ≡ unit_kind.Code
code_shown p text rest code b = ap (λ t. kind_from (t ++ rest)) b.is ∙ rw (no_break, no_hash) refl where
  of : (s : Start) → start_of b.first ≡ s → OfStart s p
  of s starts = subst (λ (t : Start). OfStart t p) starts b.so

  never : (k : Class) → is_code_class k ≡ false → p ≡ k → ⊥
  never k none is = both_ways _ none (ap is_code_class (sym is) ∙ code)

  no_hash : is_hash b.first ≡ false
  no_hash = false_from_ne_true _ (λ is. never comment refl (of _ (start-hash b.first is)))

  no_break : is_break b.first ≡ false
  no_break = false_from_ne_true _ (λ is. ⊎_elim (λ feeds. never line_end refl (of _ (start-feed b.first feeds)))
      (λ returns. never line_end refl (of _ (start-return b.first returns))) (break_cases b.first is))

-- what stands after mark and space in a line
pub record IsContent (ps : List Piece) (after : List ℕ) : Type 0 where
  pub fit : AreReadBefore ps after
  pub unmarked : begins_marked ps ≡ false
  pub unspaced : first_space ps ≡ 0
  pub whole : (ps ≡ []) ⊎ (cut 0 ps ≡ ps ∷ [])

-- the first part of what is cut is whole
first_part : (p : Piece) (ps : List Piece) (us : List (List Piece)) → put_first p us ≡ (p ∷ ps) ∷ [] → (ps ≡ []) ⊎ (us ≡ ps ∷ [])
first_part p ps [] is = inl (let none : [] ≡ ps = cc in sym none)
first_part p ps (u ∷ us) is = inr (let first : u ≡ ps = cc in let others : us ≡ [] = cc in λ i. first i ∷ others i)

-- where a line ends, no piece follows
ends_whole : (p : Piece) (ps : List Piece) → p.class ≡ line_end → (p ∷ ps ≡ []) ⊎ (cut 0 (p ∷ ps) ≡ (p ∷ ps) ∷ []) → ps ≡ []
ends_whole p ps is (inl none) = absurd (cc)
ends_whole p ps is (inr whole) =
    let ended : (p ∷ []) ∷ cut 0 ps ≡ (p ∷ ps) ∷ [] = sym (ap (λ (k : Class). if is_line_end_class k && true then (p ∷ []) ∷ cut 0 ps else put_first p (cut (depth_after 0 p) ps)) is) ∙ whole in
    let first : [] ≡ ps = cc in sym first

break_shown : (text rest : List ℕ) → InClass line_end text → kind_from (text ++ rest) ≡ unit_kind.Blank
unfolding is_break
break_shown text rest (feed is) = ap (λ t. kind_from (t ++ rest)) is
break_shown text rest (return_feed is) = ap (λ t. kind_from (t ++ rest)) is
break_shown text rest (return is) = ap (λ t. kind_from (t ++ rest)) is

comment_shown : (text rest : List ℕ) → InClass comment text → kind_from (text ++ rest) ≡ unit_kind.Comment
unfolding is_break is_hash
comment_shown text rest is = ap (λ t. kind_from (t ++ rest)) (is.2 ∙ ap (λ c. c ∷ is.1) (hash_is is.0 is.3))

-- after a comment alone nothing follows but a line end
abbrev pub IsNoneOrEnd : List Piece → Type 0
IsNoneOrEnd ps = (ps ≡ []) ⊎ ((q : Piece) × (ps ≡ q ∷ []) × (q.class ≡ line_end))

pub after_comment : (p : Piece) (ps : List Piece) (after : List ℕ) → IsContent (p ∷ ps) after → p.class ≡ comment → IsNoneOrEnd ps
after_comment p [] after is comments = inl refl
after_comment p (q ∷ rs) after is comments = inr found where
  begun : BeginsSo q.class q.text
  begun = begins_so q.class q.text is.fit.2 is.fit.3.0

  begins_break : is_break begun.first ≡ true
  begins_break = ⊎_elim (λ (none : q.text ++ spelled rs ++ after ≡ []). absurd (let clash = ap (λ t. t ++ spelled rs ++ after) (sym begun.is) ∙ none in cc))
      (λ breaks. ap (λ t. begins is_break (t ++ spelled rs ++ after)) (sym begun.is) ∙ breaks)
      (subst (λ (k : Class). MayPrecede k p.text (q.text ++ spelled rs ++ after)) comments is.fit.1)

  of : (s : Start) → start_of begun.first ≡ s → OfStart s q.class
  of s starts = subst (λ (t : Start). OfStart t q.class) starts begun.so

  ends : q.class ≡ line_end
  ends = ⊎_elim (λ feeds. of _ (start-feed begun.first feeds)) (λ returns. of _ (start-return begun.first returns)) (break_cases begun.first begins_break)

  none : rs ≡ []
  none = ends_whole q rs ends (⊎_elim (λ no. absurd (cc)) (λ whole. first_part (record { class = comment; text = p.text }) (q ∷ rs) (cut 0 (q ∷ rs))
      (subst (λ (k : Class). let r : Piece = record { class = k; text = p.text } in cut 0 (r ∷ q ∷ rs) ≡ (r ∷ q ∷ rs) ∷ []) comments whole)) is.whole)

  found : (r : Piece) × (q ∷ rs ≡ r ∷ []) × (r.class ≡ line_end)
  found = (q, ap (λ (l : List Piece). q ∷ l) none, ends)

-- what the characters of content show it holds
content_kind : (ps : List Piece) (after : List ℕ) → IsContent ps after → kind_from (spelled ps) ≡ kind_of ps
content_kind [] after is = refl
content_kind (p ∷ ps) after is = go p.class refl where
  begun : BeginsSo p.class p.text
  begun = begins_so p.class p.text is.unmarked is.fit.0

  same : (k : Class) → p.class ≡ k → kind_of (p ∷ ps) ≡ kind_of (record { class = k; text = p.text } ∷ ps)
  same k class = ap (λ (j : Class). kind_of (record { class = j; text = p.text } ∷ ps)) class

  code : (k : Class) → p.class ≡ k → is_code_class k ≡ true → kind_from (p.text ++ spelled ps) ≡ kind_of (p ∷ ps)
  code k class codes = code_shown p.class p.text (spelled ps) (ap is_code_class class ∙ codes) begun ∙ sym (same k class ∙ rw codes refl)

  commented : p.class ≡ comment → IsNoneOrEnd ps → kind_of (record { class = comment; text = p.text } ∷ ps) ≡ unit_kind.Comment
  commented class (inl none) = rw none refl
  commented class (inr (q, alone, ends)) = rw alone (ap (λ (j : Class). kind_of (record { class = comment; text = p.text } ∷ record { class = j; text = q.text } ∷ [])) ends)

  go : (k : Class) → p.class ≡ k → kind_from (p.text ++ spelled ps) ≡ kind_of (p ∷ ps)
  go mark class = absurd (both_ways _ is.unmarked (ap is_mark_class class))
  go space class = absurd (omega (arith, is.unspaced, ap (λ (k : Class). space_len k p.text) class, piece_some p.class p.text is.fit.0, length-le-encodes p.text))
  go comment class = comment_shown p.text (spelled ps) (subst (λ (k : Class). InClass k p.text) class is.fit.0)
      ∙ sym (same comment class ∙ commented class (after_comment p ps after is class))
  go line_end class = break_shown p.text (spelled ps) (subst (λ (k : Class). InClass k p.text) class is.fit.0)
      ∙ sym (same line_end class ∙ ap (λ qs. kind_of (record { class = line_end; text = p.text } ∷ qs)) (ends_whole p ps class is.whole))
  go word class = code word class refl
  go string class = code string class refl
  go operator class = code operator class refl
  go join class = code join class refl

-- a comment, and after it nothing but a line end
record IsCommentFirst (ps : List Piece) : Type 0 where
  text : List ℕ
  others : List Piece
  is : ps ≡ record { class = comment; text = text } ∷ others
  some : 0 < byte_len text
  last : IsNoneOrEnd others

comment_first : (ps : List Piece) (after : List ℕ) → IsContent ps after → kind_of ps ≡ unit_kind.Comment → IsCommentFirst ps
comment_first [] after is comments = absurd (cc)
comment_first (p ∷ ps) after is comments = go p.class refl where
  same : (k : Class) → p.class ≡ k → kind_of (record { class = k; text = p.text } ∷ ps) ≡ unit_kind.Comment
  same k class = sym (ap (λ (j : Class). kind_of (record { class = j; text = p.text } ∷ ps)) class) ∙ comments

  some : 0 < byte_len p.text
  some = omega (arith, piece_some p.class p.text is.fit.0, length-le-encodes p.text)

  go : (k : Class) → p.class ≡ k → IsCommentFirst (p ∷ ps)
  go comment class = record {
    text = p.text;
    others = ps;
    is = ap (λ (k : Class). record { class = k; text = p.text } ∷ ps) class;
    some = some;
    last = after_comment p ps after is class;
  }
  go mark class = absurd (both_ways _ is.unmarked (ap is_mark_class class))
  go space class = absurd (omega (arith, is.unspaced, ap (λ (k : Class). space_len k p.text) class, some))
  go line_end class = absurd (let clash = sym (same line_end class) ∙ ap (λ qs. kind_of (record { class = line_end; text = p.text } ∷ qs)) (ends_whole p ps class is.whole) in cc)
  go word class = absurd (let clash = same word class in cc)
  go string class = absurd (let clash = same string class in cc)
  go operator class = absurd (let clash = same operator class in cc)
  go join class = absurd (let clash = same join class in cc)

last_parts : (text : List ℕ) (others : List Piece) → IsNoneOrEnd others
    → ((start line : ℕ) → tokens_from start line others ≡ []) × (end_len_of (record { class = comment; text = text } ∷ others) ≡ byte_len (spelled others))
last_parts text others (inl none) = (λ start line. ap (tokens_from start line) none, rw none refl)
last_parts text others (inr (q, alone, ends)) =
    let told : others ≡ record { class = line_end; text = q.text } ∷ [] = alone ∙ ap (λ (k : Class). record { class = k; text = q.text } ∷ []) ends in
    (λ start line. ap (tokens_from start line) told, rw (told, append-nil q.text) refl)

-- after space stands no other
not_spaced : (ps : List Piece) (after : List ℕ) → begins is_space (spelled ps ++ after) ≡ false → AreReadBefore ps after → first_space ps ≡ 0
not_spaced [] after none fit = refl
not_spaced (p ∷ ps) after none fit = go p.class refl where
  go : (k : Class) → p.class ≡ k → space_len p.class p.text ≡ 0
  go space class =
      let (first, others, is, run) = subst (λ (k : Class). InClass k p.text) class fit.0 in
      absurd (both_ways _ (ap (λ t. begins is_space (t ++ spelled ps ++ after)) (sym is) ∙ none) (and_parts (is_space first) _ (ap (list_all is_space) (sym is) ∙ run)).0)
  go other class = ap (λ (k : Class). space_len k p.text) class

-- what comes after space, and after a mark, in a line
record HasContent (first start : ℕ) (bytes : List ℕ) (pieces : List Piece) (n : ℕ) : Type 0 where
  left : List Piece
  after : List ℕ
  is : IsContent left after
  spell : encode_utf8_all (spelled left) ≡ drop n bytes
  kind : kind_of left ≡ kind_of pieces
  tokens : (line : ℕ) → tokens_from first line pieces ≡ tokens_from (start + n) line left
  ends : end_len_of left ≡ end_len_of pieces

spaced : (start : ℕ) (bytes : List ℕ) (depth : ℕ) (ps : List Piece) → AreTextAt depth bytes ps → begins_marked ps ≡ false
    → (ps ≡ []) ⊎ (cut 0 ps ≡ ps ∷ []) → HasContent start start bytes ps (first_space ps)
spaced start bytes depth [] are unmarked whole = record {
  left = [];
  after = are.after;
  is = record { fit = are.fit; unmarked = unmarked; unspaced = refl; whole = whole };
  spell = are.spell;
  kind = refl;
  tokens = λ line. refl;
  ends = refl;
}
spaced start bytes depth (p ∷ ps) are unmarked whole = go p.class refl where
  other : space_len p.class p.text ≡ 0 → HasContent start start bytes (p ∷ ps) (space_len p.class p.text)
  other none = record {
    left = p ∷ ps;
    after = are.after;
    is = record { fit = are.fit; unmarked = unmarked; unspaced = none; whole = whole };
    spell = are.spell ∙ ap (λ n. drop n bytes) (sym none);
    kind = refl;
    tokens = λ line. ap (λ n. tokens_from n line (p ∷ ps)) (sym (ap (λ n. start + n) none ∙ add-zero start));
    ends = refl;
  }

  b : BeginWithPiece bytes p
  b = record { unmarked = unmarked; others = ps; depth = depth; text = are }

  told : (k : Class) → p.class ≡ k → p ≡ record { class = k; text = p.text }
  told k class = ap (λ (j : Class). record { class = j; text = p.text }) class

  go : (k : Class) → p.class ≡ k → HasContent start start bytes (p ∷ ps) (space_len p.class p.text)
  go space class =
      let size : space_len p.class p.text ≡ byte_len p.text = ap (λ (k : Class). space_len k p.text) class in
      let rest = text_after depth bytes p ps are in
      let counted : 0 ≡ line_ends p.text = space_unbroken b class in record {
        left = ps;
        after = are.after;
        is = record {
          fit = are.fit.3;
          unmarked = are.fit.2;
          unspaced = not_spaced ps are.after (subst (λ (k : Class). MayPrecede k p.text (spelled ps ++ are.after)) class are.fit.1) are.fit.3;
          whole = ⊎_elim (λ none. absurd (cc)) (λ one. first_part (record { class = space; text = p.text }) ps (cut 0 ps)
              (subst (λ (q : Piece). cut 0 (q ∷ ps) ≡ (q ∷ ps) ∷ []) (told space class) one)) whole;
        };
        spell = rest.spell ∙ ap (λ n. drop n bytes) (sym size);
        kind = sym (ap (λ (q : Piece). kind_of (q ∷ ps)) (told space class));
        tokens = λ line. ap (λ (q : Piece). tokens_from start line (q ∷ ps)) (told space class)
            ∙ (λ i. tokens_from (start + sym size i) ((ap (λ n. line + n) (sym counted) ∙ add-zero line) i) ps);
        ends = no_line_end p ps (ap is_line_end_class class);
      }
  go mark class = absurd (both_ways _ unmarked (ap is_mark_class class))
  go word class = other (ap (λ (k : Class). space_len k p.text) class)
  go string class = other (ap (λ (k : Class). space_len k p.text) class)
  go operator class = other (ap (λ (k : Class). space_len k p.text) class)
  go comment class = other (ap (λ (k : Class). space_len k p.text) class)
  go join class = other (ap (λ (k : Class). space_len k p.text) class)
  go line_end class = other (ap (λ (k : Class). space_len k p.text) class)

-- a line's content, and its indentation
record HasParts (text : List ℕ) (pieces : List Piece) : Type 0 where
  content : HasContent 0 (mark_len text) (unmarked text) pieces (indent_in text)
  indent : indent_in text ≡ indent_of pieces

module _ (text : List ℕ) where
  parts_after : (pieces ps : List Piece) (depth : ℕ) → AreTextAt depth (unmarked text) ps → begins_marked ps ≡ false → (ps ≡ []) ⊎ (cut 0 ps ≡ ps ∷ [])
      → kind_of ps ≡ kind_of pieces → ((line : ℕ) → tokens_from 0 line pieces ≡ tokens_from (mark_len text) line ps)
      → end_len_of ps ≡ end_len_of pieces → indent_of pieces ≡ first_space ps → HasParts text pieces
  parts_after pieces ps depth are bare whole kind tokens ends indent =
      let c = spaced (mark_len text) (unmarked text) depth ps are bare whole in
      let n : indent_in text ≡ first_space ps = first_read (unmarked text) depth ps _ are bare (prefix_run is_space (unmarked text)) in
      record {
        content = subst (HasContent 0 (mark_len text) (unmarked text) pieces) (sym n) (record {
          left = c.left;
          after = c.after;
          is = c.is;
          spell = c.spell;
          kind = c.kind ∙ kind;
          tokens = λ line. tokens line ∙ c.tokens line;
          ends = c.ends ∙ ends;
        });
        indent = n ∙ sym indent;
      }

  parts_marked : (p : Piece) (ps : List Piece) → AreLineText text (p ∷ ps) → cut 0 (p ∷ ps) ≡ (p ∷ ps) ∷ [] → p.class ≡ mark → HasParts text (p ∷ ps)
  parts_marked p ps are whole class =
      let (len, counted) = has_mark text p ps are class in
      let told : p ≡ record { class = mark; text = p.text } = ap (λ (k : Class). record { class = k; text = p.text }) class in
      parts_after (p ∷ ps) ps (depth_after 0 p) (subst (λ k. AreTextAt (depth_after 0 p) (drop k text) ps) (sym len) (text_after 0 text p ps are)) are.fit.2
      (first_part (record { class = mark; text = p.text }) ps (cut 0 ps) (subst (λ (q : Piece). cut 0 (q ∷ ps) ≡ (q ∷ ps) ∷ []) told whole))
      (sym (ap (λ (q : Piece). kind_of (q ∷ ps)) told))
      (λ line. ap (λ (q : Piece). tokens_from 0 line (q ∷ ps)) told ∙ rw (zero-add (byte_len p.text), len, counted, add-zero line) refl)
      (no_line_end p ps (ap is_line_end_class class)) (marked_indent p ps class)

  parts_bare : (ps : List Piece) → AreLineText text ps → cut 0 ps ≡ ps ∷ [] → begins_marked ps ≡ false → HasParts text ps
  parts_bare ps are whole bare =
      let none = sym (no_mark text ps are bare) in
      parts_after ps ps 0 (subst (λ k. AreTextAt 0 (drop k text) ps) none are) bare (inr whole) refl (λ line. ap (λ k. tokens_from k line ps) none) refl
      (unmarked_indent ps bare)

  parts : (ps : List Piece) → AreLineText text ps → cut 0 ps ≡ ps ∷ [] → HasParts text ps
  parts [] are whole = absurd (cc)
  parts (p ∷ ps) are whole = ⊎_elim (parts_marked p ps are whole) (parts_bare (p ∷ ps) are whole) (is_mark_or p.class)

  -- its text shows what it is without its tokens
  module _ {pieces : List Piece} (are : AreLineText text pieces) (whole : cut 0 pieces ≡ pieces ∷ []) where
    own : HasParts text pieces
    own = parts pieces are whole

    kind_told : kind_in text ≡ kind_of pieces
    kind_told =
        let c = own.content in
        ap kind_from (sym c.spell) ∙ encoded_kind (spelled c.left) ∙ content_kind c.left c.after c.is ∙ c.kind

    pub line_told : (offset line end_len : ℕ) → end_len ≡ end_len_of pieces → outline_of (line_of offset line pieces) ≡ outline_at text offset line end_len
    line_told offset line end_len ends = λ i. record {
      kind = sym kind_told i;
      text = are.spell i;
      offset = offset;
      line = line;
      indent = sym own.indent i;
      end_len = sym ends i;
    }

    -- and with its tokens it is this line
    pub line_whole : (offset line end_len : ℕ) {tokens : List Token} → end_len ≡ end_len_of pieces → tokens ≡ tokens_from 0 line pieces
        → with_tokens (outline_at text offset line end_len) tokens ≡ line_of offset line pieces
    line_whole offset line end_len ends is = λ i. with_tokens (sym (line_told offset line end_len ends) i) (is i)

    -- and where it is a comment alone, what its token is
    pub comment_token : kind_of pieces ≡ unit_kind.Comment → (line : ℕ)
        → let start = mark_len text + indent_in text in let stop = length text - end_len_of pieces in
        (tokens_from 0 line pieces ≡ token kind.Remark start stop line ∷ []) × (start ≤ stop) × (end_len_of pieces ≤ length text)
    comment_token comments line = by (comment_first own.content.left own.content.after own.content.is (own.content.kind ∙ comments)) where
      c : HasContent 0 (mark_len text) (unmarked text) pieces (indent_in text)
      c = own.content

      n : ℕ
      n = mark_len text + indent_in text

      size : byte_len (spelled c.left) ≡ length text - mark_len text - indent_in text
      size = ap length c.spell ∙ length-drop (indent_in text) (unmarked text) ∙ ap (λ k. k - indent_in text) (length-drop (mark_len text) text)

      by : IsCommentFirst c.left → (tokens_from 0 line pieces ≡ token kind.Remark n (length text - end_len_of pieces) line ∷ [])
          × (n ≤ length text - end_len_of pieces) × (end_len_of pieces ≤ length text)
      by f =
          let (none, last) = last_parts f.text f.others f.last in
          let whole_size : byte_len (spelled c.left) ≡ byte_len f.text + byte_len (spelled f.others)
          = ap (λ ps. byte_len (spelled ps)) f.is ∙ byte_len-append f.text (spelled f.others) in
          let ends : end_len_of pieces ≡ byte_len (spelled f.others) = sym c.ends ∙ ap end_len_of f.is ∙ last in
          let stop : n + byte_len f.text ≡ length text - end_len_of pieces = omega (arith, size, whole_size, ends, f.some) in (
            c.tokens line ∙ ap (tokens_from n line) f.is
                ∙ (λ i. token kind.Remark n (stop i) line ∷ none (n + byte_len f.text) (line + line_ends f.text) i),
            omega (arith, stop),
            omega (arith, size, whole_size, ends, f.some),
          )

-- a line's outline says what its text shows
module _ {o : Outline} {line : LogicalLine} (is : IsOutlineOf o line) where
  pub text_of : AreLineText o.text is.pieces
  text_of = record {
    scalars = is.are.scalars;
    spell = sym (ap (λ (l : LogicalLine). l.text) is.is) ∙ ap (λ (p : Outline). p.text) is.same;
    after = is.after;
    fit = is.are.fit;
    shallow = is.are.shallow;
  }

  pub ends_of : o.end_len ≡ end_len_of is.pieces
  ends_of = sym (sym (ap (λ (l : LogicalLine). l.end_len) is.is) ∙ ap (λ (p : Outline). p.end_len) is.same)

  pub tokens_of : line.tokens ≡ tokens_from 0 o.line is.pieces
  tokens_of = ap (λ (l : LogicalLine). l.tokens) is.is

  pub lies_of : EachLiesIn o.text line.tokens
  lies_of = transport (λ i. EachLiesIn (text_of.spell i) (sym tokens_of i)) (each_after [] o.line is.pieces is.are.scalars)

  pub outline_shown : outline_at o.text o.offset o.line o.end_len ≡ o
  outline_shown = sym (line_told o.text text_of is.are.whole o.offset o.line o.end_len ends_of) ∙ sym (ap outline_of is.is) ∙ is.same

  pub token_of_comment : o.kind ≡ unit_kind.Comment
      → let start = mark_len o.text + o.indent in let stop = length o.text - o.end_len in
      (line.tokens ≡ token kind.Remark start stop o.line ∷ []) × (start ≤ stop) × (o.end_len ≤ length o.text)
  token_of_comment comments =
      let kind_is : kind_of is.pieces ≡ unit_kind.Comment
      = ap (λ (l : LogicalLine). l.kind) (sym is.is) ∙ ap (λ (p : Outline). p.kind) is.same ∙ comments in
      let indent = ap (λ (p : Outline). p.indent) outline_shown in
      subst (λ (n : ℕ). let start = mark_len o.text + n in let stop = length o.text - o.end_len in
      (line.tokens ≡ token kind.Remark start stop o.line ∷ []) × (start ≤ stop) × (o.end_len ≤ length o.text)) indent
      (subst (λ (n : ℕ). let start = mark_len o.text + indent_in o.text in let stop = length o.text - n in
      (line.tokens ≡ token kind.Remark start stop o.line ∷ []) × (start ≤ stop) × (n ≤ length o.text)) (sym ends_of)
      (let (tokens, less, within) = comment_token o.text text_of is.are.whole kind_is o.line in (tokens_of ∙ tokens, less, within)))

  pub with_own : {tokens : List Token} → tokens ≡ line.tokens → with_tokens o tokens ≡ line
  with_own are = λ i. with_tokens (sym is.same i) (are i)
