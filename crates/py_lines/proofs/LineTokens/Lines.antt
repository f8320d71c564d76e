-- How a line begins, with its mark and its indentation, and how its pieces are read one after another.
use mir.Val.{bool_byte}
use Rattle.py_lines.proofs.Prelude.{◌≡◌, ℕ, ◌+◌, ◌<◌, ◌≤◌, Bool, true, false, List, [], ◌∷◌, ◌++◌, length, drop, refl, sym, ap, ◌∙◌, subst, append_assoc, append-nil, arith, length-drop, zero, suc, ◌⊎◌, inl, inr, ⊎_elim, zero-add, add-zero, slice_index, encode_utf8_all, if◌then◌else◌, nat_eq, nat_lt, starts_with, drop-append_seam, drop-drop, encodes-append, length-le-encodes, both_ways, false_from_ne_true, Decides-eqb, starts_is, encode, is_mark, is_space, is_line_feed, is_return, depth_after, Token, AreReadBefore, InClass, rest_is, rest_of, byte_len-append}
use Rattle.py_lines.specs.Piece.{string, Class, line_end, mark, Piece, begins, spelled, space, begins_marked, is_mark_class}
use Rattle.py_lines.specs.LogicalLine.{byte_len, end_len_of, is_line_end_class, line_ends, tokens_of_piece, indent_of, space_len, tokens_from}
use Rattle.py_lines.specs.declared.class.Class.TheVariants as class
use Rattle.py_lines.specs.Private.LineTokens.{mark_bytes, mark_len, AreTextAt, BeginWithPiece, HaveReadOf, ReadsPiece, role_of, token_in, AreLineText, FirstPiece, HaveRead}
use Rattle.py_lines.specs.Private.Run.{IsRunOf}
use Rattle.py_lines.proofs.Text.Utf8Prefixes.{all_scalars-parts, prefix_chars}
use Rattle.py_lines.proofs.Lexings.FirstLines.{piece_some}
use Rattle.py_lines.proofs.LineScan.LineCount.{line_ends-bytes}
use Rattle.py_lines.proofs.Text.CharacterTests.{mark_is}
use Rattle.py_lines.proofs.LogicalLines.NextLine.{line_ends-spelled}
use Rattle.py_lines.proofs.LineTokens.FirstCharacters.{begins_so, class_told, first_of, unmarked_first}
use Rattle.py_lines.proofs.LineTokens.FirstPieces.{line_end_taken, spaces}

no_string : space ≡ string → ⊥
no_string is = cc

-- a piece's token is that of its part in the line
own_token : (class : Class) (text : List ℕ) (start stop line : ℕ) → token_in (role_of class text) start stop line ≡ tokens_of_piece start stop line class text
own_token mark text start stop line = refl
own_token class text start stop line = refl

-- the text after the first piece
pub text_after : (depth : ℕ) (bytes : List ℕ) (p : Piece) (ps : List Piece) → AreTextAt depth bytes (p ∷ ps)
    → AreTextAt (depth_after depth p) (drop (byte_len p.text) bytes) ps
text_after depth bytes p ps is = record {
  scalars = (all_scalars-parts p.text (spelled ps) is.scalars).1;
  spell =
      sym (ap (drop (byte_len p.text)) (sym is.spell ∙ encodes-append p.text (spelled ps))
      ∙ drop-append_seam (encode_utf8_all p.text) (encode_utf8_all (spelled ps)));
  after = is.after;
  fit = is.fit.3;
  shallow = is.shallow.2;
}

-- a piece that was read there: there is room for it, and the line is read so far
pub record IsReadNext (text : List ℕ) (pieces : List Piece) (first start line len ends : ℕ) (t : List Token) : Type 0 where
  pub some : 0 < len
  pub within : start + len ≤ length text
  pub lines : line + ends ≤ first + length text
  pub left : List Piece
  pub more : HaveReadOf text pieces left first (start + len) (line + ends) t

-- the line ends of pieces are those of the first and of the others
line_ends-first : (p : Piece) (ps : List Piece) (after : List ℕ) → AreReadBefore (p ∷ ps) after
    → line_ends (spelled (p ∷ ps)) ≡ line_ends p.text + line_ends (spelled ps)
line_ends-first p ps after fit = omega (arith, line_ends-spelled (p ∷ ps) after fit, line_ends-spelled ps after fit.3)

-- the line end of these pieces is that of those after the first
abbrev pub KeepsEnd : List Piece → Type 0
KeepsEnd [] = Unit {0}
KeepsEnd (p ∷ qs) = end_len_of qs ≡ end_len_of (p ∷ qs)

pub no_line_end : (p : Piece) (qs : List Piece) → is_line_end_class p.class ≡ false → KeepsEnd (p ∷ qs)
no_line_end p [] inside = rw inside refl
no_line_end p (q ∷ qs) inside = refl

-- a piece of space
abbrev space_of : List ℕ → Piece
space_of cs = record { class = space; text = cs }

module _ {text : List ℕ} {pieces : List Piece} {first start line : ℕ} {t : List Token} where
  -- the next piece of a line that isn't read to its end
  begins_next : (p : Piece) (qs : List Piece) → HaveReadOf text pieces (p ∷ qs) first start line t → BeginWithPiece (rest_of text start) p
  begins_next p qs h = subst (λ (l : List ℕ). BeginWithPiece l p) (sym (rest_is text start))
      (record { unmarked = h.unmarked; others = qs; depth = h.depth; text = h.are })

  pub has_next : (left : List Piece) → HaveReadOf text pieces left first start line t → start < length text
      → (p : Piece) × BeginWithPiece (rest_of text start) p
  has_next [] h inside = absurd (omega (arith, inside, ap length h.are.spell, length-drop start text))
  has_next (p ∷ qs) h inside = (p, begins_next p qs h)

  pub read_next : {len ends : ℕ} {u : List Token} (left : List Piece) → AreLineText text pieces → HaveReadOf text pieces left first start line t
      → start < length text → KeepsEnd left → ReadsPiece (rest_of text start) t start line len ends u → IsReadNext text pieces first start line len ends u
  read_next [] is h inside kept r = absurd (omega (arith, inside, ap length h.are.spell, length-drop start text))
  read_next {len = len} (p ∷ qs) is h inside kept r =
      let lines : line_ends (spelled (p ∷ qs)) ≡ line_ends p.text + line_ends (spelled qs) = line_ends-first p qs h.are.after h.are.fit in
      let some : 0 < byte_len p.text = omega (arith, piece_some p.class p.text h.are.fit.0, length-le-encodes p.text) in
      let taken = r.is p (begins_next p qs h) in let size = ap (λ (y : FirstPiece). y.len) taken in
      let counted = ap (λ (y : FirstPiece). y.line_ends) taken in
      record {
        some = omega (arith, some, size);
        within = omega (arith, inside, size, ap length h.are.spell, byte_len-append p.text (spelled qs), length-drop start text);
        lines = omega (arith, h.lines, lines, counted, line_ends-bytes (spelled pieces), ap length is.spell);
        left = qs;
        more = record {
          unmarked = h.are.fit.2;
          depth = depth_after h.depth p;
          are = subst (λ (l : List ℕ). AreTextAt (depth_after h.depth p) l qs)
              (drop-drop (byte_len p.text) start text ∙ ap (λ (n : ℕ). drop (start + n) text) (sym size)) (text_after h.depth (drop start text) p qs h.are);
          ends = kept ∙ h.ends;
          lines = omega (arith, h.lines, lines, counted);
          tokens =
              h.tokens ∙ rw (r.adds, append_assoc, sym (own_token p.class p.text start (start + byte_len p.text) line))
              (ap (λ (y : FirstPiece). t ++ (token_in y.role start (start + y.len) line
              ++ tokens_from (start + y.len) (line + y.line_ends) qs)) (sym taken));
        };
      }

  -- before the line end the next piece is none
  pub before_end : (left : List Piece) → HaveReadOf text pieces left first start line t → start + end_len_of left < length text → KeepsEnd left
  before_end [] h inside = _
  before_end (p ∷ []) h inside = by_class (is_line_end_class p.class) refl where
    by_class : (is : Bool) → is_line_end_class p.class ≡ is → 0 ≡ end_len_of (p ∷ [])
    by_class false inside = rw inside refl
    by_class true ends =
        let whole : end_len_of (p ∷ []) ≡ byte_len p.text = rw ends refl in
        absurd (omega (arith, inside, whole, ap length h.are.spell, ap byte_len (append-nil p.text), length-drop start text))
  before_end (p ∷ q ∷ qs) h inside = refl

  -- the first byte of space is passed
  less_space : (cs : List ℕ) (qs : List Piece) → HaveReadOf text pieces (space_of (32 ∷ cs) ∷ qs) first start line t
      → (others : List Piece) × HaveReadOf text pieces others first (start + 1) line t
  unfolding encode is_line_feed is_return is_space
  less_space [] qs h = (
    qs,
    record {
      unmarked = h.are.fit.2;
      depth = h.depth;
      are = subst (λ l. AreTextAt h.depth l qs) (drop-drop 1 start text) (text_after h.depth (drop start text) (space_of (32 ∷ [])) qs h.are);
      ends = no_line_end (space_of (32 ∷ [])) qs refl ∙ h.ends;
      lines = omega (arith, h.lines);
      tokens = h.tokens ∙ ap (λ n. t ++ tokens_from (start + 1) n qs) (add-zero line);
    },
  )
  less_space (d ∷ ds) qs h =
      let place : start + byte_len (32 ∷ d ∷ ds) ≡ start + 1 + byte_len (d ∷ ds) = omega arith in
      let ends : line + line_ends (32 ∷ d ∷ ds) ≡ line + line_ends (d ∷ ds) = omega arith in (
        space_of (d ∷ ds) ∷ qs,
        record {
          unmarked = refl;
          depth = h.depth;
          are = record {
            scalars = (all_scalars-parts (32 ∷ []) (d ∷ ds ++ spelled qs) h.are.scalars).1;
            spell = ap (drop 1) h.are.spell ∙ drop-drop 1 start text;
            after = h.are.after;
            fit = ((d, ds, refl, h.are.fit.0.3), h.are.fit.1, h.are.fit.2, h.are.fit.3);
            shallow = (h.are.shallow.0, λ no. absurd (no_string no), h.are.shallow.2);
          };
          ends = sym (no_line_end (space_of (d ∷ ds)) qs refl) ∙ no_line_end (space_of (32 ∷ d ∷ ds)) qs refl ∙ h.ends;
          lines = omega (arith, h.lines);
          tokens = h.tokens ∙ (λ i. t ++ tokens_from (place i) (ends i) qs);
        },
      )

  -- and one byte, where it is a space
  pub past_byte : (left : List Piece) (is : Bool) → HaveReadOf text pieces left first start line t → is ≡ starts_with nat_eq (rest_of text start) (32 ∷ [])
      → (others : List Piece) × HaveReadOf text pieces others first (start + bool_byte is) line t
  unfolding is_space
  past_byte left false h starts = (left, subst (λ n. HaveReadOf text pieces left first n line t) (sym (add-zero start)) h)
  past_byte [] true h starts = absurd (both_ways _ (ap (λ l. starts_with nat_eq l (32 ∷ [])) (rest_is text start ∙ sym h.are.spell)) (sym starts))
  past_byte (p ∷ qs) true h starts =
      let begin = begins_next p qs h in
      let at = ap (λ l. slice_index l 0) ((starts_is Decides-eqb (rest_of text start) (32 ∷ []) _ starts).0 refl) in
      let f = first_of _ p begin in let spaces = class_told _ p class.Space begin (ap is_space at) in
      let is = f.begun.is ∙ ap (λ c. c ∷ f.begun.others) (f.low (omega (arith, at)) ∙ at) in
      less_space f.begun.others qs (subst (λ q. HaveReadOf text pieces (q ∷ qs) first start line t) (λ i. record { class = spaces i; text = is i }) h)

-- the line end of pieces is among their bytes
pub end_within : (ps : List Piece) → end_len_of ps ≤ byte_len (spelled ps)
end_within [] = omega arith
end_within (p ∷ []) = by_class (is_line_end_class p.class) refl where
  by_class : (is : Bool) → is_line_end_class p.class ≡ is → end_len_of (p ∷ []) ≤ byte_len (p.text ++ [])
  by_class false inside = rw inside (omega arith)
  by_class true ends = rw (ends, append-nil p.text) (omega arith)
end_within (p ∷ q ∷ qs) = omega (arith, end_within (q ∷ qs), byte_len-append p.text (spelled (q ∷ qs)))

line_end_class : (class : Class) → is_line_end_class class ≡ true → class ≡ line_end
line_end_class line_end is = refl
line_end_class other is = absurd (cc)

-- a line that is read up to its line end of so many bytes: that is one more line end, if it has one
abbrev pub IsWholeRead : List ℕ → List Piece → ℕ → ℕ → List Token → Type 0
IsWholeRead text pieces first line t = (t ≡ tokens_from 0 first pieces) × (line + bool_byte (nat_lt 0 (end_len_of pieces)) ≡ first + line_ends (spelled pieces))

module _ {text : List ℕ} {pieces : List Piece} {first start line : ℕ} {t : List Token} where
  end_left : (p : Piece) → HaveReadOf text pieces (p ∷ []) first start line t → p.class ≡ line_end → IsWholeRead text pieces first line t
  end_left p h is =
      let whole : end_len_of (p ∷ []) ≡ byte_len p.text = rw (ap is_line_end_class is) refl in
      let size : 0 < end_len_of pieces = omega (arith, h.ends, whole, piece_some p.class p.text h.are.fit.0, length-le-encodes p.text) in (
        sym (h.tokens ∙ ap (λ k. t ++ (tokens_of_piece start (start + byte_len p.text) line k p.text ++ [])) is ∙ append-nil _),
        grind (arith, h.lines, h.ends, ap (λ (y : FirstPiece). y.line_ends) (line_end_taken (begins_next p [] h) is), size),
      )

  pub whole_read : (left : List Piece) → HaveReadOf text pieces left first start line t → length text ≤ start + end_len_of left
      → IsWholeRead text pieces first line t
  whole_read [] h end = (
    sym (h.tokens ∙ append-nil _),
    ap (λ n. line + bool_byte (nat_lt 0 n)) (sym h.ends) ∙ h.lines,
  )
  whole_read (p ∷ []) h end = by_class (is_line_end_class p.class) refl where
    by_class : (is : Bool) → is_line_end_class p.class ≡ is → IsWholeRead text pieces first line t
    by_class true ends = end_left p h (line_end_class p.class ends)
    by_class false inside =
        let none : end_len_of (p ∷ []) ≡ 0 = rw inside refl in
        let left = ap length h.are.spell ∙ length-drop start text in
        absurd (omega (arith, end, none, left, piece_some p.class p.text h.are.fit.0, byte_len-append p.text [], length-le-encodes p.text))
  whole_read (p ∷ q ∷ qs) h end =
      let size = byte_len-append p.text (spelled (q ∷ qs)) in
      let left = ap length h.are.spell ∙ length-drop start text in
      absurd (omega (arith, end, left, size, end_within (q ∷ qs), piece_some p.class p.text h.are.fit.0, length-le-encodes p.text))

mark_encoded : encode_utf8_all (0xFEFF ∷ []) ≡ mark_bytes
unfolding encode
mark_encoded = refl

-- a text that begins with another piece begins with no mark
pub no_mark : (text : List ℕ) (ps : List Piece) → AreLineText text ps → begins_marked ps ≡ false → mark_len text ≡ 0
unfolding is_mark
no_mark text [] is unmarked = ap mark_len (sym is.spell)
no_mark text (p ∷ ps) is unmarked = ap (λ (b : Bool). if b then 3 else 0) (false_from_ne_true _ absent) where
  absent : starts_with nat_eq text mark_bytes ≡ true → ⊥
  absent h =
      let cut = prefix_chars (0xFEFF ∷ []) (spelled (p ∷ ps)) (drop 3 text)
      (is.spell ∙ (starts_is Decides-eqb text mark_bytes _ refl).0 h ∙ ap (λ t. t ++ drop 3 text) (sym mark_encoded)) in
      let begun = begins_so p.class p.text unmarked is.fit.0 in
      let same : begun.first ∷ (begun.others ++ spelled ps) ≡ 0xFEFF ∷ cut.0 = ap (λ t. t ++ spelled ps) (sym begun.is) ∙ cut.1 in
      let first : begun.first ≡ 0xFEFF = cc in
      both_ways _ (unmarked_first begun) (ap is_mark first)

-- and with a mark, where it is the first piece
pub has_mark : (text : List ℕ) (p : Piece) (ps : List Piece) → AreLineText text (p ∷ ps) → p.class ≡ mark
    → (mark_len text ≡ byte_len p.text) × (line_ends p.text ≡ 0)
unfolding is_line_feed is_return
has_mark text p ps is class_is =
    let shape : InClass mark p.text = subst (λ (k : Class). InClass k p.text) class_is is.fit.0 in
    let one : p.text ≡ 0xFEFF ∷ [] = shape.1 ∙ ap (λ (c : ℕ). c ∷ []) (mark_is shape.0 shape.2) in
    let whole : text ≡ mark_bytes ++ encode_utf8_all (spelled ps)
    = sym is.spell ∙ encodes-append p.text (spelled ps) ∙ ap (λ t. encode_utf8_all t ++ encode_utf8_all (spelled ps)) one
    ∙ ap (λ t. t ++ encode_utf8_all (spelled ps)) mark_encoded in
    let present = (starts_is Decides-eqb text mark_bytes (starts_with nat_eq text mark_bytes) refl).1 (encode_utf8_all (spelled ps)) whole in
    (ap (λ (b : Bool). if b then 3 else 0) present ∙ sym (ap byte_len one ∙ ap length mark_encoded), ap line_ends one)

-- the space that pieces begin with
abbrev pub first_space : List Piece → ℕ
first_space [] = 0
first_space (p ∷ ps) = space_len p.class p.text

pub first_read : (bytes : List ℕ) (depth : ℕ) (ps : List Piece) (n : ℕ) → AreTextAt depth bytes ps → begins_marked ps ≡ false
    → IsRunOf is_space bytes n → n ≡ first_space ps
first_read bytes depth [] n is unmarked run = omega (arith, run.within, ap length is.spell)
first_read bytes depth (p ∷ ps) n is unmarked run = go p.class refl where
  b : BeginWithPiece bytes p
  b = record { unmarked = unmarked; others = ps; depth = depth; text = is }

  none : (k : ℕ) → IsRunOf is_space bytes k → (p.class ≡ space → ⊥) → k ≡ 0
  none zero r other = refl
  none (suc k) r other = absurd (other (class_told bytes p class.Space b (r.each 0 (omega arith))))

  go : (kind : Class) → p.class ≡ kind → n ≡ space_len kind p.text
  go space is = spaces b n is run
  go other is = none n run (λ spaces. absurd (cc))

pub unmarked_indent : (ps : List Piece) → begins_marked ps ≡ false → indent_of ps ≡ first_space ps
unmarked_indent [] unmarked = refl
unmarked_indent (p ∷ []) unmarked = refl
unmarked_indent (p ∷ q ∷ ps) unmarked = rw unmarked

pub marked_indent : (p : Piece) (ps : List Piece) → p.class ≡ mark → indent_of (p ∷ ps) ≡ first_space ps
marked_indent p [] is = ap (λ (k : Class). space_len k p.text) is
marked_indent p (q ∷ ps) is = ap (λ (k : Class). if is_mark_class k then space_len q.class q.text else space_len k p.text) is

pub is_mark_or : (class : Class) → (class ≡ mark) ⊎ (is_mark_class class ≡ false)
is_mark_or mark = inl refl
is_mark_or _ = inr refl

-- a line has begun
module _ (text : List ℕ) (start first : ℕ) where
  begun_before : (pieces left : List Piece) (depth : ℕ) → AreTextAt depth (drop start text) left → begins_marked left ≡ false
      → tokens_from 0 first pieces ≡ tokens_from start first left → line_ends (spelled left) ≡ line_ends (spelled pieces)
      → end_len_of left ≡ end_len_of pieces → (others : List Piece) × HaveReadOf text pieces others first start first []
  begun_before pieces left depth are unmarked tokens lines ends = (
    left,
    record { unmarked = unmarked; depth = depth; are = are; ends = ends; lines = ap (λ (n : ℕ). first + n) lines; tokens = tokens },
  )

  begun_marked : (p : Piece) (ps : List Piece) → start ≡ mark_len text → AreLineText text (p ∷ ps) → p.class ≡ mark
      → (left : List Piece) × HaveReadOf text (p ∷ ps) left first start first []
  begun_marked p ps begins is class_is =
      let (len, counted) = has_mark text p ps is class_is in let place = sym (begins ∙ len) in
      begun_before (p ∷ ps) ps (depth_after 0 p) (subst (λ k. AreTextAt (depth_after 0 p) (drop k text) ps) place (text_after 0 text p ps is)) is.fit.2
      (ap (λ (k : Class). tokens_from 0 first (record { class = k; text = p.text } ∷ ps)) class_is
      ∙ rw (zero-add (byte_len p.text), place, counted, add-zero first))
      (omega (arith, line_ends-first p ps is.after is.fit, counted)) (no_line_end p ps (ap is_line_end_class class_is))

  begun_unmarked : (ps : List Piece) → 0 ≡ start → AreLineText text ps → begins_marked ps ≡ false
      → (left : List Piece) × HaveReadOf text ps left first start first []
  begun_unmarked ps place is unmarked =
      begun_before ps ps 0 (subst (λ k. AreTextAt 0 (drop k text) ps) place is) unmarked (ap (λ k. tokens_from k first ps) place) refl refl

  begun_at : (ps : List Piece) → start ≡ mark_len text → AreLineText text ps → (left : List Piece) × HaveReadOf text ps left first start first []
  begun_at [] begins is = begun_unmarked [] (sym (begins ∙ no_mark text [] is refl)) is refl
  begun_at (p ∷ ps) begins is =
      ⊎_elim (begun_marked p ps begins is) (λ unmarked. begun_unmarked (p ∷ ps) (sym (begins ∙ no_mark text (p ∷ ps) is unmarked)) is unmarked)
      (is_mark_or p.class)

  pub begun : (end_len : ℕ) → start ≡ mark_len text → HaveRead text end_len first start first []
  begun end_len begins ps is = begun_at ps begins is.0
