-- Logical lines that sorting writes, one after another: blank lines, and comments above a statement.
use Rattle.std.proofs.Common.{◌≡◌, ℕ, suc, zero, Bool, true, false, ◌&&◌, ◌||◌, List, [], ◌∷◌, ◌++◌, map, refl, sym, ap, ◌∙◌, subst, append_assoc, append-nil, inr, arith}
use Rattle.std.specs.Prelude.{encode_utf8_all, nat_lt, replicate}
use Rattle.std.specs.List.{AllByRecursion, list_any, list_all}
use Rattle.std.specs.Str.{all_scalars}
use Rattle.std.proofs.lemmas.Bool.{and_parts}
use Rattle.std.proofs.lemmas.Bool.Decides.{nat_tests}
use Rattle.std.proofs.Math.Utf8.{encode}
use Rattle.std.proofs.lemmas.Str.{encodes-append}
use Rattle.py_lines.specs.PieceGrammar.{IsComment, IsLineEnd}
use Rattle.py_lines.specs.Balance.{IsBalanced, depth_through, IsBalanced as balance}
use Rattle.py_lines.specs.Balance.{depth_after}
use Rattle.py_lines.specs.Fields.{AreReadBefore, IsShallow}
use Rattle.isort_sort.proofs.LineLaws.OneLine.{plain-line}
use Rattle.py_lines.specs.Reading.{EndsLine}
use Rattle.py_lines.specs.Character.{is_space, is_line_feed, is_return, is_hash}
use Rattle.py_lines.specs.LogicalLine.{LogicalLine, cut, line_of, end_len_of}
use Rattle.py_lines.specs.Neighbours.{AreSimple, MayTouch}
use Rattle.py_lines.specs.Piece.{space, comment, line_end, Piece, begins, ends, begins_marked, spelled}
use Rattle.py_lines.specs.Words.{words_of}
use Rattle.py_imports.specs.ActionComment.{says}
use Rattle.py_imports.specs.declared.action_comment.ActionComment.{ActionComment}
use Rattle.py_imports.specs.declared.action_comment.ActionComment.TheVariants as action
use Rattle.isort_sort.specs.Blocks.{stands_between, is_blank, comments_in}
use Rattle.isort_sort.specs.BlocksReplaced.{is_comments}
use Rattle.isort_sort.specs.Line.{comment_texts}
use Rattle.isort_sort.specs.Row.{is_comment_kind, says_alone, Role, comments, blank, Row, HasRole, indentation_of, first_string_skips}
use Rattle.isort_sort.specs.Sorted.{texts_of}
use Rattle.isort_sort.specs.WrittenLine.{mark_pieces, end_pieces}
use Rattle.isort_sort.proofs.LineLaws.Units.{IsUnit, MayFollowUnit, AreUnits, ends-last}
use Rattle.isort_sort.proofs.LineLaws.Joined.{ended_lines, bytes_of, bytes_of-cons}
use Rattle.isort_sort.proofs.WrittenLines.UnitRows.{TokenLaws, unit_line, comments_of_unit, IsUnitRow, AreUnitRows, role_in_block, silent}
use Rattle.isort_sort.proofs.Rows.Spaces.{space_no_feed}
use Rattle.std.proofs.Math.Bool.{and-false, or-false, or-true}
use Rattle.isort_sort.proofs.LineLaws.Parts.{remarks_in, spelled-append, scalars-append, space_pieces, spaces_low, low-spell, low-scalars, by_end, part-end}

-- simple neighbouring pieces are read
abbrev pub NeighbourLaw : Type 0
NeighbourLaw = (pieces : List Piece) → AreSimple pieces → MayTouch pieces → AreReadBefore pieces []

-- whether there are lists
abbrev pub are_some : List (List Piece) → Bool
are_some [] = false
are_some (u ∷ us) = true

-- pieces that end with this line end at depth 0
pub record IsEndedUnit (end : List ℕ) (u : List Piece) : Type 0 where
  pub body : List Piece
  pub is : u ≡ body ++ end_pieces true end
  pub deep : depth_through 0 body ≡ 0

-- whether a comment of the line says that the file is skipped
abbrev pub says_skip_file : List Piece → Bool
says_skip_file u = list_any (says action.SkipFile) (comment_texts (unit_line u))

-- a logical line that may stand after this line end, and ends with it if it has to; and its row, which may stand in a block
pub record IsLine (end : List ℕ) (needed : Bool) (u : List Piece) (row : Row) : Type 0 where
  pub unit : IsUnit u
  pub unmarked : begins_marked u ≡ false
  pub uncut : ends is_return end && begins is_line_feed (spelled u) ≡ false
  pub ended : needed ≡ true → IsEndedUnit end u
  pub is : IsUnitRow false u row
  pub inside : role_in_block row.role ≡ true
  pub unskipped : says_skip_file u ≡ false

-- such lines with their rows, each with a line end, perhaps except the last
abbrev pub AreLines : List ℕ → Bool → List (List Piece) → List Row → Type 0
AreLines end ended [] [] = Unit {0}
AreLines end ended (u ∷ us) (row ∷ rows) = IsLine end (ended || are_some us) u row × AreLines end ended us rows
AreLines end ended _ _ = ⊥

-- what may follow a line end, may follow a line that ends with it
ends_line : (end : List ℕ) (u : List Piece) → IsEndedUnit end u → EndsLine u
ends_line end u h = inr (h.body, record { class = line_end; text = end }, h.is, refl, h.deep)

follows_line : (end : List ℕ) (u : List Piece) (us : List (List Piece)) → IsLineEnd end → (are_some us ≡ true → IsEndedUnit end u) → MayFollowUnit (end_pieces true end) us → MayFollowUnit u us
follows_line end u [] is h f = tt
follows_line end u (w ∷ us) is h f =
    let e = h refl in
    let last : ends is_return (spelled u) ≡ ends is_return end = ap (λ l. ends is_return (spelled l)) e.is ∙ ends-last is_return e.body (record { class = line_end; text = end }) is in
    let alone : ends is_return (spelled (end_pieces true end)) ≡ ends is_return end = ap (ends is_return) (append-nil end) in
    (ends_line end u e, record { unmarked = f.1.unmarked; uncut = ap (λ b. b && begins is_line_feed (spelled w)) (last ∙ sym alone) ∙ f.1.uncut })

lines_follow : (end : List ℕ) (ended : Bool) (us vs : List (List Piece)) (rows : List Row) → AreLines end ended us rows → MayFollowUnit (end_pieces true end) vs → MayFollowUnit (end_pieces true end) (us ++ vs)
lines_follow end ended [] vs rows all f = f
lines_follow end ended (u ∷ us) vs [] all f = absurd all
lines_follow end ended (u ∷ us) vs (row ∷ rows) all f = (
  inr ([], record { class = line_end; text = end }, refl, refl, refl),
  record { unmarked = all.0.unmarked; uncut = ap (λ t. ends is_return t && begins is_line_feed (spelled u)) (append-nil end) ∙ all.0.uncut },
)

some_needed : (ended : Bool) (us vs : List (List Piece)) → (are_some vs ≡ true → ended ≡ true) → are_some (us ++ vs) ≡ true → (ended || are_some us) ≡ true
some_needed ended [] vs h some = or-false ended ∙ h some
some_needed ended (u ∷ us) vs h some = or-true ended

-- lines before others are logical lines that may follow one another, and their rows are those of their pieces
pub lines_units : (end : List ℕ) (ended : Bool) (us vs : List (List Piece)) (rows : List Row) → IsLineEnd end → AreLines end ended us rows → (are_some vs ≡ true → ended ≡ true) → MayFollowUnit (end_pieces true end) vs → AreUnits vs → AreUnits (us ++ vs)
lines_units end ended [] vs rows is all f g k = k
lines_units end ended (u ∷ us) vs [] is all f g k = absurd all
lines_units end ended (u ∷ us) vs (row ∷ rows) is all f g k = (
  all.0.unit,
  follows_line end u (us ++ vs) is (λ some. all.0.ended (some_needed ended us vs f some)) (lines_follow end ended us vs rows all.1 g),
  lines_units end ended us vs rows is all.1 f g k,
)

pub lines_rows : (end : List ℕ) (ended : Bool) (us vs : List (List Piece)) (rows others : List Row) → AreLines end ended us rows → AreUnitRows false vs others → AreUnitRows false (us ++ vs) (rows ++ others)
lines_rows end ended [] vs [] others h k = k
lines_rows end ended (u ∷ us) vs (row ∷ rows) others h k = (
  h.0.is,
  subst (λ (b : Bool). AreUnitRows b (us ++ vs) (rows ++ others)) (sym (silent false false (unit_line u) row.role h.0.is.role h.0.inside)) (lines_rows end ended us vs rows others h.1 k),
)
lines_rows end ended _ vs _ others h k = absurd h

pub lines_text : (end : List ℕ) (ended : Bool) (us : List (List Piece)) (rows : List Row) → AreLines end ended us rows → texts_of rows ≡ bytes_of us
lines_text end ended [] [] h = refl
lines_text end ended (u ∷ us) (row ∷ rows) h = (λ i. h.0.is.text i ++ lines_text end ended us rows h.1 i) ∙ sym (bytes_of-cons u us)
lines_text end ended _ _ h = absurd h

pub lines_unskipped : (end : List ℕ) (ended : Bool) (us : List (List Piece)) (rows : List Row) → AreLines end ended us rows → list_any says_skip_file us ≡ false
lines_unskipped end ended [] rows h = refl
lines_unskipped end ended (u ∷ us) [] h = absurd h
lines_unskipped end ended (u ∷ us) (row ∷ rows) h = λ i. h.0.unskipped i || lines_unskipped end ended us rows h.1 i

pub lines_append : (end : List ℕ) (ended : Bool) (us vs : List (List Piece)) (rows others : List Row) → AreLines end true us rows → AreLines end ended vs others → AreLines end ended (us ++ vs) (rows ++ others)
lines_append end ended [] vs [] others h k = k
lines_append end ended (u ∷ us) vs (row ∷ rows) others h k = (
  record { unit = h.0.unit; unmarked = h.0.unmarked; uncut = h.0.uncut; ended = λ e. h.0.ended refl; is = h.0.is; inside = h.0.inside; unskipped = h.0.unskipped },
  lines_append end ended us vs rows others h.1 k,
)
lines_append end ended _ vs _ others h k = absurd h

-- the row of a logical line
abbrev pub row_of : List Piece → Role → Row
row_of u role = record { text = encode_utf8_all (spelled u); indentation = indentation_of (unit_line u); ended = nat_lt 0 (end_len_of u); role = role }

-- pieces before a line end
simple_end : (ps : List Piece) (end : List ℕ) → AreSimple ps → IsLineEnd end → AreSimple (ps ++ end_pieces true end)
simple_end [] end h is = (refl, is, tt)
simple_end (p ∷ ps) end h is = (h.0, h.1, simple_end ps end h.2 is)

shallow_end : (d : ℕ) (ps : List Piece) (end : List ℕ) → IsShallow d ps → IsShallow d (ps ++ end_pieces true end)
shallow_end d [] end h = ((λ e. absurd (cc)), (λ e. absurd (cc)), tt)
shallow_end d (p ∷ ps) end h = (h.0, h.1, shallow_end (depth_after d p) ps end h.2)

-- pieces that are read alone and before a line end, as one logical line with it
pub ended_unit : NeighbourLaw → (end : List ℕ) (ps : List Piece) → IsLineEnd end → AreSimple ps → MayTouch (ps ++ end_pieces true end) → all_scalars (spelled ps) ≡ true → IsBalanced ps → IsShallow 0 ps → cut 0 (ps ++ end_pieces true end) ≡ (ps ++ end_pieces true end) ∷ [] → IsUnit (ps ++ end_pieces true end)
ended_unit law end ps is simple touch scalars balanced shallow whole = record {
  reading = record {
    reads = record { spell = refl; fit = law (ps ++ end_pieces true end) (simple_end ps end simple is) touch };
    balanced = balance.both (ps ++ end_pieces true end) ps (end_pieces true end) refl balanced (balance.one (end_pieces true end) (record { class = line_end; text = end }) refl refl);
    shallow = shallow_end 0 ps end shallow;
  };
  scalars = ap all_scalars (spelled-append ps (end_pieces true end)) ∙ scalars-append (spelled ps) (end ++ []) scalars (part-end end is).scalars;
  whole = whole;
}

-- a blank line
abbrev pub blank_row : List ℕ → Row
blank_row end = row_of (end_pieces true end) blank

blank_line : NeighbourLaw → (end : List ℕ) → IsLineEnd end → IsLine end true (end_pieces true end) (blank_row end)
unfolding is_return is_line_feed
blank_line law end is =
    let apart : ends is_return end && begins is_line_feed end ≡ false = by_end (λ e. ends is_return e && begins is_line_feed e ≡ false) end refl refl refl is in
    record {
      unit = ended_unit law end [] is tt tt refl (balance.none [] refl) tt refl;
      unmarked = refl;
      uncut = ap (λ t. ends is_return end && begins is_line_feed t) (append-nil end) ∙ apart;
      ended = λ e. record { body = []; is = refl; deep = refl };
      is = record { role = refl; text = refl; indentation = refl; ended = refl };
      inside = refl;
      unskipped = refl;
    }

pub blank_is_ended : (end : List ℕ) → IsLineEnd end → (blank_row end).ended ≡ true
unfolding encode
blank_is_ended end is = by_end (λ e. (blank_row e).ended ≡ true) end refl refl refl is

-- so many blank lines
abbrev pub blank_units : ℕ → List ℕ → List (List Piece)
blank_units n end = replicate n (end_pieces true end)

abbrev pub blank_rows : ℕ → List ℕ → List Row
blank_rows n end = replicate n (blank_row end)

pub blank_lines : NeighbourLaw → (n : ℕ) (end : List ℕ) → IsLineEnd end → AreLines end true (blank_units n end) (blank_rows n end)
blank_lines law zero end is = tt
blank_lines law (suc n) end is = (blank_line law end is, blank_lines law n end is)

pub blank_text : (n : ℕ) (end : List ℕ) → IsLineEnd end → bytes_of (blank_units n end) ≡ ended_lines end (replicate n [])
blank_text zero end is = refl
blank_text (suc n) end is =
    bytes_of-cons (end_pieces true end) (blank_units n end)
    ∙ (λ i. (part-end end is).spell i ++ blank_text n end is i)

pub blank_between : (n : ℕ) (end : List ℕ) → list_all stands_between (blank_rows n end) ≡ true
blank_between zero end = refl
blank_between (suc n) end = blank_between n end

pub blank_blank : (n : ℕ) (end : List ℕ) → list_all is_blank (blank_rows n end) ≡ true
blank_blank zero end = refl
blank_blank (suc n) end = blank_blank n end

pub blank_no_comments : (n : ℕ) (end : List ℕ) (rows : List Row) → comments_in (blank_rows n end ++ rows) ≡ comments_in rows
blank_no_comments zero end rows = refl
blank_no_comments (suc n) end rows = blank_no_comments n end rows

-- a comment above a statement: the bytes of a comment that turns nothing off or on, parts no blocks and skips no file
pub record IsAbove (text : List ℕ) : Type 0 where
  pub characters : List ℕ
  pub spell : text ≡ encode_utf8_all characters
  pub is : IsComment characters
  pub scalars : all_scalars characters ≡ true
  pub off : says action.Off text ≡ false
  pub on : says action.On text ≡ false
  pub split : says action.Split text ≡ false
  pub unskipped : says action.SkipFile text ≡ false

abbrev pub AreAbove : List (List ℕ) → Type 0
AreAbove texts = AllByRecursion IsAbove texts

-- indentation is ASCII
pub indentation_encoded : (indentation : List ℕ) → list_all is_space indentation ≡ true → encode_utf8_all indentation ≡ indentation
indentation_encoded indentation h = low-spell indentation (spaces_low indentation h)

pub indentation_scalar : (indentation : List ℕ) → list_all is_space indentation ≡ true → all_scalars indentation ≡ true
indentation_scalar indentation h = low-scalars indentation (spaces_low indentation h)

-- a line with a comment alone
abbrev pub comment_unit : List ℕ → List ℕ → List ℕ → List Piece
comment_unit indentation characters end = space_pieces indentation ++ (record { class = comment; text = characters } ∷ end_pieces true end)

space_spelled : (indentation : List ℕ) (rest : List Piece) → spelled (space_pieces indentation ++ rest) ≡ indentation ++ spelled rest
space_spelled [] rest = refl
space_spelled (c ∷ cs) rest = refl

pub comment_text : (indentation text end : List ℕ) (above : IsAbove text) → list_all is_space indentation ≡ true → IsLineEnd end → encode_utf8_all (spelled (comment_unit indentation above.characters end)) ≡ (indentation ++ text) ++ end
comment_text indentation text end above spaces is =
    ap encode_utf8_all (space_spelled indentation (record { class = comment; text = above.characters } ∷ end_pieces true end))
    ∙ encodes-append indentation (above.characters ++ (end ++ []))
    ∙ (λ i. indentation_encoded indentation spaces i ++ (encodes-append above.characters (end ++ []) ∙ (λ j. sym above.spell j ++ (part-end end is).spell j)) i)
    ∙ sym (append_assoc indentation text end)

-- it is read as one line, begins no mark, and doesn't begin with LF
comment_is_unit : NeighbourLaw → (indentation characters end : List ℕ) → list_all is_space indentation ≡ true → IsComment characters → all_scalars characters ≡ true → IsLineEnd end → IsUnit (comment_unit indentation characters end)
comment_is_unit law [] characters end spaces is scalars closes =
    let line = plain-line (record { class = comment; text = characters } ∷ []) refl refl in
    ended_unit law end (record { class = comment; text = characters } ∷ []) closes (refl, is, tt) (refl, tt) (ap all_scalars (append-nil characters) ∙ scalars) line.balanced line.shallow refl
comment_is_unit law (c ∷ cs) characters end spaces is scalars closes =
    let ps : List Piece = record { class = space; text = c ∷ cs } ∷ record { class = comment; text = characters } ∷ [] in
    let line = plain-line ps refl refl in
    ended_unit law end ps closes (refl, (c, cs, refl, spaces), (refl, is, tt)) (refl, (refl, tt))
    (scalars-append (c ∷ cs) (characters ++ []) (indentation_scalar (c ∷ cs) spaces) (ap all_scalars (append-nil characters) ∙ scalars)) line.balanced line.shallow refl

hash_no_feed : (c : ℕ) → is_hash c ≡ true → is_line_feed c ≡ false
unfolding is_hash is_line_feed
hash_no_feed c h = grind (arith, nat_tests)

pub comment_starts : (indentation characters end : List ℕ) → list_all is_space indentation ≡ true → IsComment characters → begins is_line_feed (spelled (comment_unit indentation characters end)) ≡ false
comment_starts [] characters end spaces (hash, body, is, opens, none) = ap (λ t. begins is_line_feed (t ++ (end ++ []))) is ∙ hash_no_feed hash opens
comment_starts (c ∷ cs) characters end spaces is = space_no_feed c (and_parts (is_space c) (list_all is_space cs) spaces).0

-- it is a line of comments, also after a byte order mark
comment_words : TokenLaws → (marked : Bool) (indentation text end : List ℕ) (above : IsAbove text) → comment_texts (line_of 0 1 (mark_pieces marked ++ comment_unit indentation above.characters end)) ≡ text ∷ []
comment_words laws marked indentation text end above =
    comments_of_unit laws 0 1 (mark_pieces marked ++ comment_unit indentation above.characters end) ∙ by marked indentation ∙ ap (λ t. t ∷ []) (sym above.spell)
  where
    by : (m : Bool) (i : List ℕ) → remarks_in (words_of (mark_pieces m ++ comment_unit i above.characters end)) ≡ encode_utf8_all above.characters ∷ []
    by true [] = refl
    by true (c ∷ cs) = refl
    by false [] = refl
    by false (c ∷ cs) = refl

comment_kind : (marked : Bool) (indentation text end : List ℕ) (above : IsAbove text) → is_comment_kind (line_of 0 1 (mark_pieces marked ++ comment_unit indentation above.characters end)).kind ≡ true
comment_kind true [] text end above = refl
comment_kind true (c ∷ cs) text end above = refl
comment_kind false [] text end above = refl
comment_kind false (c ∷ cs) text end above = refl

pub comment_role : TokenLaws → (off marked : Bool) (indentation text end : List ℕ) (above : IsAbove text) → HasRole off (line_of 0 1 (mark_pieces marked ++ comment_unit indentation above.characters end)) (comments (text ∷ []))
comment_role laws off marked indentation text end above = (
  comment_kind marked indentation text end above,
  (λ i. said action.Off above.off i || said action.On above.on i || said action.Split above.split i),
  sym (comment_words laws marked indentation text end above),
)
  where
    said : (a : ActionComment) → says a text ≡ false → says_alone a (line_of 0 1 (mark_pieces marked ++ comment_unit indentation above.characters end)) ≡ false
    said a h =
        (λ i. comment_kind marked indentation text end above i && list_any (says a) (comment_words laws marked indentation text end above i))
        ∙ ap (λ b. b || false) h

-- its row
abbrev pub comment_row : (indentation text end : List ℕ) → IsAbove text → Row
comment_row indentation text end above = row_of (comment_unit indentation above.characters end) (comments (text ∷ []))

pub comment_line : NeighbourLaw → TokenLaws → (indentation text end : List ℕ) (above : IsAbove text) (needed : Bool) → list_all is_space indentation ≡ true → IsLineEnd end → IsLine end needed (comment_unit indentation above.characters end) (comment_row indentation text end above)
comment_line law laws indentation text end above needed spaces is = record {
  unit = comment_is_unit law indentation above.characters end spaces above.is above.scalars is;
  unmarked = unmarked indentation;
  uncut = ap (λ b. ends is_return end && b) (comment_starts indentation above.characters end spaces above.is) ∙ and-false (ends is_return end);
  ended = λ e. ended indentation;
  is = record { role = comment_role laws false false indentation text end above; text = refl; indentation = refl; ended = refl };
  inside = refl;
  unskipped = ap (list_any (says action.SkipFile)) (comment_words laws false indentation text end above) ∙ ap (λ b. b || false) above.unskipped;
}
  where
    unmarked : (i : List ℕ) → begins_marked (comment_unit i above.characters end) ≡ false
    unmarked [] = refl
    unmarked (c ∷ cs) = refl

    ended : (i : List ℕ) → IsEndedUnit end (comment_unit i above.characters end)
    ended [] = record { body = record { class = comment; text = above.characters } ∷ []; is = refl; deep = refl }
    ended (c ∷ cs) = record { body = record { class = space; text = c ∷ cs } ∷ record { class = comment; text = above.characters } ∷ []; is = refl; deep = refl }

-- comments above a statement, each on a line of its own
abbrev pub above_units : List ℕ → List ℕ → (cs : List (List ℕ)) → AreAbove cs → List (List Piece)
above_units indentation end [] are = []
above_units indentation end (c ∷ cs) are = comment_unit indentation are.0.characters end ∷ above_units indentation end cs are.1

abbrev pub above_rows : List ℕ → List ℕ → (cs : List (List ℕ)) → AreAbove cs → List Row
above_rows indentation end [] are = []
above_rows indentation end (c ∷ cs) are = comment_row indentation c end are.0 ∷ above_rows indentation end cs are.1

pub above_lines : NeighbourLaw → TokenLaws → (indentation end : List ℕ) (cs : List (List ℕ)) (are : AreAbove cs) → list_all is_space indentation ≡ true → IsLineEnd end → AreLines end true (above_units indentation end cs are) (above_rows indentation end cs are)
above_lines law laws indentation end [] are spaces is = tt
above_lines law laws indentation end (c ∷ cs) are spaces is = (comment_line law laws indentation c end are.0 true spaces is, above_lines law laws indentation end cs are.1 spaces is)

pub above_text : (indentation end : List ℕ) (cs : List (List ℕ)) (are : AreAbove cs) → list_all is_space indentation ≡ true → IsLineEnd end → bytes_of (above_units indentation end cs are) ≡ ended_lines end (map (λ c. indentation ++ c) cs)
above_text indentation end [] are spaces is = refl
above_text indentation end (c ∷ cs) are spaces is =
    bytes_of-cons (comment_unit indentation are.0.characters end) (above_units indentation end cs are.1)
    ∙ (λ i. comment_text indentation c end are.0 spaces is i ++ above_text indentation end cs are.1 spaces is i)

pub above_comments : (indentation end : List ℕ) (cs : List (List ℕ)) (are : AreAbove cs) → comments_in (above_rows indentation end cs are) ≡ cs
above_comments indentation end [] are = refl
above_comments indentation end (c ∷ cs) are = ap (λ l. c ∷ l) (above_comments indentation end cs are.1)

pub above_between : (indentation end : List ℕ) (cs : List (List ℕ)) (are : AreAbove cs) → list_all stands_between (above_rows indentation end cs are) ≡ true
above_between indentation end [] are = refl
above_between indentation end (c ∷ cs) are = above_between indentation end cs are.1

pub above_are_comments : (indentation end : List ℕ) (cs : List (List ℕ)) (are : AreAbove cs) → list_all is_comments (above_rows indentation end cs are) ≡ true
above_are_comments indentation end [] are = refl
above_are_comments indentation end (c ∷ cs) are = above_are_comments indentation end cs are.1

-- no string stands in them
comment_passes : (marked : Bool) (indentation text end : List ℕ) (above : IsAbove text) (lines : List LogicalLine) → first_string_skips (line_of 0 1 (mark_pieces marked ++ comment_unit indentation above.characters end) ∷ lines) ≡ first_string_skips lines
comment_passes true [] text end above lines = refl
comment_passes true (c ∷ cs) text end above lines = refl
comment_passes false [] text end above lines = refl
comment_passes false (c ∷ cs) text end above lines = refl

pub above_passes : (indentation end : List ℕ) (cs : List (List ℕ)) (are : AreAbove cs) (lines : List LogicalLine) → first_string_skips (map unit_line (above_units indentation end cs are) ++ lines) ≡ first_string_skips lines
above_passes indentation end [] are lines = refl
above_passes indentation end (c ∷ cs) are lines = comment_passes false indentation c end are.0 (map unit_line (above_units indentation end cs are.1) ++ lines) ∙ above_passes indentation end cs are.1 lines

pub first_above_passes : (marked : Bool) (indentation end c : List ℕ) (cs : List (List ℕ)) (are : AreAbove (c ∷ cs)) (lines : List LogicalLine) → first_string_skips (line_of 0 1 (mark_pieces marked ++ comment_unit indentation are.0.characters end) ∷ (map unit_line (above_units indentation end cs are.1) ++ lines)) ≡ first_string_skips lines
first_above_passes marked indentation end c cs are lines = comment_passes marked indentation c end are.0 (map unit_line (above_units indentation end cs are.1) ++ lines) ∙ above_passes indentation end cs are.1 lines
