-- The rows of logical lines, each given by its pieces, wherever they stand.
use Rattle.std.proofs.Common.{◌≡◌, ℕ, ◌+◌, Bool, true, false, cond, not, ◌&&◌, ◌||◌, List, [], ◌∷◌, ◌++◌, map, refl, sym, ap, ◌∙◌, subst}
use Rattle.std.specs.Prelude.{encode_utf8_all, nat_lt, if◌then◌else◌}
use Rattle.std.specs.List.{list_any}
use Rattle.std.proofs.lemmas.Bool.{or_parts}
use Rattle.std.proofs.lemmas.Str.{encodes-append}
use Rattle.py_lines.specs.LogicalLine.{LogicalLine, byte_len, line_ends, end_len_of, line_of, lines_from}
use Rattle.py_lines.specs.Piece.{Piece, spelled}
use Rattle.py_lines.specs.Words.{word_in, words_of, extent_of}
use Rattle.py_imports.specs.ActionComment.{says}
use Rattle.py_imports.specs.declared.action_comment.ActionComment.{ActionComment}
use Rattle.py_imports.specs.declared.action_comment.ActionComment.TheVariants as action
use Rattle.isort_sort.specs.LaidAgain.{IsMoved}
use Rattle.isort_sort.specs.Private.LineRole.{turned}
use Rattle.isort_sort.specs.Line.{comment_texts}
use Rattle.isort_sort.specs.Row.{is_comment_kind, says_alone, says_off, says_on, is_off_after, Role, member, comments, blank, other, Row, HasRole, indentation_of, AreRows}
use Rattle.isort_sort.specs.Sorted.{texts_of}
use Rattle.isort_sort.proofs.Rows.MovedRoles.{role_moved}
use Rattle.isort_sort.proofs.Rows.Switches.{off_push}
use Rattle.isort_sort.proofs.LineLaws.Units.{flat}
use Rattle.isort_sort.proofs.LineLaws.Parts.{remarks_in, spelled-append}
use Rattle.isort_sort.proofs.LineLaws.Tokens.{remarks-of}

-- what the tokens of pieces are, as the lexer's law says
pub record TokenLaws : Type 0 where
  pub words : (offset line : ℕ) (pieces : List Piece) → map (word_in (line_of offset line pieces).text) (line_of offset line pieces).tokens ≡ words_of pieces
  pub anywhere : (offset line place row : ℕ) (pieces : List Piece) → map extent_of (line_of offset line pieces).tokens ≡ map extent_of (line_of place row pieces).tokens

-- the logical line of pieces at the start of a text
abbrev pub unit_line : List Piece → LogicalLine
unit_line u = line_of 0 1 u

pub comments_of_unit : TokenLaws → (offset line : ℕ) (u : List Piece) → comment_texts (line_of offset line u) ≡ remarks_in (words_of u)
comments_of_unit laws offset line u = remarks-of (line_of offset line u).text (line_of offset line u).tokens ∙ ap remarks_in (laws.words offset line u)

pub alone_anywhere : TokenLaws → (a : ActionComment) (offset line : ℕ) (u : List Piece) → says_alone a (line_of offset line u) ≡ says_alone a (unit_line u)
alone_anywhere laws a offset line u = ap (λ cs. is_comment_kind (unit_line u).kind && list_any (says a) cs) (comments_of_unit laws offset line u ∙ sym (comments_of_unit laws 0 1 u))

pub off_anywhere : TokenLaws → (offset line : ℕ) (u : List Piece) → says_off (line_of offset line u) ≡ says_off (unit_line u)
off_anywhere laws offset line u = alone_anywhere laws action.Off offset line u

pub on_anywhere : TokenLaws → (offset line : ℕ) (u : List Piece) → says_on (line_of offset line u) ≡ says_on (unit_line u)
on_anywhere laws offset line u = λ i. alone_anywhere laws action.On offset line u i && not (off_anywhere laws offset line u i)

moved_unit : TokenLaws → (offset line place row : ℕ) (u : List Piece) → IsMoved (line_of offset line u) (line_of place row u)
moved_unit laws offset line place row u = record { kind = refl; text = refl; indent = refl; tokens = laws.anywhere offset line place row u }

-- the pieces of a logical line, which isn't a text's first, and its row
pub record IsUnitRow (off : Bool) (u : List Piece) (row : Row) : Type 0 where
  pub role : HasRole off (unit_line u) row.role
  pub text : row.text ≡ encode_utf8_all (spelled u)
  pub indentation : row.indentation ≡ indentation_of (unit_line u)
  pub ended : row.ended ≡ nat_lt 0 (end_len_of u)

abbrev pub AreUnitRows : Bool → List (List Piece) → List Row → Type 0
AreUnitRows off [] [] = Unit {0}
AreUnitRows off (u ∷ us) (row ∷ rows) = IsUnitRow off u row × AreUnitRows (turned off (unit_line u)) us rows
AreUnitRows off _ _ = ⊥

-- the rows of a text after its first line
pub rows_from : TokenLaws → (first : LogicalLine) (before : List LogicalLine) (offset line : ℕ) (us : List (List Piece)) (rows : List Row) → AreRows (first ∷ before) (lines_from offset line us) rows → AreUnitRows (is_off_after (first ∷ before)) us rows
rows_from laws first before offset line [] rows h = subst (AreUnitRows (is_off_after (first ∷ before)) []) (sym h) tt
rows_from laws first before offset line (u ∷ us) rows h =
    let here : LogicalLine = line_of offset line u in
    let later = rows_from laws first (before ++ here ∷ []) (offset + byte_len (spelled u)) (line + line_ends (spelled u)) us h.1 h.4 in
    let off : Bool = is_off_after (first ∷ before) in
    let same : is_off_after (first ∷ (before ++ here ∷ [])) ≡ turned off (unit_line u) =
    off_push (first ∷ before) here ∙ (λ i. if off_anywhere laws offset line u i then true else (if on_anywhere laws offset line u i then false else off)) in
    subst (AreUnitRows off (u ∷ us)) (sym h.2) (
      record { role = role_moved off here (unit_line u) h.0.role (moved_unit laws offset line 0 1 u) h.3.role; text = h.3.text; indentation = h.3.indentation; ended = h.3.ended },
      subst (λ (b : Bool). AreUnitRows b us h.1) same later,
    )

pub rows_to : TokenLaws → (first : LogicalLine) (before : List LogicalLine) (offset line : ℕ) (us : List (List Piece)) (rows : List Row) → AreUnitRows (is_off_after (first ∷ before)) us rows → AreRows (first ∷ before) (lines_from offset line us) rows
rows_to laws first before offset line [] [] h = refl
rows_to laws first before offset line (u ∷ us) (row ∷ rows) h =
    let here : LogicalLine = line_of offset line u in
    let off : Bool = is_off_after (first ∷ before) in
    let same : is_off_after (first ∷ (before ++ here ∷ [])) ≡ turned off (unit_line u) =
    off_push (first ∷ before) here ∙ (λ i. if off_anywhere laws offset line u i then true else (if on_anywhere laws offset line u i then false else off)) in (
      row,
      rows,
      refl,
      record { role = role_moved off (unit_line u) here row.role (moved_unit laws 0 1 offset line u) h.0.role; text = h.0.text; indentation = h.0.indentation; ended = h.0.ended },
      rows_to laws first (before ++ here ∷ []) (offset + byte_len (spelled u)) (line + line_ends (spelled u)) us rows (subst (λ (b : Bool). AreUnitRows b us rows) (sym same) h.1),
    )
rows_to laws first before offset line _ _ h = absurd h

-- the text of rows is that of their pieces
pub rows_spelled : (off : Bool) (us : List (List Piece)) (rows : List Row) → AreUnitRows off us rows → texts_of rows ≡ encode_utf8_all (spelled (flat us))
rows_spelled off [] [] h = refl
rows_spelled off (u ∷ us) (row ∷ rows) h =
    (λ i. h.0.text i ++ rows_spelled (turned off (unit_line u)) us rows h.1 i)
    ∙ sym (encodes-append (spelled u) (spelled (flat us))) ∙ sym (ap encode_utf8_all (spelled-append u (flat us)))
rows_spelled off _ _ h = absurd h

-- whether sorting is off after logical lines
abbrev pub off_through : Bool → List (List Piece) → Bool
off_through off [] = off
off_through off (u ∷ us) = off_through (turned off (unit_line u)) us

-- the pieces of the first of some rows, and of the others
pub record AreRowsApart (off : Bool) (us : List (List Piece)) (rows others : List Row) : Type 0 where
  pub front : List (List Piece)
  pub back : List (List Piece)
  pub split : us ≡ front ++ back
  pub first : AreUnitRows off front rows
  pub second : AreUnitRows (off_through off front) back others

pub rows_apart : (off : Bool) (us : List (List Piece)) (rows others : List Row) → AreUnitRows off us (rows ++ others) → AreRowsApart off us rows others
rows_apart off us [] others h = record { front = []; back = us; split = refl; first = tt; second = h }
rows_apart off [] (row ∷ rows) others h = absurd h
rows_apart off (u ∷ us) (row ∷ rows) others h =
    let later = rows_apart (turned off (unit_line u)) us rows others h.1 in
    record { front = u ∷ later.front; back = later.back; split = ap (λ l. u ∷ l) later.split; first = (h.0, later.first); second = later.second }

pub rows_together : (off : Bool) (us vs : List (List Piece)) (rows others : List Row) → AreUnitRows off us rows → AreUnitRows (off_through off us) vs others → AreUnitRows off (us ++ vs) (rows ++ others)
rows_together off [] vs [] others h k = k
rows_together off (u ∷ us) vs (row ∷ rows) others h k = (h.0, rows_together (turned off (unit_line u)) us vs rows others h.1 k)
rows_together off _ vs _ others h k = absurd h

-- whether the row may stand in a block
abbrev pub role_in_block : Role → Bool
role_in_block (other b) = false
role_in_block _ = true

-- members, comments and blank lines turn sorting neither off nor on
alone_false : (a : ActionComment) (line : LogicalLine) → is_comment_kind line.kind ≡ false → says_alone a line ≡ false
alone_false a line h = ap (λ b. b && list_any (says a) (comment_texts line)) h

silent_past : (off : Bool) (line : LogicalLine) → says_alone action.Off line ≡ false → says_alone action.On line ≡ false → turned off line ≡ off
silent_past off line h k = ap (λ b. cond b true (cond (says_on line) false off)) h ∙ ap (λ b. cond (b && not (says_off line)) false off) k

pub silent : (off sorting : Bool) (line : LogicalLine) (role : Role) → HasRole sorting line role → role_in_block role ≡ true → turned off line ≡ off
silent off sorting line (member is cs) h k =
    let kind : is_comment_kind line.kind ≡ false = ap is_comment_kind h.1.0.code in
    silent_past off line (alone_false action.Off line kind) (alone_false action.On line kind)
silent off sorting line (comments cs) h k =
    let parts = or_parts (says_alone action.Off line || says_alone action.On line) (says_alone action.Split line) h.1 in
    let more = or_parts (says_alone action.Off line) (says_alone action.On line) parts.0 in
    silent_past off line more.0 more.1
silent off sorting line blank h k =
    let kind : is_comment_kind line.kind ≡ false = ap is_comment_kind h in
    silent_past off line (alone_false action.Off line kind) (alone_false action.On line kind)
silent off sorting line (other b) h k = absurd (cc)
