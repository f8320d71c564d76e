-- A written statement is one logical line that imports what its words import.
use Rattle.std.proofs.Common.{◌≡◌, ℕ, Bool, true, false, ◌&&◌, List, [], ◌∷◌, ◌++◌, map, nat_lt, slice_get, if◌then◌else◌, refl, sym, ap, ◌∙◌, subst, append_assoc, append-nil}
use Rattle.std.specs.Prelude.{filter}
use Rattle.std.specs.List.{list_any, list_all}
use Rattle.std.proofs.lemmas.Bool.{and_parts}
use Rattle.py_lines.specs.Character.{is_space, is_digit, is_line_feed}
use Rattle.py_lines.specs.LogicalLine.{byte_len, cut, end_len_of}
use Rattle.py_lines.specs.Neighbours.{MayTouch}
use Rattle.py_lines.specs.Piece.{space, word, Piece, begins, spelled}
use Rattle.py_lines.specs.PieceGrammar.{IsLineEnd}
use Rattle.py_lines.specs.Words.{word_in, words_of}
use Rattle.py_imports.specs.ActionComment.{says}
use Rattle.py_imports.specs.BindingValue.{binding_at}
use Rattle.py_imports.specs.Grammar.{Terminal, import_word, from_word, Imported, IsImport, begins_import}
use Rattle.py_imports.specs.Names.{terminals_in}
use Rattle.py_imports.specs.Shape.{terminals_of, is_nothing, IsSortable}
use Rattle.py_imports.specs.Statement.{is_divider, significant}
use Rattle.py_imports.specs.declared.action_comment.ActionComment.TheVariants as action
use Rattle.isort_sort.specs.LaidAgain.{import_of}
use Rattle.isort_sort.specs.Layout.{Laid}
use Rattle.isort_sort.specs.Line.{word_of, comment_texts, stripped, without_hash, is_text, imported_of}
use Rattle.isort_sort.specs.Row.{is_string, string_skips, first_string_skips}
use Rattle.isort_sort.specs.WrittenLine.{mark_pieces, end_pieces, AreRemarks, IsWrittenLine, IsWritten}
use Rattle.isort_sort.proofs.LineLaws.Laws.{Laws}
use Rattle.isort_sort.proofs.WrittenStatements.Lines.{first_word, statement_pieces, line_pieces, written_line, line-code, line-first, statement-indented, line-stands}
use Rattle.isort_sort.proofs.LineLaws.Indented.{line-mark, line-indentation}
use Rattle.isort_sort.proofs.LineLaws.OneLine.{IsOneLine, plain-line, line-append, one-cut, ended-cut, no-end, some-end}
use Rattle.isort_sort.proofs.LineLaws.Parts.{piece, by_end, remarks_in, divides, IsStatementPart, words-append, part-append, part-space, space_pieces, LettersAreWords, part-letters}
use Rattle.isort_sort.proofs.WrittenStatements.Rests.{a_space, part-a_space, IsRest, remark_said}
use Rattle.isort_sort.proofs.WrittenStatements.Remarks.{own-again, said-silent, unskipped}
use Rattle.isort_sort.proofs.LineLaws.Tokens.{remarks-of, skips-of, undivided-of, alone-of, are_well, well-of}
use Rattle.isort_sort.proofs.Rows.Spaces.{space_no_feed}

abbrev pub first_terminal : Bool → Terminal
first_terminal true = from_word
first_terminal false = import_word

part-first : LettersAreWords → (from : Bool) → IsStatementPart (piece word (first_word from) ∷ []) (first_word from) (first_terminal from ∷ []) []
unfolding is_digit
part-first law true = part-letters law 102 (114 ∷ 111 ∷ 109 ∷ []) refl refl refl
part-first law false = part-letters law 105 (109 ∷ 112 ∷ 111 ∷ 114 ∷ 116 ∷ []) refl refl refl

-- what is given of a statement: where it stands, and what it says
pub record IsGiven (indentation end : List ℕ) (s : Laid) (from : Bool) (bytes : List ℕ) (terminals : List Terminal) : Type 0 where
  pub spaces : list_all is_space indentation ≡ true
  pub is_end : IsLineEnd end
  pub remarks : AreRemarks s.comments
  pub rest : IsRest space false end bytes terminals (remark_said s.comments)
  pub imported : IsImport (first_terminal from ∷ terminals) (map (import_of s.statement) s.items)

part-statement : Laws → (indentation end : List ℕ) (s : Laid) (from : Bool) (bytes : List ℕ) (terminals : List Terminal) (g : IsGiven indentation end s from bytes terminals) → IsStatementPart (statement_pieces indentation from g.rest.pieces) (indentation ++ (first_word from ++ (32 ∷ bytes))) (first_terminal from ∷ terminals) (remark_said s.comments)
part-statement laws indentation end s from bytes terminals g =
    part-append (part-space indentation g.spaces) (part-append (part-first laws.letters from) (part-append part-a_space g.rest.part))

bare-space : (indentation : List ℕ) → IsOneLine (space_pieces indentation)
bare-space [] = plain-line [] refl refl
bare-space (c ∷ cs) = plain-line (space_pieces (c ∷ cs)) refl refl

statement-line : (indentation : List ℕ) (from : Bool) (phrase : List Piece) → IsOneLine phrase → IsOneLine (statement_pieces indentation from phrase)
statement-line indentation from phrase l =
    line-append (bare-space indentation) (line-append (plain-line (piece word (first_word from) ∷ a_space ∷ []) refl refl) l)

statement-well : (indentation : List ℕ) (from : Bool) (phrase : List Piece) → are_well false (words_of phrase) ≡ true → are_well false (words_of (statement_pieces indentation from phrase)) ≡ true
unfolding is_digit
statement-well [] true phrase h = h
statement-well [] false phrase h = h
statement-well (c ∷ cs) true phrase h = h
statement-well (c ∷ cs) false phrase h = h

-- a mark and a line end say nothing
same-words : (marked : Bool) (ps : List Piece) (closed : Bool) (end : List ℕ) → words_of (mark_pieces marked ++ (ps ++ end_pieces closed end)) ≡ words_of ps
same-words true ps true end = words-append ps (end_pieces true end) ∙ append-nil (words_of ps)
same-words true ps false end = ap words_of (append-nil ps)
same-words false ps true end = words-append ps (end_pieces true end) ∙ append-nil (words_of ps)
same-words false ps false end = ap words_of (append-nil ps)

imports-back : (row : ℕ) (indented : Bool) (is : List Imported) → is ≡ map imported_of (map (binding_at row indented) is)
imports-back row indented [] = refl
imports-back row indented (i ∷ is) = ap (λ l. i ∷ l) (imports-back row indented is)

begins-so : (from : Bool) (terminals : List Terminal) → begins_import (first_terminal from ∷ terminals) ≡ true
begins-so true terminals = refl
begins-so false terminals = refl

-- whether there is a line end
marked-line : (marked : Bool) (ps : List Piece) → IsOneLine ps → IsOneLine (mark_pieces marked ++ ps)
marked-line true ps l = line-append (plain-line (mark_pieces true) refl refl) l
marked-line false ps l = l

end-some : (end : List ℕ) → IsLineEnd end → nat_lt 0 (byte_len end) ≡ true
unfolding lib.Utf8.encode
end-some end is = by_end (λ e. nat_lt 0 (byte_len e) ≡ true) end refl refl refl is

line-ended : (marked : Bool) (ps : List Piece) (closed : Bool) (end : List ℕ) → IsLineEnd end → IsOneLine ps → nat_lt 0 (end_len_of (mark_pieces marked ++ (ps ++ end_pieces closed end))) ≡ closed
line-ended marked ps true end e l =
    ap (λ qs. nat_lt 0 (end_len_of qs)) (sym (append_assoc (mark_pieces marked) ps (end_pieces true end)))
    ∙ ap (nat_lt 0) (some-end (mark_pieces marked ++ ps) end) ∙ end-some end e
line-ended marked ps false end e l =
    ap (λ qs. nat_lt 0 (end_len_of (mark_pieces marked ++ qs))) (append-nil ps)
    ∙ ap (nat_lt 0) (no-end (mark_pieces marked ++ ps) (marked-line marked ps l))

-- the logical line
pub line-read : Laws → (indentation end : List ℕ) (s : Laid) (from : Bool) (bytes : List ℕ) (terminals : List Terminal) (g : IsGiven indentation end s from bytes terminals) (marked closed : Bool) (offset row : ℕ) → IsWrittenLine indentation s marked closed (written_line offset row marked indentation from g.rest.pieces (end_pieces closed end))
line-read laws indentation end s from bytes terminals g marked closed offset row =
    let phrase = g.rest.pieces in
    let ps = statement_pieces indentation from phrase in
    let ends = end_pieces closed end in
    let l = written_line offset row marked indentation from phrase ends in
    let is : List Imported = map (import_of s.statement) s.items in
    let part = part-statement laws indentation end s from bytes terminals g in
    let words : map (word_in l.text) l.tokens ≡ words_of ps = laws.tokens offset row (line_pieces marked indentation from phrase ends) ∙ same-words marked ps closed end in
    let said : terminals_of l ≡ first_terminal from ∷ terminals = laws.terminals offset row (line_pieces marked indentation from phrase ends) ∙ ap terminals_in (same-words marked ps closed end) ∙ part.says in
    let comments : comment_texts l ≡ remark_said s.comments = remarks-of l.text l.tokens ∙ ap remarks_in words ∙ part.remarks in
    let undivided = undivided-of l.text l.tokens (ap (list_any divides) words ∙ part.undivided) in
    let first = line-first offset row marked indentation from phrase ends in
    let imported : IsImport (terminals_of l) is = subst (λ ts. IsImport ts is) (sym said) g.imported in
    let sortable : IsSortable l = record {
      code = line-code marked indentation from phrase ends;
      first = line-stands offset row marked indentation from phrase ends g.spaces;
      alone = alone-of [] (significant l.tokens) undivided;
      imported = is;
      is = imported;
      comments = well-of l.text [] l.tokens ∙ ap (are_well false) words ∙ statement-well indentation from phrase (g.rest.well false);
      unskipped = skips-of l.text l.tokens ∙ ap (λ ws. list_any (says action.Skip) (remarks_in ws)) words ∙ ap (list_any (says action.Skip)) part.remarks ∙ said-silent laws action.Skip s.comments (unskipped s.comments g.remarks);
    } in
    let bound = laws.binds l first.token first.others is first.all (subst (λ ts. list_any (λ t. is_divider t.kind) ts ≡ false) first.all undivided) (ap begins_import said ∙ begins-so from terminals) imported in
    record {
      role = (
        refl,
        (sortable, (map (binding_at first.token.line (nat_lt 0 l.indent)) is, bound, imports-back first.token.line (nat_lt 0 l.indent) is)),
        own-again s.comments g.remarks ∙ ap (λ ts. filter is_text (map (λ t. stripped (without_hash t)) ts)) (sym comments),
      );
      indentation = line-indentation offset row marked indentation (ps ++ ends) (statement-indented indentation from phrase ends g.spaces);
      mark = line-mark offset row marked indentation (ps ++ ends) (statement-indented indentation from phrase ends g.spaces);
      ended = line-ended marked ps closed end g.is_end (statement-line indentation from phrase g.rest.line);
      code = line-code marked indentation from phrase ends;
      says_no_more = λ a silent. ap (list_any (says a)) comments ∙ said-silent laws a s.comments silent;
      no_string = λ lines.
          ap (λ ts. if is_nothing ts then first_string_skips lines else string_skips l (slice_get ts 0)) first.all
          ∙ ap (λ k. is_string k && says action.SkipFile (word_of l first.token)) first.kind;
    }

-- its pieces
statement-touch : (indentation : List ℕ) (from : Bool) (phrase ends : List Piece) → MayTouch (piece word (first_word from) ∷ a_space ∷ (phrase ++ ends)) → MayTouch (statement_pieces indentation from phrase ++ ends)
statement-touch [] from phrase ends h = h
statement-touch (c ∷ cs) from phrase ends h = (refl, h)

statement-unbroken : (indentation : List ℕ) (from : Bool) (phrase : List Piece) → list_all is_space indentation ≡ true → begins is_line_feed (spelled (statement_pieces indentation from phrase)) ≡ false
unfolding is_line_feed
statement-unbroken [] true phrase h = refl
statement-unbroken [] false phrase h = refl
statement-unbroken (c ∷ cs) from phrase h = space_no_feed c (and_parts _ _ h).0

statement-cut : (indentation : List ℕ) (from : Bool) (phrase : List Piece) → IsOneLine (statement_pieces indentation from phrase) → cut 0 (statement_pieces indentation from phrase) ≡ statement_pieces indentation from phrase ∷ []
statement-cut [] from phrase l = one-cut (piece word (first_word from)) (a_space ∷ phrase) l
statement-cut (c ∷ cs) from phrase l = one-cut (piece space (c ∷ cs)) (piece word (first_word from) ∷ a_space ∷ phrase) l

pub written : Laws → (indentation end : List ℕ) (s : Laid) (from : Bool) (bytes : List ℕ) (terminals : List Terminal) (text : List ℕ) (g : IsGiven indentation end s from bytes terminals) → indentation ++ (first_word from ++ (32 ∷ bytes)) ≡ text → IsWritten indentation end s text (statement_pieces indentation from g.rest.pieces)
written laws indentation end s from bytes terminals text g spelled_so =
    let phrase = g.rest.pieces in
    let ps = statement_pieces indentation from phrase in
    let part = part-statement laws indentation end s from bytes terminals g in
    let one = statement-line indentation from phrase g.rest.line in
    record {
      simple = part.simple;
      touch = statement-touch indentation from phrase (end_pieces true end) (refl, g.rest.touch (32 ∷ []));
      unbroken = statement-unbroken indentation from phrase g.spaces;
      scalars = part.scalars;
      spell = part.spell ∙ spelled_so;
      balanced = one.balanced;
      shallow = one.shallow;
      deep = one.deep;
      whole = statement-cut indentation from phrase one;
      cut = λ more. ended-cut ps end more one;
      line = λ marked closed offset row. line-read laws indentation end s from bytes terminals g marked closed offset row;
    }
