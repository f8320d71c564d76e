-- Logical lines that were given end where their reader stands.
use Rattle.std.proofs.Common.{◌≡◌, ℕ, ◌+◌, Bool, true, false, ◌&&◌, ◌==◌, None, List, [], ◌∷◌, ◌++◌, length, refl, sym, ap, ◌∙◌, append_assoc, append-nil, if◌then◌else◌, encode_utf8, encode_utf8_all, length-append}
use Rattle.py_lines.specs.Piece.{Piece, spelled}
use Rattle.py_lines.specs.Balance.{depth_after}
use Rattle.py_lines.specs.Lexed.{IsLexed}
use Rattle.py_lines.specs.LogicalLine.{LogicalLine, lines_from, cut, put_first, byte_len, line_ends, is_line_end_class}
use Rattle.py_lines.specs.Reader.{Reader, HasGiven}
use Rattle.isort_find.specs.Lexing.{byte_count}

encode_utf8_all-append : (xs ys : List ℕ) → encode_utf8_all (xs ++ ys) ≡ encode_utf8_all xs ++ encode_utf8_all ys
encode_utf8_all-append [] ys = refl
encode_utf8_all-append (x ∷ xs) ys = ap (λ t. encode_utf8 x ++ t) (encode_utf8_all-append xs ys) ∙ sym (append_assoc (encode_utf8 x) (encode_utf8_all xs) (encode_utf8_all ys))

byte_len-append : (xs ys : List ℕ) → byte_len (xs ++ ys) ≡ byte_len xs + byte_len ys
byte_len-append xs ys = ap length (encode_utf8_all-append xs ys) ∙ length-append (encode_utf8_all xs) (encode_utf8_all ys)

-- the characters of parts, one after another
abbrev spelled_parts : List (List Piece) → List ℕ
spelled_parts [] = []
spelled_parts (u ∷ us) = spelled u ++ spelled_parts us

spelled_parts-put_first : (p : Piece) (us : List (List Piece)) → spelled_parts (put_first p us) ≡ p.text ++ spelled_parts us
spelled_parts-put_first p [] = append-nil (p.text ++ [])
spelled_parts-put_first p (u ∷ us) = append_assoc p.text (spelled u) (spelled_parts us)

either_part : (b : Bool) (p : Piece) (here further : List (List Piece)) (text : List ℕ) → spelled_parts here ≡ text → spelled_parts further ≡ text → spelled_parts (if b then (p ∷ []) ∷ here else put_first p further) ≡ p.text ++ text
either_part true p here further text h k = ap (λ x. x ++ spelled_parts here) (append-nil p.text) ∙ ap (λ x. p.text ++ x) h
either_part false p here further text h k = spelled_parts-put_first p further ∙ ap (λ x. p.text ++ x) k

spelled_parts-cut : (ps : List Piece) (depth : ℕ) → spelled_parts (cut depth ps) ≡ spelled ps
spelled_parts-cut [] depth = refl
spelled_parts-cut (p ∷ ps) depth = either_part (is_line_end_class p.class && (depth == 0)) p (cut depth ps) (cut (depth_after depth p) ps) (spelled ps) (spelled_parts-cut ps depth) (spelled_parts-cut ps (depth_after depth p))

-- the bytes of lines are those of all their characters
bytes_of-lines_from : (us : List (List Piece)) (offset line : ℕ) → byte_count (lines_from offset line us) ≡ byte_len (spelled_parts us)
bytes_of-lines_from [] offset line = refl
bytes_of-lines_from (u ∷ us) offset line = ap (λ n. byte_len (spelled u) + n) (bytes_of-lines_from us (offset + byte_len (spelled u)) (line + line_ends (spelled u))) ∙ sym (byte_len-append (spelled u) (spelled_parts us))

-- the lines that a reader has given are the text's bytes up to its place
pub bytes_given : (reader : Reader) (lines : List LogicalLine) → HasGiven reader lines → byte_count lines ≡ reader.place
bytes_given reader lines h = ap byte_count h.first.cut ∙ bytes_of-lines_from (cut 0 h.first.pieces) 0 1 ∙ ap byte_len (spelled_parts-cut h.first.pieces 0) ∙ sym h.first.here

-- all logical lines of a text are its bytes
pub bytes_lexed : (text : List ℕ) (lines : List LogicalLine) → IsLexed text lines None → byte_count lines ≡ length text
bytes_lexed text lines h = ap byte_count h.cut ∙ bytes_of-lines_from (cut 0 h.pieces) 0 1 ∙ ap byte_len (spelled_parts-cut h.pieces 0) ∙ ap byte_len h.reading.reads.spell ∙ ap length (sym (append-nil (encode_utf8_all h.characters)) ∙ h.decodes.spell)
