-- Logical lines with indentation, where a byte order mark may stand before them.
use Rattle.std.proofs.Common.{◌≡◌, ℕ, ◌+◌, ◌-◌, ◌<◌, Bool, true, false, ◌&&◌, List, [], ◌∷◌, ◌++◌, length, take, drop, nat_eq, refl, sym, ap, ◌∙◌, arith}
use Rattle.std.specs.Prelude.{encode_utf8_all, slice_range, if◌then◌else◌}
use Rattle.std.specs.Cmp.Lexicographic.{pointwise}
use Rattle.std.specs.List.{list_all, starts_with}
use Rattle.std.proofs.Math.Seq.{drop-append_seam, take-append_seam}
use Rattle.std.proofs.Math.Utf8.{encode}
use Rattle.std.proofs.lemmas.Bool.{and_parts}
use Rattle.std.proofs.lemmas.Bool.Decides.{nat_tests}
use Rattle.std.proofs.lemmas.Str.{encodes-append, encode_ascii}
use Rattle.py_lines.specs.Character.{is_space}
use Rattle.py_lines.specs.LogicalLine.{byte_len, indent_of, line_of}
use Rattle.py_lines.specs.Piece.{Class, space, word, comment, Piece, spelled}
use Rattle.py_imports.specs.Shape.{mark_len}
use Rattle.isort_sort.specs.Row.{indentation_of}
use Rattle.isort_sort.specs.WrittenLine.{mark_pieces, mark_bytes}
use Rattle.isort_sort.proofs.LineLaws.Parts.{piece, space_pieces, spaces_low, low-spell}
use Rattle.isort_sort.proofs.Rows.Spaces.{space_low}

-- a text that begins with a byte of ASCII has no mark
pub low_start : (b : ℕ) (text : List ℕ) → b < 128 → starts_with nat_eq (b ∷ text) (0xef ∷ 0xbb ∷ 0xbf ∷ []) ≡ false
low_start b text h =
    let other_byte : nat_eq 0xef b ≡ false = grind (arith, nat_tests) in
    ap (λ x. x && pointwise nat_eq (0xbb ∷ 0xbf ∷ []) (take 2 text)) other_byte

-- what stands after a mark
pub after_mark : (marked : Bool) (u : List Piece) → encode_utf8_all (spelled u) ≡ drop (mark_bytes marked) (encode_utf8_all (spelled (mark_pieces marked ++ u)))
unfolding encode
after_mark true u = refl
after_mark false u = refl

abbrev pub mark_text : Bool → List ℕ
mark_text true = 0xef ∷ 0xbb ∷ 0xbf ∷ []
mark_text false = []

pub marked_text : (marked : Bool) (u : List Piece) → encode_utf8_all (spelled (mark_pieces marked ++ u)) ≡ mark_text marked ++ encode_utf8_all (spelled u)
unfolding encode
marked_text true u = refl
marked_text false u = refl

mark_text-length : (marked : Bool) → length (mark_text marked) ≡ mark_bytes marked
mark_text-length true = refl
mark_text-length false = refl

-- pieces that begin with this indentation, and then with a character of ASCII
pub record AreIndented (indentation : List ℕ) (u : List Piece) : Type 0 where
  pub byte : ℕ
  pub others : List ℕ
  pub low : byte < 128
  pub begins : encode_utf8_all (spelled u) ≡ byte ∷ others
  pub rest : List ℕ
  pub text : encode_utf8_all (spelled u) ≡ indentation ++ rest
  pub indent : (marked : Bool) → indent_of (mark_pieces marked ++ u) ≡ length indentation

-- by space, or with none before a word or a comment
pub spaced : (c : ℕ) (cs : List ℕ) (ps : List Piece) → list_all is_space (c ∷ cs) ≡ true → AreIndented (c ∷ cs) (piece space (c ∷ cs) ∷ ps)
spaced c cs ps h =
    let low = space_low c (and_parts (is_space c) (list_all is_space cs) h).0 in
    let spell = low-spell (c ∷ cs) (spaces_low (c ∷ cs) h) in
    record {
      byte = c;
      others = encode_utf8_all (cs ++ spelled ps);
      low = low;
      begins = ap (λ (t : List ℕ). t ++ encode_utf8_all (cs ++ spelled ps)) (encode_ascii c low);
      rest = encode_utf8_all (spelled ps);
      text = encodes-append (c ∷ cs) (spelled ps) ∙ ap (λ (t : List ℕ). t ++ encode_utf8_all (spelled ps)) spell;
      indent = λ marked. indent marked ps ∙ ap length spell;
    }
  where
    indent : (marked : Bool) (qs : List Piece) → indent_of (mark_pieces marked ++ (piece space (c ∷ cs) ∷ qs)) ≡ byte_len (c ∷ cs)
    indent true qs = refl
    indent false [] = refl
    indent false (q ∷ qs) = refl

abbrev pub head_class : Bool → Class
head_class true = word
head_class false = comment

no_indent : (marked is_word : Bool) (text : List ℕ) (q : Piece) (qs : List Piece) → indent_of (mark_pieces marked ++ (piece (head_class is_word) text ∷ q ∷ qs)) ≡ 0
no_indent true true text q qs = refl
no_indent true false text q qs = refl
no_indent false true text q qs = refl
no_indent false false text q qs = refl

pub indented : (is_word : Bool) (indentation : List ℕ) (c : ℕ) (cs : List ℕ) (q : Piece) (qs : List Piece) → list_all is_space indentation ≡ true → c < 128 → AreIndented indentation (space_pieces indentation ++ (piece (head_class is_word) (c ∷ cs) ∷ q ∷ qs))
indented b [] c cs q qs h low = record {
  byte = c;
  others = encode_utf8_all (cs ++ spelled (q ∷ qs));
  low = low;
  begins = ap (λ (t : List ℕ). t ++ encode_utf8_all (cs ++ spelled (q ∷ qs))) (encode_ascii c low);
  rest = encode_utf8_all ((c ∷ cs) ++ spelled (q ∷ qs));
  text = refl;
  indent = λ marked. no_indent marked b (c ∷ cs) q qs;
}
indented b (i ∷ is) c cs q qs h low = spaced i is (piece (head_class b) (c ∷ cs) ∷ q ∷ qs) h

-- the mark and the indentation of their line
pub line-mark : (offset row : ℕ) (marked : Bool) (indentation : List ℕ) (u : List Piece) → AreIndented indentation u → mark_len (line_of offset row (mark_pieces marked ++ u)) ≡ mark_bytes marked
unfolding encode
line-mark offset row true indentation u is = refl
line-mark offset row false indentation u is =
    ap (λ t. if starts_with nat_eq t (0xef ∷ 0xbb ∷ 0xbf ∷ []) then 3 else 0) is.begins ∙ ap (λ x. if x then 3 else 0) (low_start is.byte is.others is.low)

pub sliced : (m n : ℕ) (text : List ℕ) → slice_range text m (m + n) ≡ take n (drop m text)
sliced m n text = let same : (m + n) - m ≡ n = omega arith in ap (λ (k : ℕ). take k (drop m text)) same

slice_seam : (b x c : List ℕ) → slice_range (b ++ (x ++ c)) (length b) (length b + length x) ≡ x
slice_seam b x c =
    sliced (length b) (length x) (b ++ (x ++ c)) ∙ ap (λ (t : List ℕ). take (length x) t) (drop-append_seam b (x ++ c)) ∙ take-append_seam x c

pub line-indentation : (offset row : ℕ) (marked : Bool) (indentation : List ℕ) (u : List Piece) → AreIndented indentation u → indentation_of (line_of offset row (mark_pieces marked ++ u)) ≡ indentation
line-indentation offset row marked indentation u is =
    let text = marked_text marked u ∙ ap (λ t. mark_text marked ++ t) is.text in
    let start = line-mark offset row marked indentation u is ∙ sym (mark_text-length marked) in
    (λ i. slice_range (text i) (start i) (start i + is.indent marked i)) ∙ slice_seam (mark_text marked) indentation is.rest
