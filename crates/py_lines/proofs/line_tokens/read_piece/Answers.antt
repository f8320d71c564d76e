use Rattle.std.proofs.lemmas.Grind.{common_steps}
use Rattle.py_lines.proofs.Prelude.{◌≡◌, ◌+◌, ◌∙◌, ℕ, None, Some, List, true, false, ap, append-nil, arith, drop, le_refl, length, length-drop, refl, slice_index, subst, sym, ⊎_elim, MatchOption, TokKind, nat_le, both_ways, or_left, or_right, take_all, Piece, Token, nat_tests, rest_is, rest_of, is_of_class}
use Rattle.py_lines.specs.declared.class.Class.{Class as ByteClass}
use Rattle.py_lines.specs.declared.class.Class.TheVariants as class
use Rattle.py_lines.specs.Private.LineTokens.{AddsPiece, BeginWithPiece, IsFirstPiece, ReadsAnyway, ReadsPiece, StaysUnread, is_simple, token_piece}
use Rattle.py_lines.specs.Private.Run.{is_ascii_word, is_wide_word}
use Rattle.py_lines.proofs.LineTokens.Anyway.{begins_from, piece_read}
use Rattle.py_lines.proofs.LineTokens.FirstCharacters.{class_is, class_told, some_bytes}
use Rattle.py_lines.proofs.LineTokens.FirstPieces.{join_taken, line_end_taken}
use Rattle.py_lines.proofs.LineTokens.FirstString.{first_within}
use Rattle.py_lines.proofs.line_tokens.read_piece.Goals as goal
use Rattle.py_lines.proofs.line_tokens.read_piece.Goals.{After-of-class, In_default, In-Some, Joined-class, in-Quote, in-Word}

-- the piece, as a slice has the bytes
there : (c : After-of-class) → (p : Piece) × BeginWithPiece (rest_of c.args.text.now c.args.start) p
there c = subst (λ l. (p : Piece) × BeginWithPiece l p) (sym (rest_is c.args.text.now c.args.start)) c.requires.piece

-- it was not read yet
unread : (c : In_default) → StaysUnread c.of-class.result c.args.tokens.now.items c.read_anyway.new.tokens.items
unread c =
    let (old, new) : _ × _ = (c.args.tokens.now.items, c.read_anyway.new.tokens.items) in
    subst (λ o. MatchOption o (StaysUnread c.of-class.result old new) (λ p. ReadsAnyway (drop c.args.start c.args.text.now) old c.args.start c.args.line p.0 p.1 new))
    c.in_default.is c.in_ok-piece.ensures

pub returns-in-Some : goal.returns-in-Some
returns-in-Some c =
    let l = drop c.args.start c.args.text.now in
    let (old, new) : _ × _ = (c.args.tokens.now.items, c.read_anyway.new.tokens.items) in
    let r : ReadsAnyway l old c.args.start c.args.line c.in-Some.piece.0 c.in-Some.piece.1 new = piece_read _ c.in-Some.is c.in_ok-piece.ensures in
    record {
      role = r.role;
      is = subst (λ x. IsFirstPiece x (record { role = r.role; len = c.in-Some.piece.0; line_ends = c.in-Some.piece.1 })) (take_all (length l) l (le_refl (length l))) (r.is (length l) r.within (le_refl (length l)));
      adds = r.adds;
    }

pub word_or_string-requires-clause-word : goal.word_or_string-requires-clause-word
word_or_string-requires-clause-word c =
    let rest = rest_of c.args.text.now c.args.start in
    let first = slice_index rest 0 in
    let told = c.of-class.ensures in
    begins_from is_wide_word rest (some_bytes rest (there (goal.at.word_or_string-requires-clause-word c).After-of-class))
    (⊎_elim (λ is. or_left (is_ascii_word first) (nat_le 128 first) (ap (λ k. is_of_class k first) (sym is) ∙ told))
    (λ is. or_right (is_ascii_word first) (nat_le 128 first) (ap (λ k. is_of_class k first) (sym is) ∙ told)) c.in-Word.is)

pub word_or_string-requires-clause-piece : goal.word_or_string-requires-clause-piece
word_or_string-requires-clause-piece c = there (goal.at.word_or_string-requires-clause-piece c).After-of-class

-- what stands there is a token of this kind, with so many bytes and line ends
first : (c : Joined-class) → IsFirstPiece (rest_of c.args.text.now c.args.start) (token_piece c.match-class.kind.0 c.match-class.kind.1 c.match-class.kind.2)
first c =
    let is : TokKind × ℕ × ℕ → Type 0 = λ k. IsFirstPiece (rest_of c.args.text.now c.args.start) (token_piece k.0 k.1 k.2) in
    elim c.match-class.branch [
      | in-Word w ↦ subst is (sym w.kind-is) w.word_or_string.ensures
      | in-Quote w ↦ subst is (sym w.kind-is) w.string_len-len.ensures
    ]

pub add_token-requires : goal.add_token-requires
add_token-requires c =
    let (text, start) : _ × _ = (c.args.text.now, c.args.start) in
    omega (arith, c.well_formed, first_within (there (goal.at.add_token-requires c).After-of-class) (first (goal.at.add_token-requires c).Joined-class), ap length (rest_is text start), length-drop start text)

pub string_len-len-requires-clause-piece : goal.string_len-len-requires-clause-piece
string_len-len-requires-clause-piece c = there (goal.at.string_len-len-requires-clause-piece c).After-of-class

pub string_len-len-requires-clause-string : goal.string_len-len-requires-clause-string
string_len-len-requires-clause-string c = λ p b. class_is b c.of-class.ensures c.in-Quote.is

-- a byte of no other class begins a piece that isn't read before
leftover : (k : ByteClass) (bytes : List ℕ) (p : Piece) → BeginWithPiece bytes p → is_of_class k (slice_index bytes 0) ≡ true → is_simple k ≡ false
    → (k ≡ class.Word → ⊥) → (k ≡ class.Wide → ⊥) → (k ≡ class.Quote → ⊥) → (k ≡ class.Return → ⊥) → (k ≡ class.Backslash → ⊥) → ⊥
leftover class.Word bytes p b is other word wide quote return slash = word refl
leftover class.Wide bytes p b is other word wide quote return slash = wide refl
leftover class.Quote bytes p b is other word wide quote return slash = quote refl
leftover class.Return bytes p b is other word wide quote return slash = return refl
leftover class.Backslash bytes p b is other word wide quote return slash = slash refl
leftover class.Other bytes p b is other word wide quote return slash = class_told bytes p class.Other b is
leftover k bytes p b is other word wide quote return slash = both_ways _ other refl

pub unreachable-requires : goal.unreachable-requires
unreachable-requires c =
    let (p, b) = there (goal.at.unreachable-requires c).After-of-class in
    let no = c.in_default-class in
    leftover c.of-class.result _ p b c.of-class.ensures (unread (goal.at.unreachable-requires c).In_default).0 no.not-Word no.not-Wide no.not-Quote no.not-Return no.not-Backslash

pub returns-in-Backslash : goal.returns-in-Backslash
returns-in-Backslash c =
    let (text, start) : _ × _ = (c.args.text.now, c.args.start) in
    subst (λ l. ReadsPiece l c.args.tokens.now.items start c.args.line (1 + c.line_end_len.result) 1 c.read_anyway.new.tokens.items) (rest_is text start) (record {
      role = None;
      is = λ p b. rw c.line_end_len.ensures (join_taken b (class_is b c.of-class.ensures c.in-Backslash.is));
      adds = (unread (goal.at.returns-in-Backslash c).In_default).1 ∙ sym (append-nil _);
    })

pub returns-in-Return : goal.returns-in-Return
returns-in-Return c =
    let (text, start) : _ × _ = (c.args.text.now, c.args.start) in
    subst (λ l. ReadsPiece l c.args.tokens.now.items start c.args.line c.line_end_len-in-Return.result 1 c.read_anyway.new.tokens.items) (rest_is text start) (record {
      role = None;
      is = λ p b. rw c.line_end_len-in-Return.ensures (line_end_taken b (class_is b c.of-class.ensures c.in-Return.is));
      adds = (unread (goal.at.returns-in-Return c).In_default).1 ∙ sym (append-nil _);
    })

pub returns : goal.returns
returns c =
    let (text, start, k) : _ × _ × _ = (c.args.text.now, c.args.start, c.match-class.kind) in
    subst (λ l. ReadsPiece l c.args.tokens.now.items start c.args.line k.1 k.2 c.add_token.new.tokens.items) (rest_is text start) (record {
      role = Some k.0;
      is = first (goal.at.returns c).Joined-class;
      adds = subst (λ (t : List Token). AddsPiece t (Some k.0) start (start + k.1) c.args.line c.add_token.new.tokens.items) (unread (goal.at.returns c).In_default).1 c.in_ok-add_token.ensures;
    })

pub read_anyway-requires-clause-class : goal.read_anyway-requires-clause-class
read_anyway-requires-clause-class c = grind (arith, common_steps)

pub overflow_add-result : goal.overflow_add-result
overflow_add-result c = grind (arith, nat_tests)

pub string_len-len-requires-clause-quote : goal.string_len-len-requires-clause-quote
string_len-len-requires-clause-quote c = grind (arith, nat_tests)

pub read_anyway-requires-clause-within : goal.read_anyway-requires-clause-within
read_anyway-requires-clause-within c = grind (arith, nat_tests)
