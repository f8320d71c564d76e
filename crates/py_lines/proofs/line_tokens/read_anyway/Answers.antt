use Rattle.py_lines.proofs.Prelude.{◌≡◌, ◌<◌, ◌≤◌, ◌+◌, ◌∙◌, ℕ, Option, List, ap, arith, drop, length, length-drop, refl, subst, sym, append-nil, false, true, slice_index, ⊎_elim, or_left, is_quote, is_space, Token, TokKind, rest_is, rest_of, is_of_class}
use Rattle.py_lines.specs.declared.class.Class.{Class as ByteClass}
use Rattle.py_lines.specs.Private.LineTokens.{AddsPiece, IsFirstAnyway, ReadsAnyway, token_piece}
use Rattle.py_lines.specs.Private.Run.{is_wide_word}
use Rattle.py_lines.proofs.PassedPieces.FirstBytes.{first_later}
use Rattle.py_lines.proofs.LineTokens.FirstCharacters.{OfByte}
use Rattle.py_lines.proofs.LineTokens.Anyway.{comment_anyway, feed_anyway, operator_anyway, run_some, space_anyway, word_anyway}
use Rattle.py_lines.proofs.line_tokens.read_anyway.Goals as goal
use Rattle.py_lines.proofs.line_tokens.read_anyway.Goals.{Joined-class, in-Hash, in-Operator, in-Word+else-len-rest, else-len-rest-via-then-len-rest+else-is_quote, else-len-rest-via-else-len-rest}

-- some bytes stand there
some : (bytes : List ℕ) (start : ℕ) → start < length bytes → 0 < length (rest_of bytes start)
some bytes start within = omega (arith, within, ap length (rest_is bytes start), length-drop start bytes)

-- and the first of them is of this class
told : (bytes : List ℕ) (start : ℕ) {j k : ByteClass} → is_of_class j (slice_index bytes start) ≡ true → j ≡ k → is_of_class k (slice_index (rest_of bytes start) 0) ≡ true
told bytes start {j} class is = (λ i. is_of_class (sym is i) ((ap (λ l. slice_index l 0) (rest_is bytes start) ∙ first_later bytes start) i)) ∙ class

-- so it was read, as a slice has the bytes
read : (bytes : List ℕ) (start : ℕ) {old new : List Token} {line len ends : ℕ} {role : Option TokKind} → 0 < len → len ≤ length (rest_of bytes start) → ends ≤ len
    → IsFirstAnyway (rest_of bytes start) (record { role = role; len = len; line_ends = ends }) → AddsPiece old role start (start + len) line new
    → ReadsAnyway (drop start bytes) old start line len ends new
read bytes start {old} {new} {line} {len} {ends} some within few is adds =
    subst (λ l. ReadsAnyway l old start line len ends new) (rest_is bytes start)
    (record { some = some; within = within; few = few; role = _; is = is; adds = adds })

-- what stands there is a token of this kind and length
first : (c : Joined-class) → let rest = rest_of c.args.bytes.now c.args.start in
    let k = c.match-class.kind in
    (0 < k.1) × (k.1 ≤ length rest) × IsFirstAnyway rest (token_piece k.0 k.1 0)
first c =
    let bytes = c.args.bytes.now in
    let rest = rest_of bytes c.args.start in
    let any = some bytes c.args.start c.requires.within in
    let is : TokKind × ℕ → Type 0 = λ k. (0 < k.1) × (k.1 ≤ length rest) × IsFirstAnyway rest (token_piece k.0 k.1 0) in
    elim c.match-class.branch [
      | in-Word+else-len-rest w ↦
          let len = w.len_in-len.result in
          let word = told bytes c.args.start c.requires.class w.in-Word.is in
          let more = run_some is_wide_word rest len any (or_left _ _ word) w.len_in-len.ensures in
          let other : len < length rest → is_quote (slice_index rest len) ≡ false = elim w.else-len-rest.branch [
            | else-len-rest-via-then-len-rest+else-is_quote v ↦ λ less. sym v.is_quote.ensures ∙ v.if-is_quote.false
            | else-len-rest-via-else-len-rest v ↦ λ less. absurd (omega (arith, less, v.if-len-rest.false))
          ] in
          subst is (sym w.kind-is) (more, w.len_in-len.ensures.within, subst (λ k. IsFirstAnyway rest (token_piece k len 0)) (sym w.word_kind.ensures) (word_anyway rest len word w.len_in-len.ensures more other))
      | in-Operator w ↦ subst is (sym w.kind-is) (
        omega arith,
        omega (arith, any),
        operator_anyway rest c.args.class (told bytes c.args.start c.requires.class refl) (λ p of.
            ⊎_elim (λ is. subst (λ k. OfByte k p.class) is of)
            (⊎_elim (λ is. subst (λ k. OfByte k p.class) is of) (λ is. subst (λ k. OfByte k p.class) is of)) w.in-Operator.is),
      )
      | in-Hash w ↦ subst is (sym w.kind-is) (
        omega arith,
        omega (arith, any, w.comment_run.ensures.within, ap length (rest_is rest 1), length-drop 1 rest),
        comment_anyway rest w.comment_run.result (told bytes c.args.start c.requires.class w.in-Hash.is) w.comment_run.ensures,
      )
    ]

pub returns : goal.returns
returns c =
    let (some, within, is) = first (goal.at.returns c).Joined-class in
    read c.args.bytes.now c.args.start some within (omega arith) is c.in_ok-add_token.ensures

pub returns-in-Space : goal.returns-in-Space
returns-in-Space c =
    let bytes = c.args.bytes.now in
    let space = told bytes c.args.start c.requires.class c.in-Space.is in
    let more = run_some is_space _ c.space_len.result (some bytes c.args.start c.requires.within) space c.space_len.ensures in
    read bytes c.args.start more c.space_len.ensures.within (omega arith) (space_anyway _ c.space_len.result space c.space_len.ensures more)
    (sym (append-nil _))

pub returns-in-LineFeed : goal.returns-in-LineFeed
returns-in-LineFeed c =
    let bytes = c.args.bytes.now in
    let feed = told bytes c.args.start c.requires.class c.in-LineFeed.is in
    read bytes c.args.start (omega arith) (omega (arith, some bytes c.args.start c.requires.within)) (omega arith) (feed_anyway _ feed)
    (sym (append-nil _))
