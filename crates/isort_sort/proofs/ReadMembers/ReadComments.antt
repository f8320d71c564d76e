-- The comments of logical lines that are read.
use Rattle.std.proofs.Common.{◌≡◌, ℕ, Bool, true, false, cond, ◌&&◌, ◌||◌, List, [], ◌∷◌, ◌++◌, map, refl, sym, ap, ◌∙◌, subst}
use Rattle.std.specs.Prelude.{encode_utf8_all, filter, if◌then◌else◌}
use Rattle.std.specs.List.{list_any}
use Rattle.std.specs.Str.{all_scalars}
use Rattle.std.proofs.lemmas.Bool.{or_parts}
use Rattle.py_lines.specs.Character.{is_digit}
use Rattle.py_lines.specs.LogicalLine.{LogicalLine}
use Rattle.py_lines.specs.Piece.{Class, word, comment, Piece, begins, spelled}
use Rattle.py_lines.specs.PieceGrammar.{IsComment}
use Rattle.py_lines.specs.Fields.{InClass, AreReadBefore}
use Rattle.py_lines.specs.Words.{Word, words_of_piece, words_of}
use Rattle.py_lines.specs.declared.token.TokKind.TheVariants as kind
use Rattle.py_lines.specs.declared.token.Token.{Token}
use Rattle.py_imports.specs.ActionComment.{says}
use Rattle.py_imports.specs.Shape.{says_skip}
use Rattle.py_imports.specs.Statement.{is_comment}
use Rattle.py_imports.specs.declared.action_comment.ActionComment.{ActionComment}
use Rattle.py_imports.specs.declared.action_comment.ActionComment.TheVariants as action
use Rattle.isort_sort.specs.Line.{word_of, comment_texts, own_comments, is_text, stripped, without_hash, IsOwnComment, AreOwnComments}
use Rattle.isort_sort.specs.Row.{says_alone, comments, HasRole}
use Rattle.isort_sort.specs.WrittenLine.{IsRemark, AreRemarks}
use Rattle.isort_sort.proofs.LineLaws.Each.{each-map, each-filter, each-false, none-of, each-mapped}
use Rattle.isort_sort.proofs.LineLaws.Tokens.{remarks-of, skips-of}
use Rattle.isort_sort.proofs.LineLaws.Units.{IsUnit, scalars-parts}
use Rattle.isort_sort.proofs.WrittenLines.UnitRows.{TokenLaws, unit_line, comments_of_unit}
use Rattle.isort_sort.proofs.LineLaws.Parts.{remarks_in, IsUnbrokenText}
use Rattle.isort_sort.proofs.WrittenLines.LineUnits.{says_skip_file, AreAbove}
use Rattle.isort_sort.proofs.ReadMembers.Stripped.{stripped_text, bare_comment, stripped_says}

-- the bytes of a comment
pub record IsCommentText (text : List ℕ) : Type 0 where
  pub characters : List ℕ
  pub spell : text ≡ encode_utf8_all characters
  pub is : IsComment characters
  pub scalars : all_scalars characters ≡ true

abbrev pub AreCommentTexts : List (List ℕ) → Type 0
AreCommentTexts [] = Unit {0}
AreCommentTexts (c ∷ cs) = IsCommentText c × AreCommentTexts cs

piece_comments : (class : Class) (text : List ℕ) (ws : List Word) → InClass class text → all_scalars text ≡ true → AreCommentTexts (remarks_in ws) → AreCommentTexts (remarks_in (words_of_piece class text ++ ws))
piece_comments word text ws is fine h = by (begins is_digit text)
  where
    by : (b : Bool) → AreCommentTexts (remarks_in (record { kind = if b then kind.Number else kind.Name; bytes = encode_utf8_all text } ∷ ws))
    by true = h
    by false = h
piece_comments comment text ws is fine h = (record { characters = text; spell = refl; is = is; scalars = fine }, h)
piece_comments _ text ws is fine h = h

words_comments : (ps : List Piece) (rest : List ℕ) → AreReadBefore ps rest → all_scalars (spelled ps) ≡ true → AreCommentTexts (remarks_in (words_of ps))
words_comments [] rest fit fine = tt
words_comments (p ∷ ps) rest fit fine =
    let parts = scalars-parts p.text (spelled ps) fine in
    piece_comments p.class p.text (words_of ps) fit.0 parts.0 (words_comments ps rest fit.3 parts.1)

pub unit_comments : TokenLaws → (u : List Piece) → IsUnit u → AreCommentTexts (comment_texts (unit_line u))
unit_comments laws u is = subst AreCommentTexts (sym (comments_of_unit laws 0 1 u)) (words_comments u [] is.reading.reads.fit is.scalars)

-- comments that may stand above a statement
above_from : (cs : List (List ℕ)) → AreCommentTexts cs → list_any (says action.Off) cs ≡ false → list_any (says action.On) cs ≡ false → list_any (says action.Split) cs ≡ false → list_any (says action.SkipFile) cs ≡ false → AreAbove cs
above_from [] h off on split skip = tt
above_from (c ∷ cs) h off on split skip =
    let a = or_parts (says action.Off c) (list_any (says action.Off) cs) off in
    let b = or_parts (says action.On c) (list_any (says action.On) cs) on in
    let d = or_parts (says action.Split c) (list_any (says action.Split) cs) split in
    let e = or_parts (says action.SkipFile c) (list_any (says action.SkipFile) cs) skip in (
      record { characters = h.0.characters; spell = h.0.spell; is = h.0.is; scalars = h.0.scalars; off = a.0; on = b.0; split = d.0; unskipped = e.0 },
      above_from cs h.1 a.1 b.1 d.1 e.1,
    )

pub comments_above : TokenLaws → (off : Bool) (u : List Piece) (cs : List (List ℕ)) → IsUnit u → says_skip_file u ≡ false → HasRole off (unit_line u) (comments cs) → AreAbove cs
comments_above laws off u cs is skip h =
    let line : LogicalLine = unit_line u in
    let parts = or_parts (says_alone action.Off line || says_alone action.On line) (says_alone action.Split line) h.1 in
    let more = or_parts (says_alone action.Off line) (says_alone action.On line) parts.0 in
    subst AreAbove (sym h.2) (above_from (comment_texts line) (unit_comments laws u is) (said action.Off more.0) (said action.On more.1) (said action.Split parts.1) skip)
  where
    said : (a : ActionComment) → says_alone a (unit_line u) ≡ false → list_any (says a) (comment_texts (unit_line u)) ≡ false
    said a e = sym (ap (λ b. b && list_any (says a) (comment_texts (unit_line u))) h.0) ∙ e

-- the comments that a statement joins
skip_texts : (line : LogicalLine) (ts : List Token) → list_any (says_skip line.text) ts ≡ false → list_any (says action.Skip) (map (word_of line) (filter (λ t. is_comment t.kind) ts)) ≡ false
skip_texts line ts h = ap (list_any (says action.Skip)) (remarks-of line.text ts) ∙ sym (skips-of line.text ts) ∙ h

own_of : List (List ℕ) → List (List ℕ)
own_of cs = filter is_text (map (λ t. stripped (without_hash t)) cs)

one_own : (c : List ℕ) → IsCommentText c → says action.Skip c ≡ false → IsOwnComment (stripped (without_hash c)) → IsRemark (stripped (without_hash c))
one_own c h skip own =
    let same : without_hash c ≡ encode_utf8_all h.is.1 = ap without_hash (h.spell ∙ ap encode_utf8_all h.is.2) ∙ bare_comment h.is.0 h.is.1 h.is.3 in
    let scalars = (scalars-parts (h.is.0 ∷ []) h.is.1 (ap all_scalars (sym h.is.2) ∙ h.scalars)).1 in
    let plain = subst (λ (t : List ℕ). IsUnbrokenText (stripped t)) (sym same) (stripped_text h.is.1 scalars h.is.4) in
    record { characters = plain.characters; spell = plain.spell; scalars = plain.scalars; unbroken = plain.unbroken; own = own; unskipped = stripped_says action.Skip c skip }

own_remarks : (cs : List (List ℕ)) → AreCommentTexts cs → list_any (says action.Skip) cs ≡ false → AreOwnComments (own_of cs) → AreRemarks (own_of cs)
unfolding own_of
own_remarks [] h skip own = tt
own_remarks (c ∷ cs) h skip own =
    let parts = or_parts (says action.Skip c) (list_any (says action.Skip) cs) skip in
    by (is_text (stripped (without_hash c))) own parts.0 (own_remarks cs h.1 parts.1)
  where
    by : (b : Bool) → AreOwnComments (cond b (stripped (without_hash c) ∷ own_of cs) (own_of cs)) → says action.Skip c ≡ false → (AreOwnComments (own_of cs) → AreRemarks (own_of cs)) → AreRemarks (cond b (stripped (without_hash c) ∷ own_of cs) (own_of cs))
    by true o k later = (one_own c h.0 k o.0, later o.1)
    by false o k later = later o

own_says : (a : ActionComment) (cs : List (List ℕ)) → list_any (says a) cs ≡ false → list_any (says a) (own_of cs) ≡ false
unfolding own_of
own_says a cs h =
    let IsSilent : List ℕ → Type 0 = λ c. says a c ≡ false in
    let own : List ℕ → List ℕ = λ t. stripped (without_hash t) in
    none-of (says a) (own_of cs) (each-filter IsSilent is_text (map own cs)
    (each-mapped IsSilent own cs (each-map IsSilent (λ c. IsSilent (own c)) (stripped_says a) cs (each-false (says a) cs h))))

pub remarks_of_unit : TokenLaws → (u : List Piece) → IsUnit u → list_any (says_skip (unit_line u).text) (unit_line u).tokens ≡ false → AreOwnComments (own_comments (unit_line u)) → AreRemarks (own_comments (unit_line u))
unfolding own_of
remarks_of_unit laws u is skip own = own_remarks (comment_texts (unit_line u)) (unit_comments laws u is) (skip_texts (unit_line u) (unit_line u).tokens skip) own

pub own_unskipped : (u : List Piece) → says_skip_file u ≡ false → list_any (says action.SkipFile) (own_comments (unit_line u)) ≡ false
unfolding own_of
own_unskipped u h = own_says action.SkipFile (comment_texts (unit_line u)) h
