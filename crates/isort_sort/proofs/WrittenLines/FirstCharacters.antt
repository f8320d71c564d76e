-- A logical line that isn't blank doesn't begin with LF.
use Rattle.std.proofs.Common.{◌≡◌, ℕ, ◌==◌, Bool, true, false, cond, ◌&&◌, ◌||◌, ◌⊎◌, ⊎_elim, inl, inr, List, [], ◌∷◌, ◌++◌, append_assoc, refl, sym, ap, ◌∙◌}
use Rattle.std.specs.List.{list_any, list_all}
use Rattle.std.proofs.lemmas.Bool.{and_parts, both_ways, cases_Bool, false_from_ne_true, or_parts, eqb-true}
use Rattle.py_lines.specs.PieceGrammar.{IsWord, IsPrefix, is_prefix, joined}
use Rattle.py_lines.specs.FieldStrings.{is_field_prefix, quotes_of}
use Rattle.py_lines.specs.Balance.{depth_after}
use Rattle.py_lines.specs.Fields.{InClass}
use Rattle.py_lines.specs.Character.{is_mark, is_space, is_quote, is_operator, is_line_feed, is_break, is_hash, is_backslash, is_one_of, is_r, is_b, is_f, is_u, is_t}
use Rattle.py_lines.specs.LogicalLine.{is_line_end_class, put_first, cut, kind_of}
use Rattle.py_lines.specs.Piece.{Class, mark, space, word, string, operator, comment, join, line_end, Piece, begins, spelled}
use Rattle.py_lines.specs.declared.unit.UnitKind.TheVariants as unit_kind
use Rattle.py_imports.specs.ActionComment.{says}
use Rattle.py_imports.specs.Shape.{IsSortable}
use Rattle.py_imports.specs.declared.action_comment.ActionComment.{ActionComment}
use Rattle.py_imports.specs.declared.action_comment.ActionComment.TheVariants as action
use Rattle.isort_sort.specs.Blocks.{role_is_blank}
use Rattle.isort_sort.specs.Line.{comment_texts}
use Rattle.isort_sort.specs.Row.{is_comment_kind, says_alone, parts_blocks, Role, member, comments, blank, other, HasRole}
use Rattle.isort_sort.proofs.LineLaws.Units.{IsUnit, is_end_class}
use Rattle.isort_sort.proofs.WrittenLines.UnitRows.{unit_line}

-- a word holds no line end
abbrev pub WordsLaw : Type 0
WordsLaw = (text : List ℕ) → IsWord text → list_any is_break text ≡ false

feed_is : (c : ℕ) → is_line_feed c ≡ true → c ≡ 10
unfolding is_line_feed
feed_is c h = eqb-true c 10 (⊎_elim (λ (e : (c == 10) ≡ true). e) (λ (e : (c == 10) ≡ false). absurd (both_ways _ (ap (λ b. b || false) e) h)) (cases_Bool (c == 10)))

-- what begins a piece of another class is no LF
other_test : (test : ℕ → Bool) (c : ℕ) → test 10 ≡ false → test c ≡ true → is_line_feed c ≡ false
other_test test c none passes = false_from_ne_true _ (λ h. both_ways _ none (sym (ap test (feed_is c h)) ∙ passes))

record TenBeginsNone : Type 0 where
  mark_ten : is_mark 10 ≡ false
  space_ten : is_space 10 ≡ false
  operator_ten : is_operator 10 ≡ false
  hash_ten : is_hash 10 ≡ false
  slash_ten : is_backslash 10 ≡ false
  quote_ten : is_quote 10 ≡ false

ten : TenBeginsNone
unfolding is_mark is_space is_operator is_hash is_backslash is_quote
ten = record { mark_ten = refl; space_ten = refl; operator_ten = refl; hash_ten = refl; slash_ten = refl; quote_ten = refl }

feed_breaks : (c : ℕ) → is_line_feed c ≡ true → is_break c ≡ true
unfolding is_break
feed_breaks c h = ap (is_one_of (10 ∷ 13 ∷ [])) (feed_is c h)

prefix_ten : (cs : List ℕ) → is_prefix (10 ∷ cs) ≡ false
unfolding is_r is_b is_f is_u
prefix_ten [] = refl
prefix_ten (b ∷ []) = refl
prefix_ten (b ∷ c ∷ cs) = refl

prefix_feed : (prefix : List ℕ) (q : ℕ) (more : List ℕ) → IsPrefix prefix → is_quote q ≡ true → begins is_line_feed (prefix ++ q ∷ more) ≡ false
prefix_feed [] q more is quote = other_test is_quote q ten.quote_ten quote
prefix_feed (c ∷ cs) q more (inl none) quote = absurd (cc)
prefix_feed (c ∷ cs) q more (inr is) quote = false_from_ne_true _ (λ h. both_ways _ (prefix_ten cs) (sym (ap (λ (x : ℕ). is_prefix (x ∷ cs)) (feed_is c h)) ∙ is))

field_prefix_ten : (cs : List ℕ) → is_field_prefix (10 ∷ cs) ≡ false
unfolding is_r is_f is_t
field_prefix_ten [] = refl
field_prefix_ten (b ∷ []) = refl
field_prefix_ten (b ∷ c ∷ cs) = refl

field_prefix_feed : (prefix more : List ℕ) → is_field_prefix prefix ≡ true → begins is_line_feed (prefix ++ more) ≡ false
field_prefix_feed [] more is = absurd (cc)
field_prefix_feed (c ∷ cs) more is = false_from_ne_true _ (λ h. both_ways _ (field_prefix_ten cs) (sym (ap (λ (x : ℕ). is_field_prefix (x ∷ cs)) (feed_is c h)) ∙ is))

piece_feed : WordsLaw → (class : Class) (text rest : List ℕ) → InClass class text → is_line_end_class class ≡ false → begins is_line_feed (text ++ rest) ≡ false
piece_feed law mark text rest is h = ap (λ (t : List ℕ). begins is_line_feed (t ++ rest)) is.1 ∙ other_test is_mark is.0 ten.mark_ten is.2
piece_feed law space text rest is h = ap (λ (t : List ℕ). begins is_line_feed (t ++ rest)) is.2 ∙ other_test is_space is.0 ten.space_ten (and_parts (is_space is.0) (list_all is_space is.1) (ap (list_all is_space) (sym is.2) ∙ is.3)).0
piece_feed law word text rest is h =
    let none = law text is in
    let first = (or_parts (is_break is.0) (list_any is_break is.1) (ap (list_any is_break) (sym is.2) ∙ none)).0 in
    ap (λ (t : List ℕ). begins is_line_feed (t ++ rest)) is.2 ∙ false_from_ne_true _ (λ k. both_ways _ first (feed_breaks is.0 k))
piece_feed law string text rest (inl (inl (s, none))) h =
    ap (λ (t : List ℕ). begins is_line_feed (t ++ rest)) s.spell ∙ ap (begins is_line_feed) (append_assoc s.prefix (s.quote ∷ (joined s.items ++ s.quote ∷ [])) rest)
    ∙ prefix_feed s.prefix s.quote ((joined s.items ++ s.quote ∷ []) ++ rest) s.begun s.opens
piece_feed law string text rest (inr s) h =
    ap (λ (t : List ℕ). begins is_line_feed (t ++ rest)) s.spell ∙ ap (begins is_line_feed) (append_assoc s.prefix (quotes_of s.host ++ (joined s.parts ++ quotes_of s.host)) rest)
    ∙ field_prefix_feed s.prefix ((quotes_of s.host ++ (joined s.parts ++ quotes_of s.host)) ++ rest) s.begun
piece_feed law string text rest (inl (inr (s, none))) h =
    let q = s.quote in
    ap (λ (t : List ℕ). begins is_line_feed (t ++ rest)) s.spell ∙ ap (begins is_line_feed) (append_assoc s.prefix (q ∷ q ∷ q ∷ (joined s.items ++ q ∷ q ∷ q ∷ [])) rest)
    ∙ prefix_feed s.prefix q ((q ∷ q ∷ (joined s.items ++ q ∷ q ∷ q ∷ [])) ++ rest) s.begun s.opens
piece_feed law operator text rest is h = ap (λ (t : List ℕ). begins is_line_feed (t ++ rest)) is.1 ∙ other_test is_operator is.0 ten.operator_ten is.2
piece_feed law comment text rest is h = ap (λ (t : List ℕ). begins is_line_feed (t ++ rest)) is.2 ∙ other_test is_hash is.0 ten.hash_ten is.3
piece_feed law join text rest is h = ap (λ (t : List ℕ). begins is_line_feed (t ++ rest)) is.2 ∙ other_test is_backslash is.0 ten.slash_ten is.3
piece_feed law line_end text rest is h = absurd (cc)

-- a line that is blank has no row of another kind
blank_role : (off : Bool) (u : List Piece) (role : Role) → (unit_line u).kind ≡ unit_kind.Blank → HasRole off (unit_line u) role → role_is_blank role ≡ true
blank_role off u (member is cs) e h = absurd (let wrong = sym e ∙ h.1.0.code in cc)
blank_role off u (comments cs) e h = absurd (both_ways _ (ap is_comment_kind e) h.0)
blank_role off u blank e h = refl
blank_role off u (other b) e (s, shaped, is, why) =
    ⊎_elim
    (λ (code : ((unit_line u).kind ≡ unit_kind.Code) × ((off ≡ true) ⊎ ¬ (IsSortable (unit_line u)))). absurd (let wrong = sym e ∙ code.0 in cc))
    (λ (parts : parts_blocks (unit_line u) ≡ true). absurd (both_ways _ (λ i. (alone action.Off i || alone action.On i) || alone action.Split i) parts)) why
  where
    alone : (a : ActionComment) → says_alone a (unit_line u) ≡ false
    alone a = ap (λ x. x && list_any (says a) (comment_texts (unit_line u))) (ap is_comment_kind e)

pub first_feed : WordsLaw → (u : List Piece) → IsUnit u → (off : Bool) (role : Role) → HasRole off (unit_line u) role → role_is_blank role ≡ false → begins is_line_feed (spelled u) ≡ false
first_feed law [] is off role h k = refl
first_feed law (p ∷ ps) is off role h k = by (is_line_end_class p.class) refl
  where
    ended : is_line_end_class p.class ≡ true → (unit_line (p ∷ ps)).kind ≡ unit_kind.Blank
    ended e =
        let same : (p ∷ []) ∷ cut 0 ps ≡ (p ∷ ps) ∷ [] = sym (ap (λ x. cond (x && (0 == 0)) ((p ∷ []) ∷ cut 0 ps) (put_first p (cut (depth_after 0 p) ps))) e) ∙ is.whole in
        let none : [] ≡ ps = cc in
        ap kind_of (ap (λ l. p ∷ l) (sym none)) ∙ ap (λ c. kind_of (record { class = c; text = p.text } ∷ [])) (is_end_class p.class e)

    by : (b : Bool) → is_line_end_class p.class ≡ b → begins is_line_feed (p.text ++ spelled ps) ≡ false
    by false e = piece_feed law p.class p.text (spelled ps) is.reading.reads.fit.0 e
    by true e = absurd (both_ways _ k (blank_role off (p ∷ ps) role (ended e) h))
