-- Logical lines that are read bind nothing where no import statement may begin: their pieces are gone through, one after another.
use Rattle.std.proofs.Common.{◌≡◌, ℕ, ◌+◌, ◌-◌, ◌<◌, ◌≤◌, Bool, true, false, cond, ◌||◌, ◌&&◌, ◌==◌, ◌⊎◌, inl, inr, List, [], ◌∷◌, ◌++◌, length, map, filter, slice_range, codes, refl, sym, ap, ◌∙◌, subst, ⊎_elim, arith, append-nil, length-append}
use Rattle.std.specs.Prelude.{encode_utf8_all}
use Rattle.std.specs.List.{flat_map, list_all, list_any}
use Rattle.std.proofs.lemmas.Bool.{and_parts, or_parts, or_cases, both_ways, eqb-true}
use Rattle.std.proofs.lemmas.Slice.Eq.{bytes_eq-Decides}
use Rattle.std.proofs.lemmas.Str.{encodes-append}
use Rattle.std.proofs.Math.Bool.{and-false}
use Rattle.std.specs.Str.{bytes_eq}
use Rattle.memchr.specs.Find.{OccursAt}
use Rattle.py_lines.specs.Balance.{depth_after}
use Rattle.py_lines.specs.Character.{is_break, is_digit, is_space}
use Rattle.py_lines.specs.Fields.{AreReadBefore, InClass, MayPrecede}
use Rattle.py_lines.specs.LogicalLine.{LogicalLine, cut, first_or_zero, is_comment_class, is_line_end_class, line_of, lines_from, line_ends, byte_len, put_first}
use Rattle.py_lines.specs.Piece.{Class, mark, space, word, string, operator, comment, join, line_end, Piece, begins, spelled}
use Rattle.py_lines.specs.PieceGrammar.{IsWord}
use Rattle.py_lines.specs.Words.{Word, word_in, words_of, words_of_piece}
use Rattle.py_lines.specs.declared.token.TokKind.TheVariants as kind
use Rattle.py_lines.specs.declared.token.Token.{Token}
use Rattle.py_imports.specs.Binds.{terminal_in, nothing, BindEach, BindAll}
use Rattle.py_imports.specs.Declaration.{is_code}
use Rattle.py_imports.specs.FirstWords.{opens_statement, MayBegin, ImportMayBegin, NoImportBegins, LieWithoutImport}
use Rattle.py_imports.specs.Grammar.{terminal_of, begins_import}
use Rattle.py_imports.specs.Shape.{begins_so}
use Rattle.py_imports.specs.Statement.{is_comment, is_divider, significant, depth_past, ends_in_divider, may_start_after, TokenPlace, places_from, starts}
use Rattle.py_imports.proofs.BytePlaces.{break_is_no_space, spaces_spelled, EndsOpening, line_end_opens, join_opens, mark_opens, one_opens, first_stands, second_stands, part_stands, begins_first, past_spaces, past_opening, slice_len}
use Rattle.py_imports.proofs.FirstWordLemmas.{begins_by_first, other_word, operator_begins_none}
use Rattle.py_imports.proofs.Names.{TokensAreWords}
use Rattle.py_imports.proofs.StatementLemmas.{no_import}

-- spaces and words
abbrev is_spaced : Class → Bool
is_spaced space = true
is_spaced word = true
is_spaced other = false

-- whether the first piece is one
abbrev begins_spaced : List Piece → Bool
begins_spaced [] = false
begins_spaced (p ∷ ps) = is_spaced p.class

-- pieces of their classes, of which none after a comment is a space or a word
abbrev Fit : List Piece → Type 0
Fit [] = Unit {0}
Fit (p ∷ ps) = InClass p.class p.text × (is_comment_class p.class ≡ true → begins_spaced ps ≡ false) × Fit ps

-- the law of py_lines that a word holds no line end
abbrev pub NoBreakInWords : Type 0
NoBreakInWords = (text : List ℕ) → IsWord text → list_any is_break text ≡ false

comment_stops : (class : Class) (text more : List ℕ) → is_comment_class class ≡ true → MayPrecede class text more → (more ≡ []) ⊎ (begins is_break more ≡ true)
comment_stops comment text more c h = h
comment_stops mark text more c h = absurd cc
comment_stops space text more c h = absurd cc
comment_stops word text more c h = absurd cc
comment_stops string text more c h = absurd cc
comment_stops operator text more c h = absurd cc
comment_stops join text more c h = absurd cc
comment_stops line_end text more c h = absurd cc

-- what begins with no line end doesn't stand where one must
no_stop : (first : ℕ) (others text a b : List ℕ) → text ≡ first ∷ others → is_break first ≡ false → ((text ++ a) ++ b ≡ []) ⊎ (begins is_break ((text ++ a) ++ b) ≡ true) → ⊥
no_stop first others text a b e plain (inl none) = let long : first ∷ ((others ++ a) ++ b) ≡ [] = ap (λ t. (t ++ a) ++ b) (sym e) ∙ none in cc
no_stop first others text a b e plain (inr stop) = both_ways _ plain (ap (λ t. begins is_break ((t ++ a) ++ b)) (sym e) ∙ stop)

space_has_no_break : (c : ℕ) → is_space c ≡ true → is_break c ≡ false
space_has_no_break c h = by (is_break c) refl
  where
    by : (b : Bool) → is_break c ≡ b → b ≡ false
    by true e = absurd (both_ways _ (break_is_no_space c e) h)
    by false e = refl

unspaced : NoBreakInWords → (class : Class) (text a b : List ℕ) → InClass class text → ((text ++ a) ++ b ≡ []) ⊎ (begins is_break ((text ++ a) ++ b) ≡ true) → is_spaced class ≡ false
unspaced law space text a b (first, others, e, all) stop = absurd (no_stop first others text a b e (space_has_no_break first (and_parts _ _ (ap (list_all is_space) (sym e) ∙ all)).0) stop)
unspaced law word text a b is stop = absurd (no_stop is.0 is.1 text a b is.2 (or_parts _ _ (ap (list_any is_break) (sym is.2) ∙ law text is)).0 stop)
unspaced law mark text a b is stop = refl
unspaced law string text a b is stop = refl
unspaced law operator text a b is stop = refl
unspaced law comment text a b is stop = refl
unspaced law join text a b is stop = refl
unspaced law line_end text a b is stop = refl

unspaced_first : NoBreakInWords → (ps : List Piece) (rest : List ℕ) → AreReadBefore ps rest → (spelled ps ++ rest ≡ []) ⊎ (begins is_break (spelled ps ++ rest) ≡ true) → begins_spaced ps ≡ false
unspaced_first law [] rest read stop = refl
unspaced_first law (p ∷ ps) rest read stop = unspaced law p.class p.text (spelled ps) rest read.0 stop

-- pieces that are read are fit
are_fit : NoBreakInWords → (ps : List Piece) (rest : List ℕ) → AreReadBefore ps rest → Fit ps
are_fit law [] rest read = tt
are_fit law (p ∷ ps) rest read = (read.0, (λ c. unspaced_first law ps rest read.3 (comment_stops p.class p.text (spelled ps ++ rest) c read.1)), are_fit law ps rest read.3)

-- whether the last piece ends a line
abbrev closes : List Piece → Bool
closes [] = false
closes (p ∷ []) = is_line_end_class p.class
closes (p ∷ q ∷ ps) = closes (q ∷ ps)

-- parts of fit pieces, of which all but the last end a line
abbrev Parts : List (List Piece) → Type 0
Parts [] = Unit {0}
Parts (u ∷ us) = Fit u × ((us ≡ []) ⊎ (closes u ≡ true)) × Parts us

abbrev first_spaced : List (List Piece) → Bool
first_spaced [] = false
first_spaced (u ∷ us) = begins_spaced u

put_spaced : (p : Piece) (us : List (List Piece)) → first_spaced (put_first p us) ≡ is_spaced p.class
put_spaced p [] = refl
put_spaced p (u ∷ us) = refl

cut_spaced : (depth : ℕ) (ps : List Piece) → begins_spaced ps ≡ false → first_spaced (cut depth ps) ≡ false
cut_spaced depth [] h = refl
cut_spaced depth (p ∷ ps) h = by (is_line_end_class p.class && (depth == 0))
  where
    by : (b : Bool) → first_spaced (cond b ((p ∷ []) ∷ cut depth ps) (put_first p (cut (depth_after depth p) ps))) ≡ false
    by true = h
    by false = put_spaced p (cut (depth_after depth p) ps) ∙ h

put_closes : (p : Piece) (u : List Piece) → closes u ≡ true → closes (p ∷ u) ≡ true
put_closes p [] h = absurd cc
put_closes p (q ∷ qs) h = h

put_parts : (p : Piece) (us : List (List Piece)) → InClass p.class p.text → (is_comment_class p.class ≡ true → first_spaced us ≡ false) → Parts us → Parts (put_first p us)
put_parts p [] is after h = ((is, (λ c. refl), tt), inl refl, tt)
put_parts p (u ∷ us) is after h = ((is, after, h.0), ⊎_elim (λ e. inl e) (λ e. inr (put_closes p u e)) h.1, h.2)

-- the parts of fit pieces
cut_parts : (depth : ℕ) (ps : List Piece) → Fit ps → Parts (cut depth ps)
cut_parts depth [] h = tt
cut_parts depth (p ∷ ps) h = by (is_line_end_class p.class && (depth == 0)) refl (cut_parts depth ps h.2) (cut_parts (depth_after depth p) ps h.2)
  where
    by : (b : Bool) → (is_line_end_class p.class && (depth == 0)) ≡ b → Parts (cut depth ps) → Parts (cut (depth_after depth p) ps) → Parts (cond b ((p ∷ []) ∷ cut depth ps) (put_first p (cut (depth_after depth p) ps)))
    by true e alone after = ((h.0, (λ c. refl), tt), inr (and_parts _ _ e).0, alone)
    by false e alone after = put_parts p (cut (depth_after depth p) ps) h.0 (λ c. cut_spaced (depth_after depth p) ps (h.1 c)) after

-- after a token a statement may start only if it is `;` or `:`
last_divides : (depth : ℕ) (ts : List Token) (t : Token) → ends_in_divider depth (ts ++ t ∷ []) ≡ true → is_divider t.kind ≡ true
last_divides depth [] t h = (and_parts _ _ h).0
last_divides depth (u ∷ []) t h = (and_parts _ _ h).0
last_divides depth (u ∷ v ∷ vs) t h = last_divides (depth_past depth u.kind) (v ∷ vs) t h

divided : (before : List Token) (t : Token) → may_start_after (before ++ t ∷ []) ≡ true → is_divider t.kind ≡ true
divided [] t h = last_divides 0 [] t h
divided (u ∷ us) t h = last_divides 0 (u ∷ us) t h

word_is_no_comment : (digit : Bool) → is_comment (cond digit kind.Number kind.Name) ≡ false
word_is_no_comment true = refl
word_is_no_comment false = refl

word_is_no_divider : (digit : Bool) → is_divider (cond digit kind.Number kind.Name) ≡ false
word_is_no_divider true = refl
word_is_no_divider false = refl

-- `;` and `:` are such bytes
divider_opens : (c : ℕ) → is_divider (kind.Op c) ≡ true → (c < 128) × (opens_statement c ≡ true)
divider_opens c h = ⊎_elim
    (λ e. let same = eqb-true c 59 e in (omega (arith, same), ap opens_statement same))
    (λ e. let same = eqb-true c 58 e in (omega (arith, same), ap opens_statement same)) (or_cases (c == 59) (c == 58) h)

-- whether a statement that starts at one of these places begins with `import` or `from`
abbrev some_begins : LogicalLine → List TokenPlace → Bool
some_begins line places = list_any (λ p. begins_import (terminal_in line.text p.token ∷ [])) places

-- the places of tokens after others at which statements start
abbrev starts_after : List Token → List Token → List TokenPlace
starts_after before ts = filter (λ p. may_start_after p.before) (places_from before (significant ts))

-- after these tokens and before these pieces, which begin at this byte, a statement may begin if one may start
abbrev Stands : List ℕ → ℕ → ℕ → List Token → List Piece → Type 0
Stands text start place before ps = may_start_after before ≡ true → MayBegin text start place ⊎ (begins_spaced ps ≡ false)

-- no statement that starts at a token of these pieces is an import statement
abbrev IsQuiet : LogicalLine → List ℕ → ℕ → ℕ → List Piece → Type 0
IsQuiet line text start stop ps = (ts before : List Token) (place : ℕ) → map (word_in line.text) ts ≡ words_of ps → OccursAt text (encode_utf8_all (spelled ps)) place → start ≤ place → place + length (encode_utf8_all (spelled ps)) ≤ stop → Stands text start place before ps → some_begins line (starts_after before ts) ≡ false

-- a piece stands at this byte, and these after it
record IsNext (text : List ℕ) (start stop : ℕ) (characters : List ℕ) (ps : List Piece) (place : ℕ) : Type 0 where
  first : OccursAt text (encode_utf8_all characters) place
  next : OccursAt text (encode_utf8_all (spelled ps)) (place + length (encode_utf8_all characters))
  low : start ≤ place
  high : place + length (encode_utf8_all characters) + length (encode_utf8_all (spelled ps)) ≤ stop

module _ (line : LogicalLine) (text : List ℕ) (start stop : ℕ) (none : NoImportBegins text start stop) where
  is_next : (characters : List ℕ) (ps : List Piece) (place : ℕ) → OccursAt text (encode_utf8_all (characters ++ spelled ps)) place → start ≤ place → place + length (encode_utf8_all (characters ++ spelled ps)) ≤ stop → IsNext text start stop characters ps place
  is_next characters ps place stands low high =
      let a = encode_utf8_all characters in
      let b = encode_utf8_all (spelled ps) in
      let both : OccursAt text (a ++ b) place = subst (λ t. OccursAt text t place) (encodes-append characters (spelled ps)) stands in
      let size = ap length (encodes-append characters (spelled ps)) ∙ length-append a b in
      record { first = first_stands text a b place both; next = second_stands text a b place both; low = low; high = omega (arith, size, high) }

  -- where the text goes on after a piece
  goes_on : (characters : List ℕ) (ps : List Piece) (place : ℕ) (ts before : List Token) → IsNext text start stop characters ps place → IsQuiet line text start stop ps → map (word_in line.text) ts ≡ words_of ps → Stands text start (place + length (encode_utf8_all characters)) before ps → some_begins line (starts_after before ts) ≡ false
  goes_on characters ps place ts before n later same stands = later ts before (place + length (encode_utf8_all characters)) same n.next (omega (arith, n.low)) n.high stands

  -- a token that begins no import statement, if a statement may start there
  one_token : (before ts : List Token) (t : Token) → is_comment t.kind ≡ false → (may_start_after before ≡ true → begins_import (terminal_in line.text t ∷ []) ≡ false) → some_begins line (starts_after (before ++ t ∷ []) ts) ≡ false → some_begins line (starts_after before (t ∷ ts)) ≡ false
  one_token before ts t plain begins later = rw plain (by (may_start_after before) refl)
    where
      by : (b : Bool) → may_start_after before ≡ b → some_begins line (filter (λ p. may_start_after p.before) (places_from before (t ∷ significant ts))) ≡ false
      by true e = rw e (λ i. begins e i || later i)
      by false e = rw e later

  -- a word isn't spelled so where no import statement may begin
  not_spelled : (first bytes : List ℕ) (place : ℕ) → 0 < length first → (OccursAt text first place → ImportMayBegin text start place) → OccursAt text bytes place → start ≤ place → place + length bytes ≤ stop → bytes_eq bytes first ≡ false
  not_spelled first bytes place some begins stands low high = by (bytes_eq bytes first) refl
    where
      by : (b : Bool) → bytes_eq bytes first ≡ b → b ≡ false
      by true e =
          let same : bytes ≡ first = (bytes_eq-Decides bytes first).0 e in
          absurd (none place low (omega (arith, some, high, ap length same)) (begins (subst (λ t. OccursAt text t place) same stands)))
      by false e = refl

  -- one word
  after_word : (ps : List Piece) (characters : List ℕ) (ts before : List Token) (place : ℕ) → IsNext text start stop characters ps place → IsQuiet line text start stop ps → map (word_in line.text) ts ≡ record { kind = cond (begins is_digit characters) kind.Number kind.Name; bytes = encode_utf8_all characters } ∷ words_of ps → (may_start_after before ≡ true → MayBegin text start place ⊎ (true ≡ false)) → some_begins line (starts_after before ts) ≡ false
  after_word ps characters [] before place n later same stands = absurd cc
  after_word ps characters (t ∷ ts) before place n later same stands =
      let digit = begins is_digit characters in
      let here : word_in line.text t ≡ record { kind = cond digit kind.Number kind.Name; bytes = encode_utf8_all characters } = cc in
      let others : map (word_in line.text) ts ≡ words_of ps = cc in
      let is : t.kind ≡ cond digit kind.Number kind.Name = ap (λ (w : Word). w.kind) here in
      let bytes : slice_range line.text t.start t.stop ≡ encode_utf8_all characters = ap (λ (w : Word). w.bytes) here in
      let high : place + length (encode_utf8_all characters) ≤ stop = omega (arith, n.high) in
      one_token before ts t (ap is_comment is ∙ word_is_no_comment digit)
      (λ may. ⊎_elim
      (λ (m : MayBegin text start place).
      ap (λ b. begins_import (terminal_of t.kind b ∷ [])) bytes
      ∙ other_word t.kind (encode_utf8_all characters)
      (not_spelled (codes "import") (encode_utf8_all characters) place (omega arith) (λ w. (m, inl w)) n.first n.low high)
      (not_spelled (codes "from") (encode_utf8_all characters) place (omega arith) (λ w. (m, inr w)) n.first n.low high))
      (λ (e : true ≡ false). absurd cc) (stands may))
      (goes_on characters ps place ts (before ++ t ∷ []) n later others (λ may. absurd (both_ways _ (ap is_divider is ∙ word_is_no_divider digit) (divided before t may))))

  -- one string
  after_string : (ps : List Piece) (characters : List ℕ) (ts before : List Token) (place : ℕ) → IsNext text start stop characters ps place → IsQuiet line text start stop ps → map (word_in line.text) ts ≡ record { kind = kind.Str; bytes = encode_utf8_all characters } ∷ words_of ps → some_begins line (starts_after before ts) ≡ false
  after_string ps characters [] before place n later same = absurd cc
  after_string ps characters (t ∷ ts) before place n later same =
      let here : word_in line.text t ≡ record { kind = kind.Str; bytes = encode_utf8_all characters } = cc in
      let others : map (word_in line.text) ts ≡ words_of ps = cc in
      let is : t.kind ≡ kind.Str = ap (λ (w : Word). w.kind) here in
      one_token before ts t (ap is_comment is)
      (λ may. ap (λ k. begins_import (terminal_of k (slice_range line.text t.start t.stop) ∷ [])) is)
      (goes_on characters ps place ts (before ++ t ∷ []) n later others (λ may. absurd (both_ways _ (ap is_divider is) (divided before t may))))

  -- one operator
  after_operator : (ps : List Piece) (characters : List ℕ) (ts before : List Token) (place : ℕ) → InClass operator characters → IsNext text start stop characters ps place → IsQuiet line text start stop ps → map (word_in line.text) ts ≡ record { kind = kind.Op (first_or_zero characters); bytes = encode_utf8_all characters } ∷ words_of ps → some_begins line (starts_after before ts) ≡ false
  after_operator ps characters [] before place is n later same = absurd cc
  after_operator ps characters (t ∷ ts) before place (one, e, passes) n later same =
      let here : word_in line.text t ≡ record { kind = kind.Op (first_or_zero characters); bytes = encode_utf8_all characters } = cc in
      let others : map (word_in line.text) ts ≡ words_of ps = cc in
      let is : t.kind ≡ kind.Op one = ap (λ (w : Word). w.kind) here ∙ ap (λ x. kind.Op (first_or_zero x)) e in
      one_token before ts t (ap is_comment is)
      (λ may. ap (λ k. begins_import (terminal_of k (slice_range line.text t.start t.stop) ∷ [])) is ∙ operator_begins_none one)
      (goes_on characters ps place ts (before ++ t ∷ []) n later others (λ may.
      let o = divider_opens one (ap is_divider (sym is) ∙ divided before t may) in
      inl (past_opening text start place (encode_utf8_all characters) n.low n.first (subst (λ x. EndsOpening (encode_utf8_all x)) (sym e) (one_opens one o.0 o.1)))))

  -- one comment
  after_comment : (ps : List Piece) (characters : List ℕ) (ts before : List Token) (place : ℕ) → begins_spaced ps ≡ false → IsNext text start stop characters ps place → IsQuiet line text start stop ps → map (word_in line.text) ts ≡ record { kind = kind.Remark; bytes = encode_utf8_all characters } ∷ words_of ps → some_begins line (starts_after before ts) ≡ false
  after_comment ps characters [] before place stops n later same = absurd cc
  after_comment ps characters (t ∷ ts) before place stops n later same =
      let here : word_in line.text t ≡ record { kind = kind.Remark; bytes = encode_utf8_all characters } = cc in
      let others : map (word_in line.text) ts ≡ words_of ps = cc in
      let is : is_comment t.kind ≡ true = ap (λ (w : Word). is_comment w.kind) here in
      rw is (goes_on characters ps place ts before n later others (λ may. inr stops))

  -- bytes that end with an opening one
  after_opening : (ps : List Piece) (characters : List ℕ) (ts before : List Token) (place : ℕ) → EndsOpening (encode_utf8_all characters) → IsNext text start stop characters ps place → IsQuiet line text start stop ps → map (word_in line.text) ts ≡ words_of ps → some_begins line (starts_after before ts) ≡ false
  after_opening ps characters ts before place opens n later same = goes_on characters ps place ts before n later same (λ may. inl (past_opening text start place (encode_utf8_all characters) n.low n.first opens))

  -- one piece, by its class
  after_piece : (ps : List Piece) (class : Class) (characters : List ℕ) (ts before : List Token) (place : ℕ) → InClass class characters → (is_comment_class class ≡ true → begins_spaced ps ≡ false) → IsNext text start stop characters ps place → IsQuiet line text start stop ps → map (word_in line.text) ts ≡ words_of_piece class characters ++ words_of ps → (may_start_after before ≡ true → MayBegin text start place ⊎ (is_spaced class ≡ false)) → some_begins line (starts_after before ts) ≡ false
  after_piece ps mark characters ts before place is stops n later same stands = after_opening ps characters ts before place (mark_opens characters is) n later same
  after_piece ps join characters ts before place is stops n later same stands = after_opening ps characters ts before place (join_opens characters is) n later same
  after_piece ps line_end characters ts before place is stops n later same stands = after_opening ps characters ts before place (line_end_opens characters is) n later same
  after_piece ps space characters ts before place (first, others, e, all) stops n later same stands =
      goes_on characters ps place ts before n later same (λ may. ⊎_elim
      (λ (m : MayBegin text start place). inl (past_spaces text start place (encode_utf8_all characters) n.first (ap (list_all is_space) (spaces_spelled characters all) ∙ all) m))
      (λ (e : true ≡ false). absurd cc) (stands may))
  after_piece ps word characters ts before place is stops n later same stands = after_word ps characters ts before place n later same stands
  after_piece ps string characters ts before place is stops n later same stands = after_string ps characters ts before place n later same
  after_piece ps operator characters ts before place is stops n later same stands = after_operator ps characters ts before place is n later same
  after_piece ps comment characters ts before place is stops n later same stands = after_comment ps characters ts before place (stops refl) n later same

  quiet : (ps : List Piece) → Fit ps → IsQuiet line text start stop ps
  quiet [] fit [] before place same stands low high may = refl
  quiet [] fit (t ∷ ts) before place same stands low high may = absurd cc
  quiet (p ∷ ps) fit ts before place same stands low high may = after_piece ps p.class p.text ts before place fit.0 fit.1 (is_next p.text ps place stands low high) (quiet ps fit.2) same may

  -- after a part that ends a line another line begins
  line_begins : (ps : List Piece) (place : ℕ) → Fit ps → closes ps ≡ true → OccursAt text (encode_utf8_all (spelled ps)) place → start ≤ place → place + length (encode_utf8_all (spelled ps)) ≤ stop → MayBegin text start (place + length (encode_utf8_all (spelled ps)))
  line_begins [] place fit closed stands low high = absurd cc
  line_begins (p ∷ []) place fit closed stands low high = by p.class p.text fit.0 closed
      (subst (λ t. OccursAt text (encode_utf8_all t) place) (append-nil p.text) stands)
    where
      by : (class : Class) (characters : List ℕ) → InClass class characters → is_line_end_class class ≡ true → OccursAt text (encode_utf8_all characters) place → MayBegin text start (place + length (encode_utf8_all (characters ++ [])))
      by line_end characters is c here = subst (λ t. MayBegin text start (place + length (encode_utf8_all t))) (sym (append-nil characters)) (past_opening text start place (encode_utf8_all characters) low here (line_end_opens characters is))
      by mark characters is c here = absurd cc
      by space characters is c here = absurd cc
      by word characters is c here = absurd cc
      by string characters is c here = absurd cc
      by operator characters is c here = absurd cc
      by comment characters is c here = absurd cc
      by join characters is c here = absurd cc
  line_begins (p ∷ q ∷ ps) place fit closed stands low high =
      let n = is_next p.text (q ∷ ps) place stands low high in
      let size = ap length (encodes-append p.text (spelled (q ∷ ps))) ∙ length-append (encode_utf8_all p.text) (encode_utf8_all (spelled (q ∷ ps))) in
      let same : place + length (encode_utf8_all p.text) + length (encode_utf8_all (spelled (q ∷ ps))) ≡ place + length (encode_utf8_all (spelled (p ∷ q ∷ ps))) = omega (arith, size) in
      subst (MayBegin text start) same (line_begins (q ∷ ps) (place + length (encode_utf8_all p.text)) fit.2 closed n.next (omega (arith, low)) n.high)

-- what no statement of a line begins with, the line doesn't begin with, and so it binds nothing
quiet_binds : (line : LogicalLine) (places : List TokenPlace) → some_begins line places ≡ false → BindEach line places []
quiet_binds line [] h = refl
quiet_binds line (p ∷ ps) h =
    let both = or_parts _ (some_begins line ps) h in
    ([], [], refl, nothing line p [] (no_import line p (λ ts. begins_by_first (terminal_in line.text p.token) ts [] ∙ both.0)) refl, quiet_binds line ps both.1)

quiet_begins : (line : LogicalLine) → some_begins line (starts (significant line.tokens)) ≡ false → begins_so line ≡ false
quiet_begins line h = (λ i. is_code line.kind && by (significant line.tokens) h i) ∙ and-false (is_code line.kind)
  where
    by : (ts : List Token) → some_begins line (starts ts) ≡ false → begins_import (map (terminal_in line.text) ts) ≡ false
    by [] e = refl
    by (t ∷ ts) e = begins_by_first (terminal_in line.text t) (map (terminal_in line.text) ts) [] ∙ (or_parts _ (some_begins line (filter (λ p. may_start_after p.before) (places_from (t ∷ []) ts))) e).0

-- logical lines that bind nothing and begin with no import statement
pub record AreQuiet (lines : List LogicalLine) : Type 0 where
  pub binds : BindAll lines []
  pub begins : list_any begins_so lines ≡ false

abbrev texts : List LogicalLine → List ℕ
texts lines = flat_map (λ (l : LogicalLine). l.text) lines

one_more : (line : LogicalLine) (lines : List LogicalLine) → some_begins line (starts (significant line.tokens)) ≡ false → AreQuiet lines → AreQuiet (line ∷ lines)
one_more line lines h others = record {
  binds = ([], [], refl, quiet_binds line (starts (significant line.tokens)) h, others.binds);
  begins = λ i. quiet_begins line h i || others.begins i;
}

-- the logical lines of parts, from where a line begins
quiet_parts : TokensAreWords → (text : List ℕ) (start stop : ℕ) → NoImportBegins text start stop → (us : List (List Piece)) (offset row place : ℕ) → Parts us → OccursAt text (texts (lines_from offset row us)) place → start ≤ place → place + length (texts (lines_from offset row us)) ≤ stop → MayBegin text start place → AreQuiet (lines_from offset row us)
quiet_parts law text start stop none [] offset row place h stands low high may = record { binds = refl; begins = refl }
quiet_parts law text start stop none (u ∷ us) offset row place h stands low high may =
    let bytes = encode_utf8_all (spelled u) in
    let others = lines_from (offset + byte_len (spelled u)) (row + line_ends (spelled u)) us in
    let size = length-append bytes (texts others) in
    let first = first_stands text bytes (texts others) place stands in
    let fits : place + length bytes ≤ stop = omega (arith, size, high) in
    one_more (line_of offset row u) others
    (quiet (line_of offset row u) text start stop none u h.0 (line_of offset row u).tokens [] place (law offset row u) first low fits (λ e. inl may))
    (⊎_elim
    (λ (e : us ≡ []). subst (λ vs. AreQuiet (lines_from (offset + byte_len (spelled u)) (row + line_ends (spelled u)) vs)) (sym e) (record { binds = refl; begins = refl }))
    (λ (c : closes u ≡ true). quiet_parts law text start stop none us (offset + byte_len (spelled u)) (row + line_ends (spelled u)) (place + length bytes) h.2 (second_stands text bytes (texts others) place stands) (omega (arith, low)) (omega (arith, size, high)) (line_begins (line_of offset row u) text start stop none u place h.0 c first low fits))
    h.1)

-- the last of the logical lines of parts
record AreLines (lines : List LogicalLine) : Type 0 where
  parts : List (List Piece)
  offset : ℕ
  row : ℕ
  are : lines ≡ lines_from offset row parts
  fit : Parts parts

last_lines : (before lines : List LogicalLine) (us : List (List Piece)) (offset row : ℕ) → before ++ lines ≡ lines_from offset row us → Parts us → AreLines lines
last_lines [] lines us offset row e h = record { parts = us; offset = offset; row = row; are = e; fit = h }
last_lines (b ∷ bs) lines [] offset row e h = absurd cc
last_lines (b ∷ bs) lines (u ∷ us) offset row e h =
    let others : bs ++ lines ≡ lines_from (offset + byte_len (spelled u)) (row + line_ends (spelled u)) us = cc in
    last_lines bs lines us (offset + byte_len (spelled u)) (row + line_ends (spelled u)) others h.2

-- lines that lie where no import statement begins
pub quiet_lines : TokensAreWords → NoBreakInWords → (lines : List LogicalLine) → LieWithoutImport lines → AreQuiet lines
quiet_lines law breaks lines l =
    let first = l.first in
    let are = last_lines l.before lines (cut 0 first.pieces) 0 1 first.cut (cut_parts 0 first.pieces (are_fit breaks first.pieces first.rest first.fit)) in
    let stands : OccursAt l.part (texts lines) l.start = part_stands l.part (texts lines) l.start l.to l.ordered l.within l.bytes in
    let size : length (texts lines) ≡ l.to - l.start = ap length l.bytes ∙ slice_len l.part l.start l.to l.ordered l.within in
    let high : l.start + length (texts lines) ≤ l.stop = let ordered = l.ordered in let clear = l.clear in omega (arith, size, ordered, clear) in
    subst AreQuiet (sym are.are)
    (quiet_parts law l.part l.start l.stop l.none are.parts are.offset are.row l.start are.fit
    (subst (λ (ls : List LogicalLine). OccursAt l.part (texts ls) l.start) are.are stands)
    (omega arith)
    (subst (λ (ls : List LogicalLine). l.start + length (texts ls) ≤ l.stop) are.are high)
    (begins_first l.part l.start))
