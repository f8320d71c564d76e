-- What follows a piece of a written statement, up to the statement's end: pieces, which are put together from their end.
use Rattle.std.proofs.Common.{◌≡◌, ℕ, Bool, true, false, ◌||◌, ◌&&◌, Option, None, Some, List, [], ◌∷◌, ◌++◌, flat_map, codes, refl, sym, ap, ◌∙◌, subst, append_assoc, append-nil}
use Rattle.std.specs.Prelude.{nat_lt}
use Rattle.std.specs.List.{list_any, list_all, join_by}
use Rattle.std.proofs.lemmas.List.Folds.{list_any-append}
use Rattle.std.proofs.lemmas.Str.{encodes-append}
use Rattle.py_lines.specs.Balance.{is_opening, is_closing}
use Rattle.py_lines.specs.Character.{is_space, is_break, is_digit, is_operator}
use Rattle.py_lines.specs.Neighbours.{may_touch, MayTouch}
use Rattle.py_lines.specs.Piece.{Class, space, word, comment, line_end, Piece, operator}
use Rattle.py_lines.specs.Words.{Word, words_of}
use Rattle.py_imports.specs.Grammar.{Terminal, import_word, as_word, name, dot, star, opening, closing, IsModule, one, more, AreDots, no_dot, one_more, IsRelativeModule, dots, named, spelling}
use Rattle.py_imports.specs.Names.{HaveNames, IsAlias}
use Rattle.py_imports.specs.Spelled.{alias_text}
use Rattle.isort_sort.specs.WrittenLine.{IsRemark, AreRemarks}
use Rattle.isort_sort.specs.Wrapping.{remark}
use Rattle.isort_sort.proofs.LineLaws.OneLine.{is_bracket_or_string, is_line_end_piece, IsOneLine, plain-line, line-append, opening_piece, closing_piece, Closes, closes-after, opened-line}
use Rattle.isort_sort.proofs.LineLaws.Parts.{piece, IsUnbrokenText, IsStatementPart, words-append, scalars-append, low-spell, low-scalars, part-append, part-nil, part-space, part-operator, part-comment, LettersAreWords, part-letters, part-name}
use Rattle.isort_sort.proofs.LineLaws.Tokens.{are_well, no_words, well-append}

abbrev pub end_piece : List ℕ → Piece
end_piece end = piece line_end end

abbrev pub a_space : Piece
a_space = piece space (32 ∷ [])

pub part-a_space : IsStatementPart (a_space ∷ []) (32 ∷ []) [] []
unfolding is_space
part-a_space = part-space (32 ∷ []) refl

-- pieces after an opening parenthesis, or outside
abbrev pub Keeps : Bool → List Piece → Type 0
Keeps true pieces = Closes pieces
Keeps false pieces = IsOneLine pieces

-- what follows a piece of this class, up to the line end: its bytes, what it says to the import grammar, and its comments
pub record IsRest (before : Class) (opened : Bool) (end bytes : List ℕ) (terminals : List Terminal) (said : List (List ℕ)) : Type 0 where
  pub pieces : List Piece
  pub part : IsStatementPart pieces bytes terminals said
  pub touch : (text : List ℕ) → MayTouch (piece before text ∷ (pieces ++ end_piece end ∷ []))
  pub line : Keeps opened pieces
  pub well : (after_opening : Bool) → are_well after_opening (words_of pieces) ≡ true

pub rest-as : {before : Class} {opened : Bool} {end b c : List ℕ} {t : List Terminal} {said : List (List ℕ)} → b ≡ c → IsRest before opened end b t said → IsRest before opened end c t said
rest-as {before = before} {opened = opened} {end = end} {t = t} {said = said} same rest = subst (λ (x : List ℕ). IsRest before opened end x t said) same rest

-- what may follow anything may follow an operator
pub after-operator : {before : Class} {opened : Bool} {end b : List ℕ} {t : List Terminal} {said : List (List ℕ)} → IsRest before opened end b t said → IsRest operator opened end b t said
after-operator {before = before} {end = end} rest = record {
  pieces = rest.pieces;
  part = rest.part;
  touch = λ text. freely (rest.pieces ++ end_piece end ∷ []) text (rest.touch []);
  line = rest.line;
  well = rest.well;
}
  where
    freely : (ps : List Piece) (text : List ℕ) → MayTouch (piece before [] ∷ ps) → MayTouch (piece operator text ∷ ps)
    freely [] text h = tt
    freely (p ∷ ps) text h = (refl, h.1)

-- a piece first that is no bracket, and no line end outside parentheses
pub piece-first : {before class : Class} {text : List ℕ} {opened : Bool} {end b c : List ℕ} {t u : List Terminal} {said : List (List ℕ)} → IsStatementPart (piece class text ∷ []) b t [] → ((own : List ℕ) → may_touch before own class text ≡ true) → list_any is_bracket_or_string (piece class text ∷ []) ≡ false → (opened ≡ false → list_any is_line_end_piece (piece class text ∷ []) ≡ false) → IsRest class opened end c u said → IsRest before opened end (b ++ c) (t ++ u) said
piece-first {class = class} {text = text} {opened = opened} part may bare unended rest = record {
  pieces = piece class text ∷ rest.pieces;
  part = part-append part rest.part;
  touch = λ own. (may own, rest.touch text);
  line = by opened unended rest.line;
  well = λ o. ap (are_well o) (words-append (piece class text ∷ []) rest.pieces) ∙ well-append (words_of (piece class text ∷ [])) (words_of rest.pieces) part.remarks rest.well o;
}
  where
    by : (o : Bool) → (o ≡ false → list_any is_line_end_piece (piece class text ∷ []) ≡ false) → Keeps o rest.pieces → Keeps o (piece class text ∷ rest.pieces)
    by true out k = closes-after (piece class text ∷ []) rest.pieces bare k
    by false out k = line-append (plain-line (piece class text ∷ []) bare (out refl)) k

pub space-first : {opened : Bool} {end b : List ℕ} {t : List Terminal} {said : List (List ℕ)} → IsRest space opened end b t said → IsRest word opened end (32 ∷ b) t said
space-first rest = piece-first part-a_space (λ own. refl) refl (λ k. refl) rest

pub word-first : {text : List ℕ} {opened : Bool} {end b c : List ℕ} {t u : List Terminal} {said : List (List ℕ)} → IsStatementPart (piece word text ∷ []) b t [] → IsRest word opened end c u said → IsRest space opened end (b ++ c) (t ++ u) said
word-first part rest = piece-first part (λ own. refl) refl (λ k. refl) rest

-- `.` and `*`
part-dot : IsStatementPart (piece operator (46 ∷ []) ∷ []) (46 ∷ []) (dot ∷ []) []
unfolding is_operator
part-dot = part-operator 46 refl refl refl

dot-first : {before : Class} {opened : Bool} {end b : List ℕ} {t : List Terminal} {said : List (List ℕ)} → ((own : List ℕ) → may_touch before own operator (46 ∷ []) ≡ true) → IsRest operator opened end b t said → IsRest before opened end (46 ∷ b) (dot ∷ t) said
unfolding is_opening is_closing
dot-first may rest = piece-first part-dot may refl (λ k. refl) rest

part-star : IsStatementPart (piece operator (42 ∷ []) ∷ []) (codes "*") (star ∷ []) []
unfolding is_operator
part-star = part-operator 42 refl refl refl

pub star-first : {opened : Bool} {end b : List ℕ} {t : List Terminal} {said : List (List ℕ)} → IsRest operator opened end b t said → IsRest space opened end (codes "*" ++ b) (star ∷ t) said
unfolding is_opening is_closing
star-first rest = piece-first part-star (λ own. refl) refl (λ k. refl) rest

-- parentheses
part-opening : IsStatementPart (opening_piece ∷ []) (codes "(") (opening ∷ []) []
unfolding is_operator
part-opening = part-operator 40 refl refl refl

part-closing : IsStatementPart (closing_piece ∷ []) (codes ")") (closing ∷ []) []
unfolding is_operator
part-closing = part-operator 41 refl refl refl

pub opening-first : {end b : List ℕ} {t : List Terminal} {said : List (List ℕ)} → IsRest operator true end b t said → IsRest space false end (codes "(" ++ b) (opening ∷ t) said
opening-first rest = record {
  pieces = opening_piece ∷ rest.pieces;
  part = part-append part-opening rest.part;
  touch = λ own. (refl, rest.touch (40 ∷ []));
  line = opened-line rest.pieces rest.line;
  well = λ o. rest.well true;
}

pub closing-first : {before : Class} {end b : List ℕ} {t : List Terminal} {said : List (List ℕ)} → ((own : List ℕ) → may_touch before own operator (41 ∷ []) ≡ true) → IsRest operator false end b t said → IsRest before true end (codes ")" ++ b) (closing ∷ t) said
closing-first may rest = record {
  pieces = closing_piece ∷ rest.pieces;
  part = part-append part-closing rest.part;
  touch = λ own. (may own, rest.touch (41 ∷ []));
  line = record { inner = []; rest = rest.pieces; is = refl; bare = refl; line = rest.line };
  well = λ o. rest.well false;
}

-- characters without line ends
body-low : (t : List ℕ) → list_all (λ c. nat_lt c 128) t ≡ true → list_any is_break t ≡ false → IsUnbrokenText t
body-low t low unbroken = record { characters = t; scalars = low-scalars t low; spell = low-spell t low; unbroken = unbroken }

body-append : {a b : List ℕ} → IsUnbrokenText a → IsUnbrokenText b → IsUnbrokenText (a ++ b)
body-append p q = record {
  characters = p.characters ++ q.characters;
  scalars = scalars-append p.characters q.characters p.scalars q.scalars;
  spell = encodes-append p.characters q.characters ∙ (λ i. p.spell i ++ q.spell i);
  unbroken = list_any-append is_break p.characters q.characters ∙ (λ i. p.unbroken i || q.unbroken i);
}

body-of : {c : List ℕ} → IsRemark c → IsUnbrokenText c
body-of h = record { characters = h.characters; scalars = h.scalars; spell = h.spell; unbroken = h.unbroken }

-- the joined comment
abbrev pub remark_said : List (List ℕ) → List (List ℕ)
remark_said [] = []
remark_said (c ∷ cs) = (codes "# " ++ join_by (λ (t : List ℕ). t) (codes "; ") (c ∷ cs)) ∷ []

remark-body : (c : List ℕ) (cs : List (List ℕ)) → AreRemarks (c ∷ cs) → IsUnbrokenText (32 ∷ join_by (λ (t : List ℕ). t) (codes "; ") (c ∷ cs))
unfolding is_break
remark-body c cs h = body-append (body-low (32 ∷ []) refl refl) (body-append (body-of h.0) (others cs h.1))
  where
    others : (ds : List (List ℕ)) → AreRemarks ds → IsUnbrokenText (flat_map (λ (d : List ℕ). codes "; " ++ d) ds)
    others [] k = body-low [] refl refl
    others (d ∷ ds) k = body-append (body-append (body-low (codes "; ") refl refl) (body-of k.0)) (others ds k.1)

abbrev remark_pieces : (c : List ℕ) (cs : List (List ℕ)) → AreRemarks (c ∷ cs) → List Piece
remark_pieces c cs h = piece space (32 ∷ 32 ∷ []) ∷ piece comment (35 ∷ (remark-body c cs h).characters) ∷ []

part-remark : (c : List ℕ) (cs : List (List ℕ)) (h : AreRemarks (c ∷ cs)) → IsStatementPart (remark_pieces c cs h) (remark (c ∷ cs)) [] (remark_said (c ∷ cs))
unfolding is_space
part-remark c cs h = part-append (part-space (32 ∷ 32 ∷ []) refl) (part-comment (remark-body c cs h))

pub remark-rest : {end : List ℕ} (cs : List (List ℕ)) → AreRemarks cs → IsRest word false end (remark cs) [] (remark_said cs)
remark-rest [] h = record { pieces = []; part = part-nil; touch = λ own. (refl, tt); line = plain-line [] refl refl; well = λ o. refl }
remark-rest (c ∷ cs) h = record {
  pieces = remark_pieces c cs h;
  part = part-remark c cs h;
  touch = λ own. (refl, (refl, (refl, tt)));
  line = plain-line (remark_pieces c cs h) refl refl;
  well = λ o. refl;
}

-- an opening parenthesis with the comment directly after it
pub remark-opened : {end b : List ℕ} {t : List Terminal} (cs : List (List ℕ)) → AreRemarks cs → IsRest comment true end b t [] → IsRest space false end (codes "(" ++ (remark cs ++ b)) (opening ∷ t) (remark_said cs)
remark-opened [] h rest = opening-first (after-operator rest)
remark-opened (c ∷ cs) h rest = record {
  pieces = opening_piece ∷ (remark_pieces c cs h ++ rest.pieces);
  part = part-append part-opening (part-append (part-remark c cs h) rest.part);
  touch = λ own. (refl, (refl, (refl, rest.touch (35 ∷ (remark-body c cs h).characters))));
  line = opened-line _ (closes-after (remark_pieces c cs h) rest.pieces refl rest.line);
  well = λ o. by (words_of rest.pieces) (no_words (words_of rest.pieces)) ∙ rest.well false;
}
  where
    by : (vs : List Word) (b : Bool) → ((false || b || true) && are_well false vs) ≡ are_well false vs
    by vs true = refl
    by vs false = refl

-- a module: names and dots
module-first : {opened : Bool} {end b : List ℕ} {u : List Terminal} {said : List (List ℕ)} (ts : List Terminal) → IsModule ts → HaveNames ts → IsRest word opened end b u said → IsRest space opened end (spelling ts ++ b) (ts ++ u) said
module-first {b = b} _ (one w) h rest = rest-as (ap (λ x. x ++ b) (sym (append-nil w))) (word-first (part-name w h.0) rest)
module-first {b = b} _ (more w ts m) h rest =
    rest-as (sym (append_assoc w (46 ∷ spelling ts) b)) (word-first (part-name w h.0) (dot-first (λ own. refl) (after-operator (module-first ts m h.1.1 rest))))

dots-first : {opened : Bool} {end : List ℕ} {said : List (List ℕ)} (b : List ℕ) (u ts path : List Terminal) → AreDots ts → IsRest operator opened end (spelling path ++ b) (path ++ u) said → IsRest operator opened end (spelling (ts ++ path) ++ b) ((ts ++ path) ++ u) said
dots-first b u _ path no_dot rest = rest
dots-first b u _ path (one_more ts d) rest = dot-first (λ own. refl) (dots-first b u ts path d rest)

names_after_dots : (ts us : List Terminal) → AreDots ts → HaveNames (ts ++ us) → HaveNames us
names_after_dots _ us no_dot h = h
names_after_dots _ us (one_more rest d) h = names_after_dots rest us d h.1

pub relative-first : {opened : Bool} {end b : List ℕ} {u : List Terminal} {said : List (List ℕ)} (ts : List Terminal) → IsRelativeModule ts → HaveNames ts → IsRest word opened end b u said → IsRest space opened end (spelling ts ++ b) (ts ++ u) said
relative-first {opened = opened} {end = end} {b = b} {u = u} {said = said} _ (dots ts d) h rest =
    dot-first (λ own. refl)
    (subst (λ (x : List Terminal). IsRest operator opened end (spelling x ++ b) (x ++ u) said) (append-nil ts) (dots-first b u ts [] d (after-operator rest)))
relative-first {opened = opened} {end = end} {b = b} {u = u} {said = said} _ (named ts before path cut d m) h rest =
    subst (λ (x : List Terminal). IsRest space opened end (spelling x ++ b) (x ++ u) said) (sym cut) (by before d (subst HaveNames cut h))
  where
    by : (ds : List Terminal) → AreDots ds → HaveNames (ds ++ path) → IsRest space opened end (spelling (ds ++ path) ++ b) ((ds ++ path) ++ u) said
    by _ no_dot k = module-first path m k rest
    by _ (one_more ds e) k =
        dot-first (λ own. refl) (dots-first b u ds path e (after-operator (module-first path m (names_after_dots ds path e k.1) rest)))

-- a relative module, ` import `, and what follows
pub from-rest : LettersAreWords → {opened : Bool} {end b : List ℕ} {u : List Terminal} {said : List (List ℕ)} (path : List Terminal) → IsRelativeModule path → HaveNames path → IsRest space opened end b u said → IsRest space opened end (spelling path ++ (codes " import " ++ b)) (path ++ (import_word ∷ u)) said
unfolding is_digit
from-rest law path r names rest =
    relative-first path r names (space-first (word-first (part-letters law 105 (codes "mport") refl refl refl) (space-first rest)))

-- an alias
abbrev pub alias_terminals : Option (List ℕ) → List Terminal
alias_terminals None = []
alias_terminals (Some a) = as_word ∷ name a ∷ []

pub alias-first : LettersAreWords → {opened : Bool} {end b : List ℕ} {u : List Terminal} {said : List (List ℕ)} (a : Option (List ℕ)) → IsAlias a → IsRest word opened end b u said → IsRest word opened end (alias_text a ++ b) (alias_terminals a ++ u) said
unfolding is_digit
alias-first law None h rest = rest
alias-first law (Some a) h rest = space-first (word-first (part-letters law 97 (codes "s") refl refl refl) (space-first (word-first (part-name a h) rest)))
