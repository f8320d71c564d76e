-- The names of a written `from` statement in each of its layouts.
use Rattle.std.proofs.Common.{◌≡◌, ℕ, Bool, true, false, not, ◌&&◌, Option, None, Some, List, [], ◌∷◌, ◌++◌, flat_map, codes, cond, refl, sym, ap, ◌∙◌, subst, append_assoc, append-nil}
use Rattle.std.specs.List.{list_all, join_by, AllByRecursion}
use Rattle.std.proofs.lemmas.Bool.{and_parts}
use Rattle.std.proofs.Math.Bool.{and-false}
use Rattle.py_lines.specs.PieceGrammar.{IsLineEnd}
use Rattle.py_lines.specs.Balance.{is_opening, is_closing}
use Rattle.py_lines.specs.Character.{is_space, is_return, is_line_feed, is_operator}
use Rattle.py_lines.specs.Piece.{space, word, operator, comment, line_end, begins, ends}
use Rattle.py_imports.specs.Grammar.{Terminal, name, comma, opening, closing, Item, IsItem, plain, renamed, AreItems, last, then, identifiers, closed, closed_after_comma, AreNames, plain_names, bracketed}
use Rattle.py_imports.specs.Names.{IsNameItem}
use Rattle.isort_sort.specs.WrittenLine.{AreRemarks}
use Rattle.isort_sort.specs.Wrapping.{item_text, items_text, remark}
use Rattle.isort_sort.proofs.LineLaws.Parts.{piece, IsStatementPart, part-space, part-operator, part-end, part-join, LettersAreWords, part-name}
use Rattle.isort_sort.proofs.WrittenStatements.Rests.{IsRest, rest-as, after-operator, piece-first, space-first, word-first, opening-first, closing-first, remark_said, remark-rest, remark-opened, alias_terminals, alias-first}
use Rattle.isort_sort.proofs.Rows.Spaces.{space_no_feed}

-- an item
abbrev item_terminals : Item → List Terminal
item_terminals i = name i.path ∷ alias_terminals i.alias

item-is : (i : Item) → IsItem identifiers (item_terminals i) i
item-is i = by i.path i.alias
  where
    by : (p : List ℕ) (a : Option (List ℕ)) → IsItem identifiers (name p ∷ alias_terminals a) (record { path = p; alias = a })
    by p None = let nil = sym (append-nil p) in plain identifiers _ _ (p, refl) (λ k. record { path = nil k; alias = None })
    by p (Some a) = let nil = sym (append-nil p) in renamed identifiers _ (name p ∷ []) a _ refl (p, refl) (λ k. record { path = nil k; alias = Some a })

item-first : LettersAreWords → {opened : Bool} {end b : List ℕ} {u : List Terminal} {said : List (List ℕ)} (i : Item) → IsNameItem i → IsRest word opened end b u said → IsRest space opened end (item_text i ++ b) (item_terminals i ++ u) said
item-first law {b = b} i n rest = rest-as (sym (append_assoc i.path _ b)) (word-first (part-name i.path n.path) (alias-first law i.alias n.alias rest))

-- items, and what follows the last of them
record HasItems (opened : Bool) (end bytes : List ℕ) (tail : List Terminal) (said : List (List ℕ)) (items : List Item) : Type 0 where
  terminals : List Terminal
  are : AreItems identifiers terminals items
  rest : IsRest space opened end bytes (terminals ++ tail) said

items-as : {opened : Bool} {end b c : List ℕ} {tail : List Terminal} {said : List (List ℕ)} {items : List Item} → b ≡ c → HasItems opened end b tail said items → HasItems opened end c tail said items
items-as {opened = opened} {end = end} {tail = tail} {said = said} {items = items} same h = subst (λ (x : List ℕ). HasItems opened end x tail said items) same h

-- what may follow an item, with other items in it
abbrev MayFollowItem : Bool → List ℕ → List ℕ → List Terminal → List (List ℕ) → List Item → Type 0
MayFollowItem opened end bytes tail said items = (i : Item) → IsNameItem i → HasItems opened end (item_text i ++ bytes) tail said (i ∷ items)

no-more : LettersAreWords → {opened : Bool} {end b : List ℕ} {tail : List Terminal} {said : List (List ℕ)} → IsRest word opened end b tail said → MayFollowItem opened end b tail said []
no-more law rest i n = record { terminals = item_terminals i; are = last identifiers _ _ (item-is i); rest = item-first law i n rest }

-- what may stand between two items: a comma, and space with or without a line end
abbrev IsGlue : Bool → List ℕ → List ℕ → Type 0
IsGlue opened end sep = (b : List ℕ) (t : List Terminal) (said : List (List ℕ)) → IsRest space opened end b t said → IsRest word opened end (sep ++ b) (comma ∷ t) said

more-items : LettersAreWords → (sep : List ℕ) {opened : Bool} {end b : List ℕ} {tail : List Terminal} {said : List (List ℕ)} {items : List Item} → IsGlue opened end sep → HasItems opened end b tail said items → MayFollowItem opened end (sep ++ b) tail said items
more-items law sep {opened = opened} {end = end} {b = b} {tail = tail} {said = said} glue others i n = record {
  terminals = item_terminals i ++ comma ∷ others.terminals;
  are = then identifiers _ (item_terminals i) others.terminals i _ refl (item-is i) others.are;
  rest = subst (λ (ts : List Terminal). IsRest space opened end (item_text i ++ (sep ++ b)) ts said) (sym (append_assoc (item_terminals i) (comma ∷ others.terminals) tail))
      (item-first law i n (glue b (others.terminals ++ tail) said others.rest));
}

part-comma : IsStatementPart (piece operator (44 ∷ []) ∷ []) (codes ",") (comma ∷ []) []
unfolding is_operator
part-comma = part-operator 44 refl refl refl

comma-first : {opened : Bool} {end b : List ℕ} {t : List Terminal} {said : List (List ℕ)} → IsRest operator opened end b t said → IsRest word opened end (codes "," ++ b) (comma ∷ t) said
unfolding is_opening is_closing
comma-first rest = piece-first part-comma (λ own. refl) refl (λ k. refl) rest

regroup : (a s c d b : List ℕ) → a ++ (s ++ ((c ++ d) ++ b)) ≡ (a ++ ((s ++ c) ++ d)) ++ b
regroup a s c d b = simp append_assoc

-- items on one line
abbrev pub HasItem : List Item → Type 0
HasItem [] = ⊥
HasItem (i ∷ is) = Unit {0}

abbrev pub AreNameItems : List Item → Type 0
AreNameItems items = AllByRecursion IsNameItem items

line-items : LettersAreWords → {opened : Bool} {end b : List ℕ} {tail : List Terminal} {said : List (List ℕ)} {others : List Item} (items : List Item) → HasItem items → AreNameItems items → MayFollowItem opened end b tail said others → HasItems opened end (items_text items ++ b) tail said (items ++ others)
line-items law [] some h after = absurd some
line-items law {b = b} (i ∷ []) some h after = items-as (ap (λ t. t ++ b) (sym (append-nil (item_text i)))) (after i h.0)
line-items law {b = b} (i ∷ j ∷ js) some h after =
    items-as (regroup (item_text i) (codes ", ") (item_text j) (flat_map (λ k. codes ", " ++ item_text k) js) b)
    (more-items law (codes ", ") (λ c t s rest. comma-first (after-operator (space-first rest))) (line-items law (j ∷ js) tt h.1 after) i h.0)

-- lines of items, each of names
abbrev pub AreLines : List (List Item) → Type 0
AreLines [] = Unit {0}
AreLines (line ∷ lines) = HasItem line × AreNameItems line × AreLines lines

lines-items : LettersAreWords → (sep : List ℕ) {opened : Bool} {end b : List ℕ} {tail : List Terminal} {said : List (List ℕ)} → IsGlue opened end sep → (line : List Item) (lines : List (List Item)) → AreLines (line ∷ lines) → IsRest word opened end b tail said → HasItems opened end (join_by items_text sep (line ∷ lines) ++ b) tail said (flat_map (λ l. l) (line ∷ lines))
lines-items law sep {b = b} glue line [] h rest = items-as (ap (λ t. t ++ b) (sym (append-nil (items_text line)))) (line-items law line h.0 h.1 (no-more law rest))
lines-items law sep {b = b} glue line (next ∷ lines) h rest =
    items-as (regroup (items_text line) sep (items_text next) (flat_map (λ l. sep ++ items_text l) lines) b)
    (line-items law line h.0 h.1 (more-items law sep glue (lines-items law sep glue next lines h.2 rest)))

-- names and the comment of a statement, which import these items
pub record IsBody (end bytes : List ℕ) (items : List Item) (cs : List (List ℕ)) : Type 0 where
  pub terminals : List Terminal
  pub rest : IsRest space false end bytes terminals (remark_said cs)
  pub names : AreNames terminals items

plain-names : (ts : List Terminal) (items : List Item) → AreItems identifiers ts items → AreNames (ts ++ []) items
plain-names ts items h = plain_names _ _ (subst (λ us. AreItems identifiers us items) (sym (append-nil ts)) h)

-- on one line
pub flat-body : LettersAreWords → (end : List ℕ) (items : List Item) → HasItem items → AreNameItems items → (cs : List (List ℕ)) → AreRemarks cs → IsBody end (items_text items ++ remark cs) items cs
flat-body law end items some named cs h =
    let listed = line-items law items some named (no-more law (remark-rest {end = end} cs h)) in
    record { terminals = listed.terminals ++ []; rest = listed.rest; names = subst (AreNames (listed.terminals ++ [])) (append-nil items) (plain-names _ _ listed.are) }

-- space at the start of a line
pub record IsPad (pad : List ℕ) : Type 0 where
  pub first : ℕ
  pub others : List ℕ
  pub is : pad ≡ first ∷ others
  pub spaces : list_all is_space pad ≡ true

part-pad : (pad : List ℕ) → IsPad pad → IsStatementPart (piece space pad ∷ []) pad [] []
part-pad pad p = subst (λ (t : List ℕ). IsStatementPart (piece space t ∷ []) t [] []) (sym p.is) (part-space (p.first ∷ p.others) (ap (list_all is_space) (sym p.is) ∙ p.spaces))

pad_no_feed : (b : Bool) (pad : List ℕ) → IsPad pad → not (b && begins is_line_feed pad) ≡ true
pad_no_feed b pad p =
    ap (λ x. not (b && x)) (ap (begins is_line_feed) p.is ∙ space_no_feed p.first (and_parts _ _ (ap (list_all is_space) (sym p.is) ∙ p.spaces)).0) ∙ ap not (and-false b)

-- a line end, or a joined one, and space
line-first : {end b : List ℕ} {t : List Terminal} {said : List (List ℕ)} (pad : List ℕ) → IsLineEnd end → IsPad pad → IsRest space true end b t said → IsRest comment true end ((end ++ pad) ++ b) t said
line-first {end = end} {b = b} pad e p rest =
    rest-as (sym (append_assoc end pad b))
    (piece-first (part-end end e) (λ own. refl) refl (λ k. absurd (cc)) (piece-first (part-pad pad p) (λ own. pad_no_feed (ends is_return own) pad p) refl (λ k. refl) rest))

join-first : {opened : Bool} {end b : List ℕ} {t : List Terminal} {said : List (List ℕ)} (pad : List ℕ) → IsLineEnd end → IsPad pad → IsRest space opened end b t said → IsRest space opened end ((92 ∷ (end ++ pad)) ++ b) t said
join-first {end = end} {b = b} pad e p rest =
    rest-as (ap (λ t. 92 ∷ t) (sym (append_assoc end pad b)))
    (piece-first (part-join end e) (λ own. refl) refl (λ k. refl) (piece-first (part-pad pad p) (λ own. pad_no_feed (ends is_return own) pad p) refl (λ k. refl) rest))

line-glue : (end pad : List ℕ) → IsLineEnd end → IsPad pad → IsGlue true end (codes "," ++ (end ++ pad))
line-glue end pad e p = λ b t said rest. comma-first (after-operator (line-first pad e p rest))

-- after a backslash
pub hanging-body : LettersAreWords → (end pad : List ℕ) → IsLineEnd end → IsPad pad → (line : List Item) (lines : List (List Item)) → AreLines (line ∷ lines) → (cs : List (List ℕ)) → AreRemarks cs → IsBody end ((92 ∷ (end ++ pad)) ++ (join_by items_text (codes ", " ++ 92 ∷ (end ++ pad)) (line ∷ lines) ++ remark cs)) (flat_map (λ l. l) (line ∷ lines)) cs
hanging-body law end pad e p line lines named cs h =
    let glue : IsGlue false end (codes ", " ++ 92 ∷ (end ++ pad)) = λ b t said rest. comma-first (after-operator (space-first (join-first pad e p rest))) in
    let listed = lines-items law (codes ", " ++ 92 ∷ (end ++ pad)) glue line lines named (remark-rest cs h) in
    record { terminals = listed.terminals ++ []; rest = join-first pad e p listed.rest; names = plain-names _ _ listed.are }

-- a trailing comma, where there is one
abbrev pub comma_text : Bool → List ℕ
comma_text t = cond t (codes ",") []

abbrev comma_terminals : Bool → List Terminal
comma_terminals t = cond t (comma ∷ []) []

trailing-first : (trailing : Bool) {end b : List ℕ} {t : List Terminal} {said : List (List ℕ)} → IsRest word true end b t said → IsRest word true end (comma_text trailing ++ b) (comma_terminals trailing ++ t) said
trailing-first true rest = comma-first (after-operator rest)
trailing-first false rest = rest

-- the items between brackets, and what closes them
bracketed-names : (t : Bool) (ts : List Terminal) (items : List Item) → AreItems identifiers ts items → AreNames (opening ∷ (ts ++ (comma_terminals t ++ (closing ∷ [])))) items
bracketed-names true ts items h = bracketed _ _ (closed_after_comma _ ts items refl h)
bracketed-names false ts items h = bracketed _ _ (closed _ ts items refl h)

-- in brackets, from the first line on
pub brackets-body : LettersAreWords → (end pad : List ℕ) → IsLineEnd end → IsPad pad → (line : List Item) (lines : List (List Item)) → AreLines (line ∷ lines) → (t : Bool) (cs : List (List ℕ)) → AreRemarks cs → IsBody end (codes "(" ++ (join_by items_text (codes "," ++ (end ++ pad)) (line ∷ lines) ++ (comma_text t ++ (codes ")" ++ remark cs)))) (flat_map (λ l. l) (line ∷ lines)) cs
brackets-body law end pad e p line lines named t cs h =
    let listed = lines-items law (codes "," ++ (end ++ pad)) (line-glue end pad e p) line lines named (trailing-first t (closing-first (λ own. refl) (after-operator (remark-rest cs h)))) in
    record { terminals = _; rest = opening-first (after-operator listed.rest); names = bracketed-names t _ _ listed.are }

-- the last line of a statement in brackets of its own
last-line : (end indentation : List ℕ) → IsLineEnd end → list_all is_space indentation ≡ true → IsRest word true end (end ++ (indentation ++ codes ")")) (closing ∷ []) []
unfolding is_line_feed
last-line end indentation e spaces = piece-first (part-end end e) (λ own. refl) refl (λ k. absurd (cc)) (closed_by indentation spaces)
  where
    closed_by : (i : List ℕ) → list_all is_space i ≡ true → IsRest line_end true end (i ++ codes ")") (closing ∷ []) []
    closed_by [] h = closing-first (λ own. ap not (and-false (ends is_return own))) (after-operator (remark-rest [] tt))
    closed_by (c ∷ cs) h =
        piece-first (part-space (c ∷ cs) h) (λ own. pad_no_feed (ends is_return own) (c ∷ cs) (record { first = c; others = cs; is = refl; spaces = h })) refl (λ k. refl)
        (closing-first (λ own. refl) (after-operator (remark-rest [] tt)))

-- in brackets of their own, with the comment after the opening one
pub hung-body : LettersAreWords → (end pad indentation : List ℕ) → IsLineEnd end → IsPad pad → list_all is_space indentation ≡ true → (line : List Item) (lines : List (List Item)) → AreLines (line ∷ lines) → (t : Bool) (cs : List (List ℕ)) → AreRemarks cs → IsBody end (codes "(" ++ (remark cs ++ ((end ++ pad) ++ (join_by items_text (codes "," ++ (end ++ pad)) (line ∷ lines) ++ (comma_text t ++ (end ++ (indentation ++ codes ")"))))))) (flat_map (λ l. l) (line ∷ lines)) cs
hung-body law end pad indentation e p spaces line lines named t cs h =
    let listed = lines-items law (codes "," ++ (end ++ pad)) (line-glue end pad e p) line lines named (trailing-first t (last-line end indentation e spaces)) in
    record { terminals = _; rest = remark-opened cs h (line-first pad e p listed.rest); names = bracketed-names t _ _ listed.are }
