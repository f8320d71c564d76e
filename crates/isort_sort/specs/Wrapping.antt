-- The text of a statement.
use Rattle.std.specs.Prelude.{◌≡◌, ℕ, ◌+◌, ◌==◌, Bool, true, false, not, ◌&&◌, ◌||◌, List, [], ◌∷◌, ◌++◌}
use Rattle.std.specs.Prelude.{flat_map, length, replicate, codes, if◌then◌else◌, nat_le, nat_lt}
use Rattle.isort_sort.specs.Width.{width}
use Rattle.std.specs.List.{join_by}
use Rattle.py_imports.specs.Grammar.{Item}
use Rattle.py_imports.specs.Spelled.{alias_text}
use Rattle.isort_settings.specs.Values.{Values}
use Rattle.isort_sort.specs.Statement.{Statement, straight, star, names, single}

-- a line has an item, and if it has more, they fit
abbrev pub IsFilled : {X : Type 0} → (List X → Bool) → List X → Type 0
IsFilled fits [] = ⊥
IsFilled fits (x ∷ []) = Unit {0}
IsFilled fits (x ∷ y ∷ ys) = fits (x ∷ y ∷ ys) ≡ true

-- the first item of the next line, put after it, wouldn't fit
abbrev pub HasNoRoomFor : {X : Type 0} → (List X → Bool) → List X → List (List X) → Type 0
HasNoRoomFor fits line [] = Unit {0}
HasNoRoomFor fits line ([] ∷ lines) = Unit {0}
HasNoRoomFor fits line ((x ∷ xs) ∷ lines) = fits (line ++ x ∷ []) ≡ false

abbrev pub ArePacked : {X : Type 0} → (List X → Bool) → List (List X) → Type 0
ArePacked fits [] = Unit {0}
ArePacked fits (line ∷ lines) = IsFilled fits line × HasNoRoomFor fits line lines × ArePacked fits lines

-- the items, cut into lines: each line of two or more items fits, and the next line's first item wouldn't fit after it
pub record IsCut {X : Type 0} (fits : List X → Bool) (items : List X) (lines : List (List X)) : Type 0 where
  pub all : flat_map (λ l. l) lines ≡ items
  pub packed : ArePacked fits lines

abbrev pub item_text : Item → List ℕ
item_text i = i.path ++ alias_text i.alias

-- items on one line
abbrev pub items_text : List Item → List ℕ
items_text items = join_by item_text (codes ", ") items

-- `from MODULE import `
abbrev pub head : List ℕ → List ℕ
head m = codes "from " ++ (m ++ codes " import ")

abbrev pub four_spaces : List ℕ
four_spaces = codes "    "

-- whether the items fit on a line of a wrapped statement: in modes 0 and 2 by the length of the line
abbrev pub fits_line : Values → List ℕ → List ℕ → List Item → Bool
fits_line v indentation m items =
    if v.multi_line_output == 0 then nat_le (width indentation + width (head m) + 1 + width (items_text items) + 1) v.line_length
    else (if v.multi_line_output == 2 then nat_le (width indentation + 4 + width (items_text items) + 3) v.line_length else false)

-- the joined comment after a line, if there is one
abbrev pub remark : List (List ℕ) → List ℕ
remark [] = []
remark (c ∷ cs) = codes "  # " ++ join_by (λ (t : List ℕ). t) (codes "; ") (c ∷ cs)

abbrev pub trailing_comma : Values → List ℕ
trailing_comma v = if v.include_trailing_comma then codes "," else []

-- Names from a module, wrapped, with these items on each line: in brackets from the first line on (modes 0 and 1), after a
-- backslash (mode 2), or in brackets of their own (mode 3).
abbrev pub in_brackets : Values → List ℕ → List ℕ → List ℕ → List ℕ → List (List Item) → List ℕ
in_brackets v indentation end m comment cut =
    let next : List ℕ = end ++ (indentation ++ replicate (width (head m) + 1) 32) in
    indentation ++ (head m ++ (codes "(" ++ (join_by items_text (codes "," ++ next) cut
    ++ (trailing_comma v ++ (codes ")" ++ comment)))))

abbrev pub hanging : List ℕ → List ℕ → List ℕ → List ℕ → List (List Item) → List ℕ
hanging indentation end m comment cut =
    let next : List ℕ = 92 ∷ (end ++ (indentation ++ four_spaces)) in
    indentation ++ (head m ++ (next ++ (join_by items_text (codes ", " ++ next) cut ++ comment)))

abbrev pub hanging_in_brackets : Values → List ℕ → List ℕ → List ℕ → List ℕ → List (List Item) → List ℕ
hanging_in_brackets v indentation end m comment cut =
    let next : List ℕ = end ++ (indentation ++ four_spaces) in
    indentation ++ (head m ++ (codes "(" ++ (comment ++ (next ++ (join_by items_text (codes "," ++ next) cut
    ++ (trailing_comma v ++ (end ++ (indentation ++ codes ")"))))))))

abbrev pub wrapped : Values → List ℕ → List ℕ → List ℕ → List ℕ → List (List Item) → List ℕ
wrapped v indentation end m comment cut =
    if nat_le v.multi_line_output 1 then in_brackets v indentation end m comment cut
    else (if v.multi_line_output == 2 then hanging indentation end m comment cut
    else hanging_in_brackets v indentation end m comment cut)

-- names from a module, on one line
abbrev pub flat : List ℕ → List ℕ → List ℕ → List Item → List ℕ
flat indentation m comment items = indentation ++ (head m ++ (items_text items ++ comment))

-- whether the settings ask for more lines than one
abbrev pub is_forced : Values → List Item → Bool
is_forced v items = nat_lt 0 v.force_grid_wrap && nat_le v.force_grid_wrap (length items)

-- whether a statement of names is wrapped: one name isn't in modes 0 and 1
abbrev pub is_wrapped : Values → List ℕ → List ℕ → List ℕ → List Item → Bool
is_wrapped v indentation m comment items =
    not (nat_le v.multi_line_output 1 && (length items == 1))
    && (is_forced v items || not (nat_le (width (flat indentation m comment items)) v.line_length))

-- names from a module, with this cut of them
abbrev pub names_text : Values → List ℕ → List ℕ → List ℕ → List ℕ → List Item → List (List Item) → List ℕ
names_text v indentation end m comment items cut =
    if is_wrapped v indentation m comment items then wrapped v indentation end m comment cut
    else flat indentation m comment items

-- a statement without its last line end, with its joined comment, its items, and a cut of them
abbrev pub statement_text : Values → List ℕ → List ℕ → Statement → List ℕ → List Item → List (List Item) → List ℕ
statement_text v indentation end (straight m alias) comment items cut =
    indentation ++ (codes "import " ++ (m ++ (alias_text alias ++ comment)))
statement_text v indentation end (star m) comment items cut = indentation ++ (head m ++ (codes "*" ++ comment))
statement_text v indentation end (names m) comment items cut = names_text v indentation end m comment items cut
statement_text v indentation end (single m i) comment items cut = names_text v indentation end m comment items cut
