-- Rows by hand: what texts say, where comments stand well, and where a line's first token stands.
use Rattle.std.proofs.Common.{◌≡◌, Bool, true, false, ℕ, ◌+◌, List, [], ◌∷◌, map, codes, refl}
use Rattle.std.specs.List.{list_all, list_any}
use Rattle.py_lines.specs.LogicalLine.{LogicalLine}
use Rattle.py_lines.specs.declared.token.TokKind.{TokKind}
use Rattle.py_lines.specs.declared.token.TokKind.TheVariants as kind
use Rattle.py_lines.specs.declared.unit.UnitKind.TheVariants as unit_kind
use Rattle.py_imports.specs.Statement.{places_from}
use Rattle.py_imports.specs.Shape.{stands_first, stands_well}
use Rattle.py_imports.specs.ActionComment.{says}
use Rattle.py_imports.specs.declared.action_comment.ActionComment.{ActionComment}
use Rattle.py_imports.specs.declared.action_comment.ActionComment.TheVariants as action

-- a comment, and what it is asked for
record CommentRow : Type 0 where
  action : ActionComment
  text : List ℕ

abbrev row : ActionComment → List ℕ → CommentRow
row action text = record { action = action; text = text }

comments_say : list_all (λ r. says r.action r.text) (
    row action.SkipFile (codes "# isort: skip_file") ∷ row action.Skip (codes "# isort:skip") ∷
    row action.Skip (codes "isort: skips isort: skip.") ∷ row action.Off (codes "isort:off") ∷
    row action.On (codes "# isort: on\t") ∷ row action.Split (codes "# isort: split") ∷ []) ≡ true
comments_say = refl

comments_say_nothing : list_any (λ r. says r.action r.text) (
    row action.Skip (codes "# isort: skip_file") ∷ row action.Skip (codes "# isort:  skip") ∷
    row action.On (codes "# isort: one") ∷ row action.On (codes "# Isort: on") ∷ []) ≡ false
comments_say_nothing = refl

-- whether the comments among tokens of these kinds stand well
abbrev all_stand_well : List TokKind → Bool
all_stand_well kinds = list_all stands_well (places_from [] (map (λ k. record { kind = k; start = 0; stop = 0; line = 1 }) kinds))

-- `from a import (  # k`, `b)  # l`
both_places : all_stand_well (kind.Name ∷ kind.Name ∷ kind.Name ∷ kind.Op 40 ∷ kind.Remark ∷ kind.Name ∷ kind.Op 41 ∷ kind.Remark ∷ []) ≡ true
both_places = refl

-- `from a import (b,  # k`, `c)`
between_names : all_stand_well (kind.Name ∷ kind.Name ∷ kind.Name ∷ kind.Op 40 ∷ kind.Name ∷ kind.Op 44 ∷ kind.Remark ∷ kind.Name ∷ kind.Op 41 ∷ []) ≡ false
between_names = refl

-- `from a import (`, `# k`, `# l`, `b)`
two_behind_opening : all_stand_well (kind.Name ∷ kind.Name ∷ kind.Name ∷ kind.Op 40 ∷ kind.Remark ∷ kind.Remark ∷ kind.Name ∷ kind.Op 41 ∷ []) ≡ false
two_behind_opening = refl

-- a line whose first token begins at this byte
abbrev line_with : List ℕ → ℕ → ℕ → LogicalLine
line_with text indent start = record { kind = unit_kind.Code; text = text; tokens = record { kind = kind.Name; start = start; stop = start + 6; line = 1 } ∷ []; offset = 0; line = 1; indent = indent; end_len = 0 }

-- two spaces and `import`
indented : stands_first (line_with (codes "  import a") 2 2) ≡ true
indented = refl

-- U+FEFF, a space and `import`
marked : stands_first (line_with (239 ∷ 187 ∷ 191 ∷ codes " import a") 1 4) ≡ true
marked = refl

-- a backslash, LF and `import`
joined : stands_first (line_with (92 ∷ 10 ∷ codes "import a") 0 2) ≡ false
joined = refl
