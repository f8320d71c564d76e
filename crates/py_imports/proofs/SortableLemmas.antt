-- A line that binds a list can be sorted if it can be moved: its statement is in the grammar.
use Rattle.std.proofs.Common.{◌≡◌, ℕ, ◌+◌, true, false, List, [], map, drop, refl, sym, ap, ◌∙◌, subst}
use Rattle.std.specs.List.{list_any}
use Rattle.py_lines.specs.LogicalLine.{LogicalLine}
use Rattle.py_imports.specs.Binds.{terminal_in, terminals_at, BindsAt, nothing, imports, BindEach, Binds}
use Rattle.py_imports.specs.BindingValue.{BindingValue}
use Rattle.py_imports.specs.Grammar.{Terminal, begins_import, Imported, IsImport}
use Rattle.py_imports.specs.Private.Items.{with_first_word}
use Rattle.py_imports.specs.Private.Places.{BeginsAt, IsMovable}
use Rattle.py_imports.specs.Shape.{terminals_of, IsSortable}
use Rattle.py_imports.specs.Statement.{significant, TokenPlace, places_from, starts, is_end}
use Rattle.py_imports.specs.declared.items.Form.{Form}
use Rattle.py_imports.specs.declared.items.Form.TheVariants as form
use Rattle.py_imports.proofs.OneStatement.{undivided_statement}

first_word_begins : (which : Form) (ts : List Terminal) → begins_import (with_first_word which ts) ≡ true
first_word_begins form.Import ts = refl
first_word_begins form.From ts = refl

-- a statement that begins as an import statement, and binds a list, is one
imports_at : (line : LogicalLine) (p : TokenPlace) (values : List BindingValue) → begins_import (terminals_at line p) ≡ true → BindsAt line p values → (is : List Imported) × IsImport (terminals_at line p) is
imports_at line p values begins (nothing l q bs e f) = absurd (let g : true ≡ false = sym begins ∙ e in cc)
imports_at line p values begins (imports l q bs is e i f) = (is, i)

-- the one statement of a line that binds a list is in the grammar
in_grammar : (line : LogicalLine) (place : ℕ) (which : Form) (values : List BindingValue) → BeginsAt line place which → list_any is_end (places_from [] (significant line.tokens)) ≡ false → Binds line values → (is : List Imported) × IsImport (terminals_of line) is
in_grammar line place which values begins undivided binds =
    let code = begins.first in
    let rest = significant (drop (place + 1) line.tokens) in
    let here : TokenPlace = record { before = []; token = code.first; after = rest } in
    let each = subst (λ ts. BindEach line (starts ts) values) code.all binds in
    let whole = undivided_statement code.first rest (subst (λ ts. list_any is_end (places_from [] ts) ≡ false) code.all undivided) in
    let same : terminals_at line here ≡ terminals_of line = ap (map (terminal_in line.text)) (whole ∙ sym code.all) in
    let first_word : begins_import (terminals_of line) ≡ true = ap begins_import begins.begins ∙ first_word_begins which (map (terminal_in line.text) rest) in
    let statement = imports_at line here each.0 (ap begins_import same ∙ first_word) each.3 in
    (statement.0, subst (λ ts. IsImport ts statement.0) same statement.1)

pub value_sorts : (line : LogicalLine) (place : ℕ) (which : Form) (values : List BindingValue) → BeginsAt line place which → Binds line values → IsMovable line → IsSortable line
value_sorts line place which values begins binds moves =
    let import = in_grammar line place which values begins moves.alone binds in
    record {
      code = begins.code;
      first = moves.first;
      alone = moves.alone;
      imported = import.0;
      is = import.1;
      comments = moves.comments;
      unskipped = moves.unskipped;
    }
