-- What is open where a text with fields ends: rows worked out by hand, on the machine's state.
use Rattle.py_lines.proofs.Prelude.{◌≡◌, ℕ, Option, None, Some, List, [], ◌∷◌, map, refl, codes}
use Rattle.py_lines.specs.Faults.{Unfinished, open_short, open_long, open_join, open_bracket, open_inside}
use Rattle.py_lines.specs.Private.FieldMachine.{FieldScanned, field_text_start, field_steps_from}
use Rattle.py_lines.proofs.FieldMachine.WorkedRows.{tested}
use Rattle.py_lines.specs.Private.FieldFaults.{unfinished_at}

open_after : Option FieldScanned → Option Unfinished
open_after None = None
open_after (Some s) = unfinished_at s

-- a text, and what is open at its end
abbrev Row : Type 0
Row = List ℕ × Unfinished

rows : List Row
rows =
    -- f"{x, f"{x: and f"{ : the field
    (codes "f\"{x", open_inside)
    ∷ (codes "f\"{x:", open_inside)
    ∷ (codes "f\"{", open_inside)
    -- f"{a # }" : the comment goes to the end, in the field
    ∷ (codes "f\"{a # }\"", open_inside)
    -- f"{" : a string in the field, which was opened last
    ∷ (codes "f\"{\"", open_short)
    -- f"{{ and f"""{x} : the literal part; f"""{x:" : the field, whose specification is open
    ∷ (codes "f\"{{", open_short)
    ∷ (codes "f\"\"\"{x}", open_long)
    ∷ (codes "f\"\"\"{x:\"", open_inside)
    -- f"{( and f"{\ : a bracket, and a backslash
    ∷ (codes "f\"{(", open_bracket)
    ∷ (codes "f\"{\\", open_join)
    ∷ []

are_open : map (λ (r : Row). open_after (field_steps_from (Some field_text_start) r.0)) rows ≡ map (λ (r : Row). Some r.1) rows
unfolding tested open_after rows
are_open = refl
