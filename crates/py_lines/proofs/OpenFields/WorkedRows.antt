-- What is open where a text ends: rows worked out by hand.
use Rattle.py_lines.proofs.Prelude.{◌≡◌, ℕ, false, Some, List, [], ◌∷◌, ◌++◌, refl, sym, ap, ◌∙◌, subst, inl, inr, append_assoc, append_cancel_right, codes, literal, specification}
use Rattle.py_lines.specs.Private.Mode as modes
use Rattle.py_lines.specs.declared.mode.Spelling.TheVariants as spellings
use Rattle.py_lines.specs.Private.FieldMachine.{between, plain, body, Level, FieldScanned, field_state, field_text_start, field_steps_from}
use Rattle.py_lines.specs.Piece.{space, word}
use Rattle.py_lines.specs.OpenFields.{InOpenShort, InOpenField}
use Rattle.py_lines.proofs.FieldMachine.WhatIsOpen.{comes_to, specification_comes}
use Rattle.py_lines.proofs.FieldSoundness.Holds.{IsFieldSound}
use Rattle.py_lines.proofs.FieldSoundness.HostSteps.{sound_at}
use Rattle.py_lines.proofs.FieldSoundness.WholeTexts.{no_limit, any_rooms}
use Rattle.py_lines.proofs.FieldSoundness.OpenEnds.{code_open_at, short_is_open, specification_is_open}
use Rattle.py_lines.proofs.FieldMachine.WorkedRows.{tested}
use Rattle.py_lines.proofs.Fields.WorkedRows.{piece, short}

-- where the machine with fields comes to, it is sound
sound : (text : List ℕ) (s : FieldScanned) → field_steps_from (Some field_text_start) text ≡ Some s → IsFieldSound no_limit s text
sound text s steps = sound_at no_limit text s (any_rooms (Some field_text_start) text) steps

-- after f"{
in_braces : Level
in_braces = record { done = []; openers = []; host = short; place = literal; front = codes "f\"{" }

-- f"{x : the field is open, from byte 2
open_field : InOpenField (codes "f\"{x") (codes "f\"")
unfolding tested in_braces
open_field = inl (code_open_at no_limit in_braces [] [] (plain (modes.Word spellings.Name)) (codes "x") _ (codes "f\"") (sound _ _ refl) refl refl)

-- f"{a # }" : the comment goes to the text's end, and the field is open from byte 2
comment_in_field : InOpenField (codes "f\"{a # }\"") (codes "f\"")
unfolding tested in_braces
comment_in_field = inl (code_open_at no_limit in_braces [] (piece word (codes "a") ∷ piece space (codes " ") ∷ []) (plain modes.Comment) (codes "# }\"") _ (codes "f\"") (sound _ _ refl) refl refl)

-- f"{x: : the field is open in its specification, from byte 2: its string begins with the text, up to the `{`
open_specification : InOpenField (codes "f\"{x:") (codes "f\"")
unfolding tested in_braces
open_specification =
    let state = field_state (in_braces ∷ []) [] [] (body short specification false between) (codes "f\"{x:") in
    let found = specification_is_open no_limit (in_braces ∷ []) [] [] short false between (codes "f\"{x:") _ (sound _ state refl) (λ same. absurd (cc)) in
    let at = (comes_to (codes "f\"{x:") _ state (specification_comes short (codes "f\"{x:") found.0 found.1) refl).0 in
    let start : found.0 ++ 123 ∷ [] ≡ codes "f\"{" =
    ap (λ t. t ++ 123 ∷ []) (sym at.before) ∙ append_assoc at.string at.field (123 ∷ []) ∙ ap (λ t. at.string ++ t) (sym at.field_is) ∙ ap (λ t. t ++ codes "f\"{") (sym at.string_is) in
    subst (InOpenField (codes "f\"{x:")) (append_cancel_right found.0 (codes "f\"") (123 ∷ []) start) (inr (short, found.1))

-- f"{" : the string in the field was opened last, at byte 3
string_in_field : InOpenShort (codes "f\"{\"") (codes "f\"{")
unfolding tested in_braces
string_in_field = short_is_open no_limit (in_braces ∷ []) [] [] (modes.Opened 34) (codes "\"") _ (sound _ _ refl) refl
