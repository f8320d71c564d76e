-- Strings with fields: rows worked out by hand, of which the machine with fields says what they are. Two hundred fields may be open
-- one in another, and no more.
use Rattle.py_lines.proofs.Prelude.{◌≡◌, ℕ, Bool, true, false, ◌&&◌, Option, None, Some, List, [], ◌∷◌, ◌++◌, map, refl, sym, ap, ◌∙◌, inl, inr, append-nil, zero, suc, codes, list_all, and_parts, both_ways, IsBalancedReading}
use Rattle.py_lines.specs.Piece.{Class, space, string, Piece}
use Rattle.py_lines.specs.PieceGrammar.{InClassIn, ReadsIn}
use Rattle.py_lines.specs.Fields.{Fields, fielded, ShallowFields}
use Rattle.py_lines.specs.FieldStrings.{is_field_prefix, Host, IsFieldString, with_fields}
use Rattle.py_lines.specs.Private.FieldMachine.{Level, FieldScanned, field_state, field_fresh, field_text_start, field_pieces, field_steps_from, have_room}
use Rattle.py_lines.proofs.Fields.Prefixes.{plain_quotes, before_quote, before_first}
use Rattle.py_lines.proofs.FieldMachine.Runs.{NoLimit, steps_of, BelowLimit, room_of}
use Rattle.py_lines.proofs.FieldMachine.ListBrackets.{none_some}
use Rattle.py_lines.proofs.FieldMachine.Completeness.{begin_shallow, shallow_run, fields_reached, reached}
unfoldable pub use Rattle.py_lines.proofs.FieldMachine.WorkedRows.{tested}
use Rattle.py_lines.proofs.FieldSoundness.WholeTexts.{final_is_reading}

abbrev pub piece : Class → List ℕ → Piece
piece class text = record { class = class; text = text }

abbrev pub short : Host
short = record { quote = 34; is_long = false; is_raw = false }

-- pieces to which the machine comes, with nothing open, are a reading
pub read_whole : (pieces : List Piece) (text : List ℕ) → field_steps_from (Some field_text_start) text ≡ Some (field_fresh [] pieces []) → have_room (Some field_text_start) text ≡ true → IsBalancedReading pieces text
read_whole pieces text steps room = final_is_reading text (field_fresh [] pieces []) steps room (record { outside = refl; closed_all = refl; ends = refl })

-- a string whose quotes come after such a prefix has fields
string_with : (text : List ℕ) → is_field_prefix (before_quote text) ≡ true → InClassIn fielded string text → IsFieldString Fields text
string_with text begun (inr is) = is
string_with text begun (inl (inl (is, plain))) = absurd (both_ways _ plain (ap is_field_prefix (sym (ap before_quote is.spell ∙ before_first is.prefix _ is.quote (plain_quotes is.prefix is.begun) is.opens)) ∙ begun))
string_with text begun (inl (inr (is, plain))) = absurd (both_ways _ plain (ap is_field_prefix (sym (ap before_quote is.spell ∙ before_first is.prefix _ is.quote (plain_quotes is.prefix is.begun) is.opens)) ∙ begun))

abbrev AreStrings : List (List ℕ) → Type 0
AreStrings [] = Unit {0}
AreStrings (t ∷ ts) = IsFieldString Fields t × AreStrings ts

-- whether a text begins like a string with fields, and brackets and fields in it have room
abbrev begins_so : List ℕ → Bool
begins_so text = is_field_prefix (before_quote text) && have_room (Some field_text_start) text

read_strings : (ts : List (List ℕ)) → map (λ t. field_steps_from (Some field_text_start) t) ts ≡ map (λ t. Some (field_fresh [] (piece string t ∷ []) [])) ts → list_all begins_so ts ≡ true → AreStrings ts
read_strings [] steps begun = tt
read_strings (t ∷ ts) steps begun =
    let parts = and_parts (begins_so t) (list_all begins_so ts) begun in
    let own = and_parts (is_field_prefix (before_quote t)) (have_room (Some field_text_start) t) parts.0 in
    let first : field_steps_from (Some field_text_start) t ≡ Some (field_fresh [] (piece string t ∷ []) []) = cc in
    let later : map (λ x. field_steps_from (Some field_text_start) x) ts ≡ map (λ x. Some (field_fresh [] (piece string x ∷ []) [])) ts = cc in
    (string_with t own.0 (read_whole (piece string t ∷ []) t first own.1).reads.fit.0, read_strings ts later parts.1)

-- strings with fields
strings : List (List ℕ)
strings =
    codes "f\"{}\""  -- f"{}"
    ∷ codes "f\"}\""  -- f"}"
    ∷ codes "f\"{{\""  -- f"{{"
    ∷ codes "f\"{{{x}}}\""  -- f"{{{x}}}" : the third brace opens a field
    ∷ codes "f\"{d[\"import\"]}\""  -- f"{d["import"]}" : the string's own quote in a field
    ∷ codes "t'{x:{w}}'"  -- t'{x:{w}}' : a field in a specification
    ∷ codes "f\"{x!r:>{w}}\""  -- f"{x!r:>{w}}"
    ∷ codes "f\"\\N{DASH}\""  -- f"\N{DASH}" : a name, and no field
    ∷ codes "f\"\\N{{ {x}\""  -- f"\N{{ {x}" : no field opens before the next `}`
    ∷ codes "rf\"\\N{a}\""  -- rf"\N{a}" : with `r` there are no names, and a field
    ∷ codes "f\"\\{a}\""  -- f"\{a}" : the backslash stands for itself before a brace
    ∷ codes "f'{\n1}'"  -- f'{\n1}' : a line end in a field of a short string
    ∷ codes "f\"a\\\nb\""  -- 'f"a\\\nb"' : a line end after a backslash in a literal part
    ∷ codes "f\"\"\"{x:\"\"}\"\"\""  -- f"""{x:""}""" : two quotes in a specification, and then the three that close the string
    ∷ codes "f\"{\"\"}\""  -- f"{""}" : an empty string in a field
    ∷ codes "f\"{a # }\"\n}\""  -- 'f"{a # }"\n}"' : a comment in a field goes to the line's end, over quotes and braces
    ∷ []

strings_are : AreStrings strings
unfolding tested strings
strings_are = read_strings strings refl refl

-- the pieces of a text where the machine comes to its end, with no field open
pieces_outside : List Level → List Piece → Option (List Piece)
pieces_outside [] pieces = Some pieces
pieces_outside outer pieces = None

ended : Option FieldScanned → Option (List Piece)
ended None = None
ended (Some s) = pieces_outside s.outer (field_pieces s)

string_ends : (text : List ℕ) → InClassIn fielded string text → ended (field_steps_from (Some field_text_start) text) ≡ Some (piece string text ∷ [])
unfolding ended pieces_outside
string_ends text is =
    let found = fields_reached (piece string text ∷ []) [] [] (is, λ prefix q spell begun quotes. refl, refl, tt) refl tt in
    ap (λ t. ended (field_steps_from (Some field_text_start) t)) (sym (append-nil text))
    ∙ ap ended (steps_of NoLimit field_text_start (field_state [] found.done [] found.mode found.held) (text ++ []) found.goes) ∙ ap Some found.pieces_are

-- f"{{" f"}}" : two strings
two_strings : ReadsIn fielded (piece string (codes "f\"{{\"") ∷ piece space (codes " ") ∷ piece string (codes "f\"}}\"") ∷ []) (codes "f\"{{\" f\"}}\"")
unfolding tested
two_strings = (read_whole _ (codes "f\"{{\" f\"}}\"") refl refl).reads

-- and not one
no_string_over_two : ¬ (InClassIn fielded string (codes "f\"{{\" f\"}}\""))
unfolding tested ended pieces_outside
no_string_over_two is =
    let wrong : ◌≡◌ {A = Option (List Piece)} (Some (piece string (codes "f\"{{\"") ∷ piece space (codes " ") ∷ piece string (codes "f\"}}\"") ∷ [])) (Some (piece string (codes "f\"{{\" f\"}}\"") ∷ [])) = string_ends (codes "f\"{{\" f\"}}\"") is in
    cc

-- f"{" : no string, since a quote opens a string in a field
no_string_with_open_field : ¬ (InClassIn fielded string (codes "f\"{\""))
unfolding tested ended pieces_outside
no_string_with_open_field is = none_some (string_ends (codes "f\"{\"") is)

-- f"{a # }" : no string, since a comment in a field goes to the line's end
no_string_with_comment : ¬ (InClassIn fielded string (codes "f\"{a # }\""))
unfolding tested ended pieces_outside
no_string_with_comment is = none_some (string_ends (codes "f\"{a # }\"") is)

-- 'f"{x:\n}"' : nor is a line end in the specification of a short string in one
no_string_over_line_end : ¬ (IsFieldString Fields (codes "f\"{x:\n}\""))
unfolding tested ended pieces_outside
no_string_over_line_end is = none_some (string_ends (codes "f\"{x:\n}\"") (inr is))

-- strings with so many fields one in another: f"", f"{f""}", f"{f"{f""}"}" and so on
nested : ℕ → List ℕ → List ℕ
nested zero rest = codes "f\"\"" ++ rest
nested (suc n) rest = codes "f\"{" ++ nested n (codes "}\"" ++ rest)

-- in such a string each bracket and field has room
has_its_room : (text : List ℕ) → InClassIn (with_fields (ShallowFields 0)) string text → have_room (Some field_text_start) text ≡ true
has_its_room text is =
    let found = reached BelowLimit ShallowFields begin_shallow shallow_run (ShallowFields 0) (piece string text ∷ []) [] [] (is, λ prefix q spell begun quotes. refl, refl, tt) ((λ h. absurd (both_ways _ refl h)), (λ h. is), tt) refl tt in
    ap (have_room (Some field_text_start)) (sym (append-nil text)) ∙ room_of field_text_start (field_state [] found.done [] found.mode found.held) (text ++ []) found.goes

-- 200 and 201, from the text's start
shallow_string : (text : List ℕ) → field_steps_from (Some field_text_start) text ≡ Some (field_fresh [] (piece string text ∷ []) [])
    → have_room (Some field_text_start) text ≡ true → InClassIn (with_fields (ShallowFields 0)) string text
shallow_string text steps room = (read_whole (piece string text ∷ []) text steps room).shallow.1 refl

two_hundred : InClassIn (with_fields (ShallowFields 0)) string (nested 200 [])
unfolding tested nested
two_hundred = shallow_string (nested 200 []) refl refl

one_more : ¬ (InClassIn (with_fields (ShallowFields 0)) string (nested 201 []))
unfolding tested nested
one_more is = both_ways _ refl (has_its_room (nested 201 []) is)
