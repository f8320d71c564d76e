-- The place of a fault of a text with fields stands after some characters of the text.
use Rattle.py_lines.proofs.Prelude.{⊎_elim, ◌≡◌, ℕ, List, [], ◌∷◌, ◌++◌, sym, ap, ◌∙◌, inl, inr, append_assoc, append-nil, byte, arith, spelled, byte_len, FaultKind, Host, literal, specification}
use Rattle.py_lines.specs.PieceGrammar.{joined}
use Rattle.py_lines.specs.Faults.{Cause, brace_too_deep, breaks_string, breaks_join, ends_specification, begins_nothing, Explains, IsUndecodable, Unfinished, open_brace, open_bracket, open_inside, IsOpenAtEnd, IsFaultAt, at_character, at_bytes, at_end}
use Rattle.py_lines.specs.OpenFields.{Spot, IsOpenString, in_literal, in_specification, InSpecification}
use Rattle.py_lines.specs.declared.fault.FaultKind.TheVariants as faults
use Rattle.py_lines.proofs.Pieces.PieceLists.{spelled-append}

-- the prefix of a text that ends at this byte
pub record PrefixTo (characters : List ℕ) (offset : ℕ) : Type 0 where
  pub prefix : List ℕ
  pub rest : List ℕ
  pub spell : prefix ++ rest ≡ characters
  pub place : byte_len prefix ≡ offset

-- what begins some characters
abbrev Begins : List ℕ → List ℕ → Type 0
Begins start characters = (rest : List ℕ) × (start ++ rest ≡ characters)

-- the text of a string up to the field whose specification is open
field_begins : (host : Host) (spot : Spot) (front rest : List ℕ) → IsOpenString host spot front rest → spot.place ≡ specification → Begins spot.field front
field_begins host spot front rest (in_literal _ _ _ prefix parts is spell begun raw quotes each open_yet) at =
    let other : literal ≡ specification = sym (ap (λ (s : Spot). s.place) is) ∙ at in absurd (cc)
field_begins host spot front rest (in_specification _ round _ _ opening inside parts is spell string may are_inside each open_yet) at =
    let code = byte "{" ∷ spelled inside ++ (byte ":" ∷ joined parts) in (code, ap (λ (s : Spot). s.field ++ code) is ∙ sym spell)

specification_begins : (host : Host) (characters start : List ℕ) → InSpecification host characters start → Begins start characters
specification_begins host characters start is = let up = is.stands.open_yet in let field = field_begins host is.spot up.body up.last up.string is.place in (
  field.0 ++ up.last,
  ap (λ t. t ++ (field.0 ++ up.last)) (sym is.before) ∙ append_assoc is.string is.spot.field (field.0 ++ up.last)
      ∙ ap (λ t. is.string ++ t) (sym (append_assoc is.spot.field field.0 up.last) ∙ ap (λ t. t ++ up.last) field.1 ∙ sym up.spell) ∙ is.stands.spell,
)

-- so each place ends a prefix of the text
prefix_to : (before rest characters start : List ℕ) (offset : ℕ) → before ++ rest ≡ characters → Begins start before → offset ≡ byte_len start → PrefixTo characters offset
prefix_to before rest characters start offset whole begin_here place = record {
  prefix = start;
  rest = begin_here.0 ++ rest;
  spell = sym (append_assoc start begin_here.0 rest) ∙ ap (λ t. t ++ rest) begin_here.1 ∙ whole;
  place = sym place;
}

itself : (before : List ℕ) → Begins before before
itself before = ([], append-nil before)

pub explained : (cause : Cause) (before rest characters : List ℕ) (c offset : ℕ) → before ++ rest ≡ characters → Explains cause before c offset → PrefixTo characters offset
explained brace_too_deep before rest characters c offset whole fits = prefix_to before rest characters fits.start offset whole (byte "{" ∷ [], fits.spell) fits.place
explained breaks_string before rest characters c offset whole fits =
    let string : Begins fits.start before = ⊎_elim (λ is. (is.front, is.spell)) (λ is. (is.inside.stands.front, ap (λ t. t ++ is.inside.stands.front) (sym is.before) ∙ is.inside.stands.spell)) fits.inside in
    prefix_to before rest characters fits.start offset whole string fits.place
explained breaks_join before rest characters c offset whole fits = prefix_to before rest characters fits.start offset whole (fits.after.front, fits.after.spell) fits.place
explained ends_specification before rest characters c offset whole fits = prefix_to before rest characters fits.start offset whole (specification_begins fits.host before fits.start fits.inside) fits.place
explained begins_nothing before rest characters c offset whole fits = prefix_to before rest characters before offset whole (itself before) fits
explained cause before rest characters c offset whole fits = prefix_to before rest characters before offset whole (itself before) fits.place

ended : (what : Unfinished) (characters : List ℕ) (offset : ℕ) → IsOpenAtEnd what characters offset → PrefixTo characters offset
ended open_brace characters offset is = prefix_to characters [] characters is.start offset (append-nil characters) (byte "{" ∷ [], is.spell) is.place
ended open_bracket characters offset (start, is, place) =
    let later = spelled (is.opener ∷ is.inner) in
    let spell = ap (λ t. t ++ later) (sym is.before) ∙ append_assoc is.outside (spelled is.outer) later ∙ ap (λ t. is.outside ++ t) (sym (spelled-append is.outer (is.opener ∷ is.inner))) ∙ is.spell in
    prefix_to characters [] characters start offset (append-nil characters) (later, spell) place
ended open_inside characters offset (start, inl is, place, other) = prefix_to characters [] characters start offset (append-nil characters) (byte "{" ∷ spelled is.pieces, is.spell) place
ended open_inside characters offset (start, inr (host, is), place, other) = prefix_to characters [] characters start offset (append-nil characters) (specification_begins host characters start is) place
ended other characters offset is = prefix_to characters [] characters is.0 offset (append-nil characters) (is.1.front, is.1.spell) is.2

pub field_fault_prefix : (kind : FaultKind) (characters tail : List ℕ) (offset : ℕ) → IsFaultAt kind characters tail offset → PrefixTo characters offset
field_fault_prefix kind characters tail offset (at_character fault) = explained fault.cause fault.before (fault.c ∷ fault.dies.after) characters fault.c offset fault.dies.spell fault.fits
field_fault_prefix kind characters tail offset (at_bytes fault) = prefix_to characters [] characters characters offset (append-nil characters) (itself characters) fault.place
field_fault_prefix kind characters tail offset (at_end fault) = ended fault.unfinished characters offset fault.ends_in

-- no character and no end of a text has the fault of undecodable bytes
pub undecodable : (kind : FaultKind) (characters tail : List ℕ) (offset : ℕ) → kind ≡ faults.BadUtf8 → IsFaultAt kind characters tail offset → IsUndecodable kind characters tail offset
undecodable kind characters tail offset is fault = grind arith
