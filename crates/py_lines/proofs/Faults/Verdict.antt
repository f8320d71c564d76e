-- A text with fields has one fault at most. At a character it is one: so is the first place that can't be passed, the first cause that
-- fits there, and the byte where its fault stands.
use Rattle.py_lines.proofs.Prelude.{◌≡◌, ℕ, List, [], ◌∷◌, ◌++◌, sym, ◌∙◌, subst, append_assoc, ◌⊎◌, inl, inr, refl, ap, FaultKind}
use Rattle.py_lines.specs.Faults.{IsLive, IsCharacterFault, IsFaultAt, at_character, at_bytes, at_end, Cause, brace_too_deep, breaks_string, breaks_join, closes_wrong, opens_too_deep, ends_specification, begins_nothing, kind_of_cause, Explains, causes_before, NoneExplains}
use Rattle.py_lines.proofs.FieldSoundness.LiveTexts.{live_before, live_goes}
use Rattle.py_lines.proofs.Faults.Ends.{one_end}
use Rattle.py_lines.specs.Private.FieldMachine.{before}
use Rattle.py_lines.proofs.Text.Splits.{same_dying}
use Rattle.py_lines.proofs.Faults.CharacterFaults.{place_is}

-- the first of these causes that fits the character
abbrev IsFirst : List Cause → List ℕ → ℕ → Cause → Type 0
IsFirst [] before c cause = ⊥
IsFirst (other ∷ others) before c cause = (cause ≡ other) ⊎ (((offset : ℕ) → ¬ (Explains other before c offset)) × IsFirst others before c cause)

abbrev all_causes : List Cause
all_causes = brace_too_deep ∷ breaks_string ∷ breaks_join ∷ closes_wrong ∷ opens_too_deep ∷ ends_specification ∷ begins_nothing ∷ []

is_first : (cause : Cause) (before : List ℕ) (c : ℕ) → NoneExplains (causes_before cause) before c → IsFirst all_causes before c cause
is_first brace_too_deep before c none = inl refl
is_first cause before c none = search (inl, inr) depth 16

-- is one
one_first : (causes : List Cause) (before : List ℕ) (c : ℕ) (one two : Cause) (offset place : ℕ) → IsFirst causes before c one → IsFirst causes before c two → Explains one before c offset → Explains two before c place → one ≡ two
one_first [] before c one two offset place first second fits also = absurd first
one_first (x ∷ xs) before c one two offset place (inl is) (inl same) fits also = is ∙ sym same
one_first (x ∷ xs) before c one two offset place (inl is) (inr (none, later)) fits also = absurd (none offset (subst (λ y. Explains y before c offset) is fits))
one_first (x ∷ xs) before c one two offset place (inr (none, later)) (inl is) fits also = absurd (none place (subst (λ y. Explains y before c place) is also))
one_first (x ∷ xs) before c one two offset place (inr (none, later)) (inr (other, last)) fits also = one_first xs before c one two offset place later last fits also

-- so the fault at a character is one
pub one_character_fault : (characters : List ℕ) (kind other : FaultKind) (offset place : ℕ) → IsCharacterFault kind characters offset → IsCharacterFault other characters place → (kind ≡ other) × (offset ≡ place)
one_character_fault characters kind other offset place one two =
    let same = same_dying IsLive live_before one.before two.before one.c two.c one.dies.after two.dies.after (one.dies.spell ∙ sym two.dies.spell) one.dies.live two.dies.live one.dies.dead two.dies.dead in
    let fits = subst (λ x. Explains two.cause one.before x place) (sym same.1) (subst (λ b. Explains two.cause b two.c place) (sym same.0) two.fits) in
    let first = subst (λ x. NoneExplains (causes_before two.cause) one.before x) (sym same.1) (subst (λ b. NoneExplains (causes_before two.cause) b two.c) (sym same.0) two.first) in
    let is = one_first all_causes one.before one.c one.cause two.cause offset place (is_first one.cause one.before one.c one.first) (is_first two.cause one.before one.c first) one.fits fits in
    let at = live_goes one.before one.dies.live in let place_of = place_is one.before at.0 at.1 at.2 two.cause one.c in
    (one.is ∙ ap kind_of_cause is ∙ sym two.is, place_of offset (subst (λ x. Explains x one.before one.c offset) is one.fits) ∙ sym (place_of place fits))

-- a text that dies at a character isn't live
pub not_live : (characters : List ℕ) (kind : FaultKind) (offset : ℕ) → IsCharacterFault kind characters offset → IsLive characters → ⊥
not_live characters kind offset fault live =
    fault.dies.dead (live_before (fault.before ++ fault.c ∷ []) fault.dies.after (subst IsLive (sym fault.dies.spell ∙ sym (append_assoc fault.before (fault.c ∷ []) fault.dies.after)) live))

pub one_field_fault : (characters tail : List ℕ) (kind other : FaultKind) (offset place : ℕ) → IsFaultAt kind characters tail offset → IsFaultAt other characters tail place → (kind ≡ other) × (offset ≡ place)
one_field_fault characters tail kind other offset place (at_character first) (at_character second) = one_character_fault characters kind other offset place first second
one_field_fault characters tail kind other offset place (at_character first) (at_end second) = absurd (not_live characters kind offset first second.live)
one_field_fault characters tail kind other offset place (at_character first) (at_bytes second) = absurd (not_live characters kind offset first second.live)
one_field_fault characters tail kind other offset place (at_end first) (at_character second) = absurd (not_live characters other place second first.live)
one_field_fault characters tail kind other offset place (at_end first) (at_end second) = one_end characters tail kind other offset place first second
one_field_fault characters tail kind other offset place (at_end first) (at_bytes second) = absurd (second.bad first.whole)
one_field_fault characters tail kind other offset place (at_bytes first) (at_character second) = absurd (not_live characters other place second first.live)
one_field_fault characters tail kind other offset place (at_bytes first) (at_end second) = absurd (first.bad second.whole)
one_field_fault characters tail kind other offset place (at_bytes first) (at_bytes second) = (first.is ∙ sym second.is, first.place ∙ sym second.place)
