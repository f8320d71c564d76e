-- Every text is read, or has a lexical fault.
use Rattle.py_lines.proofs.Prelude.{◌≡◌, ℕ, ◌+◌, true, false, Option, None, Some, List, [], ◌∷◌, ◌++◌, ◌⊎◌, inl, inr, refl, sym, ap, ◌∙◌, subst, ⊎_elim, append_assoc, append-nil, cases_Bool, and_from, Piece, byte_len, line_ends, FaultKind, Fault, IsBalancedReading, AreFirstLines}
use Rattle.py_lines.specs.Balance as brackets
use Rattle.py_lines.specs.Faults.{IsLive, IsCharacterFault, IsFaultAt, at_character, at_bytes, at_end, IsReadOrFaulty, IsLexicalFault}
use Rattle.py_lines.specs.declared.fault.FaultKind.TheVariants as faults
use Rattle.py_lines.specs.Private.FieldMachine.{FieldScanned, field_text_start, field_steps_from, field_step, field_pieces, has_room, have_room}
use Rattle.py_lines.proofs.Text.Decoding.{decoding}
use Rattle.py_lines.proofs.LogicalLines.Cuts.{same_place}
use Rattle.py_lines.proofs.FieldSoundness.LiveTexts.{steps-append, room-append, live_goes, goes_live}
use Rattle.py_lines.proofs.Faults.Ends.{read_or_open, end_unread}
use Rattle.py_lines.proofs.Faults.CharacterFaults.{IsStuck, cause_fits}
use Rattle.py_lines.proofs.Faults.FaultPrefixes.{field_fault_prefix}
use Rattle.py_lines.proofs.Faults.Verdict.{not_live}

-- a text is live, or has a fault at a character
abbrev IsLiveOrFaulty : List ℕ → Type 0
IsLiveOrFaulty characters = IsLive characters ⊎ ((kind : FaultKind) × (offset : ℕ) × IsCharacterFault kind characters offset)

-- which, the machine tells: the fault stands where it stops first
live_or_faulty : (rest read : List ℕ) (s : FieldScanned) → field_steps_from (Some field_text_start) read ≡ Some s → have_room (Some field_text_start) read ≡ true → IsLiveOrFaulty (read ++ rest)
live_or_faulty [] read s steps room = inl (subst IsLive (sym (append-nil read)) (goes_live read s steps room))
live_or_faulty (c ∷ cs) read s steps room = go (field_step s c) refl (cases_Bool (has_room s c)) (λ t goes roomy. live_or_faulty cs (read ++ c ∷ []) t goes roomy)
  where
    stuck : IsStuck s c → IsLiveOrFaulty (read ++ c ∷ cs)
    stuck at = inr (_, _, cause_fits s read c cs steps room at)

    go : (o : Option FieldScanned) → field_step s c ≡ o → (has_room s c ≡ true) ⊎ (has_room s c ≡ false) → ((t : FieldScanned) → field_steps_from (Some field_text_start) (read ++ c ∷ []) ≡ Some t → have_room (Some field_text_start) (read ++ c ∷ []) ≡ true → IsLiveOrFaulty ((read ++ c ∷ []) ++ cs)) → IsLiveOrFaulty (read ++ c ∷ cs)
    go o step (inr full) later = stuck (inr full)
    go None step (inl free) later = stuck (inl step)
    go (Some t) step (inl free) later =
        let goes = steps-append (Some field_text_start) read (c ∷ []) ∙ ap (λ o. field_steps_from o (c ∷ [])) steps ∙ ap (λ o. field_steps_from o []) step in
        let roomy = room-append (Some field_text_start) read (c ∷ []) s steps room (and_from _ _ free (ap (λ o. have_room o []) step)) in
        subst IsLiveOrFaulty (append_assoc read (c ∷ []) cs) (later t goes roomy)

-- what is read is live
pub reading_live : (pieces : List Piece) (characters : List ℕ) → IsBalancedReading pieces characters → IsLive characters
reading_live pieces characters reading = record { more = []; pieces = pieces; scalars = refl; reading = subst (IsBalancedReading pieces) (sym (append-nil characters)) reading }

-- a text with a fault has none
pub fault_unread : (kind : FaultKind) (characters tail : List ℕ) (offset : ℕ) → IsFaultAt kind characters tail offset → tail ≡ [] → (pieces : List Piece) → ¬ (IsBalancedReading pieces characters)
fault_unread kind characters tail offset (at_character fault) none pieces reading = not_live characters kind offset fault (reading_live pieces characters reading)
fault_unread kind characters tail offset (at_bytes fault) none pieces reading = fault.bad none
fault_unread kind characters tail offset (at_end fault) none pieces reading = end_unread characters tail kind offset fault pieces reading

-- the line of a place, told by the prefix that ends there
pub record IsLineOf (fault : Fault) (characters : List ℕ) : Type 0 where
  pub prefix : List ℕ
  pub rest : List ℕ
  pub spell : prefix ++ rest ≡ characters
  pub place : byte_len prefix ≡ fault.offset
  pub line : fault.line ≡ 1 + line_ends prefix

-- a fault with its line is that of the text
pub lexical : (characters tail : List ℕ) (fault : Fault) → IsFaultAt fault.kind characters tail fault.offset → IsLineOf fault characters → IsLexicalFault characters tail fault
lexical characters tail fault at is = record {
  unread = fault_unread fault.kind characters tail fault.offset at;
  place = at;
  line = λ before after spell place. is.line ∙ ap (λ t. 1 + line_ends t) (same_place is.prefix is.rest before after (is.spell ∙ sym spell) (is.place ∙ sym place));
}

pub with_line : (characters tail : List ℕ) (kind : FaultKind) (offset : ℕ) → IsFaultAt kind characters tail offset → (fault : Fault) × IsLexicalFault characters tail fault
with_line characters tail kind offset at =
    let p = field_fault_prefix kind characters tail offset at in
    let fault : Fault = record { kind = kind; offset = offset; line = 1 + line_ends p.prefix } in (fault, lexical characters tail fault at (search p))

-- every text is read or has a fault
pub read_or_faulty : (characters tail : List ℕ) → IsReadOrFaulty characters tail
read_or_faulty characters tail = go tail (live_or_faulty characters [] field_text_start refl refl) where
  go : (t : List ℕ) → IsLiveOrFaulty characters → IsReadOrFaulty characters t
  go t (inr (kind, offset, at)) = inr (kind, offset, at_character at)
  go (d ∷ ds) (inl live) = inr (faults.BadUtf8, byte_len characters, at_bytes (record { is = refl; bad = λ (h : d ∷ ds ≡ []). cc; live = live; place = refl }))
  go [] (inl live) = let run = live_goes characters live in
      ⊎_elim (λ reading. inl (refl, (field_pieces run.0, reading))) (λ fault. inr (fault.0, fault.1, at_end fault.2)) (read_or_open characters run.0 run.1 run.2)

-- no line comes before the start of a text
pub first_none : (text : List ℕ) → AreFirstLines text 0 1 []
first_none text = let of = decoding text in record {
  characters = of.characters;
  tail = of.tail;
  pieces = [];
  rest = of.characters;
  decodes = of.decodes;
  spell = refl;
  fit = tt;
  balanced = brackets.none [] refl;
  shallow = tt;
  ended = inl (inl refl, λ none. refl);
  here = refl;
  number = refl;
  cut = refl;
}
