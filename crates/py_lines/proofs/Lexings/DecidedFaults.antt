-- A fault that the known bytes of a text decide is that of every text that begins with them.
use Rattle.py_lines.proofs.Prelude.{◌≡◌, ℕ, ◌≤◌, Option, None, Some, List, [], ◌∷◌, ◌++◌, length, sym, ap, ◌∙◌, subst, ⊎_elim, inl, inr, append_assoc, encode_utf8_all, StartsWithNoChar, Piece, spelled, LogicalLine, FaultKind, Fault}
use Rattle.py_lines.specs.Reading.{Decodes, IsBalancedReading, EndsLine, IsReadPrefix}
use Rattle.py_lines.specs.Faults.{IsLive, IsCharacterFault, IsLexicalFault, at_character, at_bytes}
use Rattle.py_lines.specs.Lexed.{IsLexed}
use Rattle.py_lines.specs.Settled.{Decides}
use Rattle.py_lines.specs.declared.fault.FaultKind.TheVariants as faults
use Rattle.py_lines.proofs.Text.Utf8Prefixes.{goes_on}
use Rattle.py_lines.proofs.Text.Decoding.{decoding, decoded}
use Rattle.py_lines.proofs.Text.Splits.{Either, either}
use Rattle.py_lines.proofs.FieldSoundness.LiveTexts.{live_before}
use Rattle.py_lines.proofs.Faults.FaultPrefixes.{field_fault_prefix, undecodable}
use Rattle.py_lines.proofs.Lexings.Existence.{IsLineOf, lexical, reading_live}
use Rattle.py_lines.proofs.Lexings.LineEnds.{none_both}
use Rattle.py_lines.proofs.Lexings.Prefixes.{same_fault}

-- the same prefix of a text that goes on ends a line, and is the longest
prefix_on : (kind : FaultKind) (characters rest : List ℕ) (offset : ℕ) (pieces : List Piece) → IsCharacterFault kind characters offset → IsReadPrefix pieces characters → IsReadPrefix pieces (characters ++ rest)
prefix_on kind characters rest offset pieces fault prefix = record {
  rest = prefix.rest ++ rest;
  spell = sym (append_assoc (spelled pieces) prefix.rest rest) ∙ ap (λ t. t ++ rest) prefix.spell;
  reading = prefix.reading;
  ended = prefix.ended;
  longest = longest;
} where
  whole : (fault.before ++ fault.c ∷ []) ++ fault.dies.after ≡ characters
  whole = append_assoc fault.before (fault.c ∷ []) fault.dies.after ∙ fault.dies.spell

  longest : (others : List Piece) (after : List ℕ) → spelled others ++ after ≡ characters ++ rest → IsBalancedReading others (spelled others) → EndsLine others → length (spelled others) ≤ length (spelled pieces)
  longest others after spell reading ended = go (either (spelled others) after (fault.before ++ fault.c ∷ []) (fault.dies.after ++ rest) (spell ∙ ap (λ t. t ++ rest) (sym whole) ∙ append_assoc (fault.before ++ fault.c ∷ []) fault.dies.after rest))
    where
      go : Either (spelled others) (fault.before ++ fault.c ∷ []) (fault.dies.after ++ rest) → length (spelled others) ≤ length (spelled pieces)
      go (Either.shorter k one) = prefix.longest others (k ++ fault.dies.after) (sym (append_assoc (spelled others) k fault.dies.after) ∙ ap (λ t. t ++ fault.dies.after) (sym one) ∙ whole) reading ended
      go (Either.longer c k later one two) = absurd (fault.dies.dead (live_before (fault.before ++ fault.c ∷ []) (c ∷ k) (subst IsLive one (reading_live others (spelled others) reading))))

-- the line of a fault stays
line_on : (characters tail rest : List ℕ) (fault : Fault) → IsLexicalFault characters tail fault → IsLineOf fault (characters ++ rest)
line_on characters tail rest fault refused = let found = field_fault_prefix fault.kind characters tail fault.offset refused.place in record {
  prefix = found.prefix;
  rest = found.rest ++ rest;
  spell = sym (append_assoc found.prefix found.rest rest) ∙ ap (λ t. t ++ rest) found.spell;
  place = found.place;
  line = refused.line found.prefix found.rest found.spell found.place;
}

-- a text that goes on has the fault too, and after the same lines
abbrev GoesOn : List ℕ → List ℕ → Fault → List ℕ → Type 0
GoesOn text more fault characters =
    (d : Decides (text ++ more) fault) × ((pieces : List Piece) → IsReadPrefix pieces characters → IsReadPrefix pieces d.characters)

by_character : (text more : List ℕ) (fault : Fault) (d : Decides text fault) → IsCharacterFault fault.kind d.characters fault.offset → GoesOn text more fault d.characters
by_character text more fault d stays =
    let w = decoding (text ++ more) in
    let on = goes_on d.characters (d.tail ++ more) w.characters w.tail d.decodes.are w.decodes.are w.decodes.bad (sym (append_assoc (encode_utf8_all d.characters) d.tail more) ∙ ap (λ t. t ++ more) d.decodes.spell ∙ sym w.decodes.spell) in
    let later : IsCharacterFault fault.kind (d.characters ++ on.rest) fault.offset
    = search (stays, stays.dies, sym (append_assoc stays.before (stays.c ∷ stays.dies.after) on.rest) ∙ ap (λ t. t ++ on.rest) stays.dies.spell) in (
      record {
        characters = d.characters ++ on.rest;
        tail = w.tail;
        decodes = subst (λ t. Decodes (text ++ more) t w.tail) on.split w.decodes;
        refused = lexical (d.characters ++ on.rest) w.tail fault (at_character later) (line_on d.characters d.tail on.rest fault d.refused);
        stays = inl later;
      },
      λ pieces prefix. prefix_on fault.kind d.characters on.rest fault.offset pieces stays prefix,
    )

by_bytes : (text more : List ℕ) (fault : Fault) (d : Decides text fault) → fault.kind ≡ faults.BadUtf8 → ((after : List ℕ) → StartsWithNoChar (d.tail ++ after)) → GoesOn text more fault d.characters
by_bytes text more fault d is hopeless = let at = undecodable fault.kind d.characters d.tail fault.offset is d.refused.place in (
  record {
    characters = d.characters;
    tail = d.tail ++ more;
    decodes = record { are = d.decodes.are; spell = sym (append_assoc (encode_utf8_all d.characters) d.tail more) ∙ ap (λ t. t ++ more) d.decodes.spell; bad = hopeless more };
    refused = record {
      unread = λ nothing. absurd (at.bad (none_both d.tail more nothing).0);
      place = at_bytes (record { is = is; bad = λ nothing. at.bad (none_both d.tail more nothing).0; live = at.live; place = at.place });
      line = d.refused.line;
    };
    stays = inr (is, λ after. subst StartsWithNoChar (sym (append_assoc d.tail more after)) (hopeless (more ++ after)));
  },
  λ pieces prefix. prefix,
)

continued : (text more : List ℕ) (fault : Fault) (d : Decides text fault) → GoesOn text more fault d.characters
continued text more fault d = ⊎_elim (by_character text more fault d) (λ stays. by_bytes text more fault d stays.0 stays.1) d.stays

-- more bytes decide it too
pub decided_more : (text more : List ℕ) (fault : Fault) → Decides text fault → Decides (text ++ more) fault
decided_more text more fault d = (continued text more fault d).0

-- so it is that of each such text, and the lines before it are the same
pub decided_lexing : (text more : List ℕ) (fault : Fault) (lines : List LogicalLine) → Decides text fault → IsLexed text lines (Some fault) → IsLexed (text ++ more) lines (Some fault)
decided_lexing text more fault lines d lexed =
    let (on, prefix) = continued text more fault d in
    let same = decoded text lexed.characters d.characters lexed.tail d.tail lexed.decodes d.decodes in
    search (on, prefix lexed.pieces (subst (IsReadPrefix lexed.pieces) same.0 lexed.prefix), lexed.cut)

pub decided_fault : (text more : List ℕ) (fault : Fault) (lines : List LogicalLine) (end : Option Fault) → Decides text fault → IsLexed (text ++ more) lines end → end ≡ Some fault
decided_fault text more fault lines None d lexed =
    let (on, prefix) = continued text more fault d in
    let same = decoded (text ++ more) lexed.characters on.characters [] on.tail lexed.decodes on.decodes in
    absurd (on.refused.unread (sym same.1) lexed.pieces (subst (λ t. IsBalancedReading lexed.pieces t) same.0 lexed.reading))
decided_fault text more fault lines (Some other) d lexed =
    let (on, prefix) = continued text more fault d in
    let same = decoded (text ++ more) lexed.characters on.characters lexed.tail on.tail lexed.decodes on.decodes in
    ap Some (same_fault on.characters on.tail other fault (subst (λ (t : List ℕ). IsLexicalFault t on.tail other) same.0 (subst (λ (t : List ℕ). IsLexicalFault lexed.characters t other) same.1 lexed.refused)) on.refused)
