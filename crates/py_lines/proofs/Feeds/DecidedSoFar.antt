-- Which faults the known bytes decide: where the machine refuses a character, where no bytes complete one, and where the text ends.
use Rattle.py_lines.proofs.Prelude.{◌≡◌, ℕ, ◌+◌, ◌<◌, ◌≤◌, false, true, not, ◌&&◌, Some, None, List, [], ◌∷◌, ◌++◌, length, take, drop, refl, sym, ap, ◌∙◌, subst, ⊎_elim, inl, inr, append_assoc, append-nil, arith, length-append, encode_utf8, encode_utf8_all, take-append-drop, take_all, IsScalar, StartsWithNoChar, all_scalars, and_from, both_ways, cases_Bool, false_from_ne_true, length-le-encodes, is_line_feed, spelled, LogicalLine, byte_len, AreReadBefore, Decodes, byte_len-append}
use Rattle.py_lines.specs.Faults.{IsCharacterFault, IsLive}
use Rattle.py_lines.specs.Lexed.{IsLexed, IsLexedToFault}
use Rattle.py_lines.specs.Settled.{IsHopeless, Decides, StaysFaulty}
use Rattle.py_lines.specs.ScannerState.{GoesOnWith}
use Rattle.py_lines.specs.Private.FieldMachine.{room_step}
use Rattle.py_lines.specs.Private.LineScan.{IsUnderWay, begins_line}
use Rattle.py_lines.specs.Private.Scan.{IsFieldFault, has_returned, IsFieldEnd}
use Rattle.py_lines.specs.Private.LineState.{IsFaultAfter, first_mode}
use Rattle.py_lines.specs.Private.Feed.{IsDecidedAt, Fault, FaultKind, LineState, LineFault, Mode, AreFirstLines}
use Rattle.py_lines.proofs.Text.Utf8Prefixes.{nothing_bad, scalars_more, spell_more}
use Rattle.py_lines.proofs.Text.Decoding.{decoded}
use Rattle.py_lines.proofs.Faults.Verdict.{not_live}
use Rattle.py_lines.proofs.Lexings.Existence.{IsLineOf}
use Rattle.py_lines.proofs.Lexings.LinePrefix.{HasPrefix, refused_at_character, refused_at_bytes, refused_at_end}
use Rattle.py_lines.proofs.Lexings.DecidedFaults.{decided_lexing}
use Rattle.py_lines.proofs.Lexings.FirstLines.{base_lines}
use Rattle.py_lines.proofs.FieldMachine.OuterLists.{outer_pieces}
use Rattle.py_lines.proofs.FieldMachine.WholeRuns.{runs_live}
use Rattle.py_lines.proofs.LineScan.LineSteps.{returned_at}
use Rattle.py_lines.proofs.LineScan.TextSteps.{base_of, begun_sound}
use Rattle.py_lines.proofs.Readers.LineFaults.{Within, refused_fault, unfinished_fault, Joined, dead_at, feed_taken, joined, open_line}
use Rattle.py_lines.proofs.Feeds.Known.{IsKnown, goes_with_first, is_known}
use Rattle.py_lines.proofs.Feeds.Known as of

-- a CR that ends the line isn't refused its next character
open_return : {m : Mode} {read : List ℕ} (way : IsUnderWay m read) → begins_line m ≡ true → (c : ℕ) → room_step way.field c ≡ None
    → has_returned way.field && not (is_line_feed c) ≡ false → has_returned way.field ≡ false
open_return way start c refuses not_yet = false_from_ne_true _ (λ is. let r = returned_at way start is in
    ⊎_elim (λ feeds. feed_taken way.field c r.mode feeds refuses) (λ other. both_ways _ not_yet (and_from _ _ is (ap not other))) (cases_Bool (is_line_feed c)))

-- a fault that stays is decided
decides : {text : List ℕ} {lines : List LogicalLine} {fault : Fault} (lexed : IsLexedToFault text lines fault) → StaysFaulty fault.kind lexed.characters lexed.tail fault.offset → Decides text fault
decides lexed stays = record { characters = lexed.characters; tail = lexed.tail; decodes = lexed.decodes; refused = lexed.refused; stays = stays }

-- the known bytes decide nothing where the machine has gone through them and more may complete those that are left
pub undecided : (text : List ℕ) (place line : ℕ) (lines : List LogicalLine) (read rest : List ℕ) (k : IsKnown text place line lines read rest) (way : IsUnderWay (first_mode place) read)
    → StartsWithNoChar rest → ¬ (IsHopeless rest) → (fault : Fault) → ¬ (Decides (of.bytes text place line lines read rest k) fault)
undecided text place line lines read rest k way bad more fault d =
    let j = of.joins text place line lines read rest k way.field way.goes in
    let same = decoded (of.bytes text place line lines read rest k) (spelled k.base ++ read) d.characters rest d.tail (of.decodes text place line lines read rest k bad) d.decodes in
    ⊎_elim (λ dies. not_live d.characters fault.kind fault.offset dies (subst IsLive same.0 (runs_live (spelled k.base ++ read) j.state j.runs)))
    (λ stays. more (subst IsHopeless (sym same.1) stays.1))
    d.stays

module _ (text : List ℕ) (state : LineState) (lines : List LogicalLine) (read rest : List ℕ) (k : IsKnown text state.place state.line lines read rest) where
  -- the line of a fault in what was read
  pub line_after : (kind : FaultKind) (offset : ℕ) (fault : Fault) (w : Within read offset) → IsFaultAfter state kind offset (encode_utf8_all w.prefix) fault → IsLineOf fault (spelled k.base ++ read)
  line_after kind offset fault w at = record {
    prefix = spelled k.base ++ w.prefix;
    rest = w.later;
    spell = append_assoc (spelled k.base) w.prefix w.later ∙ ap (λ t. spelled k.base ++ t) w.split;
    place = omega (arith, at.place, w.size, k.here, byte_len-append (spelled k.base) w.prefix);
    line = omega (arith, at.line w.prefix refl, k.number, base_lines k.base w.prefix (w.later ++ k.more) (subst (AreReadBefore k.base) (ap (λ t. t ++ k.more) (sym w.split) ∙ append_assoc w.prefix w.later k.more) k.fit));
  }

  module _ (way : IsUnderWay (first_mode state.place) read) (not_yet : has_returned way.field ≡ false) where
    -- the machine over the whole text so far, in which the lines given end a line
    abbrev pub joined_here : Joined k.base read way.field k.more
    joined_here = of.joins text state.place state.line lines read rest k way.field way.goes

    pub prefix_of : HasPrefix joined_here.state k.base
    prefix_of = record {
      others = outer_pieces way.field;
      spell = joined_here.pieces;
      reading = of.reading text state.place state.line lines read rest k;
      ended = k.ended;
      none = open_line way (begun_sound state.place) not_yet;
    }

    -- bytes that begin no character are left
    module _ (some : 0 < length rest) (fault : Fault) (at : IsFaultAfter state FaultKind.BadUtf8 (byte_len read) (encode_utf8_all read) fault) where
      pub refused_bytes : StartsWithNoChar rest → IsLexedToFault (of.bytes text state.place state.line lines read rest k) lines fault
      refused_bytes bad = go rest refl where
        go : (left : List ℕ) → rest ≡ left → IsLexedToFault (of.bytes text state.place state.line lines read rest k) lines fault
        go [] none = absurd (omega (arith, some, ap length none))
        go (d ∷ ds) is = let known = of.bytes text state.place state.line lines read rest k in
            let decodes = subst (λ t. Decodes known (spelled k.base ++ read) t) is (of.decodes text state.place state.line lines read rest k bad) in
            subst (λ l. IsLexedToFault known l fault) (sym k.cut)
            (refused_at_bytes known (spelled k.base ++ read) d ds joined_here.state k.base fault decodes joined_here.runs prefix_of at.is
            (omega (arith, at.place, k.here, byte_len-append (spelled k.base) read))
            (line_after FaultKind.BadUtf8 (byte_len read) fault (record { prefix = read; later = []; split = append-nil read; size = refl }) at))

      -- no bytes complete them
      pub decided_bytes : IsHopeless rest → Decides (of.bytes text state.place state.line lines read rest k) fault × IsLexed (of.bytes text state.place state.line lines read rest k) lines (Some fault)
      decided_bytes hopeless = let bad : StartsWithNoChar rest = subst StartsWithNoChar (append-nil rest) (hopeless []) in let lexed = refused_bytes bad in
          let same = decoded (of.bytes text state.place state.line lines read rest k) (spelled k.base ++ read) lexed.characters rest lexed.tail (of.decodes text state.place state.line lines read rest k bad) lexed.decodes in
          (decides lexed (inr (at.is, subst IsHopeless same.1 hopeless)), lexed)

-- the next character is refused
module _ (text : List ℕ) (state : LineState) (lines : List LogicalLine) (read : List ℕ) (c : ℕ) (k : IsKnown text state.place state.line lines (read ++ c ∷ []) []) where
  abbrev all_known : List ℕ
  all_known = of.bytes text state.place state.line lines (read ++ c ∷ []) [] k

  decided_character : (way : IsUnderWay (first_mode state.place) read) → room_step way.field c ≡ None
      → has_returned way.field && not (is_line_feed c) ≡ false → (line_fault : LineFault) → IsFieldFault way.field c line_fault
      → (fault : Fault) (w : Within read line_fault.place) → IsFaultAfter state line_fault.kind line_fault.place (encode_utf8_all w.prefix) fault
      → Decides all_known fault × IsLexed all_known lines (Some fault)
  decided_character way refuses not_yet line_fault is_line_fault fault w at = let u = way.field in
      let fit : AreReadBefore k.base (read ++ c ∷ k.more) = subst (AreReadBefore k.base) (append_assoc read (c ∷ []) k.more) k.fit in
      let base = base_of state.place k.base (read ++ c ∷ k.more) fit k.ended k.here in
      let j = joined state.place k.base (c ∷ k.more) k.balanced k.shallow read u fit base way.goes in let characters = spelled k.base ++ (read ++ c ∷ []) in
      let spell : (spelled k.base ++ read) ++ c ∷ [] ≡ characters = append_assoc (spelled k.base) read (c ∷ []) in
      let decodes : Decodes all_known characters [] = of.decodes text state.place state.line lines (read ++ c ∷ []) [] k nothing_bad in
      let open_yet = open_return way (begun_sound state.place) c refuses not_yet in
      let prefix : HasPrefix j.state k.base = record { others = outer_pieces u; spell = j.pieces; reading = of.reading text state.place state.line lines (read ++ c ∷ []) [] k; ended = k.ended; none = open_line way (begun_sound state.place) open_yet } in
      let alone : AreReadBefore k.base (read ++ c ∷ []) = subst (AreReadBefore k.base) (append-nil (read ++ c ∷ [])) (of.read_then k.base (read ++ c ∷ []) k.more [] (λ none. omega (arith, ap length none, length-append read (c ∷ []))) k.fit) in
      let found = refused_fault state.place k.base k.balanced k.shallow base read way c [] alone refuses line_fault is_line_fault in
      let place : fault.offset ≡ byte_len (spelled k.base) + line_fault.place = at.place ∙ ap (λ (n : ℕ). n + line_fault.place) k.here in
      let is : IsCharacterFault fault.kind characters fault.offset = rw (at.is, place) (subst (λ t. IsCharacterFault line_fault.kind t (byte_len (spelled k.base) + line_fault.place)) spell found) in
      let longer : Within (read ++ c ∷ []) line_fault.place = record { prefix = w.prefix; later = w.later ++ c ∷ []; split = sym (append_assoc w.prefix w.later (c ∷ [])) ∙ ap (λ t. t ++ c ∷ []) w.split; size = w.size } in
      let lexed = refused_at_character all_known characters [] (spelled k.base ++ read) [] c j.state k.base fault decodes spell j.runs (dead_at c k.more j refl refuses) prefix is
      (line_after text state lines (read ++ c ∷ []) [] k line_fault.kind line_fault.place fault longer at) in
      let same = decoded all_known characters lexed.characters [] lexed.tail decodes lexed.decodes in
      (decides lexed (inl (subst (λ t. IsCharacterFault fault.kind t fault.offset) same.0 is)), subst (λ l. IsLexedToFault all_known l fault) (sym k.cut) lexed)

-- what the first bytes decide after the lines given, all do
decided_whole : (text : List ℕ) (place : ℕ) (lines : List LogicalLine) (n most : ℕ) (fault : Fault) → n ≤ most → Decides (take (place + n) text) fault × IsLexed (take (place + n) text) lines (Some fault) → IsDecidedAt text place lines most fault
decided_whole text place lines n most fault within both = record {
  n = n;
  within = within;
  decided = both.0;
  lexed = subst (λ t. IsLexed t lines (Some fault)) (take-append-drop (place + n) text) (decided_lexing (take (place + n) text) (drop (place + n) text) fault lines both.0 both.1);
}

-- what the text goes on with after the lines given begins with these characters
module _ (text : List ℕ) (state : LineState) (lines : List LogicalLine) (held read rest : List ℕ) (first : AreFirstLines text state.place state.line lines) (goes : GoesOnWith text state.place held) (scalars : all_scalars read ≡ true) (spell : encode_utf8_all read ++ rest ≡ held)
    (way : IsUnderWay (first_mode state.place) read) where
  -- the next one is refused
  pub by_character : (c : ℕ) (after : List ℕ) → IsScalar c → rest ≡ encode_utf8 c ++ after → room_step way.field c ≡ None
      → has_returned way.field && not (is_line_feed c) ≡ false → (line_fault : LineFault) → IsFieldFault way.field c line_fault
      → (fault : Fault) (w : Within read line_fault.place) → IsFaultAfter state line_fault.kind line_fault.place (encode_utf8_all w.prefix) fault
      → IsDecidedAt text state.place lines (length held) fault
  by_character c after scalar is refuses not_yet line_fault is_line_fault fault w at = let more = read ++ c ∷ [] in
      let all : encode_utf8_all more ++ after ≡ held = spell_more read after held c (ap (λ t. encode_utf8_all read ++ t) (sym is) ∙ spell) in
      let goes_more : GoesOnWith text state.place (encode_utf8_all more ++ []) = subst (GoesOnWith text state.place) (sym (append-nil (encode_utf8_all more))) (goes_with_first text state.place (encode_utf8_all more) after (subst (GoesOnWith text state.place) (sym all) goes)) in
      let size : length (encode_utf8_all more ++ []) ≡ byte_len more = ap length (append-nil (encode_utf8_all more)) in
      let some : 0 < length (encode_utf8_all more ++ []) = omega (arith, size, length-le-encodes more, length-append read (c ∷ [])) in
      let k = is_known text state.place state.line lines more [] first (scalars_more read c scalars scalar) goes_more some in
      decided_whole text state.place lines (length (encode_utf8_all more ++ [])) (length held) fault (omega (arith, size, ap length all, length-append (encode_utf8_all more) after))
      (decided_character text state lines read c k way refuses not_yet line_fault is_line_fault fault w at)

  -- nothing completes the bytes that are left
  pub by_bytes : has_returned way.field ≡ false → 0 < length rest → IsHopeless rest → (fault : Fault) → IsFaultAfter state FaultKind.BadUtf8 (byte_len read) (encode_utf8_all read) fault → IsDecidedAt text state.place lines (length held) fault
  by_bytes not_yet some hopeless fault at =
      let more : 0 < length (encode_utf8_all read ++ rest) = omega (arith, length-append (encode_utf8_all read) rest, some) in
      let k = is_known text state.place state.line lines read rest first scalars (subst (GoesOnWith text state.place) (sym spell) goes) more in
      decided_whole text state.place lines (length (encode_utf8_all read ++ rest)) (length held) fault (omega (arith, ap length spell))
      (decided_bytes text state lines read rest k way not_yet some fault at hopeless)

-- the text ends where its known bytes do, and a fault stands there
module _ (text : List ℕ) (state : LineState) (lines : List LogicalLine) (read rest : List ℕ) (k : IsKnown text state.place state.line lines read rest) (whole : length text ≡ state.place + length (encode_utf8_all read ++ rest)) (way : IsUnderWay (first_mode state.place) read) where
  all_text : of.bytes text state.place state.line lines read rest k ≡ text
  all_text = take_all (state.place + length (encode_utf8_all read ++ rest)) text (omega (arith, whole))

  -- the text ends in a part of a character, or in bytes that begin none
  pub ended_bytes : has_returned way.field ≡ false → 0 < length rest → (fault : Fault) → IsFaultAfter state FaultKind.BadUtf8 (byte_len read) (encode_utf8_all read) fault → StartsWithNoChar rest → IsLexed text lines (Some fault)
  ended_bytes not_yet some fault at bad = subst (λ t. IsLexedToFault t lines fault) all_text (refused_bytes text state lines read rest k way not_yet some fault at bad)

  all_decoded : rest ≡ [] → Decodes text (spelled k.base ++ read) []
  all_decoded none = subst (λ t. Decodes t (spelled k.base ++ read) []) all_text (subst (λ t. Decodes (of.bytes text state.place state.line lines read rest k) (spelled k.base ++ read) t) none (of.decodes text state.place state.line lines read rest k (subst StartsWithNoChar (sym none) nothing_bad)))

  -- the text may not end there
  pub ended_unfinished : has_returned way.field ≡ false → rest ≡ [] → 0 < byte_len read → (line_fault : LineFault) → IsFieldEnd way.field (Some line_fault) → (fault : Fault) (w : Within read line_fault.place) → IsFaultAfter state line_fault.kind line_fault.place (encode_utf8_all w.prefix) fault → IsLexed text lines (Some fault)
  ended_unfinished not_yet none some line_fault is_line_fault fault w at = let j = joined_here text state lines read rest k way not_yet in
      let found = unfinished_fault state.place k.base k.balanced k.shallow (of.stands text state.place state.line lines read rest k) read way (of.read_then k.base read k.more [] (λ nothing. omega (arith, some, ap byte_len nothing)) k.fit) some line_fault is_line_fault in
      let place : fault.offset ≡ byte_len (spelled k.base) + line_fault.place = at.place ∙ ap (λ (n : ℕ). n + line_fault.place) k.here in
      subst (λ l. IsLexedToFault text l fault) (sym k.cut) (refused_at_end text (spelled k.base ++ read) j.state k.base fault (all_decoded none) j.runs
      (prefix_of text state lines read rest k way not_yet) (rw (at.is, place) found)
      (line_after text state lines read rest k line_fault.kind line_fault.place fault w at))
