-- What is open in a text that has no prefix of a string with fields before a quote is the same with fields and without, and so are
-- its fault and its lexing.
use Rattle.py_lines.proofs.Prelude.{◌≡◌, ℕ, true, false, List, [], ◌∷◌, ◌++◌, refl, sym, ap, ◌∙◌, inl, inr, ⊎_elim, append_assoc, append-nil, Option, None, Some, byte, or_parts, or_from, both_ways, arith, is_quote, Piece, spelled, FaultKind, Fault, LogicalLine}
use Rattle.py_lines.specs.PieceGrammar.{AreReadIn, joined}
use Rattle.py_lines.specs.FieldStrings.{Host, begins_fielded, may_have_fields, Place}
use Rattle.py_lines.specs.Dialect.{Dialect, fielded_dialect, plain_dialect}
use Rattle.py_lines.specs.Fields.{Fields}
use Rattle.py_lines.specs.Reading.{IsReadingIn, Decodes, IsReadPrefixIn}
use Rattle.py_lines.specs.OpenFields.{Spot, IsOpenStringIn, in_literal, in_specification, AreBegunIn, BeginsListIn, at_start, in_field, StandsOpenIn, IsOpenUpToIn, InOpenShortIn, InOpenLongIn, AfterOpenBackslashIn, InSpecificationIn, InOpenFieldIn}
use Rattle.py_lines.specs.Faults.{IsLiveIn, DiesAtIn, IsFieldDueIn, IsAtDepthIn, OpensBraceTooDeepIn, Cause, brace_too_deep, breaks_string, breaks_join, opens_too_deep, ends_specification, ExplainsIn, causes_before, NoneExplainsIn, IsCharacterFaultIn, InOpenBracketIn, Unfinished, open_brace, open_short, open_long, open_join, open_bracket, open_inside, IsOpenAtEndIn, IsFaultAtIn, at_character, at_bytes, at_end, IsLexicalFaultIn}
use Rattle.py_lines.proofs.Fields.Parts.{not_nothing}
use Rattle.py_lines.proofs.Fields.Elsewhere.{later, no_field_prefix, quotes_begin, read_with, read_without, balanced_with, balanced_without}
use Rattle.py_lines.proofs.Elsewhere.SameRuns.{live_with, live_without}
use Rattle.py_lines.specs.Lexed.{IsLexedIn, IsLexed}
use Rattle.py_lines.specs.WithoutFields.{IsPlainLexed, HasNoFields}
use Rattle.py_lines.proofs.Text.Decoding.{decoded}

-- what such a text begins with is such a text
begins_fewer : (a b : List ℕ) → begins_fielded (a ++ b) ≡ false → begins_fielded a ≡ false
begins_fewer a b h = grind arith

pub earlier : (a b : List ℕ) → may_have_fields (a ++ b) ≡ false → may_have_fields a ≡ false
earlier [] b h = refl
earlier (c ∷ a) b h =
    let parts = or_parts (begins_fielded (c ∷ (a ++ b))) (may_have_fields (a ++ b)) h in
    or_from _ _ (begins_fewer (c ∷ a) b parts.0) (earlier a b parts.1)

-- What two ways of reading have in common on such texts: what the first has, the second has too. No string with fields is open.
pub record Carries (old new : Dialect) : Type 0 where
  pub fit : (ps : List Piece) (rest : List ℕ) → may_have_fields (spelled ps ++ rest) ≡ false → AreReadIn old.grammar ps rest → AreReadIn new.grammar ps rest
  pub reading : (ps : List Piece) (cs : List ℕ) → may_have_fields cs ≡ false → IsReadingIn old ps cs → IsReadingIn new ps cs
  pub live : (cs : List ℕ) → may_have_fields cs ≡ false → IsLiveIn old cs → IsLiveIn new cs
  pub prefix : (prefix : List ℕ) (q : ℕ) (after : List ℕ) → is_quote q ≡ true → may_have_fields (prefix ++ q ∷ after) ≡ false → new.is_field_prefix prefix ≡ false
  pub none : (host : Host) (spot : Spot) (front rest : List ℕ) → may_have_fields front ≡ false → ¬ (IsOpenStringIn old host spot front rest)

-- where no such prefix stands before a quote, none is open
none_open : (dialect : Dialect) → ((prefix : List ℕ) (q : ℕ) (after : List ℕ) → is_quote q ≡ true → may_have_fields (prefix ++ q ∷ after) ≡ false → dialect.is_field_prefix prefix ≡ false) → (host : Host) (spot : Spot) (front rest : List ℕ) → may_have_fields front ≡ false → ¬ (IsOpenStringIn dialect host spot front rest)
none_open dialect none host spot front rest h (in_literal s f r prefix parts at is fielded raw quotes each open_yet) =
    let begin = quotes_begin host in
    let spell : front ≡ prefix ++ host.quote ∷ (begin.0 ++ joined parts) = is ∙ ap (λ t. prefix ++ (t ++ joined parts)) begin.1 in
    both_ways _ (none prefix host.quote (begin.0 ++ joined parts) quotes (ap may_have_fields (sym spell) ∙ h)) fielded
none_open dialect none host spot front rest h (in_specification s round f r before inside parts at is string may inner each open_yet) =
    none_open dialect none host round before _ (earlier before _ (ap may_have_fields (sym is) ∙ h)) string

pub to_fielded : Carries plain_dialect fielded_dialect
to_fielded = record { fit = read_with Fields; reading = balanced_with; live = live_with; prefix = no_field_prefix; none = none_open plain_dialect (λ prefix q after quotes h. refl) }

pub to_plain : Carries fielded_dialect plain_dialect
to_plain = record { fit = read_without Fields; reading = balanced_without; live = live_without; prefix = λ prefix q after quotes h. refl; none = none_open fielded_dialect no_field_prefix }

module _ (old new : Dialect) (same : Carries old new) where
  -- a list begins at the text's start alone, since no field opens; and its first pieces
  list_starts : (outside rest : List ℕ) (depth : ℕ) → may_have_fields (outside ++ rest) ≡ false → BeginsListIn old outside rest depth → (outside ≡ []) × (depth ≡ 0)
  list_starts outside rest depth h (at_start b r d is none) = (is, none)
  list_starts outside rest depth h (in_field b r d earlier_list base pieces front host spot is list begun string may deep) =
      let before : may_have_fields (earlier_list ++ (spelled pieces ++ (front ++ byte "{" ∷ []))) ≡ false = ap may_have_fields (sym is) ∙ earlier outside rest h in
      absurd (same.none host spot front _ (earlier front _ (later (spelled pieces) _ (later earlier_list _ before))) string)

  list_carried : (outside rest : List ℕ) (depth : ℕ) → may_have_fields (outside ++ rest) ≡ false → BeginsListIn old outside rest depth → BeginsListIn new outside rest depth
  list_carried outside rest depth h is = let at = list_starts outside rest depth h is in at_start outside rest depth at.0 at.1

  begun_carried : (depth : ℕ) (pieces : List Piece) (rest : List ℕ) → may_have_fields (spelled pieces ++ rest) ≡ false → AreBegunIn old depth pieces rest → AreBegunIn new depth pieces rest
  begun_carried depth pieces rest h is = search (is, same.fit pieces rest h is.fit)

  -- a piece that is open
  stands_carried : (Open Other : List ℕ → Type 0) → ((front : List ℕ) → may_have_fields front ≡ false → Open front → Other front) → (characters start : List ℕ) → may_have_fields characters ≡ false → StandsOpenIn old Open characters start → StandsOpenIn new Other characters start
  stands_carried Open Other carry characters start h is = let whole : may_have_fields (is.outside ++ (spelled is.pieces ++ is.front)) ≡ false =
      ap may_have_fields (sym (append_assoc is.outside (spelled is.pieces) is.front) ∙ ap (λ t. t ++ is.front) is.before ∙ is.spell) ∙ h in
      let own = later is.outside (spelled is.pieces ++ is.front) whole in search (
        is,
        list_carried is.outside (spelled is.pieces ++ is.front) is.depth whole is.list,
        begun_carried is.depth is.pieces is.front own is.begun,
        carry is.front (later (spelled is.pieces) is.front own) is.open_yet,
      )

  -- it is no string with fields
  no_string : (host : Host) (spot : Spot) (front : List ℕ) → may_have_fields front ≡ false → ¬ (IsOpenUpToIn old host spot front)
  no_string host spot front h is = same.none host spot is.body is.last (earlier is.body is.last (ap may_have_fields (sym is.spell) ∙ h)) is.string

  in_short_carried : (characters start : List ℕ) → may_have_fields characters ≡ false → InOpenShortIn old characters start → InOpenShortIn new characters start
  in_short_carried characters start h is = stands_carried _ _ (λ front k. ⊎_elim (λ (short, plain). inl (short, same.prefix short.prefix short.quote _ short.opens (ap may_have_fields (sym short.spell) ∙ k))) (λ (host, spot, up, place, length). absurd (no_string host spot front k up))) characters start h is

  in_long_carried : (characters start : List ℕ) → may_have_fields characters ≡ false → InOpenLongIn old characters start → InOpenLongIn new characters start
  in_long_carried characters start h is = stands_carried _ _ (λ front k. ⊎_elim (λ (long, plain). inl (long, same.prefix long.prefix long.quote _ long.opens (ap may_have_fields (sym long.spell) ∙ k))) (λ (host, spot, up, place, length). absurd (no_string host spot front k up))) characters start h is

  backslash_carried : (characters start : List ℕ) → may_have_fields characters ≡ false → AfterOpenBackslashIn old characters start → AfterOpenBackslashIn new characters start
  backslash_carried characters start h is = stands_carried _ _ (λ front k slash. slash) characters start h is

  -- no specification is open, and no field
  no_specification : (host : Host) (characters start : List ℕ) → may_have_fields characters ≡ false → ¬ (InSpecificationIn old host characters start)
  no_specification host characters start h is = no_string host is.spot is.stands.front (later is.string is.stands.front (ap may_have_fields is.stands.spell ∙ h)) is.stands.open_yet

  no_field_open : (characters start : List ℕ) → may_have_fields characters ≡ false → ¬ (InOpenFieldIn old characters start)
  no_field_open characters start h (inl is) =
      not_nothing start (byte "{") [] (list_starts (start ++ byte "{" ∷ []) (spelled is.pieces) is.depth (ap may_have_fields (append_assoc start (byte "{" ∷ []) (spelled is.pieces) ∙ is.spell) ∙ h) is.list).0
  no_field_open characters start h (inr (host, is)) = no_specification host characters start h is

  -- no field may open
  no_field : (place : Place) (depth : ℕ) (characters after : List ℕ) → may_have_fields characters ≡ false → ¬ (IsFieldDueIn old place depth characters after)
  no_field place depth characters after h is =
      same.none is.host is.spot is.front _ (later (spelled is.pieces) is.front (later is.outside (spelled is.pieces ++ is.front) (ap may_have_fields is.spell ∙ h))) is.string

  no_brace : (before after : List ℕ) (offset : ℕ) → may_have_fields before ≡ false → ¬ (OpensBraceTooDeepIn old before after offset)
  no_brace before after offset h is = no_field _ _ is.start after (earlier is.start (byte "{" ∷ []) (ap may_have_fields is.spell ∙ h)) is.due

  depth_carried : (before : List ℕ) (c depth : ℕ) → may_have_fields (before ++ c ∷ []) ≡ false → IsAtDepthIn old before c depth → IsAtDepthIn new before c depth
  depth_carried before c depth h is = let whole : may_have_fields (is.outside ++ (spelled is.pieces ++ c ∷ [])) ≡ false =
      ap may_have_fields (sym (append_assoc is.outside (spelled is.pieces) (c ∷ [])) ∙ ap (λ t. t ++ c ∷ []) is.spell) ∙ h in search (
        is,
        list_carried is.outside (spelled is.pieces ++ c ∷ []) is.base whole is.list,
        begun_carried is.base is.pieces (c ∷ []) (later is.outside (spelled is.pieces ++ c ∷ []) whole) is.begun,
      )

  -- why a character is refused
  explains_carried : (cause : Cause) (before : List ℕ) (c offset : ℕ) → may_have_fields (before ++ c ∷ []) ≡ false → ExplainsIn old cause before c offset → ExplainsIn new cause before c offset
  explains_carried brace_too_deep before c offset h is = absurd (no_brace before (c ∷ []) offset (earlier before (c ∷ []) h) is)
  explains_carried breaks_string before c offset h is = record {
    start = is.start;
    breaks = is.breaks;
    place = is.place;
    inside = ⊎_elim (λ short. inl (in_short_carried before is.start (earlier before (c ∷ []) h) short)) (λ other. absurd (no_specification other.host before other.field (earlier before (c ∷ []) h) other.inside)) is.inside;
  }
  explains_carried breaks_join before c offset h is = record { start = is.start; after = backslash_carried before is.start (earlier before (c ∷ []) h) is.after; place = is.place }
  explains_carried opens_too_deep before c offset h is = record {
    opens = is.opens;
    place = is.place;
    deep = ⊎_elim (λ at. inl (depth_carried before c 200 h at)) (λ due. absurd (no_field _ _ before [] (earlier before (c ∷ []) h) due.1)) is.deep;
  }
  explains_carried ends_specification before c offset h is = absurd (no_specification is.host before is.start (earlier before (c ∷ []) h) is.inside)
  explains_carried cause before c offset h is = is

  -- the bracket that is open
  bracket_carried : (characters start : List ℕ) → may_have_fields characters ≡ false → InOpenBracketIn old characters start → InOpenBracketIn new characters start
  bracket_carried characters start h is = let ps : List Piece = is.outer ++ is.opener ∷ is.inner in
      let whole : may_have_fields (is.outside ++ spelled ps) ≡ false = ap may_have_fields is.spell ∙ h in search (
        is,
        list_carried is.outside (spelled ps) is.depth whole is.list,
        begun_carried is.depth ps [] (ap may_have_fields (append-nil (spelled ps)) ∙ later is.outside (spelled ps) whole) is.begun,
      )

-- the characters of the text, however it was decoded
none_in : (text characters tail : List ℕ) → HasNoFields text → Decodes text characters tail → may_have_fields characters ≡ false
none_in text characters tail free decodes = ap may_have_fields (decoded text characters free.characters tail free.tail decodes free.decodes).0 ∙ free.none

module _ (old new : Dialect) (there : Carries old new) (back : Carries new old) where
  none_carried : (causes : List Cause) (before : List ℕ) (c : ℕ) → may_have_fields (before ++ c ∷ []) ≡ false → NoneExplainsIn old causes before c → NoneExplainsIn new causes before c
  none_carried [] before c h none = tt
  none_carried (cause ∷ causes) before c h none = (λ offset is. none.0 offset (explains_carried new old back cause before c offset h is), none_carried causes before c h none.1)

  through : (before after characters : List ℕ) (c : ℕ) → before ++ c ∷ after ≡ characters → may_have_fields characters ≡ false → may_have_fields (before ++ c ∷ []) ≡ false
  through before after characters c spell h = earlier (before ++ c ∷ []) after (ap may_have_fields (append_assoc before (c ∷ []) after ∙ spell) ∙ h)

  dies_carried : (characters before : List ℕ) (c : ℕ) → may_have_fields characters ≡ false → DiesAtIn old characters before c → DiesAtIn new characters before c
  dies_carried characters before c h is = let here = through before is.after characters c is.spell h in
      record { after = is.after; spell = is.spell; live = there.live before (earlier before (c ∷ []) here) is.live; dead = λ live. is.dead (back.live (before ++ c ∷ []) here live) }

  character_carried : (kind : FaultKind) (characters : List ℕ) (offset : ℕ) → may_have_fields characters ≡ false → IsCharacterFaultIn old kind characters offset → IsCharacterFaultIn new kind characters offset
  character_carried kind characters offset h is = let here = through is.before is.dies.after characters is.c is.dies.spell h in search (
    is,
    dies_carried characters is.before is.c h is.dies,
    explains_carried old new there is.cause is.before is.c offset here is.fits,
    none_carried (causes_before is.cause) is.before is.c here is.first,
  )

  -- what is open at the end
  open_carried : (unfinished : Unfinished) (characters : List ℕ) (offset : ℕ) → may_have_fields characters ≡ false → IsOpenAtEndIn old unfinished characters offset → IsOpenAtEndIn new unfinished characters offset
  open_carried open_brace characters offset h is = absurd (no_brace old new there characters [] offset h is)
  open_carried open_short characters offset h (start, is, place) = (start, in_short_carried old new there characters start h is, place)
  open_carried open_long characters offset h (start, is, place) = (start, in_long_carried old new there characters start h is, place)
  open_carried open_join characters offset h (start, is, place) = (start, backslash_carried old new there characters start h is, place)
  open_carried open_bracket characters offset h (start, is, place) = (start, bracket_carried old new there characters start h is, place)
  open_carried open_inside characters offset h (start, is, place, none) = absurd (no_field_open old new there characters start h is)

  fault_carried : (kind : FaultKind) (characters tail : List ℕ) (offset : ℕ) → may_have_fields characters ≡ false → IsFaultAtIn old kind characters tail offset → IsFaultAtIn new kind characters tail offset
  fault_carried kind characters tail offset h (at_character is) = at_character (character_carried kind characters offset h is)
  fault_carried kind characters tail offset h (at_bytes is) = at_bytes (search (is, there.live characters h is.live))
  fault_carried kind characters tail offset h (at_end is) =
      at_end (search (is, there.live characters h is.live, open_carried is.unfinished characters offset h is.ends_in))

  lexical_carried : (characters tail : List ℕ) (fault : Fault) → may_have_fields characters ≡ false → IsLexicalFaultIn old characters tail fault → IsLexicalFaultIn new characters tail fault
  lexical_carried characters tail fault h is = record {
    unread = λ whole pieces reading. is.unread whole pieces (back.reading pieces characters h reading);
    place = fault_carried fault.kind characters tail fault.offset h is.place;
    line = is.line;
  }

  prefix_carried : (pieces : List Piece) (characters : List ℕ) → may_have_fields characters ≡ false → IsReadPrefixIn old pieces characters → IsReadPrefixIn new pieces characters
  prefix_carried pieces characters h is =
      let first : (ps : List Piece) (rest : List ℕ) → spelled ps ++ rest ≡ characters → may_have_fields (spelled ps) ≡ false = λ ps rest spell. earlier (spelled ps) rest (ap may_have_fields spell ∙ h) in
      record {
        rest = is.rest;
        spell = is.spell;
        reading = there.reading pieces (spelled pieces) (first pieces is.rest is.spell) is.reading;
        ended = is.ended;
        longest = λ others after spell reading ends. is.longest others after spell (back.reading others (spelled others) (first others after spell) reading) ends;
      }

  lexed_carried : (text : List ℕ) (lines : List LogicalLine) (end : Option Fault) → HasNoFields text → IsLexedIn old text lines end → IsLexedIn new text lines end
  lexed_carried text lines None free is = search (is, there.reading is.pieces is.characters (none_in text is.characters _ free is.decodes) is.reading)
  lexed_carried text lines (Some fault) free is = let h = none_in text is.characters is.tail free is.decodes in
      search (is, prefix_carried is.pieces is.characters h is.prefix, lexical_carried is.characters is.tail fault h is.refused)

pub lexed_with : (text : List ℕ) (lines : List LogicalLine) (end : Option Fault) → HasNoFields text → IsPlainLexed text lines end → IsLexed text lines end
lexed_with text lines end free is = lexed_carried plain_dialect fielded_dialect to_fielded to_plain text lines end free is

pub lexed_without : (text : List ℕ) (lines : List LogicalLine) (end : Option Fault) → HasNoFields text → IsLexed text lines end → IsPlainLexed text lines end
lexed_without text lines end free is = lexed_carried fielded_dialect plain_dialect to_plain to_fielded text lines end free is
