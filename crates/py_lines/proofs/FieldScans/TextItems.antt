-- How the machine with fields goes through the text of a string: its mode alone tells what a character does, and it alone changes, with the
-- text that the string holds. And what the items of the text come to for the scan: it goes on, closes the string, waits, or finds a fault.
-- What opens and ends a field there stands in Openings.
use Rattle.py_lines.proofs.Prelude.{◌≡◌, ℕ, Bool, true, false, ◌==◌, eqb, ◌&&◌, Some, List, [], ◌∷◌, ◌++◌, refl, sym, ap, ◌∙◌, subst, append-nil, append_assoc, ◌+◌, ◌<◌, inl, inr, ◌⊎◌, not, drop, length, length-append, arith, encode_utf8, encode_utf8_all, both_ways, and_from, cond_both, len_utf8, list_all, list_all-append, all_scalars, low_scalar, encode_ascii, len_utf8_ascii, is_backslash, is_break, is_line_feed, is_quote, is_return, Piece, spelled, string, byte_len, is_closing, is_opening, LineFault, Scan, Host, Place, literal, specification, OpenMode, piece, byte_len-append}
use Rattle.py_lines.specs.Faults.{Cause, breaks_string, ends_specification, kind_of_cause}
use Rattle.py_lines.specs.Private.Mode as modes
use Rattle.py_lines.specs.Private.Machine.{move_of, short_move, long_move, Move}
use Rattle.py_lines.specs.Private.FieldMachine.{At, plain_move, FieldMode, FieldMove, FieldScanned, Level, plain, body, grows, closes, breaks, ends_field, before, field_class_of, field_closed, field_move, field_moved, field_state, frames, has_room_at, room_step, roomy, text_place, refused}
use Rattle.py_lines.specs.Private.FieldFaults.{cause_in, cause_place, here, field_start}
use Rattle.py_lines.specs.Private.Scan.{GoAlike, Goes, IsFirstByte, IsOneItem, StandsAs, TextAs, TextGoes, is_break_move, is_line_ending, is_return_at, is_shut, is_text, mode_from, BreaksInText, Follows, GoesOver, GoesOverAll, GrowsInText, HasPending, HasQuote, HoldsCode, IsFieldFault, IsWrongIn, QuotesInText, Rests, WaitsInText, has_returned, passed}
use Rattle.py_lines.proofs.FieldMachine.Runs.{room_grows}
use Rattle.py_lines.proofs.FieldScans.Moves.{BodyMoved, body_moved, list_at}
use Rattle.py_lines.proofs.FieldScans.Taking.{Shut, StandsAt, by_line, by_room, free_at, goes_on, steps, no_step, stands_at, stands_shut, rests_exact}
use Rattle.py_lines.proofs.LineScan.AsciiRuns.{break_low, is_low, is_low_from, low_encodes, low_is, quote_ascii}
use Rattle.py_lines.specs.declared.fault.FaultKind.TheVariants as fault_kind
use Rattle.py_lines.proofs.Text.CharacterTests.{none_of}
use Rattle.py_lines.proofs.FieldScans.Takes.{goes-append}

-- the text of a string is open
abbrev pub InText : FieldMode → Type 0
InText (plain (modes.Inside q)) = Unit {0}
InText (plain (modes.Escape q)) = Unit {0}
InText (plain (modes.EscapeReturn q)) = Unit {0}
InText (plain (modes.Long q)) = Unit {0}
InText (plain (modes.LongOne q)) = Unit {0}
InText (plain (modes.LongTwo q)) = Unit {0}
InText (plain (modes.LongEscape q)) = Unit {0}
InText (body host place named at) = Unit {0}
InText other = ⊥

pub text_mode : (m : OpenMode) → is_text m ≡ true → InText (mode_from m)
text_mode m is = grind arith

-- what it holds counts for nothing
pub held_nothing : (m : FieldMode) (held : List ℕ) (c : ℕ) → InText m → field_move m held c ≡ field_move m [] c
unfolding field_move
held_nothing (plain (modes.Word s)) held c in_text = absurd in_text
held_nothing m held c in_text = refl

-- it is a string's, and no CR of a line end was read last
pub record IsTextMode (m : FieldMode) : Type 0 where
  pub class : field_class_of m ≡ string
  pub closed : (done : List Piece) (held : List ℕ) → field_closed m done held ≡ done ++ piece string held ∷ []
  pub no_return : is_return_at m ≡ false
  pub no_line : (v : FieldMove) (c : ℕ) → is_line_ending m v c ≡ is_line_ending (plain modes.Free) v c
  pub not_free : m ≡ plain modes.Free → ⊥
  pub not_shut : is_shut m ≡ false

pub text_is : (m : FieldMode) → InText m → IsTextMode m
text_is m in_text = grind arith

-- by a character with which it goes on it stays so, in the same place; it is closed in a literal part, a field is ended in a
-- specification, and it never ends before a character
abbrev pub StaysText : Place → FieldMove → Type 0
StaysText place (grows n) = InText n × (text_place n ≡ place)
StaysText place closes = place ≡ literal
StaysText place ends_field = place ≡ specification
StaysText place breaks = ⊥
StaysText place other = Unit {0}

body_stays : (host : Host) (place : Place) (named : Bool) (at : At) (c : ℕ) (v : FieldMove) → BodyMoved host place named at c v → StaysText place v
body_stays host place named at c v moved = grind arith

abbrev StaysPlain : Move → Type 0
StaysPlain v = StaysText literal (plain_move v)

short_stays : (q c : ℕ) → StaysPlain (short_move q c)
unfolding short_move
short_stays q c = cond_both (is_backslash c) _ _ StaysPlain (λ h. (tt, refl)) (λ h. cond_both (is_break c) _ _ StaysPlain (λ k. tt) (λ k. (tt, refl)))

long_stays : (q c : ℕ) → StaysPlain (long_move q c)
unfolding long_move
long_stays q c = cond_both (is_backslash c) _ _ StaysPlain (λ h. (tt, refl)) (λ h. (tt, refl))

pub text_stays : (m : FieldMode) (c : ℕ) → InText m → StaysText (text_place m) (field_move m [] c)
unfolding field_move move_of
text_stays (body host place named at) c in_text =
    body_stays host place named at c (field_move (body host place named at) [] c) (body_moved host place named at [] c)
text_stays (plain (modes.Inside q)) c in_text = cond_both (eqb c q) _ _ StaysPlain (λ h. refl) (λ h. short_stays q c)
text_stays (plain (modes.Escape q)) c in_text = cond_both (is_return c) _ _ StaysPlain (λ h. (tt, refl)) (λ h. (tt, refl))
text_stays (plain (modes.EscapeReturn q)) c in_text =
    cond_both (is_line_feed c) _ _ StaysPlain (λ h. (tt, refl)) (λ h. cond_both (eqb c q) _ _ StaysPlain (λ k. refl) (λ k. short_stays q c))
text_stays (plain (modes.Long q)) c in_text = cond_both (eqb c q) _ _ StaysPlain (λ h. (tt, refl)) (λ h. long_stays q c)
text_stays (plain (modes.LongOne q)) c in_text = cond_both (eqb c q) _ _ StaysPlain (λ h. (tt, refl)) (λ h. long_stays q c)
text_stays (plain (modes.LongTwo q)) c in_text = cond_both (eqb c q) _ _ StaysPlain (λ h. refl) (λ h. long_stays q c)
text_stays (plain (modes.LongEscape q)) c in_text = (tt, refl)
text_stays m c in_text = absurd in_text

no_break : (m : FieldMode) (held : List ℕ) (c : ℕ) → InText m → is_break_move (field_move m held c) ≡ false
no_break m held c in_text = grind (arith, held_nothing, text_stays)

item_on : (t u : FieldScanned) (c : ℕ) (cs : List ℕ) → room_step t c ≡ Some u → InText u.mode → IsOneItem u cs → IsOneItem t (c ∷ cs)
item_on t u c [] step in_text one = tt
item_on t u c (d ∷ ds) step in_text one = (u, step, no_break u.mode u.held d in_text, one)

-- so the machine goes on where nothing else is open in it
module _ (outer : List Level) (done : List Piece) (openers : List ℕ) (n : FieldMode) where
  abbrev In : FieldMode → List ℕ → FieldScanned
  In m held = field_state outer done openers m held

  pub record TextWay (m : FieldMode) (held run : List ℕ) : Type 0 where
    pub goes : Goes (In m held) run (In n (held ++ run))
    pub one : IsOneItem (In m held) run
    pub one_then : (c : ℕ) → IsOneItem (In m held) (run ++ c ∷ [])
    pub in_text : InText n
    pub place : text_place n ≡ text_place m

  pub text_way : (m : FieldMode) (held run : List ℕ) → InText m → TextGoes m run n → TextWay m held run
  text_way m held [] in_text same =
      record { goes = ap (λ x. In x held) same ∙ ap (In n) (sym (append-nil held)); one = tt; one_then = λ c. tt; in_text = rw same at in_text; place = ap text_place (sym same) }
  text_way m held (c ∷ cs) in_text (next, is, goes) = let t : FieldScanned = In m held in let u : FieldScanned = In next (held ++ c ∷ []) in
      let move : field_move m held c ≡ grows next = held_nothing m held c in_text ∙ is in
      let k : InText next × (text_place next ≡ text_place m) = subst (StaysText (text_place m)) is (text_stays m c in_text) in
      let way = text_way next (held ++ c ∷ []) cs k.0 goes in let own = text_is m in_text in
      let step : room_step t c ≡ Some u = steps t c (grows next) move u (room_grows (frames t) c next) refl in
      let on = goes_on t c (grows next) move (own.no_line (grows next) c) in
      let others = subst (λ x. Goes u cs (In n x)) (append_assoc held (c ∷ []) cs) way.goes in record {
        goes = (ap (λ b. b && (frames t == 0)) own.no_return, u, step, on, others);
        one = item_on t u c cs step k.0 way.one;
        one_then = λ d. item_on t u c (cs ++ d ∷ []) step k.0 (way.one_then d);
        in_text = way.in_text;
        place = way.place ∙ k.1;
      }

-- the same text in two modes, before a byte after which they come to the same
module _ (outer : List Level) (done : List Piece) (openers : List ℕ) (m n : FieldMode) (held : List ℕ) where
  abbrev T : FieldMode → FieldScanned
  T x = field_state outer done openers x held

  moved_alike : (c : ℕ) (v : FieldMove) → IsTextMode m → IsTextMode n → field_moved (T m) c v ≡ field_moved (T n) c v
  moved_alike c v one other = grind arith

  here_alike : text_place m ≡ text_place n → here (T m) ≡ here (T n)
  here_alike same = ap (λ p. byte_len (before p outer ++ (spelled done ++ held))) same

  place_alike : text_place m ≡ text_place n → (cause : Cause) → cause_place (T m) cause ≡ cause_place (T n) cause
  place_alike same cause = grind (arith, here_alike same, ap (λ p. byte_len (before p outer ++ spelled done)) same)

  pub same_alike : (b : ℕ) → IsTextMode m → IsTextMode n → text_place m ≡ text_place n → ((c : ℕ) → IsFirstByte b c → field_move m held c ≡ field_move n held c)
      → ((c depth : ℕ) → IsFirstByte b c → cause_in depth m c ≡ cause_in depth n c) → GoAlike b (T m) (T n)
  same_alike b one other place moves causes = record {
    here_is = here_alike place;
    open_yet = ap (λ x. x && (frames (T m) == 0)) one.no_return;
    step = λ c first. by_room (T m) c (field_move n held c) (moves c first)
        ∙ ap (roomy (has_room_at (frames (T m)) c (field_move n held c))) (moved_alike c (field_move n held c) one other);
    ending = λ c first. by_line (T m) c (field_move n held c) (moves c first)
        ∙ ap (λ x. (frames (T m) == 0) && x) (one.no_line (field_move n held c) c ∙ sym (other.no_line (field_move n held c) c));
    fault = λ c first none f is.
        let cause = causes c (frames (T m)) first in
        (is.0 ∙ ap kind_of_cause (sym cause), is.1 ∙ sym (place_alike place (cause_in (frames (T n)) n c)) ∙ ap (cause_place (T m)) (sym cause));
    free = λ free outside. absurd (other.not_free free);
    shut = λ is. absurd (both_ways _ one.not_shut is);
  }

  pub text_stands : (bytes : List ℕ) → InText m → InText n → TextAs bytes m n → StandsAs bytes (T m) (T n)
  text_stands [] in_text there same = ap T same
  text_stands (b ∷ rest) in_text there alike = same_alike b (text_is m in_text) (text_is n there) alike.place
      (λ c first. held_nothing m held c in_text ∙ alike.move c first ∙ sym (held_nothing n held c there)) alike.cause

-- characters of ASCII are their bytes
abbrev pub AreLow : List ℕ → Type 0
AreLow cs = list_all is_low cs ≡ true

pub low_encoded : (cs : List ℕ) → AreLow cs → encode_utf8_all cs ≡ cs
low_encoded cs low = (low_encodes is_low cs low_is low).0

pub low_scalars : (cs : List ℕ) → AreLow cs → all_scalars cs ≡ true
low_scalars cs low = (low_encodes is_low cs low_is low).1

pub one_low : (c : ℕ) → c < 128 → AreLow (c ∷ [])
one_low c low = and_from _ _ (is_low_from c low) refl

pub two_low : (c : ℕ) → c < 128 → AreLow (c ∷ c ∷ [])
two_low c low = and_from _ _ (is_low_from c low) (one_low c low)

text_holds : (m : FieldMode) (held : List ℕ) → InText m → HoldsCode m held
text_holds m held in_text = grind arith

as_places : (bytes : List ℕ) (m n : FieldMode) → TextAs bytes m n → text_place n ≡ text_place m
as_places [] m n same = ap text_place (sym same)
as_places (b ∷ rest) m n alike = sym alike.place

-- the bytes of what has been gone over, and of what has been with these
pub more_bytes : (a d held run : List ℕ) (stop len : ℕ) → stop ≡ byte_len (a ++ (d ++ held)) → byte_len run ≡ len → stop + len ≡ byte_len (a ++ (d ++ (held ++ run)))
more_bytes a d held run stop len at size =
    omega (arith, at, size, byte_len-append a (d ++ held), byte_len-append d held, byte_len-append a (d ++ (held ++ run)), byte_len-append d (held ++ run), byte_len-append held run)

quotes_low : (q : ℕ) (run : List ℕ) → is_quote q ≡ true → (run ≡ []) ⊎ (run ≡ q ∷ q ∷ []) → AreLow run
quotes_low q run is (inl none) = ap (list_all is_low) none
quotes_low q run is (inr two) = ap (list_all is_low) two ∙ two_low q (quote_ascii q is)

slash_low : (run : List ℕ) → (run ≡ []) ⊎ (run ≡ 92 ∷ []) → AreLow run
slash_low run (inl none) = ap (list_all is_low) none
slash_low run (inr one) = ap (list_all is_low) one

-- a quote is none of these
quote-not-others : (q : ℕ) → is_quote q ≡ true → (is_break q ≡ false) × (is_closing q ≡ false) × (is_opening q ≡ false)
unfolding is_quote is_break is_closing is_opening
quote-not-others q is = (none_of is_break (39 ∷ 34 ∷ []) q refl is, none_of is_closing (39 ∷ 34 ∷ []) q refl is, none_of is_opening (39 ∷ 34 ∷ []) q refl is)

-- the text of a string is open where the machine stands
module _ (old : Scan) (t : FieldScanned) (follow : Follows old t) (is : is_text old.mode ≡ true) where
  pub text_open : InText t.mode
  text_open = subst InText follow.mode (text_mode old.mode is)

  -- the state with more of the text, in such a mode
  abbrev with_run : FieldMode → List ℕ → FieldScanned
  with_run n run = field_state t.outer t.done t.openers n (t.held ++ run)

  text_follows : (mode : OpenMode) (run : List ℕ) (len : ℕ) → is_text mode ≡ true → HasQuote mode → text_place (mode_from mode) ≡ text_place t.mode → byte_len run ≡ len
      → Follows (record old { mode = mode; stop = old.stop + len }) (with_run (mode_from mode) run)
  text_follows mode run len text quote place size = grind (arith, text_holds, text_mode, list_at, more_bytes)

  -- it goes on
  pub grows_over : (bytes : List ℕ) (mode : OpenMode) (len : ℕ) (new : Scan) → GrowsInText t.mode bytes mode len → new ≡ record old { mode = mode; stop = old.stop + len } → GoesOver t bytes len new
  grows_over bytes mode len new g like = let way = text_way t.outer t.done t.openers g.to t.mode t.held g.run text_open g.goes in
      let follows = text_follows mode g.run len g.text g.quote (as_places (drop len bytes) g.to (mode_from mode) g.alike ∙ way.place) g.size in
      let stands = text_stands t.outer t.done t.openers g.to (mode_from mode) (t.held ++ g.run) (drop len bytes) way.in_text (text_mode mode g.text) g.alike in
      let rests : Rests (record old { mode = mode; stop = old.stop + len }) (with_run g.to g.run) (drop len bytes) = record { as_if = _; follows = follows; stands = stands } in
      rw like (search (g, way, rests))

  -- quotes close it
  pub closes_over : (bytes : List ℕ) (len : ℕ) (new : Scan) → QuotesInText t.mode bytes len closes → new ≡ passed old len → GoesOver t bytes len new
  closes_over bytes len new q like = let way = text_way t.outer t.done t.openers q.to t.mode t.held q.run text_open q.goes in
      let one = quote_ascii q.quote q.is_one in let low_run : AreLow q.run = quotes_low q.quote q.run q.is_one q.low in
      let run : List ℕ = q.run ++ q.quote ∷ [] in
      let low : AreLow run = list_all-append is_low q.run (q.quote ∷ []) ∙ and_from _ _ low_run (one_low q.quote one) in
      let at : FieldScanned = with_run q.to q.run in
      let move : field_move q.to at.held q.quote ≡ closes = held_nothing q.to at.held q.quote way.in_text ∙ q.does in
      let place : text_place t.mode ≡ literal = sym way.place ∙ subst (StaysText (text_place q.to)) q.does (text_stays q.to q.quote way.in_text) in
      let here = stands_at old t follow place in let stop : ℕ = old.stop + byte_len q.run in let there : StandsAt at old.frames old.start stop =
      record { place = way.place ∙ place; frames = follow.frames; begins = here.begins; ends = more_bytes _ _ t.held q.run old.stop (byte_len q.run) here.ends refl } in
      let shut = stands_shut at old.frames old.start stop there q.quote (text_holds q.to at.held way.in_text) move in
      let closed : FieldScanned = Shut at old.frames old.start stop there q.quote in let own = text_is q.to way.in_text in
      let far : stop + len_utf8 q.quote ≡ old.stop + len = omega (arith, q.size, ap length (low_encoded q.run low_run), len_utf8_ascii q.quote one) in
      let some : 0 < len = omega (arith, q.size) in
      let spell : encode_utf8_all run ++ drop len bytes ≡ bytes = ap (λ x. x ++ drop len bytes) (low_encoded run low) ∙ append_assoc q.run (q.quote ∷ []) (drop len bytes) ∙ q.spell in
      let size : byte_len run ≡ len = ap length (low_encoded run low) ∙ omega (arith, length-append q.run (q.quote ∷ []), q.size) in
      let goes : Goes t run closed = goes-append t at closed q.run (q.quote ∷ []) way.goes
      (ap (λ b. b && (frames at == 0)) own.no_return, closed, shut.0, goes_on at q.quote closes move (own.no_line closes q.quote), refl) in
      let follows : Follows (passed old len) closed = subst (λ n. Follows (free_at old.frames n) closed) far shut.1 in
      rw like (search (some, spell, low_scalars run low, size, goes, way.one_then q.quote, rests_exact (passed old len) closed (drop len bytes) follows))

  -- the bytes don't tell yet
  pub waits_over : (bytes : List ℕ) → WaitsInText (mode_from old.mode) bytes → (all : GoesOverAll t bytes) × (has_returned all.to ≡ true → all.rest ≡ []) × HasPending old.mode bytes × (old ≡ old)
  waits_over bytes w =
      let way = text_way t.outer t.done t.openers w.to t.mode t.held w.run text_open (subst (λ (m : FieldMode). TextGoes m w.run w.to) follow.mode w.goes) in
      let open_yet = ap (λ b. b && (frames t == 0)) (text_is w.to way.in_text).no_return in
      let all : GoesOverAll t bytes =
      record { run = w.run; rest = w.rest; spell = w.spell; scalars = w.scalars; none = w.none; to = with_run w.to w.run; goes = way.goes; one = way.one } in
      (all, λ returned. absurd (both_ways _ open_yet returned), search (w, w.pending old.mode refl), refl)

  -- after some of it a character of ASCII is refused, for this cause
  refused_in : (bytes run after : List ℕ) (c : ℕ) (to : FieldMode) (cause : Cause) (f : LineFault) → AreLow run → c < 128 → run ++ c ∷ after ≡ bytes → TextGoes t.mode run to → field_move to [] c ≡ refused
      → cause_in (frames t) to c ≡ cause → f.kind ≡ kind_of_cause cause → f.place ≡ cause_place (with_run to run) cause → IsWrongIn t bytes f
  refused_in bytes run after c to cause f low one spell goes does because kind place =
      let way = text_way t.outer t.done t.openers to t.mode t.held run text_open goes in let own = text_is to way.in_text in
      let spelled_so : encode_utf8_all run ++ (encode_utf8 c ++ after) ≡ bytes =
      ap (λ x. x ++ (encode_utf8 c ++ after)) (low_encoded run low) ∙ ap (λ x. run ++ (x ++ after)) (encode_ascii c one) ∙ spell in
      let fault : IsFieldFault (with_run to run) c f = (kind ∙ ap kind_of_cause (sym because), place ∙ ap (cause_place (with_run to run)) (sym because)) in
      let none = no_step (with_run to run) c refused (held_nothing to (t.held ++ run) c way.in_text ∙ does) refl in
      let open_yet = ap (λ b. (b && (frames t == 0)) && not (is_line_feed c)) own.no_return in
      search (spelled_so, low_scalars run low, low_scalar c (omega (arith, one)), way, way.one_then c, open_yet, none, fault)

  -- a line end may not stand there
  pub breaks_there : (bytes : List ℕ) (f : LineFault) → BreaksInText t.mode bytes → f ≡ record { kind = fault_kind.OpenString; place = old.start } → IsWrongIn t bytes f
  breaks_there bytes f x is_f = let way = text_way t.outer t.done t.openers x.to t.mode t.held x.run text_open x.goes in
      refused_in bytes x.run x.after x.c x.to breaks_string f (slash_low x.run x.first) (break_low x.c x.breaking) x.spell x.goes x.does
      (rw (x.waits, x.breaking)) (ap (λ (g : LineFault). g.kind) is_f)
      (ap (λ (g : LineFault). g.place) is_f ∙ follow.start ∙ ap (λ p. byte_len (before p t.outer ++ spelled t.done)) (sym way.place))

  -- nor a quote that would close the string whose specification is open
  pub ends_specification_there : (bytes : List ℕ) (len place : ℕ) (f : LineFault) → QuotesInText t.mode bytes len refused → text_place t.mode ≡ specification → place ≡ field_start t
      → f ≡ record { kind = fault_kind.OpenField; place = place } → IsWrongIn t bytes f
  ends_specification_there bytes len place f q there at is_f = let other = quote-not-others q.quote q.is_one in
      refused_in bytes q.run (drop len bytes) q.quote q.to ends_specification f (quotes_low q.quote q.run q.is_one q.low) (quote_ascii q.quote q.is_one) q.spell q.goes q.does
      (rw (q.waits, other.0, q.apart, other.1, other.2, q.specified, there)) (ap (λ (g : LineFault). g.kind) is_f) (ap (λ (g : LineFault). g.place) is_f ∙ at)
