-- A text that has no prefix of a string with fields before a quote is live with fields exactly if it is live without: the machine goes
-- through it and opens no string with fields, and nor does what closes all that is open.
use Rattle.py_lines.proofs.Prelude.{◌≡◌, ℕ, true, false, Option, None, Some, List, [], ◌∷◌, ◌++◌, refl, sym, ap, ◌∙◌, subst, inl, inr, append_assoc, append-nil, and_parts, both_ways, false_from_ne_true, append_cancel_left, is_mark, is_quote, piece, arith}
use Rattle.py_lines.specs.Piece.{Class, mark, string, operator, line_end, Piece, begins, spelled}
use Rattle.py_lines.specs.PieceGrammar.{IsPrefix, InPlainClass, MayPrecedePlain, AreReadPlain}
use Rattle.py_lines.specs.Balance.{IsBalanced, IsShallowPlain, OpensShallow}
use Rattle.py_lines.specs.Fields.{Fields, ShallowFields}
use Rattle.py_lines.specs.FieldStrings.{is_field_prefix, may_have_fields}
use Rattle.py_lines.specs.Dialect.{plain_dialect, fielded_dialect}
use Rattle.py_lines.specs.Faults.{IsLiveIn}
use Rattle.py_lines.specs.Private.Mode as modes
use Rattle.py_lines.specs.Private.Machine.{Mode, Move, Start, class_of, closed, move_of, start_of, first_spelling, Move as moves, Start as starts}
use Rattle.py_lines.specs.Private.FieldMachine.{FieldMode, plain, plain_move, begins_host, Level, FieldScanned, field_state, field_text_start, field_pieces, field_moved, field_started, field_step, after_operator, openers_with, openers_through}
use Rattle.py_lines.proofs.Text.Splits.{Either, either}
use Rattle.py_lines.proofs.Text.CharacterTests.{prefix_word}
use Rattle.py_lines.proofs.Pieces.PieceLists.{AreReadIn-first, AreReadIn-second}
use Rattle.py_lines.proofs.Pieces.OpenBrackets.{EachAtDepth-parts, some_before}
use Rattle.py_lines.proofs.Machine.Starts.{start-mark, start-quote, start-word, opens_no}
use Rattle.py_lines.proofs.Machine.PieceSteps.{Grown, EndsWith, ends_before, ends_at, ends_after, IsRead, at_once, opened, is_read}
use Rattle.py_lines.proofs.Machine.StringSteps.{grown-prefix, short_ends, long_ends}
use Rattle.py_lines.proofs.FieldMachine.Runs.{MayBegin, BelowLimit, Goes, goes-grows, goes-begins, goes-to, steps_of, room_of}
use Rattle.py_lines.proofs.FieldMachine.ListBrackets.{openers_through-append, balanced_openers}
use Rattle.py_lines.proofs.FieldMachine.PlainSteps.{plain_moves}
use Rattle.py_lines.proofs.FieldMachine.WholeRuns.{RunsFrom, Reaches, live_runs, runs_live, runs_sound, runs_both, runs_parts, runs_on, one_runs, roomy_parts, reading_at, reach_open}
use Rattle.py_lines.proofs.FieldSoundness.Holds.{BeginsPlain, IsFieldSound}
use Rattle.py_lines.proofs.FieldSoundness.CodeSteps.{begins_plain-more}
use Rattle.py_lines.proofs.FieldSoundness.HostSteps.{start_is_sound}
use Rattle.py_lines.proofs.FieldSoundness.WholeTexts.{two_hundred}
use Rattle.py_lines.proofs.FieldSoundness.LiveTexts.{host_at, BeginsNone, state_finishes}
use Rattle.py_lines.proofs.Fields.Parts.{not_nothing}
use Rattle.py_lines.proofs.Fields.OneReading.{read_before, read_nothing}
use Rattle.py_lines.proofs.Fields.Elsewhere.{later, no_field_prefix, AreUnfielded, unfielded-push, plain_unfielded, read_unfielded, read_with, shallow_with, shallow_without}

-- no string with fields begins in such a text
no_host_in : (m : Mode) (held : List ℕ) (c : ℕ) (cs : List ℕ) → may_have_fields (held ++ c ∷ cs) ≡ false → begins_host m held c ≡ false
no_host_in (modes.Word s) held c cs h =
    false_from_ne_true _ (λ both. let parts = and_parts (is_field_prefix held) (is_quote c) both in both_ways _ (no_field_prefix held c cs parts.1 h) parts.0)
no_host_in m held c cs h = refl

-- no string with fields is open, and none is finished
abbrev IsPlainIn : List Level → FieldMode → List Piece → Type 0
IsPlainIn [] (plain m) done = AreUnfielded Fields done
IsPlainIn outer m done = ⊥

abbrev IsPlain : FieldScanned → Type 0
IsPlain t = IsPlainIn t.outer t.mode t.done

abbrev PlainIf : Option FieldScanned → Type 0
PlainIf None = Unit {0}
PlainIf (Some t) = IsPlain t

-- pieces, with the open one
plain_closed : (m : Mode) (done : List Piece) (held : List ℕ) → AreUnfielded Fields done → (class_of m ≡ string → BeginsPlain held) → AreUnfielded Fields (closed m done held)
plain_closed modes.Start done held own quoted = own
plain_closed modes.Free done held own quoted = own
plain_closed m done held own quoted = unfielded-push Fields done (piece (class_of m) held) own (λ is. plain_unfielded Fields held (quoted is))

-- what a character does that begins none
plain_started : (done : List Piece) (os : List ℕ) (c : ℕ) (x : Start) → AreUnfielded Fields done → PlainIf (field_started [] done os c x)
plain_started done os c (starts.Open m) own = own
plain_started done os c starts.Operator own = go (openers_with os c) where
  go : (o : Option (List ℕ)) → PlainIf (after_operator [] done c o)
  go None = tt
  go (Some after) = unfielded-push Fields done (piece operator (c ∷ [])) own (λ is. absurd (cc))
plain_started done os c starts.LineEnd own = unfielded-push Fields done (piece line_end (c ∷ [])) own (λ is. absurd (cc))
plain_started done os c starts.Nothing own = tt

plain_moved : (done : List Piece) (os : List ℕ) (m : Mode) (held : List ℕ) (c : ℕ) (v : Move) → AreUnfielded Fields done → (class_of m ≡ string → BeginsPlain held) → PlainIf (field_moved (field_state [] done os (plain m) held) c (plain_move v))
plain_moved done os m held c (moves.Grows n) own quoted = own
plain_moved done os m held c moves.Closes own quoted = unfielded-push Fields done (piece (class_of m) (held ++ c ∷ [])) own (λ is. plain_unfielded Fields (held ++ c ∷ []) (begins_plain-more held c (quoted is)))
plain_moved done os m held c moves.Breaks own quoted = plain_started (closed m done held) os c (start_of c) (plain_closed m done held own quoted)
plain_moved done os m held c moves.Refused own quoted = tt

plain_step : (outer : List Level) (done : List Piece) (os : List ℕ) (n : FieldMode) (held read : List ℕ) (c : ℕ) → IsFieldSound two_hundred (field_state outer done os n held) read → IsPlainIn outer n done → host_at n held c ≡ false → PlainIf (field_step (field_state outer done os n held) c)
plain_step [] done os (plain m) held read c sound own none =
    subst PlainIf (ap (field_moved (field_state [] done os (plain m) held) c) (sym (plain_moves m held c none))) (plain_moved done os m held c (move_of m c) own sound.mode.1)
plain_step outer done os n held read c sound own none = absurd own

-- and characters that begin none
plain_run : (cs : List ℕ) (t u : FieldScanned) (read : List ℕ) → IsFieldSound two_hundred t read → IsPlain t → BeginsNone t cs → RunsFrom t cs u → IsPlain u
plain_run [] t u read sound own none runs = subst PlainIf runs.0 own
plain_run (c ∷ cs) t u read sound own none runs =
    let (n, one, rest) = runs_parts t (c ∷ []) cs u runs in
    let step = (roomy_parts _ _ n (one_runs t c n one)).1 in
    plain_run cs n u (read ++ c ∷ []) (runs_on t read (c ∷ []) n sound one) (subst PlainIf step (plain_step t.outer t.done t.openers t.mode t.held read c sound own none.0)) (none.1 n step) rest

-- so do those of such a text
text_none : (outer : List Level) (done : List Piece) (os : List ℕ) (n : FieldMode) (held read : List ℕ) (c : ℕ) (cs : List ℕ) → IsFieldSound two_hundred (field_state outer done os n held) read → IsPlainIn outer n done → may_have_fields (read ++ c ∷ cs) ≡ false → host_at n held c ≡ false
text_none [] done os (plain m) held read c cs sound own h =
    no_host_in m held c cs (later (spelled done) (held ++ c ∷ cs) (ap may_have_fields (sym (append_assoc (spelled done) held (c ∷ cs)) ∙ ap (λ x. x ++ c ∷ cs) sound.spell) ∙ h))
text_none outer done os n held read c cs sound own h = absurd own

begins_none : (cs : List ℕ) (t u : FieldScanned) (read : List ℕ) → IsFieldSound two_hundred t read → IsPlain t → may_have_fields (read ++ cs) ≡ false → RunsFrom t cs u → BeginsNone t cs
begins_none [] t u read sound own h runs = tt
begins_none (c ∷ cs) t u read sound own h runs =
    let (n, one, rest) = runs_parts t (c ∷ []) cs u runs in
    let step = (roomy_parts _ _ n (one_runs t c n one)).1 in let none = text_none t.outer t.done t.openers t.mode t.held read c cs sound own h in
    let after = begins_none cs n u (read ++ c ∷ []) (runs_on t read (c ∷ []) n sound one) (subst PlainIf step (plain_step t.outer t.done t.openers t.mode t.held read c sound own none)) (ap may_have_fields (append_assoc read (c ∷ []) cs) ∙ h) rest in
    (none, λ next is. subst (λ (o : Option FieldScanned). NoneIf o) (sym step ∙ is) after)
  where
    NoneIf : Option FieldScanned → Type 0
    NoneIf None = Unit {0}
    NoneIf (Some x) = BeginsNone x cs

-- the pieces at the end
plain_pieces : (outer : List Level) (done : List Piece) (os : List ℕ) (n : FieldMode) (held read : List ℕ) → IsFieldSound two_hundred (field_state outer done os n held) read → IsPlainIn outer n done → AreUnfielded Fields (field_pieces (field_state outer done os n held))
plain_pieces [] done os (plain m) held read sound own = plain_closed m done held own sound.mode.1
plain_pieces outer done os n held read sound own = absurd own

-- such a text is live without fields if it is live with them
pub live_without : (cs : List ℕ) → may_have_fields cs ≡ false → IsLiveIn fielded_dialect cs → IsLiveIn plain_dialect cs
live_without cs h live =
    let (t, runs) = live_runs cs live in let sound = runs_sound cs t runs in let start = start_is_sound two_hundred in
    let own = plain_run cs field_text_start t [] start tt (begins_none cs field_text_start t [] start tt h runs) runs in
    let end = state_finishes two_hundred BelowLimit t.outer t.done t.openers t.mode t.held cs sound in
    let more : RunsFrom t end.more end.to = (steps_of BelowLimit t end.to end.more end.goes, room_of t end.to end.more end.goes) in let to = end.to in
    let last = plain_pieces to.outer to.done to.openers to.mode to.held (cs ++ end.more) (runs_on t cs end.more to sound more) (plain_run end.more t to cs sound own end.none more) in
    let reading = reading_at (cs ++ end.more) to (runs_both field_text_start cs end.more t to runs more) end.final in record {
      more = end.more;
      pieces = field_pieces to;
      scalars = end.scalars;
      reading = record {
        reads = record { spell = reading.reads.spell; fit = read_unfielded Fields (field_pieces to) [] last reading.reads.fit };
        balanced = reading.balanced;
        shallow = shallow_without ShallowFields (field_pieces to) 0 reading.shallow;
      };
    }

-- Where a text is cut that pieces spell: between two of them, or in one.
data CutAt (ps : List Piece) (cs : List ℕ) : Type 0 where
  between : (qs rs : List Piece) → ps ≡ qs ++ rs → spelled qs ≡ cs → CutAt ps cs
  in_piece : (qs rs : List Piece) (p : Piece) (c : ℕ) (front : List ℕ) (d : ℕ) (back : List ℕ) → ps ≡ qs ++ p ∷ rs → spelled qs ++ c ∷ front ≡ cs
      → p.text ≡ c ∷ (front ++ d ∷ back) → CutAt ps cs

cut_at : (ps : List Piece) (cs more : List ℕ) → spelled ps ≡ cs ++ more → CutAt ps cs
cut_at ps [] more is = between [] ps refl refl
cut_at [] (c ∷ cs) more is = absurd (cc)
cut_at (p ∷ ps) (c ∷ cs) more is = go (λ k same. cut_at ps k more same) (either p.text (spelled ps) (c ∷ cs) more is) where
  with_first : (k : List ℕ) → c ∷ cs ≡ p.text ++ k → CutAt ps k → CutAt (p ∷ ps) (c ∷ cs)
  with_first k one (between qs rs at spell) = between (p ∷ qs) rs (ap (λ l. p ∷ l) at) (ap (λ t. p.text ++ t) spell ∙ sym one)
  with_first k one (in_piece qs rs q e front d back at spell own) =
      in_piece (p ∷ qs) rs q e front d back (ap (λ l. p ∷ l) at) (append_assoc p.text (spelled qs) (e ∷ front) ∙ ap (λ t. p.text ++ t) spell ∙ sym one) own

  go : ((k : List ℕ) → spelled ps ≡ k ++ more → CutAt ps k) → Either p.text (c ∷ cs) more → CutAt (p ∷ ps) (c ∷ cs)
  go after (Either.shorter k one) = with_first k one (after k (append_cancel_left p.text (spelled ps) (k ++ more) (is ∙ ap (λ t. t ++ more) one ∙ append_assoc p.text k more)))
  go later_cut (Either.longer e k after one two) = in_piece [] ps p c cs e k refl refl one

-- the first characters by which the open piece grows
grown_first : (m n : Mode) (a b : List ℕ) → Grown m (a ++ b) n → (k : Mode) × Grown m a k
grown_first m n [] b grown = (m, refl)
grown_first m n (c ∷ a) b (next, grows, others) = let rest = grown_first next n a b others in (rest.0, (next, grows, rest.1))

front_grown : (class : Class) (m : Mode) (front : List ℕ) (d : ℕ) (back rest : List ℕ) → EndsWith class m (front ++ d ∷ back) rest → (k : Mode) × Grown m front k
front_grown class m front d back rest (ends_before n grown is stops) = grown_first m n front (d ∷ back) grown
front_grown class m front d back rest (ends_at n all e cut grown is closing) = go (either front (d ∷ back) all (e ∷ []) cut) where
  go : Either front all (e ∷ []) → (k : Mode) × Grown m front k
  go (Either.shorter k one) = grown_first m n front k (subst (λ t. Grown m t n) one grown)
  go (Either.longer x k after one two) =
      let left : x ∷ (k ++ d ∷ back) ≡ e ∷ [] = append_cancel_left all _ _ (sym (append_assoc all (x ∷ k) (d ∷ back)) ∙ ap (λ t. t ++ d ∷ back) (sym one) ∙ cut) in
      absurd (not_nothing k d back (cc))

-- a piece of two characters or more begins with one that opens it
record Opens (class : Class) (c : ℕ) (cs rest : List ℕ) : Type 0 where
  mode : Mode
  starts_as : start_of c ≡ starts.Open mode
  ends : EndsWith class mode cs rest

string_opens : (prefix : List ℕ) (q : ℕ) (body rest : List ℕ) (c : ℕ) (cs : List ℕ) → c ∷ cs ≡ prefix ++ q ∷ body → IsPrefix prefix → is_quote q ≡ true → EndsWith string (modes.Opened q) body rest → Opens string c cs rest
string_opens [] q body rest c cs is begun quotes ends =
    let first : q ≡ c = grind arith in let others : body ≡ cs = grind arith in
    rw (← first, ← others) (record { mode = modes.Opened q; starts_as = start-quote q quotes; ends = ends })
string_opens (a ∷ bs) q body rest c cs is (inl none) quotes ends = absurd (grind arith)
string_opens (a ∷ bs) q body rest c cs is (inr begun) quotes ends =
    let first : a ≡ c = grind arith in
    let others : (bs ++ q ∷ []) ++ body ≡ cs = append_assoc bs (q ∷ []) body ∙ (grind arith) in rw (← first, ← others) (record {
      mode = modes.Word (first_spelling a);
      starts_as = start-word a (prefix_word a bs begun).0;
      ends = ends_after string _ (modes.Opened q) (bs ++ q ∷ []) body rest (grown-prefix a bs q begun quotes) ends;
    })

more_than_one : (text : List ℕ) (c : ℕ) (front : List ℕ) (d : ℕ) (back : List ℕ) (x : ℕ) → text ≡ c ∷ (front ++ d ∷ back) → text ≡ x ∷ [] → ⊥
more_than_one text c front d back x spell one = not_nothing front d back (cc)

opens_read : (class : Class) (text rest : List ℕ) (c : ℕ) (front : List ℕ) (d : ℕ) (back : List ℕ) → text ≡ c ∷ (front ++ d ∷ back) → IsRead class text rest → Opens class c (front ++ d ∷ back) rest
opens_read class text rest c front d back spell (at_once so feed) = absurd (more_than_one text c front d back 10 spell feed)
opens_read class text rest c front d back spell (opened e es m at starts_as quiet ends) =
    let first : e ≡ c = cc in let others : es ≡ front ++ d ∷ back = cc in
    record { mode = m; starts_as = ap start_of (sym first) ∙ starts_as; ends = subst (λ t. EndsWith class m t rest) others ends }

opens_so : (class : Class) (text rest : List ℕ) (c : ℕ) (front : List ℕ) (d : ℕ) (back : List ℕ) → text ≡ c ∷ (front ++ d ∷ back) → InPlainClass class text → MayPrecedePlain class text rest → Opens class c (front ++ d ∷ back) rest
opens_so mark text rest c front d back spell (x, is, passes) before = absurd (more_than_one text c front d back x spell is)
opens_so operator text rest c front d back spell (x, is, passes) before = absurd (more_than_one text c front d back x spell is)
opens_so string text rest c front d back spell (inl short) before =
    string_opens short.prefix short.quote _ rest c _ (sym spell ∙ short.spell) short.begun short.opens (short_ends text short.prefix short.quote short.items rest short.spell short.begun short.opens short.each before)
opens_so string text rest c front d back spell (inr long) before =
    string_opens long.prefix long.quote _ rest c _ (sym spell ∙ long.spell) long.begun long.opens (long_ends long.quote long.items rest long.opens long.each long.first)
opens_so class text rest c front d back spell is before = opens_read class text rest c front d back spell (is_read class text rest tt is before)

-- the machine with fields grows alike
grown_with : (outer : List Level) (done : List Piece) (os : List ℕ) (m n : Mode) (held text : List ℕ) → may_have_fields (held ++ text) ≡ false → Grown m text n → Goes BelowLimit (field_state outer done os (plain m) held) text (field_state outer done os (plain n) (held ++ text))
grown_with outer done os m n held [] h grown = ap (λ k. field_state outer done os (plain k) held) grown ∙ ap (field_state outer done os (plain n)) (sym (append-nil held))
grown_with outer done os m n held (c ∷ cs) h (next, grows_so, others) =
    let here : (held ++ c ∷ []) ++ cs ≡ held ++ c ∷ cs = append_assoc held (c ∷ []) cs in
    goes-grows BelowLimit _ _ (plain next) c cs (plain_moves m held c (no_host_in m held c cs h) ∙ ap plain_move grows_so)
    (goes-to BelowLimit _ _ _ cs (grown_with outer done os next n (held ++ c ∷ []) cs (ap may_have_fields here ∙ h) others) (ap (field_state outer done os (plain n)) here))

-- and live with fields if it is live without: the machine goes through its first pieces
may_stand : (qs : List Piece) (front : List ℕ) → (qs ≡ [] → begins is_mark front ≡ false) → MayBegin qs front
may_stand [] front unmarked = unmarked refl
may_stand (q ∷ qs) front unmarked = tt

first_reached : (qs rs : List Piece) (front : List ℕ) → IsBalanced (qs ++ rs) → IsShallowPlain 0 (qs ++ rs) → may_have_fields (spelled qs ++ front) ≡ false → AreReadPlain qs front → (qs ≡ [] → begins is_mark front ≡ false) → (os : List ℕ) × Reaches qs os front
first_reached qs rs front balanced shallow own fit unmarked =
    let whole = sym (openers_through-append (Some []) qs rs) ∙ balanced_openers (qs ++ rs) balanced [] in
    let (os, opens) = some_before (λ o. openers_through o rs) refl (openers_through (Some []) qs) [] whole in
    (os, reach_open qs os front (read_with Fields qs front own fit) opens (shallow_with ShallowFields qs front 0 own fit (EachAtDepth-parts OpensShallow 0 qs rs shallow).0) (may_stand qs front unmarked))

pub live_with : (cs : List ℕ) → may_have_fields cs ≡ false → IsLiveIn plain_dialect cs → IsLiveIn fielded_dialect cs
live_with cs h live = go (cut_at live.pieces cs live.more live.reading.reads.spell) where
  first : (qs rs : List Piece) (front : List ℕ) → live.pieces ≡ qs ++ rs → spelled qs ++ front ≡ cs → AreReadPlain qs front → (qs ≡ [] → begins is_mark front ≡ false) → (os : List ℕ) × Reaches qs os front
  first qs rs front is spell fit unmarked =
      first_reached qs rs front (subst IsBalanced is live.reading.balanced) (subst (IsShallowPlain 0) is live.reading.shallow) (ap may_have_fields spell ∙ h) fit unmarked

  go : CutAt live.pieces cs → IsLiveIn fielded_dialect cs
  go (between qs rs is spell) = let fit = AreReadIn-first _ qs rs [] (subst (λ l. AreReadPlain l []) is live.reading.reads.fit) in
      let (os, at) = first qs rs [] is (append-nil (spelled qs) ∙ spell) (read_nothing _ qs _ fit) (λ none. refl) in
      runs_live cs at.to (subst (λ t. RunsFrom field_text_start t at.to) spell at.runs)
  go (in_piece qs rs p c front d back is spell own) = let all = subst (λ l. AreReadPlain l []) is live.reading.reads.fit in
      let after : spelled (p ∷ rs) ++ [] ≡ c ∷ ((front ++ d ∷ back) ++ (spelled rs ++ [])) = append_assoc p.text (spelled rs) [] ∙ ap (λ t. t ++ (spelled rs ++ [])) own in
      let fit = read_before _ qs c _ front (subst (AreReadPlain qs) after (AreReadIn-first _ qs (p ∷ rs) [] all)) in
      let read = AreReadIn-second _ qs (p ∷ rs) [] all in let opens = opens_so p.class p.text _ c front d back own read.0 read.1 in
      let (os, at) = first qs (p ∷ rs) (c ∷ front) is spell fit (λ none. false_from_ne_true _ (λ marks. let none : starts.Nothing ≡ starts.Open opens.mode = sym (start-mark c marks) ∙ opens.starts_as in absurd (cc))) in
      let (k, grown) = front_grown p.class opens.mode front d back _ opens.ends in let to = at.to in
      let end : FieldScanned = field_state to.outer (field_pieces to) to.openers (plain k) (c ∷ front) in let goes : Goes BelowLimit to (c ∷ front) end =
      goes-begins BelowLimit to (field_state to.outer (field_pieces to) to.openers (plain opens.mode) (c ∷ [])) end c front at.stops
      (ap (field_started to.outer (field_pieces to) to.openers c) opens.starts_as)
      (λ bracket. absurd (both_ways _ (opens_no c (starts.Open opens.mode) opens.starts_as (λ (is : starts.Open opens.mode ≡ starts.Operator). cc)) bracket))
      (grown_with to.outer (field_pieces to) to.openers opens.mode k (c ∷ []) front (later (spelled qs) (c ∷ front) (ap may_have_fields spell ∙ h)) grown) in
      let runs = runs_both field_text_start (spelled qs) (c ∷ front) to end at.runs (steps_of BelowLimit to end (c ∷ front) goes, room_of to end (c ∷ front) goes) in
      runs_live cs end (subst (λ t. RunsFrom field_text_start t end) spell runs)
