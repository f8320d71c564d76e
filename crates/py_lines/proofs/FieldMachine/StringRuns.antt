-- The machine with fields goes through a string with fields, where it goes through these.
use Rattle.py_lines.proofs.Prelude.{◌≡◌, ℕ, Bool, true, false, not, ◌&&◌, ◌==◌, eqb, List, [], ◌∷◌, ◌++◌, refl, sym, ap, ◌∙◌, subst, inr, append_assoc, append-nil, arith, list_all, list_any, and_parts, both_ways, eq-eqb, eqb-true, false_from_ne_true, or_right, Piece, string, begins, piece}
use Rattle.py_lines.specs.Character.{is_word_character, is_word_start, is_quote, is_r}
use Rattle.py_lines.specs.PieceGrammar.{has_triple, joined, is_prefix, MayPrecedeIn}
use Rattle.py_lines.specs.FieldStrings.{is_field_prefix, Host, Place, literal, quotes_of, IsPart, named_through, AreParts, IsFieldString, with_fields}
use Rattle.py_lines.specs.Private.Machine.{Mode, first_spelling, spelling_on}
use Rattle.py_lines.specs.Private.FieldMachine.{Level, At, between, after_one, after_two, FieldMode, plain, opened, empty, body, FieldMove, grows, closes, FieldScanned, field_state, field_fresh, host_of, is_after_two, between_move, field_move, field_pieces, field_moved}
use Rattle.py_lines.proofs.Fields.Prefixes.{field_letters}
use Rattle.py_lines.proofs.Fields.Parts.{BeginOpen, short_part}
use Rattle.py_lines.proofs.Fields.Elsewhere.{none_false, quotes_begin}
use Rattle.py_lines.proofs.FieldMachine.Runs.{Goes, StopsAt, goes-append, goes-grown, goes-to, goes-grows, goes-closes}
use Rattle.py_lines.proofs.FieldMachine.PieceRuns.{FieldFinds, fresh_found, word_goes}
use Rattle.py_lines.proofs.FieldMachine.StringParts.{settled, quotes_seen, MayGoOn, goes_on, body_moves, quote_grows, goes_on-quotes, FieldsGo, parts_go}

-- the second quote
pub second_quote : (host : Host) (held : List ℕ) → field_move (opened host) held host.quote ≡ grows (empty host)
unfolding field_move
second_quote host held = rw (eq-eqb host.quote host.quote refl)

stops_empty : (host : Host) (held rest : List ℕ) → begins (λ c. c == host.quote) rest ≡ false → StopsAt (empty host) held rest
unfolding field_move
stops_empty host held [] h = refl
stops_empty host held (c ∷ cs) h = rw h

-- the last quote
quote_closes : (host : Host) (named : Bool) (at : At) → host.is_long && not (is_after_two at) ≡ false → between_move host literal named at host.quote ≡ closes
unfolding between_move
quote_closes host named at h = rw (eq-eqb host.quote host.quote refl, h)

-- two quotes after parts of a long string don't close it: so none stands directly before them
none_before : (q : ℕ) (at : At) → has_triple q (quotes_seen q at ++ (q ∷ []) ∷ (q ∷ []) ∷ []) ≡ false → settled at ≡ between
none_before q at h = grind (arith, eq-eqb q q refl)

-- parts aren't empty
part_begins : (F : Host → List ℕ → Type 0) → BeginOpen F → (host : Host) (place : Place) (named : Bool) (part rest : List ℕ) → IsPart F host place named part rest → (c : ℕ) × (cs : List ℕ) × (part ≡ c ∷ cs)
part_begins F begin host place named part rest is = grind arith

-- the string with this prefix and this quote
abbrev host_in : ℕ → Bool → List ℕ → Host
host_in q long prefix = record { quote = q; is_long = long; is_raw = list_any is_r prefix }

-- The mode of a string whose literal part is open up to the end of this text, before the rest: in its body; or after its
-- first quote, if it is short and holds nothing yet. No three quotes in a row stand in what is read and `tail`.
pub data IsInLiteral (host : Host) (named : Bool) (mode : FieldMode) (text rest : List ℕ) (tail : List (List ℕ)) : Type 0 where
  in_body : (at : At) → mode ≡ body host literal named at → MayGoOn host literal named at rest → has_triple host.quote (quotes_seen host.quote at ++ tail) ≡ false
      → IsInLiteral host named mode text rest tail
  at_quote : (prefix : List ℕ) → mode ≡ opened host → text ≡ prefix ++ host.quote ∷ [] → is_field_prefix prefix ≡ true → host.is_long ≡ false → named ≡ false
      → IsInLiteral host named mode text rest tail

-- after one quote, what isn't a second one is read as between parts
pub moved_between : (outer : List Level) (done : List Piece) (openers : List ℕ) (host : Host) (held : List ℕ) (c : ℕ) (v : FieldMove) → field_moved (field_state outer done openers (opened host) held) c v ≡ field_moved (field_state outer done openers (body host literal false between) held) c v
moved_between outer done openers host held c v = grind arith

pub opened_moves : (host : Host) (held : List ℕ) (c : ℕ) → eqb c host.quote ≡ false → field_move (opened host) held c ≡ field_move (body host literal false between) held c
unfolding field_move
opened_moves host held c other = rw other

module _ (Room : ℕ → Type 0) (from : FieldScanned) where
  -- the string is open after the pieces before
  abbrev inside : FieldMode → List ℕ → FieldScanned
  inside mode held = field_state from.outer (field_pieces from) from.openers mode held

  pub prefix_goes : (prefix : List ℕ) (q : ℕ) (after : List ℕ) → is_field_prefix prefix ≡ true → is_quote q ≡ true → StopsAt from.mode from.held (prefix ++ q ∷ after) → Goes Room from (prefix ++ q ∷ []) (inside (opened (host_of prefix q)) (prefix ++ q ∷ []))
  unfolding field_move
  prefix_goes [] q after is quotes stops = absurd (both_ways _ refl is)
  prefix_goes (a ∷ bs) q after is quotes stops = let letters = field_letters (a ∷ bs) is in let same : letters.first ≡ a = cc letters.is in
      let word_at : FieldScanned = inside (plain (Mode.Word (spelling_on (first_spelling a) bs))) (a ∷ bs) in
      let string_at : FieldScanned = inside (opened (host_of (a ∷ bs) q)) ((a ∷ bs) ++ q ∷ []) in
      goes-append Room from word_at string_at (a ∷ bs) (q ∷ [])
      (word_goes Room from a bs (q ∷ after) (subst (λ x. is_word_start x ≡ true) same letters.starts) (and_parts (is_word_character a) (list_all is_word_character bs) letters.all).1 stops)
      (goes-grows Room word_at string_at (opened (host_of (a ∷ bs) q)) q [] (rw (is, quotes)) refl)

  -- what comes after the first quote
  begun_goes : (prefix : List ℕ) (q : ℕ) (after later : List ℕ) (mode : FieldMode) → is_field_prefix prefix ≡ true → is_quote q ≡ true → StopsAt from.mode from.held (prefix ++ q ∷ after) → Goes Room (inside (opened (host_of prefix q)) (prefix ++ q ∷ [])) later (inside mode ((prefix ++ q ∷ []) ++ later)) → Goes Room from (prefix ++ (q ∷ later)) (inside mode (prefix ++ (q ∷ later)))
  begun_goes prefix q after later mode is quotes stops goes =
      rw (← (append_assoc prefix (q ∷ []) later)) (goes-append Room from (inside (opened (host_of prefix q)) (prefix ++ q ∷ [])) _ (prefix ++ q ∷ []) later (prefix_goes prefix q after is quotes stops) goes)

  opened_goes : (host : Host) (held : List ℕ) (c : ℕ) (cs : List ℕ) (t : FieldScanned) → eqb c host.quote ≡ false → Goes Room (inside (body host literal false between) held) (c ∷ cs) t → Goes Room (inside (opened host) held) (c ∷ cs) t
  opened_goes host held c cs t other (next, step, room, others) = grind (arith, opened_moves, moved_between)

  -- the string is closed
  abbrev closed_at : List ℕ → FieldScanned
  closed_at text = field_fresh from.outer (field_pieces from ++ piece string text ∷ []) from.openers

  module _ (F : Host → List ℕ → Type 0) (begin : BeginOpen F) (go : FieldsGo Room from.outer (field_pieces from) from.openers F) where
    -- the machine goes from the string's start through this text of it, into its literal part
    pub record LiteralGoes (host : Host) (named : Bool) (text rest : List ℕ) (tail : List (List ℕ)) : Type 0 where
      pub mode : FieldMode
      pub goes : Goes Room from text (inside mode text)
      pub stands : IsInLiteral host named mode text rest tail

    -- after one quote, a part of a short string is read as between parts
    opened_part : (q : ℕ) (prefix held part more rest : List ℕ) (t : FieldScanned) → is_quote q ≡ true → IsPart F (host_in q false prefix) literal false part rest → Goes Room (inside (body (host_in q false prefix) literal false between) held) (part ++ more) t → Goes Room (inside (opened (host_in q false prefix)) held) (part ++ more) t
    opened_part q prefix held part more rest t quotes is_part goes =
        let host : Host = host_in q false prefix in let (c, cs, shape) = part_begins F begin host literal false part rest is_part in
        let other : eqb c q ≡ false =
        false_from_ne_true _ (λ same. short_part F begin q (list_any is_r prefix) false part rest [] cs quotes is_part (append-nil part ∙ shape ∙ ap (λ x. x ∷ cs) (eqb-true c q same))) in
        rw shape (opened_goes host held c (cs ++ more) t other (rw shape at goes))

    by_length : (long : Bool) (q : ℕ) (prefix : List ℕ) (parts : List (List ℕ)) (rest after : List ℕ) (tail : List (List ℕ)) → is_field_prefix prefix ≡ true → is_quote q ≡ true → AreParts F (host_in q long prefix) literal false parts rest → has_triple q (parts ++ tail) ≡ false → StopsAt from.mode from.held (prefix ++ q ∷ after) → LiteralGoes (host_in q long prefix) (named_through false parts) (prefix ++ (quotes_of (host_in q long prefix) ++ joined parts)) rest tail
    unfolding field_move
    by_length true q prefix parts rest after tail is quotes each none stops =
        let host : Host = host_in q true prefix in let begun : List ℕ = prefix ++ q ∷ [] in let held : List ℕ = begun ++ q ∷ q ∷ [] in
        let run = parts_go Room from.outer (field_pieces from) from.openers F begin go host literal false between held parts rest tail quotes each (goes_on host literal false (joined parts ++ rest)) none in
        let mode : FieldMode = body host literal (named_through false parts) run.to in
        let opened_at : FieldScanned = inside (opened (host_of prefix q)) begun in
        let body_at : FieldScanned = inside (body host literal false between) held in let last : FieldScanned = inside mode (held ++ joined parts) in
        let quotes_go : Goes Room opened_at (q ∷ q ∷ []) body_at =
        goes-grown Room from.outer (field_pieces from) from.openers (opened (host_of prefix q)) (body host literal false between) begun (q ∷ q ∷ [])
        (empty (host_of prefix q), second_quote (host_of prefix q), (body host literal false between, λ h. rw (eq-eqb q q refl), refl)) in record {
          mode = mode;
          goes = begun_goes prefix q after (q ∷ q ∷ joined parts) mode is quotes stops
              (goes-to Room opened_at last _ (q ∷ q ∷ joined parts) (goes-append Room opened_at body_at last (q ∷ q ∷ []) (joined parts) quotes_go run.goes) (ap (inside mode) (append_assoc begun (q ∷ q ∷ []) (joined parts))));
          stands = in_body run.to refl run.on run.open_yet;
        }
    by_length false q prefix [] rest after tail is quotes each none stops =
        record { mode = opened (host_of prefix q); goes = prefix_goes prefix q after is quotes stops; stands = at_quote prefix refl refl is refl refl }
    by_length false q prefix (p ∷ ps) rest after tail is quotes each none stops =
        let host : Host = host_in q false prefix in let begun : List ℕ = prefix ++ q ∷ [] in let parts : List (List ℕ) = p ∷ ps in
        let run = parts_go Room from.outer (field_pieces from) from.openers F begin go host literal false between begun parts rest tail quotes each (goes_on host literal false (joined parts ++ rest)) none in
        let mode : FieldMode = body host literal (named_through false parts) run.to in record {
          mode = mode;
          goes = begun_goes prefix q after (joined parts) mode is quotes stops (opened_part q prefix begun p (joined ps) (joined ps ++ rest) _ quotes each.0 run.goes);
          stands = in_body run.to refl run.on run.open_yet;
        }

    pub literal_goes : (host : Host) (prefix : List ℕ) (parts : List (List ℕ)) (rest after : List ℕ) (tail : List (List ℕ)) → is_field_prefix prefix ≡ true → host.is_raw ≡ list_any is_r prefix → is_quote host.quote ≡ true → AreParts F host literal false parts rest → has_triple host.quote (parts ++ tail) ≡ false → StopsAt from.mode from.held (prefix ++ host.quote ∷ after) → LiteralGoes host (named_through false parts) (prefix ++ (quotes_of host ++ joined parts)) rest tail
    literal_goes host prefix parts rest after tail is raw quotes each none stops =
        let at : Bool → Host = λ r. record { quote = host.quote; is_long = host.is_long; is_raw = r } in
        let P : Bool → Type 0 = λ r. AreParts F (at r) literal false parts rest → LiteralGoes (at r) (named_through false parts) (prefix ++ (quotes_of (at r) ++ joined parts)) rest tail in
        subst P (sym raw) (λ e. by_length host.is_long host.quote prefix parts rest after tail is quotes e none stops) each

    -- the last three quotes of a long string
    long_closes : (host : Host) (named : Bool) (at : At) (held : List ℕ) → host.is_long ≡ true → MayGoOn host literal named at (host.quote ∷ []) → settled at ≡ between → Goes Room (inside (body host literal named at) held) (host.quote ∷ host.quote ∷ host.quote ∷ []) (closed_at ((held ++ host.quote ∷ host.quote ∷ []) ++ host.quote ∷ []))
    long_closes host named at held long on none = let q = host.quote in let two : FieldMode = body host literal named after_two in
        let first : (h : List ℕ) → field_move (body host literal named at) h q ≡ grows (body host literal named after_one) =
        λ h. body_moves host literal named at h q [] on ∙ ap (λ x. between_move host literal named x q) none ∙ quote_grows host literal named between long refl in
        let second : (h : List ℕ) → field_move (body host literal named after_one) h q ≡ grows two =
        λ h. body_moves host literal named after_one h q [] (goes_on-quotes host literal named between (q ∷ [])) ∙ quote_grows host literal named after_one long refl in
        goes-append Room _ (inside two (held ++ q ∷ q ∷ [])) _ (q ∷ q ∷ []) (q ∷ [])
        (goes-grown Room from.outer (field_pieces from) from.openers (body host literal named at) two held (q ∷ q ∷ []) (body host literal named after_one, first, (two, second, refl)))
        (goes-closes Room (inside two (held ++ q ∷ q ∷ [])) q
        (body_moves host literal named after_two (held ++ q ∷ q ∷ []) q [] (goes_on-quotes host literal named after_one (q ∷ [])) ∙ quote_closes host named after_two (none_false host.is_long)))

    -- the end of a string, from its literal part
    ends_found : (G : Host → List ℕ → Type 0) (long : Bool) (q : ℕ) (raw named : Bool) (mode : FieldMode) (text rest : List ℕ) → Goes Room from text (inside mode text) → IsInLiteral (record { quote = q; is_long = long; is_raw = raw }) named mode text (quotes_of (record { quote = q; is_long = long; is_raw = raw })) ((q ∷ []) ∷ (q ∷ []) ∷ []) → is_quote q ≡ true → MayPrecedeIn (with_fields G) string (text ++ quotes_of (record { quote = q; is_long = long; is_raw = raw })) rest → FieldFinds Room from (text ++ quotes_of (record { quote = q; is_long = long; is_raw = raw })) (piece string (text ++ quotes_of (record { quote = q; is_long = long; is_raw = raw })) ∷ []) from.openers rest
    ends_found G true q raw named mode text rest goes (in_body at is on open_yet) quotes before =
        let host : Host = record { quote = q; is_long = true; is_raw = raw } in let three : List ℕ = q ∷ q ∷ q ∷ [] in
        let last : FieldScanned = closed_at ((text ++ q ∷ q ∷ []) ++ q ∷ []) in
        let closing = subst (λ (m : FieldMode). Goes Room (inside m text) three last) (sym is) (long_closes host named at text refl on (none_before q at open_yet)) in
        fresh_found Room from string (text ++ three) from.openers rest (goes-to Room from last _ (text ++ three) (goes-append Room from (inside mode text) last text three goes closing) (ap closed_at (append_assoc text (q ∷ q ∷ []) (q ∷ []))))
    ends_found G true q raw named mode text rest goes (at_quote prefix is spell begun short unnamed) quotes before = absurd (both_ways _ short refl)
    ends_found G false q raw named mode text rest goes (in_body at is on open_yet) quotes before =
        let host : Host = record { quote = q; is_long = false; is_raw = raw } in
        let move = body_moves host literal named at text q [] on ∙ quote_closes host named (settled at) refl in
        let closing = subst (λ (m : FieldMode). Goes Room (inside m text) (q ∷ []) (closed_at (text ++ q ∷ []))) (sym is) (goes-closes Room (inside (body host literal named at) text) q move) in
        fresh_found Room from string (text ++ q ∷ []) from.openers rest (goes-append Room from (inside mode text) (closed_at (text ++ q ∷ [])) text (q ∷ []) goes closing)
    ends_found G false q raw named mode text rest goes (at_quote prefix is spell begun short unnamed) quotes before =
        let host : Host = record { quote = q; is_long = false; is_raw = raw } in let held : List ℕ = text ++ q ∷ [] in
        let last : FieldScanned = inside (empty host) held in
        let whole : held ≡ prefix ++ q ∷ q ∷ [] = ap (λ t. t ++ q ∷ []) spell ∙ append_assoc prefix (q ∷ []) (q ∷ []) in
        let closing = subst (λ (m : FieldMode). Goes Room (inside m text) (q ∷ []) last) (sym is) (goes-grows Room (inside (opened host) text) last (empty host) q [] (second_quote host text) refl) in
        record {
          done = field_pieces from;
          mode = empty host;
          held = held;
          goes = goes-append Room from (inside mode text) last text (q ∷ []) goes closing;
          pieces_are = refl;
          stops = stops_empty host held rest (before prefix q whole (inr (or_right (is_prefix prefix) (is_field_prefix prefix) begun)) quotes);
        }

    pub field_string_found : (G : Host → List ℕ → Type 0) (text rest : List ℕ) → IsFieldString F text → MayPrecedeIn (with_fields G) string text rest → StopsAt from.mode from.held (text ++ rest) → FieldFinds Room from text (piece string text ∷ []) from.openers rest
    field_string_found G text rest is before stops =
        let host = is.host in let quotes = quotes_of host in let q = host.quote in let front : List ℕ = is.prefix ++ (quotes ++ joined is.parts) in
        let whole : front ++ quotes ≡ text = simp (is.spell, append_assoc) in let begin_quotes = quotes_begin host in
        let first : text ++ rest ≡ is.prefix ++ q ∷ ((begin_quotes.0 ++ (joined is.parts ++ quotes)) ++ rest) = simp (is.spell, begin_quotes.1, append_assoc) in
        let run = literal_goes host is.prefix is.parts quotes _ ((q ∷ []) ∷ (q ∷ []) ∷ []) is.begun is.raw is.opens is.each is.first (subst (StopsAt from.mode from.held) first stops) in
        subst (λ t. FieldFinds Room from t (piece string t ∷ []) from.openers rest) whole
        (ends_found G host.is_long q host.is_raw (named_through false is.parts) run.mode front rest run.goes run.stands is.opens (subst (λ t. MayPrecedeIn (with_fields G) string t rest) (sym whole) before))
