-- What opens and ends in a string's text: a field, at its `{` in the literal part or in a specification, and its specification with the
-- field.
use Rattle.py_lines.proofs.Prelude.{◌≡◌, ℕ, ◌+◌, ◌-◌, ◌<◌, Bool, true, false, ◌&&◌, ◌==◌, None, Some, List, [], ◌∷◌, ◌++◌, drop, length, nat_lt, refl, sym, ap, ◌∙◌, subst, arith, append-nil, append_assoc, length-append, encode_utf8_all, encode_utf8, len_utf8, both_ways, eq-eqb, eqb-true, le-ltb, lt-ltb, ltb-true, ne_eqb, low_scalar, nat_tests, encode_ascii, length-encode, len_utf8_ascii, len_utf8_bounds, is_closing, is_opening, is_break, is_backslash, is_quote, byte_len, Piece, begins, spelled, OpenField, Region, StringWithFields, LineFault, Progress, Scan, Host, Place, literal, specification, BeginsWith, OpenMode}
use Rattle.py_lines.proofs.FieldScans.Bytes.{byte_len-one}
use Rattle.py_lines.specs.Faults.{Cause, brace_too_deep, opens_too_deep, kind_of_cause, begins_nothing, closes_wrong}
use Rattle.py_lines.specs.Private.Mode as modes
use Rattle.py_lines.specs.Private.Machine.{move_of}
use Rattle.py_lines.specs.Private.FieldMachine.{FieldMode, FieldMove, FieldScanned, Level, plain, body, between, after_brace, grows, breaks, begins_code, opens_field, ends_field, before, field_ended, field_fresh, field_move, field_moved, field_state, frames, has_room_at, opened_level, room_step, roomy, specification_ended, text_place, At, between_move, body_move, opening_move}
use Rattle.py_lines.specs.Private.FieldFaults.{cause_in, cause_place, here}
use Rattle.py_lines.specs.Private.Scan.{ComesTo, FieldFollows, Follows, FramesFollow, IsOneItem, GoAlike, Goes, GoesOver, IsFieldFault, IsFirstByte, IsWrongIn, OpensInText, StandsAs, EndsField, ended_in, ends_line, entered, host_in, is_break_move, is_line_ending, is_text, mode_from, region_in, with_bytes, HasNoList, HasQuote}
use Rattle.py_lines.specs.declared.fault.FaultKind.TheVariants as fault_kind
use Rattle.py_lines.specs.declared.frames.Frame.TheVariants as frame
use Rattle.py_lines.specs.declared.mode.Region.TheVariants as regions
use Rattle.py_lines.specs.declared.mode.Mode.TheVariants as opens
use Rattle.py_lines.proofs.Text.CharacterTests.{not_quote}
use Rattle.py_lines.proofs.Text.FirstBytes.{first_low, first_other}
use Rattle.py_lines.proofs.FieldScans.Taking.{first_byte, follows_open, rests_exact, StepsOn, by_room, follows_free, goes_on, no_break, no_room, over_one, steps, wrong_at}
use Rattle.py_lines.proofs.FieldMachine.Runs.{room_grows}
use Rattle.py_lines.proofs.FieldScans.Frames.{innermost_field}
use Rattle.py_lines.proofs.FieldScans.Moves.{bare_in}
use Rattle.py_lines.proofs.FieldScans.Operators.{in_field, open-length, resumed}
use Rattle.py_lines.proofs.FieldScans.TextItems.{low_scalars, more_bytes, text_open, StaysText, held_nothing, text_is, text_stays}

-- the quote of a string with fields is one
host_quote : (m : OpenMode) (host : Host) (place : Place) (named : Bool) (at : At) → HasQuote m → mode_from m ≡ body host place named at
    → is_quote host.quote ≡ true
host_quote (opens.Fields h region n) host place named at quote same = let own : host_in h ≡ host = cc in ap (λ (x : Host). is_quote x.quote) (sym own) ∙ quote
host_quote m host place named at quote same = absurd (cc same)

-- a `{` that doesn't stand for itself
brace_moves : (host : Host) (place : Place) (held : List ℕ) → is_quote host.quote ≡ true → field_move (body host place false between) held 123 ≡ opening_move host place
unfolding field_move body_move between_move is_quote is_backslash is_break
brace_moves host place held quote = rw (not_quote 123 host.quote quote refl)

no_brace : (host : Host) (held : List ℕ) (c : ℕ) → c == 123 ≡ false → field_move (body host literal false after_brace) held c ≡ begins_code host
unfolding field_move body_move
no_brace host held c other = rw other

-- there is room for a field and for what its code begins with
code_room : (n c : ℕ) (h : Host) → has_room_at n c (begins_code h) ≡ nat_lt n 200 && has_room_at (n + 1) c breaks
unfolding has_room_at
code_room n c h = grind (arith, nat_tests)

-- what is wrong with a character that begins nothing stands there, whatever it is
code_cause : (P : Cause → Type 0) (depth c : ℕ) → is_break c ≡ false → P closes_wrong → P opens_too_deep → P begins_nothing → P (cause_in depth (plain modes.Free) c)
code_cause P depth c other closes opens nothing = grind arith

-- nothing of a field's code is read
abbrev pub code_start : FieldScanned → Host → Place → FieldScanned
code_start t host place = field_fresh (opened_level t host place (t.held ++ 123 ∷ []) ∷ t.outer) [] []

-- after a `{` in a literal part that is no other's first
abbrev pub after_it : FieldScanned → Host → FieldScanned
after_it t host = field_state t.outer t.done t.openers (body host literal false after_brace) (t.held ++ 123 ∷ [])

-- there each character does what it does in the code of the field that it opens, if there is room
module _ (t : FieldScanned) (host : Host) (room : nat_lt (frames t) 200 ≡ true) where
  abbrev There : FieldScanned
  There = after_it t host

  abbrev In : FieldScanned
  In = code_start t host literal

  deeper : frames t + 1 ≡ frames In
  deeper = omega arith

  code_step : (c : ℕ) → c == 123 ≡ false → room_step There c ≡ room_step In c
  unfolding field_move move_of
  code_step c other = by_room There c (begins_code host) (no_brace host There.held c other)
      ∙ ap (λ b. roomy b (field_moved There c (begins_code host))) (code_room (frames t) c host ∙ ap (λ b. b && has_room_at (frames t + 1) c breaks) room ∙ ap (λ n. has_room_at n c breaks) deeper)

  code_ending : (c : ℕ) → c == 123 ≡ false → ends_line There c ≡ ends_line In c
  code_ending c other = goes_on There c (begins_code host) (no_brace host There.held c other) refl
      ∙ ap (λ b. b && is_line_ending In.mode (field_move In.mode In.held c) c) (sym (ne_eqb (frames In) 0 (λ none. omega (arith, deeper, none))))

  code_cause_is : (c : ℕ) → cause_in (frames t) There.mode c ≡ cause_in (frames In) In.mode c
  code_cause_is c = rw (ne_eqb (frames t) 200 (λ full. omega (arith, full, ltb-true (frames t) 200 room)))

  code_here : here There ≡ here In
  code_here = ap byte_len (sym (append-nil (before literal In.outer)))

  code_fault : (b c : ℕ) → IsFirstByte b c → c == 123 ≡ false → room_step There c ≡ None → (f : LineFault) → IsFieldFault In c f → IsFieldFault There c f
  unfolding field_move move_of
  code_fault b c first other none f is =
      let broken : is_break c ≡ false = no_break b In refl refl refl (λ d at. refl) c first (sym (code_step c other) ∙ none) in
      let place : cause_place In (cause_in (frames In) In.mode c) ≡ cause_place There (cause_in (frames In) In.mode c) =
      code_cause (λ cause. cause_place In cause ≡ cause_place There cause) (frames In) c broken (sym code_here) (sym code_here) (sym code_here) in
      (is.0 ∙ ap kind_of_cause (sym (code_cause_is c)), is.1 ∙ place ∙ ap (cause_place There) (sym (code_cause_is c)))

  code_alike : (b : ℕ) → ((c : ℕ) → IsFirstByte b c → c == 123 ≡ false) → GoAlike b There In
  code_alike b other = let stepping = λ (c : ℕ) (first : IsFirstByte b c). code_step c (other c first) in
      let ending = λ (c : ℕ) (first : IsFirstByte b c). code_ending c (other c first) in
      let fault = λ (c : ℕ) (first : IsFirstByte b c). code_fault b c first (other c first) in grind (arith, code_here, stepping, ending, fault)

  code_stands : (bytes : List ℕ) (c : ℕ) → BeginsWith bytes c → c == 123 ≡ false → StandsAs bytes There In
  code_stands [] c next other = absurd (omega (arith, ap length next.spell, length-append (encode_utf8 c) (drop (len_utf8 c) []), length-encode c, len_utf8_bounds c))
  code_stands (b ∷ rest) c next other = let at : IsFirstByte b c = first_byte c b (drop (len_utf8 c) (b ∷ rest)) rest next.scalar next.spell in
      code_alike b (λ d first. first_other b d 123 first (omega arith) (λ is. both_ways _ other (eq-eqb c 123 (first_low b c (omega (arith, is)) at ∙ is))))

-- the sign with which bytes begin
first_sign : (d : ℕ) (bytes : List ℕ) → d < 128 → begins (λ c. c == d) bytes ≡ true → BeginsWith bytes d
first_sign d bytes low is = grind (arith, both_ways, encode_ascii, len_utf8_ascii, eqb-true, low_scalar)

-- a field is opened in a text of such a place
module _ (old : Scan) (t : FieldScanned) (follow : Follows old t) (host : StringWithFields) (region : Region) (is : mode_from old.mode ≡ body (host_in host) (region_in region) false between) where
  mode : t.mode ≡ body (host_in host) (region_in region) false between
  mode = sym follow.mode ∙ is

  place : text_place t.mode ≡ region_in region
  place = ap text_place mode

  quote : is_quote host.quote ≡ true
  quote = host_quote old.mode (host_in host) (region_in region) false between follow.quote is

  brace : field_move t.mode t.held 123 ≡ opening_move (host_in host) (region_in region)
  brace = ap (λ (m : FieldMode). field_move m t.held 123) mode ∙ brace_moves (host_in host) (region_in region) t.held quote

  stop : old.stop ≡ byte_len (before (region_in region) t.outer ++ (spelled t.done ++ t.held))
  stop = follow.stop ∙ ap (λ p. byte_len (before p t.outer ++ (spelled t.done ++ t.held))) place

  after : old.stop + 1 ≡ byte_len (before (region_in region) t.outer ++ (spelled t.done ++ (t.held ++ 123 ∷ [])))
  after = more_bytes (before (region_in region) t.outer) (spelled t.done) t.held (123 ∷ []) old.stop 1 stop (byte_len-one 123)

  -- the scan is in the code of the field
  enters : Follows (entered old host region) (code_start t (host_in host) (region_in region))
  enters = let field : OpenField = record { place = old.stop; host = host; region = region; start = old.start } in
      let start : old.start ≡ byte_len (before (region_in region) t.outer ++ spelled t.done) = follow.start ∙ ap (λ p. byte_len (before p t.outer ++ spelled t.done)) place in
      let level : Level = opened_level t (host_in host) (region_in region) (t.held ++ 123 ∷ []) in
      let bare = subst (λ (m : FieldMode). HasNoList m t.outer t.done t.openers) mode follow.no_list in
      let at : FieldFollows level t.outer field (FramesFollow t.outer t.done t.openers old.frames) = search (inner_place region old.stop level.front after, quote, start, bare, follow.frames) in
      follows_free (with_bytes (record old { frames = frame.Field field ∷ old.frames }) 1) (level ∷ t.outer) [] [] ([], field, old.frames, refl, refl, refl, at)
      (after ∙ ap byte_len (sym (append-nil (before literal (level ∷ t.outer)))))
    where
      inner_place : (r : Region) (n : ℕ) (front : List ℕ) → n + 1 ≡ byte_len (before (region_in r) t.outer ++ (spelled t.done ++ front)) → n ≡ byte_len (before (region_in r) t.outer ++ (spelled t.done ++ front)) - 1
      inner_place r n front at = omega (arith, at)

  -- the machine goes over the `{`
  steps_brace : (v : FieldMove) (to : FieldScanned) → opening_move (host_in host) (region_in region) ≡ v
      → has_room_at (frames t) 123 v ≡ true → field_moved t 123 v ≡ Some to
      → is_line_ending (body (host_in host) (region_in region) false between) v 123 ≡ false → StepsOn t 123 to
  steps_brace v to does room moves on =
      (steps t 123 v (brace ∙ does) to room moves, goes_on t 123 v (brace ∙ does) (ap (λ (m : FieldMode). is_line_ending m v 123) mode ∙ on))

-- in a literal part
module _ (old : Scan) (t : FieldScanned) (follow : Follows old t) (host : StringWithFields) (is : mode_from old.mode ≡ body (host_in host) literal false between) where
  opened_literal : StepsOn t 123 (after_it t (host_in host))
  opened_literal = let m : FieldMode = body (host_in host) literal false after_brace in
      steps_brace old t follow host regions.Literal is (grows m) (after_it t (host_in host)) refl (room_grows (frames t) 123 m) refl refl

  pub goes_literal : Goes t (123 ∷ []) (after_it t (host_in host))
  goes_literal = (follows_open old t follow, after_it t (host_in host), opened_literal.0, opened_literal.1, refl)

  -- the `{` stands where the scan stops
  pub brace_here : old.stop ≡ here (after_it t (host_in host)) - 1
  brace_here = omega (arith, after old t follow host regions.Literal is)

  opens_literal : (bytes : List ℕ) (new : Scan) (c : ℕ) → begins (λ c. c == 123) bytes ≡ true → BeginsWith (drop 1 bytes) c → c == 123 ≡ false → nat_lt (frames t) 200 ≡ true → new ≡ entered old host regions.Literal → GoesOver t bytes 1 new
  opens_literal bytes new c braced next other room like =
      over_one t (after_it t (host_in host)) 123 bytes new (first_sign 123 bytes (omega arith) braced) (follows_open old t follow) opened_literal
      (rw like (search (enters old t follow host regions.Literal is, code_stands t (host_in host) room (drop 1 bytes) c next other)))

  deep_literal : (bytes : List ℕ) (c : ℕ) → begins (λ c. c == 123) bytes ≡ true → BeginsWith (drop 1 bytes) c → c == 123 ≡ false → frames t ≡ 200 → IsWrongIn t bytes (record { kind = fault_kind.TooDeep; place = old.stop })
  deep_literal bytes c braced next other full = let at : FieldScanned = after_it t (host_in host) in
      let because : cause_in (frames at) at.mode c ≡ brace_too_deep = rw (eq-eqb (frames t) 200 full) in let braces = no_brace (host_in host) at.held c other in
      let spell : encode_utf8_all (123 ∷ []) ++ (encode_utf8 c ++ drop (len_utf8 c) (drop 1 bytes)) ≡ bytes =
      ap (λ x. encode_utf8_all (123 ∷ []) ++ x) next.spell ∙ ap (λ x. x ++ drop 1 bytes) (append-nil (encode_utf8 123)) ∙ (first_sign 123 bytes (omega arith) braced).spell in
      let one : IsOneItem t (123 ∷ c ∷ []) = (at, opened_literal.0, ap is_break_move braces, tt) in
      let none : room_step at c ≡ None = no_room at c (begins_code (host_in host)) braces
      (code_room (frames t) c (host_in host) ∙ ap (λ b. b && has_room_at (frames t + 1) c breaks) (le-ltb (frames t) 200 (omega (arith, full)))) in
      let fault : IsFieldFault at c (record { kind = fault_kind.TooDeep; place = old.stop }) = (ap kind_of_cause (sym because), brace_here ∙ ap (cause_place at) (sym because)) in
      search (spell, low_scalars (123 ∷ []) refl, next, goes_literal, one, none, fault)

-- in a specification
module _ (old : Scan) (t : FieldScanned) (follow : Follows old t) (host : StringWithFields) (is : mode_from old.mode ≡ body (host_in host) specification false between) where
  opens_specified : (bytes : List ℕ) (new : Scan) → begins (λ c. c == 123) bytes ≡ true → nat_lt (frames t) 200 ≡ true → new ≡ entered old host regions.Specification → GoesOver t bytes 1 new
  unfolding has_room_at
  opens_specified bytes new braced room like = let to : FieldScanned = code_start t (host_in host) specification in
      over_one t to 123 bytes new (first_sign 123 bytes (omega arith) braced) (follows_open old t follow)
      (steps_brace old t follow host regions.Specification is (opens_field (host_in host)) to refl room refl refl)
      (rw like (rests_exact (entered old host regions.Specification) to (drop 1 bytes) (enters old t follow host regions.Specification is)))

  deep_specified : (bytes : List ℕ) → begins (λ c. c == 123) bytes ≡ true → nat_lt (frames t) 200 ≡ false → IsWrongIn t bytes (record { kind = fault_kind.TooDeep; place = old.stop })
  unfolding has_room_at is_break is_closing is_opening
  deep_specified bytes braced full =
      let because : cause_in (frames t) t.mode 123 ≡ opens_too_deep = ap (λ (m : FieldMode). cause_in (frames t) m 123) (mode old t follow host regions.Specification is) in
      wrong_at t 123 bytes _ (first_sign 123 bytes (omega arith) braced) (follows_open old t follow) (no_room t 123 (opens_field (host_in host)) (brace old t follow host regions.Specification is) full)
      (ap kind_of_cause (sym because), follow.stop ∙ ap (cause_place t) (sym because))

-- if there is room, or else
pub opens_in : (old : Scan) (t : FieldScanned) (follow : Follows old t) (host : StringWithFields) (region : Region) (bytes : List ℕ) (new : Scan)
    → OpensInText (mode_from old.mode) bytes host region → (length old.frames < 200 → new ≡ entered old host region → GoesOver t bytes 1 new)
    × (length old.frames ≡ 200 → IsWrongIn t bytes (record { kind = fault_kind.TooDeep; place = old.stop }))
opens_in old t follow host region bytes new x = go region x where
  many : length old.frames ≡ frames t
  many = open-length old t follow

  go : (r : Region) → OpensInText (mode_from old.mode) bytes host r → (length old.frames < 200 → new ≡ entered old host r → GoesOver t bytes 1 new)
      × (length old.frames ≡ 200 → IsWrongIn t bytes (record { kind = fault_kind.TooDeep; place = old.stop }))
  go regions.Literal x = let (c, next, other) = x.next refl in (
    λ few. opens_literal old t follow host x.is bytes new c x.brace next other (lt-ltb (frames t) 200 (omega (arith, many, few))),
    λ full. deep_literal old t follow host x.is bytes c x.brace next other (omega (arith, many, full)),
  )
  go regions.Specification x = (
    λ few. opens_specified old t follow host x.is bytes new x.brace (lt-ltb (frames t) 200 (omega (arith, many, few))),
    λ full. deep_specified old t follow host x.is bytes x.brace (le-ltb (frames t) 200 (omega (arith, many, full))),
  )

-- a field ends with its specification
pub ends_over : (old : Scan) (t : FieldScanned) (bytes : List ℕ) (result : Progress) (new : Scan) → Follows old t → is_text old.mode ≡ true
    → field_move (mode_from old.mode) [] 125 ≡ ends_field → begins (λ c. c == 125) bytes ≡ true → EndsField old result new → ComesTo t bytes old result new
unfolding has_room_at
ends_over old t bytes result new follow text does braced ends =
    let in_text = text_open old t follow text in let own = text_is t.mode in_text in
    let bare_move : field_move t.mode [] 125 ≡ ends_field = ap (λ (m : FieldMode). field_move m [] 125) (sym follow.mode) ∙ does in
    let move : field_move t.mode t.held 125 ≡ ends_field = held_nothing t.mode t.held 125 in_text ∙ bare_move in
    let place : text_place t.mode ≡ specification = subst (StaysText (text_place t.mode)) bare_move (text_stays t.mode 125 in_text) in
    let (field, others, top) = in_field old t follow place in let (going, like) = ends field others top in
    let i = innermost_field t.outer t.done t.openers old.frames others field follow.frames top in let held : List ℕ = t.held ++ 125 ∷ [] in
    let to : FieldScanned = field_ended i.level i.outside held in let none : t.done ≡ [] = (bare_in t.mode t.outer t.done t.openers place follow.no_list).0 in
    let stands : old.stop ≡ byte_len (before specification (i.level ∷ i.outside) ++ t.held) =
    follow.stop ∙ ap (λ p. byte_len (before p t.outer ++ (spelled t.done ++ t.held))) place ∙ ap (λ (ls : List Level). byte_len (before specification ls ++ (spelled t.done ++ t.held))) i.outer_is
    ∙ ap (λ (ps : List Piece). byte_len (before specification (i.level ∷ i.outside) ++ (spelled ps ++ t.held))) none in
    let stop : old.stop + 1 ≡ byte_len (before i.level.place i.outside ++ (spelled i.level.done ++ held)) =
    more_bytes (before specification (i.level ∷ i.outside)) [] t.held (125 ∷ []) old.stop 1 stands (byte_len-one 125)
    ∙ ap byte_len (append_assoc (before i.level.place i.outside) (spelled i.level.done) held) in
    let over : GoesOver t bytes 1 (ended_in old field others) =
    over_one t to 125 bytes (ended_in old field others) (first_sign 125 bytes (omega arith) braced) (follows_open old t follow) (
      steps t 125 ends_field move to refl (ap (λ (ls : List Level). specification_ended ls held) i.outer_is),
      goes_on t 125 ends_field move (own.no_line ends_field 125),
    ) (rests_exact (ended_in old field others) to (drop 1 bytes) (resumed old t.outer t.openers field others i held stop)) in
    rw (going, like) over
