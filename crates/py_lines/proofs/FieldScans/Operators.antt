-- What an operator of code comes to: it opens or closes a bracket, ends a field, begins its specification, or is a sign.
use Rattle.py_lines.proofs.Prelude.{◌≡◌, ℕ, ◌+◌, true, false, not, ◌||◌, ◌&&◌, ◌==◌, Option, None, Some, List, [], ◌∷◌, ◌++◌, length, nat_lt, refl, sym, ap, ◌∙◌, subst, arith, append-nil, append_assoc, byte, len_utf8, if◌then◌else◌, and_right, eq-eqb, le-ltb, lt-ltb, ne_eqb, is_break, is_operator, is_quote, operator, Piece, spelled, byte_len, is_opening, is_closing, closing_of, FaultKind, OpenField, Frame, Scan, Progress, Host, literal, specification, piece}
use Rattle.py_lines.specs.Faults.{Cause, kind_of_cause, closes_wrong, opens_too_deep, begins_nothing}
use Rattle.py_lines.specs.declared.fault.FaultKind.TheVariants as kinds
use Rattle.py_lines.specs.declared.mode.Region.TheVariants as regions
use Rattle.py_lines.specs.declared.frames.Frame.TheVariants as frame
use Rattle.py_lines.specs.declared.mode.Mode.TheVariants as opens
use Rattle.py_lines.specs.declared.scan.Progress.TheVariants as progress
use Rattle.py_lines.specs.Private.Machine.{start_of, Bracket, brackets_of, Start as starts}
use Rattle.py_lines.specs.Private.FieldMachine.{between, body, breaks, Level, FieldScanned, field_state, field_fresh, field_closed, field_move, field_started, field_operator, code_operator, openers_with, field_ended, before, frames, has_room_at, room_step, text_place}
use Rattle.py_lines.specs.Private.Frames.{IsClosedBy, IsInnermostFrame, OpensFrame}
use Rattle.py_lines.specs.Private.Scan.{bracket_openers, Follows, FramesFollow, IsFieldFault, TakesOne, ended_in, passed, with_bytes, wrong_here}
use Rattle.py_lines.proofs.Machine.Starts.{start-operator}
use Rattle.py_lines.proofs.LineScan.AsciiRuns.{operator-no_break}
use Rattle.py_lines.proofs.Text.CharacterTests.{each_of, none_of}
use Rattle.py_lines.proofs.Pieces.OpenBrackets.{closing-not-opening}
use Rattle.py_lines.proofs.FieldMachine.ListBrackets.{opening_pushes, closing_pops, others_keep}
use Rattle.py_lines.proofs.FieldMachine.PieceRuns.{IsNoColon, operator_stays}
use Rattle.py_lines.proofs.FieldScans.Bytes.{push_two}
use Rattle.py_lines.proofs.FieldScans.Frames.{frames-length, frames_alike, none_outside, InnermostField, innermost_bracket, innermost_field, bracket_opened, bracket_closed, neutral_alike, specified_field}
use Rattle.py_lines.proofs.FieldScans.Moves.{bare_in, said}
use Rattle.py_lines.proofs.FieldScans.Taking.{Broken, StandsAt, broken, follows_free, goes_on, no_line_before, no_opening, no_room, no_step, one_operator, piece_after, stands_at, steps}

-- why a character is refused in code that ends no line
abbrev pub code_cause : ℕ → Cause
code_cause c = if is_closing c then closes_wrong else (if is_opening c then opens_too_deep else begins_nothing)

-- what is wrong there
pub fault_in_code : (old : Scan) (t : FieldScanned) (c : ℕ) (kind : FaultKind) → Follows old t → text_place t.mode ≡ literal → is_break c ≡ false → kind_of_cause (code_cause c) ≡ kind → IsFieldFault t c (record { kind = kind; place = old.stop })
fault_in_code old t c kind follow place none is = grind arith

opening-not-closing : (c : ℕ) → is_opening c ≡ true → is_closing c ≡ false
unfolding is_opening is_closing
opening-not-closing c h = none_of is_closing (40 ∷ 91 ∷ 123 ∷ []) c refl h

-- a bracket that closes none, or another than the innermost
none_closed : (done : List Piece) (c : ℕ) → is_closing c ≡ true → field_operator [] done [] c ≡ None
unfolding openers_with
none_closed done c closing = rw (closing-not-opening c closing, closing)

wrong_is : (outer : List Level) (done : List Piece) (o : ℕ) (os : List ℕ) (c : ℕ) → is_closing c ≡ true → c == closing_of o ≡ false → field_operator outer done (o ∷ os) c ≡ None
unfolding openers_with
wrong_is [] done o os c closing other = rw (closing-not-opening c closing, closing, other)
wrong_is (l ∷ ls) done o os c closing other = rw (closing-not-opening c closing, closing, other)

-- only `:` is no piece of its list, in a field where no bracket is open
pub no_colon : (outer : List Level) (openers : List ℕ) (c : ℕ) → (c == 58) && (length openers == 0) ≡ false → IsNoColon outer openers c
no_colon [] openers c h = tt
no_colon (l ∷ ls) openers c h = h

opening_no_colon : (c : ℕ) → is_opening c ≡ true → c == 58 ≡ false
unfolding is_opening
opening_no_colon c opens = each_of (λ (x : ℕ). x == 58 ≡ false) (40 ∷ 91 ∷ 123 ∷ []) c (refl, (refl, (refl, tt))) opens

-- what was opened last is one
pub innermost_is : (top : Option Frame) (fs others : List Frame) (f : Frame) → IsInnermostFrame top fs → fs ≡ f ∷ others → top ≡ Some f
innermost_is None fs others f none is = absurd (cc (none, is))
innermost_is (Some g) fs others f (rest, is) same = cc (is, same)

-- so many brackets and fields are open
pub open-length : (scan : Scan) (t : FieldScanned) → Follows scan t → length scan.frames ≡ frames t
open-length scan t f = frames-length t.outer t.done t.openers scan.frames f.frames

opening_room : (n c : ℕ) → is_opening c ≡ true → has_room_at n c breaks ≡ nat_lt n 200
unfolding has_room_at
opening_room n c opens = ap (λ b. not b || nat_lt n 200) opens

-- a specification stands in a field
pub in_field : (scan : Scan) (t : FieldScanned) → Follows scan t → text_place t.mode ≡ specification
    → (field : OpenField) × (others : List Frame) × (scan.frames ≡ frame.Field field ∷ others)
in_field scan t f there = specified_field t.outer t.done t.openers scan.frames (bare_in t.mode t.outer t.done t.openers there f.no_list) f.frames

-- the scan is back in the string of a field that has ended
pub resumed : (old : Scan) (outer : List Level) (openers : List ℕ) (field : OpenField) (others : List Frame) (i : InnermostField outer openers field others) (text : List ℕ) → old.stop + 1 ≡ byte_len (before i.level.place i.outside ++ (spelled i.level.done ++ text)) → Follows (ended_in old field others) (field_ended i.level i.outside text)
resumed old outer openers field others i text stop = grind arith

-- a character that ends the open piece of code, and is an operator
module _ (old : Scan) (c : ℕ) (t : FieldScanned) (follow : Follows old t) (is : field_move t.mode t.held c ≡ breaks) (operates : is_operator c ≡ true) where
  abbrev Done : List Piece
  Done = field_closed t.mode t.done t.held

  starts_with : start_of c ≡ starts.Operator
  starts_with = start-operator c operates

  place : text_place t.mode ≡ literal
  place = (said t.mode t.held c breaks follow.holds is).place

  at : StandsAt t old.frames old.start old.stop
  at = stands_at old t follow place

  b : Broken t old.frames old.start old.stop at c
  b = broken t old.frames old.start old.stop at c follow.holds is

  -- the byte after it
  after_one : old.stop + 1 ≡ byte_len (before literal t.outer ++ spelled Done) + len_utf8 c
  after_one = omega (arith, b.after, one_operator c starts_with)

  takes : (new made : Scan) (next : FieldScanned) → new ≡ made → field_operator t.outer Done t.openers c ≡ Some next → has_room_at (frames t) c breaks ≡ true → Follows made next → TakesOne t c old (progress.Going 1) new
  takes new made next like same room follows = let step = steps t c breaks is next room (ap (field_started t.outer Done t.openers c) starts_with ∙ same) in
      let on = goes_on t c breaks is (no_line_before t.mode c starts.Operator starts_with (λ other. absurd (cc))) in
      (refl, next, step, on, subst (λ (scan : Scan). Follows scan next) (sym like) follows)

  -- it is refused
  wrongs : (kind : FaultKind) → room_step t c ≡ None → kind_of_cause (code_cause c) ≡ kind → TakesOne t c old (wrong_here old kind) old
  wrongs kind none why = (none, fault_in_code old t c kind follow place (operator-no_break c operates) why, refl)

  refuses : field_operator t.outer Done t.openers c ≡ None → room_step t c ≡ None
  refuses none = no_step t c breaks is (ap (field_started t.outer Done t.openers c) starts_with ∙ none)

  -- it is a piece of its list, after which these brackets are open
  stays : (new : Scan) (fs : List Frame) (after : List ℕ) → new ≡ passed (record old { frames = fs }) 1 → openers_with t.openers c ≡ Some after → IsNoColon t.outer t.openers c → has_room_at (frames t) c breaks ≡ true → FramesFollow t.outer (Done ++ piece operator (c ∷ []) ∷ []) after fs → TakesOne t c old (progress.Going 1) new
  stays new fs after like opens colon room frames =
      takes new (passed (record old { frames = fs }) 1) (field_fresh t.outer (Done ++ piece operator (c ∷ []) ∷ []) after) like
      (operator_stays t.outer Done t.openers after c opens colon) room
      (follows_free (with_bytes (record old { frames = fs }) 1) t.outer (Done ++ piece operator (c ∷ []) ∷ []) after frames (ap (λ (n : ℕ). old.stop + n) (sym (one_operator c starts_with)) ∙ piece_after old.stop t.outer Done operator c b.after))

  -- it opens a bracket, if there is room
  pub bracket_opens : is_opening c ≡ true → (more : List Frame) → OpensFrame old.frames (frame.Bracket c old.stop) true more → (new : Scan) → new ≡ passed (record old { frames = more }) 1 → TakesOne t c old (progress.Going 1) new
  bracket_opens opens more (few, more_is) new like = let many = open-length old t follow in
      stays new more (c ∷ t.openers) like (opening_pushes t.openers c opens) (no_colon t.outer t.openers c (ap (λ b. b && (length t.openers == 0)) (opening_no_colon c opens)))
      (opening_room (frames t) c opens ∙ lt-ltb (frames t) 200 (omega (arith, many, few)))
      (subst (FramesFollow t.outer (Done ++ piece operator (c ∷ []) ∷ []) (c ∷ t.openers)) (sym more_is) (bracket_opened t.outer Done t.openers old.frames c old.stop b.frames opens (omega (arith, many, few)) b.after))

  pub bracket_too_deep : is_opening c ≡ true → length old.frames ≡ 200 → TakesOne t c old (wrong_here old kinds.TooDeep) old
  bracket_too_deep opens full =
      wrongs kinds.TooDeep (no_room t c breaks is (opening_room (frames t) c opens ∙ le-ltb (frames t) 200 (omega (arith, open-length old t follow, full))))
      (rw (opening-not-closing c opens, opens) refl)

  -- a sign is taken, whatever is open
  pub sign_passes : is_opening c ≡ false → is_closing c ≡ false → IsNoColon t.outer t.openers c → (new : Scan) → new ≡ passed old 1 → TakesOne t c old (progress.Going 1) new
  sign_passes opens closes colon new like = stays new old.frames t.openers like (others_keep t.openers c opens closes) colon (no_opening (frames t) c opens)
      (frames_alike t.outer Done (Done ++ piece operator (c ∷ []) ∷ []) t.openers old.frames (neutral_alike Done operator (c ∷ []) opens closes) b.frames)

  -- inside brackets, of which the innermost is known
  module _ (opener spot : ℕ) (others : List Frame) (top : old.frames ≡ frame.Bracket opener spot ∷ others) where
    inner : (k : Bracket) × (ks : List Bracket) × (brackets_of Done ≡ Some (k ∷ ks)) × (spot ≡ byte_len (before literal t.outer) + k.place) × (t.openers ≡ opener ∷ bracket_openers ks)
    inner = innermost_bracket t.outer Done t.openers old.frames others opener spot b.frames top

    abbrev Others : List ℕ
    Others = bracket_openers inner.1

    colon : IsNoColon t.outer t.openers c
    colon = no_colon t.outer t.openers c (ap (λ (os : List ℕ). (c == 58) && (length os == 0)) inner.4 ∙ and_right (c == 58) (length (opener ∷ Others) == 0) (ne_eqb (length (opener ∷ Others)) 0 (λ none. omega (arith, none))))

    bracket_closes : is_closing c ≡ true → c ≡ closing_of opener → (new : Scan) → new ≡ passed (record old { frames = others }) 1 → TakesOne t c old (progress.Going 1) new
    bracket_closes closing fits new like = let same : c == closing_of opener ≡ true = eq-eqb c (closing_of opener) fits in
        stays new others Others like (ap (λ (os : List ℕ). openers_with os c) inner.4 ∙ closing_pops opener Others c closing same) colon (no_opening (frames t) c (closing-not-opening c closing))
        (bracket_closed t.outer Done t.openers Others old.frames others opener spot c b.frames top inner.4 closing same)

    bracket_wrong : is_closing c ≡ true → (c ≡ closing_of opener → ⊥) → room_step t c ≡ None
    bracket_wrong closing wrong = refuses (ap (λ (os : List ℕ). field_operator t.outer Done os c) inner.4 ∙ wrong_is t.outer Done opener Others c closing (ne_eqb c (closing_of opener) wrong))

  -- where nothing is open
  module _ (none : old.frames ≡ []) where
    outside : (t.outer ≡ []) × (t.openers ≡ [])
    outside = none_outside t.outer Done t.openers old.frames b.frames (ap length none)

    colon_outside : IsNoColon t.outer t.openers c
    colon_outside = subst (λ (ls : List Level). IsNoColon ls t.openers c) (sym outside.0) tt

    none_shut : is_closing c ≡ true → room_step t c ≡ None
    none_shut closing = refuses (ap (λ (os : List ℕ). field_operator t.outer Done os c) outside.1 ∙ ap (λ (ls : List Level). field_operator ls Done [] c) outside.0 ∙ none_closed Done c closing)

  -- it closes the innermost bracket
  pub closes_bracket : is_closing c ≡ true → (more : List Frame) → IsClosedBy old.frames c more → (new : Scan) → new ≡ passed (record old { frames = more }) 1 → TakesOne t c old (progress.Going 1) new
  closes_bracket closing more (opener, spot, top, fits) new like = bracket_closes opener spot more top closing fits new like

  -- outside brackets, in a field that is known
  module _ (field : OpenField) (others : List Frame) (top : old.frames ≡ frame.Field field ∷ others) where
    i : InnermostField t.outer t.openers field others
    i = innermost_field t.outer Done t.openers old.frames others field b.frames top

    in_code : (o : Option FieldScanned) → field_operator (i.level ∷ i.outside) Done [] c ≡ o → field_operator t.outer Done t.openers c ≡ o
    in_code o same = ap (λ (os : List ℕ). field_operator t.outer Done os c) i.none ∙ ap (λ (ls : List Level). field_operator ls Done [] c) i.outer_is ∙ same

    -- its string goes on with the text of the field's code, and this after it
    code_text : old.stop + 1 ≡ byte_len (before i.level.place i.outside ++ (spelled i.level.done ++ (i.level.front ++ (spelled Done ++ c ∷ []))))
    code_text = after_one ∙ ap (λ (ls : List Level). byte_len (before literal ls ++ spelled Done) + len_utf8 c) i.outer_is
        ∙ sym (push_two (before literal (i.level ∷ i.outside)) (spelled Done) c) ∙ ap byte_len (simp append_assoc)

    pub field_ends : c ≡ byte "}" → (result : Progress) (new : Scan) → (result ≡ progress.Going 1) × (new ≡ ended_in old field others) → TakesOne t c old result new
    unfolding is_opening code_operator
    field_ends ends result new (going, like) = let text : List ℕ = i.level.front ++ (spelled Done ++ c ∷ []) in rw going
        (takes new (ended_in old field others) (field_ended i.level i.outside text) like (in_code (Some (field_ended i.level i.outside text)) (rw (eq-eqb c (byte "}") ends)))
        (no_opening (frames t) c (ap is_opening ends)) (resumed old t.outer t.openers field others i text code_text))

    pub field_specifies : (c ≡ byte "}" → ⊥) → c ≡ byte ":" → (new : Scan) → new ≡ record old { mode = opens.Fields field.host regions.Specification false; start = field.start; stop = old.stop + 1 } → TakesOne t c old (progress.Going 1) new
    unfolding is_opening code_operator
    field_specifies ends specifies new like =
        takes new (record old { mode = opens.Fields field.host regions.Specification false; start = field.start; stop = old.stop + 1 })
        (field_state (i.level ∷ i.outside) [] [] (body i.level.host specification false between) (i.level.front ++ (spelled Done ++ c ∷ []))) like
        (in_code _ (rw (ne_eqb c (byte "}") ends, eq-eqb c (byte ":") specifies))) (no_opening (frames t) c (ap is_opening specifies)) (record {
          mode = ap (λ h. body h specification false between) i.at.host;
          holds = tt;
          no_list = (refl, refl, λ none. absurd (cc));
          quote = ap (λ (h : Host). is_quote h.quote) i.at.host ∙ i.at.quote;
          start = i.at.start ∙ ap byte_len (sym (append-nil (before i.level.place i.outside ++ spelled i.level.done)));
          frames = ([], field, others, refl, refl, top, i.at);
          stop = code_text ∙ ap byte_len (sym (append_assoc (before i.level.place i.outside) (spelled i.level.done) (i.level.front ++ (spelled Done ++ c ∷ []))));
        })

    field_shuts_none : (c ≡ byte "}" → ⊥) × (c ≡ byte ":" → ⊥) → is_closing c ≡ true → room_step t c ≡ None
    unfolding code_operator openers_with
    field_shuts_none (ends, specifies) closing =
        refuses (in_code None (rw (ne_eqb c (byte "}") ends, ne_eqb c (byte ":") specifies, closing-not-opening c closing, closing)))

    colon_in_field : (c ≡ byte "}" → ⊥) × (c ≡ byte ":" → ⊥) → IsNoColon t.outer t.openers c
    colon_in_field (ends, specifies) = no_colon t.outer t.openers c (ap (λ b. b && (length t.openers == 0)) (ne_eqb c 58 specifies))

  -- it is neither `}` nor `:` outside brackets of a field's code
  module _ (apart : (field : OpenField) (others : List Frame) → old.frames ≡ frame.Field field ∷ others → (c ≡ byte "}" → ⊥) × (c ≡ byte ":" → ⊥)) where
    by_innermost : (P : Type 0) → (old.frames ≡ [] → P) → ((opener spot : ℕ) (others : List Frame) → old.frames ≡ frame.Bracket opener spot ∷ others → P)
        → ((field : OpenField) (others : List Frame) → old.frames ≡ frame.Field field ∷ others → P) → P
    by_innermost P none bracket field = go old.frames refl where
      go : (fs : List Frame) → old.frames ≡ fs → P
      go [] is = none is
      go (frame.Bracket opener spot ∷ others) is = bracket opener spot others is
      go (frame.Field f ∷ others) is = field f others is

    -- it closes nothing
    pub closes_none : is_closing c ≡ true → ((others : List Frame) → ¬ (IsClosedBy old.frames c others)) → TakesOne t c old (wrong_here old kinds.WrongClose) old
    closes_none closing wrong = wrongs kinds.WrongClose (by_innermost (room_step t c ≡ None) (λ none. none_shut none closing)
        (λ opener spot others top. bracket_wrong opener spot others top closing (λ fits. wrong others (opener, spot, top, fits)))
        (λ field others top. field_shuts_none field others top (apart field others top) closing)) (rw closing refl)

    -- it is a sign
    pub sign_taken : is_opening c ≡ false → is_closing c ≡ false → (new : Scan) → new ≡ passed old 1 → TakesOne t c old (progress.Going 1) new
    sign_taken opens closes = sign_passes opens closes
        (by_innermost (IsNoColon t.outer t.openers c) colon_outside colon (λ field others top. colon_in_field field others top (apart field others top)))
