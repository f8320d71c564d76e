-- The machine with fields goes through lists of pieces, and so through fields, where it goes through those in them: so through all.
use Rattle.py_lines.proofs.Prelude.{◌≡◌, ℕ, ◌+◌, true, false, Some, List, [], ◌∷◌, ◌++◌, length, refl, sym, ap, ◌∙◌, subst, inl, inr, append_assoc, append-nil, add-zero, Bool, ◌==◌, arith, both_ways, is_quote, is_operator, is_backslash, is_break, piece}
use Rattle.py_lines.specs.Piece.{Class, mark, string, operator, Piece, is_mark_class, begins_marked, spelled}
use Rattle.py_lines.specs.PieceGrammar.{InClassIn, MayPrecedeIn, AreReadIn, joined, has_triple}
use Rattle.py_lines.specs.Balance.{is_opener, depth_after, is_opening}
use Rattle.py_lines.specs.Fields.{HasNoColon, AreInside, IsField, simple, specified}
use Rattle.py_lines.specs.FieldStrings.{Host, with_fields, Place, literal, specification, begins_double, named_through, AreParts}
use Rattle.py_lines.specs.Private.FieldMachine.{Level, FieldScanned, field_state, field_pieces, openers_by, openers_through, levels_open, frames, At, between, after_brace, FieldMode, body, begins_code, ends_field, field_fresh, field_ended, opening_move, between_move, body_move, field_move, field_moved, field_started, code_operator}
use Rattle.py_lines.proofs.Fields.Parts.{BeginOpen, some_head}
use Rattle.py_lines.proofs.Pieces.OpenBrackets.{some_before}
use Rattle.py_lines.proofs.Machine.StringSteps.{short_ends, long_ends}
use Rattle.py_lines.proofs.Fields.Elsewhere.{precede_without}
use Rattle.py_lines.proofs.FieldMachine.Runs.{StopsAt, goes-append, Goes, HasRoomFor, goes-to, goes-grows, goes-begins, stops-fresh}
use Rattle.py_lines.proofs.FieldMachine.ListBrackets.{depth_is, balanced_openers}
use Rattle.py_lines.proofs.FieldMachine.PieceRuns.{FieldFinds, IsNoColon, plain_found, string_found, operator_found}
use Rattle.py_lines.proofs.FieldMachine.StringParts.{FieldsGo, settled, MayGoOn, goes_on, body_moves, open_moves, parts_go}
use Rattle.py_lines.proofs.FieldMachine.StringRuns.{field_string_found}
use Rattle.py_lines.specs.Private.Machine.{Start, start_of}
use Rattle.py_lines.proofs.Text.CharacterTests.{not_quote}
use Rattle.py_lines.proofs.Machine.Starts.{start-operator}

-- What opens in pieces may open where it stands, from this depth on, where `F` says which fields do so that open at each depth.
abbrev pub ArePassed : (Room : ℕ → Type 0) → (F : ℕ → Host → List ℕ → Type 0) → ℕ → List Piece → Type 0
ArePassed Room F depth [] = Unit {0}
ArePassed Room F depth (p ∷ ps) =
    (is_opener p ≡ true → Room depth) × (p.class ≡ string → (with_fields (F depth)).IsString p.text) × ArePassed Room F (depth_after depth p) ps

-- the machine goes through fields wherever they open at the depth that is theirs
abbrev pub FieldsRun : (ℕ → Type 0) → (ℕ → Host → List ℕ → Type 0) → Type 0
FieldsRun Room F = (outer : List Level) (done : List Piece) (openers : List ℕ) → FieldsGo Room outer done openers (F (length openers + levels_open outer))

-- in a field, no `:` stands outside brackets
abbrev pub HasNoColonIn : List Level → ℕ → List Piece → Type 0
HasNoColonIn outer depth ps = (outer ≡ [] → ⊥) → HasNoColon depth ps

module _ (Room : ℕ → Type 0) (F : ℕ → Host → List ℕ → Type 0) (begin : (depth : ℕ) → BeginOpen (F depth)) (run : FieldsRun Room F) where
  same_openers : (from : FieldScanned) (text : List ℕ) (ps : List Piece) (after rest : List ℕ) → Some from.openers ≡ Some after → FieldFinds Room from text ps from.openers rest → FieldFinds Room from text ps after rest
  same_openers from text ps after rest is found = subst (λ os. FieldFinds Room from text ps os rest) (cc is) found

  -- a piece
  one_found : (G : Host → List ℕ → Type 0) (from : FieldScanned) (class : Class) (text after rest : List ℕ) → is_mark_class class ≡ false → InClassIn (with_fields G) class text → MayPrecedeIn (with_fields G) class text rest → (is_opener (piece class text) ≡ true → Room (frames from)) → (class ≡ string → (with_fields (F (frames from))).IsString text) → openers_by from.openers class text ≡ Some after → HasNoColonIn from.outer (length from.openers) (piece class text ∷ []) → StopsAt from.mode from.held (text ++ rest) → FieldFinds Room from text (piece class text ∷ []) after rest
  one_found G from mark text after rest unmarked is before room own opens none stops = absurd (both_ways _ unmarked refl)
  one_found G from operator text after rest unmarked (c, is, passes) before room own opens none stops =
      rw is (operator_found Room from c after rest passes (rw is at opens) (no_colon from.outer (rw is at none)) (rw is at room) (rw is at stops))
    where
      no_colon : (outer : List Level) → HasNoColonIn outer (length from.openers) (piece operator (c ∷ []) ∷ []) → IsNoColon outer from.openers c
      no_colon [] h = tt
      no_colon (level ∷ outer) h = (h (λ is. absurd (cc))).0
  one_found G from string text after rest unmarked is before room own opens none stops = same_openers from text _ after rest opens (either (own refl)) where
    either : (with_fields (F (frames from))).IsString text → FieldFinds Room from text (piece string text ∷ []) from.openers rest
    either (inl (inl (short, no_field))) = string_found Room from text short.prefix short.quote _ rest short.spell short.begun no_field short.opens
        (short_ends text short.prefix short.quote short.items rest short.spell short.begun short.opens short.each (precede_without G string text rest before)) stops
    either (inl (inr (long, no_field))) =
        string_found Room from text long.prefix long.quote _ rest long.spell long.begun no_field long.opens (long_ends long.quote long.items rest long.opens long.each long.first) stops
    either (inr fields) = field_string_found Room from (F (frames from)) (begin (frames from)) (run from.outer (field_pieces from) from.openers) G text rest fields before stops
  one_found G from class text after rest unmarked is before room own opens none stops = same_openers from text _ after rest opens (plain_found Room G from class text rest tt is before stops)

  -- pieces, one after another
  pub all_found : (G : Host → List ℕ → Type 0) (from : FieldScanned) (ps : List Piece) (after rest : List ℕ) → AreReadIn (with_fields G) ps rest → begins_marked ps ≡ false → ArePassed Room F (frames from) ps → openers_through (Some from.openers) ps ≡ Some after → HasNoColonIn from.outer (length from.openers) ps → StopsAt from.mode from.held (spelled ps ++ rest) → FieldFinds Room from (spelled ps) ps after rest
  all_found G from [] after rest fit unmarked passed opens none stops =
      same_openers from [] [] after rest opens (record { done = from.done; mode = from.mode; held = from.held; goes = refl; pieces_are = sym (append-nil (field_pieces from)); stops = stops })
  all_found G from (p ∷ ps) after rest fit unmarked passed opens none stops =
      let (mid, is) = some_before (λ o. openers_through o ps) refl (openers_by from.openers p.class p.text) after opens in
      let first = one_found G from p.class p.text mid (spelled ps ++ rest) unmarked fit.0 fit.1 passed.0 passed.1 is (λ some. ((none some).0, tt)) (subst (StopsAt from.mode from.held) (append_assoc p.text (spelled ps) rest) stops) in
      let s : FieldScanned = field_state from.outer first.done mid first.mode first.held in
      let found = all_found G s ps after rest fit.3 fit.2 (subst (λ n. ArePassed Room F n ps) (depth_is from.openers mid p.class p.text (levels_open from.outer) is) passed.2)
      (sym (ap (λ o. openers_through o ps) is) ∙ opens) (λ some. subst (λ n. HasNoColon n ps) (ap (λ n. depth_after n p) (sym (add-zero (length from.openers))) ∙ depth_is from.openers mid p.class p.text 0 is ∙ add-zero (length mid)) (none some).1) first.stops in
      record {
        done = found.done;
        mode = found.mode;
        held = found.held;
        goes = goes-append Room from s (field_state from.outer found.done after found.mode found.held) p.text (spelled ps) first.goes found.goes;
        pieces_are = simp (found.pieces_are, first.pieces_are, append_assoc);
        stops = found.stops;
      }

-- after `{` in a literal part, what isn't another
pub code_moves : (host : Host) (named : Bool) (held : List ℕ) (c : ℕ) → c == 123 ≡ false → field_move (body host literal named after_brace) held c ≡ begins_code host
unfolding field_move body_move
code_moves host named held c other = rw other

-- the `}` of a specification
pub end_moves : (host : Host) (at : At) → is_quote host.quote ≡ true → between_move host specification false at 125 ≡ ends_field
unfolding between_move is_backslash is_break is_quote
end_moves host at quotes = rw (not_quote 125 host.quote quotes refl)

pub brace_ends : (level : Level) (outer : List Level) (done : List Piece) → code_operator level outer done 125 ≡ Some (field_ended level outer (level.front ++ (spelled done ++ 125 ∷ [])))
unfolding code_operator
brace_ends level outer done = refl

pub colon_opens : (level : Level) (outer : List Level) (done : List Piece) → code_operator level outer done 58 ≡ Some (field_state (level ∷ outer) [] [] (body level.host specification false between) (level.front ++ (spelled done ++ 58 ∷ [])))
unfolding code_operator
colon_opens level outer done = refl

-- they are operators that open nothing
signs_are : (start_of 125 ≡ Start.Operator) × (is_opening 125 ≡ false) × (start_of 58 ≡ Start.Operator) × (is_opening 58 ≡ false)
unfolding is_operator is_opening
signs_are = (start-operator 125 refl, refl, start-operator 58 refl, refl)

module _ (Room : ℕ → Type 0) (outer : List Level) (done : List Piece) (openers : List ℕ) (host : Host) where
  abbrev depth : ℕ
  depth = length openers + levels_open outer

  -- the field that opens after this text of the string, with its `{`
  abbrev level_at : Place → List ℕ → Level
  level_at place held = record { done = done; openers = openers; host = host; place = place; front = held ++ 123 ∷ [] }

  abbrev in_string : Place → At → List ℕ → FieldScanned
  in_string place at held = field_state outer done openers (body host place false at) held

  -- in the field, before its code
  abbrev in_field : Place → List ℕ → FieldScanned
  in_field place held = field_fresh (level_at place held ∷ outer) [] []

  deeper : (place : Place) (held : List ℕ) → frames (in_field place held) ≡ depth + 1
  deeper place held = omega arith

  -- the `{` and the first character of the code
  opens : (place : Place) (mode : FieldMode) (held : List ℕ) (c : ℕ) (cs : List ℕ) (t : FieldScanned) → field_move mode held 123 ≡ opening_move host place → Room depth → (place ≡ literal → (c == 123) ≡ false) → Goes Room (in_field place held) (c ∷ cs) t → Goes Room (field_state outer done openers mode held) (123 ∷ c ∷ cs) t
  opens specification mode held c cs t move room single goes = let s : FieldScanned = field_state outer done openers mode held in
      (in_field specification held, ap (field_moved s 123) move, subst (HasRoomFor Room (frames s) 123) (sym move) room, goes)
  opens literal mode held c cs t move room single (next, step, has_room, others) =
      let braced : FieldScanned = in_string literal after_brace (held ++ 123 ∷ []) in
      let begun : field_move (body host literal false after_brace) (held ++ 123 ∷ []) c ≡ begins_code host = code_moves host false (held ++ 123 ∷ []) c (single refl) in
      goes-grows Room (field_state outer done openers mode held) t (body host literal false after_brace) 123 (c ∷ cs) move (
        next,
        ap (field_moved braced c) begun ∙ sym (ap (field_moved (in_field literal held) c) (stops-fresh (c ∷ []))) ∙ step,
        subst (HasRoomFor Room (frames braced) c) (sym begun) (room, λ is. subst Room (deeper literal held) (subst (HasRoomFor Room (frames (in_field literal held)) c) (stops-fresh (c ∷ [])) has_room is)),
        others,
      )

  pub opens_text : (place : Place) (mode : FieldMode) (held code : List ℕ) (c : ℕ) (cs : List ℕ) (t : FieldScanned) → code ≡ c ∷ cs → field_move mode held 123 ≡ opening_move host place → Room depth → (place ≡ literal → begins_double (123 ∷ code) ≡ false) → Goes Room (in_field place held) code t → Goes Room (field_state outer done openers mode held) (123 ∷ code) t
  opens_text place mode held code c cs t is move room single goes = rw is (opens place mode held c cs t move room (rw is at single) (rw is at goes))

  -- the machine goes through a field's code, its `:`, and parts of its specification
  pub record SpecificationGoes (place : Place) (held : List ℕ) (inside : List Piece) (parts : List (List ℕ)) (rest : List ℕ) : Type 0 where
    pub to : At
    pub goes : Goes Room (in_field place held) (spelled inside ++ (58 ∷ joined parts)) (field_state (level_at place held ∷ outer) [] [] (body host specification (named_through false parts) to) (held ++ (123 ∷ spelled inside ++ (58 ∷ joined parts))))
    pub on : MayGoOn host specification (named_through false parts) to rest

  module _ (F : ℕ → Host → List ℕ → Type 0) (begin : (depth : ℕ) → BeginOpen (F depth)) (run : FieldsRun Room F) (G : Host → List ℕ → Type 0) where
    -- the field's code, and the character that ends it
    code_goes : (place : Place) (held : List ℕ) (inside : List Piece) (e : ℕ) (t : List Piece → FieldScanned) → AreInside (with_fields G) inside (e ∷ []) → ArePassed Room F (depth + 1) inside → start_of e ≡ Start.Operator → is_opening e ≡ false → ((ps : List Piece) → code_operator (level_at place held) outer ps e ≡ Some (t ps)) → Goes Room (in_field place held) (spelled inside ++ e ∷ []) (t inside)
    code_goes place held inside e t is passed starts_as no_bracket ends =
        let found = all_found Room F begin run G (in_field place held) inside [] (e ∷ []) is.fit is.unmarked (subst (λ n. ArePassed Room F n inside) (sym (deeper place held)) passed)
        (balanced_openers inside is.balanced []) (λ some. is.colon) (stops-fresh (spelled inside ++ e ∷ [])) in
        let level : Level = level_at place held in let s : FieldScanned = field_state (level ∷ outer) found.done [] found.mode found.held in
        let last : Goes Room s (e ∷ []) (t (field_pieces s)) = goes-begins Room s (t (field_pieces s)) (t (field_pieces s)) e [] found.stops
        (ap (field_started (level ∷ outer) (field_pieces s) [] e) starts_as ∙ ends (field_pieces s)) (λ is_one. absurd (both_ways _ no_bracket is_one)) refl in
        goes-to Room (in_field place held) (t (field_pieces s)) (t inside) (spelled inside ++ e ∷ [])
        (goes-append Room (in_field place held) s (t (field_pieces s)) (spelled inside) (e ∷ []) found.goes last) (ap t found.pieces_are)

    pub specification_goes : (place : Place) (held : List ℕ) (inside : List Piece) (parts : List (List ℕ)) (rest : List ℕ) → is_quote host.quote ≡ true → AreInside (with_fields G) inside (58 ∷ []) → ArePassed Room F (depth + 1) inside → AreParts (F (depth + 1)) host specification false parts rest → has_triple host.quote parts ≡ false → SpecificationGoes place held inside parts rest
    specification_goes place held inside parts rest quotes is passed each open_yet =
        let inner : List Level = level_at place held ∷ outer in let front : List ℕ = held ++ 123 ∷ [] in let d = length {A = ℕ} [] + levels_open inner in
        let begun : List Piece → FieldScanned = λ ps. field_state inner [] [] (body host specification false between) (front ++ (spelled ps ++ 58 ∷ [])) in
        let parts_run = parts_go Room inner [] [] (F d) (begin d) (run inner [] []) host specification false between (front ++ (spelled inside ++ 58 ∷ [])) parts rest [] quotes
        (subst (λ n. AreParts (F n) host specification false parts rest) (sym (deeper place held)) each) (goes_on host specification false (joined parts ++ rest))
        (subst (λ l. has_triple host.quote l ≡ false) (sym (append-nil parts)) open_yet) in
        let ended : List ℕ → FieldScanned = field_state inner [] [] (body host specification (named_through false parts) parts_run.to) in
        let code : List ℕ = spelled inside ++ (58 ∷ joined parts) in
        let cut : (spelled inside ++ 58 ∷ []) ++ joined parts ≡ code = append_assoc (spelled inside) (58 ∷ []) (joined parts) in record {
          to = parts_run.to;
          goes = goes-to Room (in_field place held) _ _ code
              (subst (λ t. Goes Room (in_field place held) t (ended ((front ++ (spelled inside ++ 58 ∷ [])) ++ joined parts))) cut
              (goes-append Room (in_field place held) (begun inside) _ (spelled inside ++ 58 ∷ []) (joined parts)
              (code_goes place held inside 58 begun is passed signs_are.2 signs_are.3 (λ ps. colon_opens (level_at place held) outer ps)) parts_run.goes))
              (ap ended (append_assoc front (spelled inside ++ 58 ∷ []) (joined parts) ∙ ap (λ x. front ++ x) cut ∙ append_assoc held (123 ∷ []) code));
          on = parts_run.on;
        }

    -- a field, whose pieces meet a condition by which what opens in them may open there
    pub field_goes : (Passes : List Piece → Type 0) → ((ps : List Piece) (rest : List ℕ) → AreReadIn (with_fields G) ps rest → Passes ps → ArePassed Room F (depth + 1) ps) → (place : Place) (at : At) (held text : List ℕ) → is_quote host.quote ≡ true → Room depth → IsField (with_fields G) Passes (F (depth + 1)) host text → (place ≡ literal → begins_double text ≡ false) → MayGoOn host place false at text → Goes Room (in_string place at held) text (in_string place between (held ++ text))
    field_goes Passes passed place at held text quotes room (simple inside spell is passes) single here =
        let code : List ℕ = spelled inside ++ 125 ∷ [] in let level : Level = level_at place held in
        let ended : List Piece → FieldScanned = λ ps. field_ended level outer (level.front ++ (spelled ps ++ 125 ∷ [])) in
        let full = some_head (spelled inside) 125 [] in
        rw spell (goes-to Room (in_string place at held) (ended inside) _ (123 ∷ code)
        (opens_text place (body host place false at) held code full.0 full.1 (ended inside) full.2 (body_moves host place false at held 123 code (rw spell at here) ∙ open_moves host place (settled at) quotes) room (rw spell at single)
        (code_goes place held inside 125 ended is (passed inside (125 ∷ []) is.fit passes) signs_are.0 signs_are.1 (λ ps. brace_ends level outer ps)))
        (ap (in_string place between) (append_assoc held (123 ∷ []) code)))
    field_goes Passes passed place at held text quotes room (specified inside parts spell is passes own) single here =
        let code : List ℕ = spelled inside ++ (58 ∷ joined parts) in let text : List ℕ = held ++ (123 ∷ code) in
        let whole : code ++ 125 ∷ [] ≡ spelled inside ++ (58 ∷ joined parts ++ 125 ∷ []) = append_assoc (spelled inside) (58 ∷ joined parts) (125 ∷ []) in
        let first = specification_goes place held inside parts (125 ∷ []) quotes is (passed inside (58 ∷ []) is.fit passes) own.each own.open_yet in
        let s : FieldScanned = field_state (level_at place held ∷ outer) [] [] (body host specification (named_through false parts) first.to) text in
        let move : field_move (body host specification (named_through false parts) first.to) text 125 ≡ ends_field =
        ap (λ n. field_move (body host specification n first.to) text 125) own.ended
        ∙ body_moves host specification false first.to text 125 [] (subst (λ n. MayGoOn host specification n first.to (125 ∷ [])) own.ended first.on) ∙ end_moves host (settled first.to) quotes in
        let ended : FieldScanned = in_string place between (text ++ 125 ∷ []) in
        let last : Goes Room s (125 ∷ []) ended = (ended, ap (field_moved s 125) move, subst (HasRoomFor Room (frames s) 125) (sym move) tt, refl) in
        let full = some_head (spelled inside) 58 (joined parts ++ 125 ∷ []) in
        rw spell (goes-to Room (in_string place at held) ended _ (123 ∷ spelled inside ++ (58 ∷ joined parts ++ 125 ∷ []))
        (opens_text place (body host place false at) held _ full.0 full.1 ended full.2 (body_moves host place false at held 123 (code ++ 125 ∷ []) (rw spell at here) ∙ open_moves host place (settled at) quotes) room (rw spell at single)
        (subst (λ x. Goes Room (in_field place held) x ended) whole (goes-append Room (in_field place held) s ended code (125 ∷ []) first.goes last)))
        (ap (in_string place between) (append_assoc held (123 ∷ code) (125 ∷ []) ∙ ap (λ x. held ++ (123 ∷ x)) whole)))
