-- What is open where the machine with fields stands, and where a text ends, by its mode: lists of pieces that are begun, and strings, one in another.
use Rattle.py_lines.proofs.Prelude.{◌≡◌, ℕ, ◌+◌, ◌<◌, Bool, false, List, [], ◌∷◌, ◌++◌, length, refl, sym, ap, ◌∙◌, subst, append_assoc, append-nil, arith, true, inl, inr, ◌⊎◌, byte, eq-eqb, and_right, operator, Piece, begins_marked, spelled, string, closing_of, IsBalanced, depth_through, is_backslash, is_brace, piece}
use Rattle.py_lines.specs.PieceGrammar.{joined, AreReadIn}
use Rattle.py_lines.specs.Fields.{HasNoColon, Fields, fielded}
use Rattle.py_lines.specs.OpenFields.{Spot, literal_after, specification_after, IsOpenString, in_literal, in_specification, AreBegun, BeginsList, at_start, in_field, IsUnescaped, StandsOpen, IsOpenUpTo, IsPlainShortPrefix, IsPlainLongPrefix, IsOpenLiteral, InOpenShort, InOpenLong, InSpecification, InFieldCode}
use Rattle.py_lines.specs.FieldStrings.{Host, Place, literal, specification, begins_open, may_be_escaped, escape}
use Rattle.py_lines.specs.Private.FieldMachine.{before, Level, levels_open, text_place, At, between, after_one, after_two, after_slash, after_return, after_name, after_brace, FieldMode, plain, opened, body, field_state, field_closed, may_end}
use Rattle.py_lines.proofs.Machine.LiveTexts.{closing_of-closing}
use Rattle.py_lines.proofs.Fields.Nesting.{parts_map}
use Rattle.py_lines.proofs.FieldSoundness.OpenLists.{Opens, opens-closes, opens-depth, balanced_at}
use Rattle.py_lines.proofs.FieldSoundness.Holds.{Limit, PartsAt, HoldsParts, HoldsList, HoldsLevel, HoldsLevels, HoldsAt, IsFieldSound}
use Rattle.py_lines.proofs.FieldSoundness.CodeSteps.{single_at}
use Rattle.py_lines.specs.Private.Machine.{Mode, class_of, in_short, in_long}
use Rattle.py_lines.specs.Private.Mode as modes
use Rattle.py_lines.proofs.Pieces.TripleQuotes.{triple-other}
use Rattle.py_lines.proofs.Machine.OpenStrings.{short_held, long_held}
use Rattle.py_lines.proofs.Fields.Prefixes.{plain_quotes}
use Rattle.py_lines.proofs.Fields.Elsewhere.{other_prefix}
use Rattle.py_lines.proofs.Text.CharacterTests.{return-not-brace}
use Rattle.py_lines.proofs.Fields.Parts.{name-not-brace}
use Rattle.py_lines.proofs.FieldSoundness.Lists.{stands_at}
use Rattle.py_lines.proofs.FieldSoundness.BodyMoves.{no_parts, push_part, parts-push, one_quote, two_quotes}
use Rattle.py_lines.proofs.FieldSoundness.HostSteps.{short_opens}
use Rattle.py_lines.proofs.FieldSoundness.WholeTexts.{code_at_end, list_ends}

-- brackets that are open can be closed
closers_of : List ℕ → List Piece
closers_of [] = []
closers_of (o ∷ os) = piece operator (closing_of o ∷ []) ∷ closers_of os

opens-close : (os : List ℕ) (ps : List Piece) → Opens os ps → IsBalanced (ps ++ closers_of os)
unfolding closers_of
opens-close [] ps opens = subst IsBalanced (sym (append-nil ps)) (balanced_at [] ps refl opens)
opens-close (o ∷ os) ps opens =
    let p : Piece = piece operator (closing_of o ∷ []) in
    subst IsBalanced (append_assoc ps (p ∷ []) (closers_of os)) (opens-close os (ps ++ p ∷ []) (opens-closes o os ps p opens (closing_of-closing o) (eq-eqb (closing_of o) (closing_of o) refl)))

-- so the pieces of a list are begun before a rest
pub begun_before : (outer : List Level) (pieces : List Piece) (openers rest : List ℕ) → AreReadIn fielded pieces rest → Opens openers pieces → ((l : Level) (ls : List Level) → outer ≡ l ∷ ls → (begins_marked pieces ≡ false) × HasNoColon 0 pieces) → AreBegun (levels_open outer) pieces rest
begun_before outer pieces openers rest fit opens field_so = record { fit = fit; others = closers_of openers; balanced = opens-close openers pieces opens; inside = inside outer field_so }
  where
    inside : (ls : List Level) → ((l : Level) (others : List Level) → ls ≡ l ∷ others → (begins_marked pieces ≡ false) × HasNoColon 0 pieces) → 0 < levels_open ls → (begins_marked pieces ≡ false) × HasNoColon 0 pieces
    inside [] own deep = absurd (omega arith)
    inside (l ∷ ls) own deep = own l ls refl

pub are_begun : (limit : Limit) (outer : List Level) (place : Place) (done : List Piece) (openers held more : List ℕ) → HoldsList limit outer place done openers held → AreBegun (levels_open outer) done (held ++ more)
are_begun limit outer place done openers held more h = begun_before outer done openers (held ++ more) (h.fit more) h.opens h.in_field

-- A string that is open up to `text`, before the rest: the list in which it stands, and the spot up to which it is open. `done`
-- and `openers` are of the innermost list, in which a string stands whose literal part is open.
pub record IsOpenBefore (place : Place) (outer : List Level) (done : List Piece) (openers : List ℕ) (host : Host) (named : Bool) (text rest : List ℕ) : Type 0 where
  pub outside : List ℕ
  pub base : ℕ
  pub pieces : List Piece
  pub spot : Spot
  pub before_is : before place outer ++ spelled done ≡ outside ++ spelled pieces
  pub list : BeginsList outside (spelled pieces ++ (text ++ rest)) base
  pub begun : AreBegun base pieces (text ++ rest)
  pub string : IsOpenString host spot text rest
  pub place_is : spot.place ≡ place
  pub named_is : spot.named ≡ named
  pub depth_is : base + depth_through 0 pieces + spot.specifications ≡ length openers + levels_open outer

-- directly after the `{` of a field, a list begins
begins_in : (l : Level) (ls : List Level) (text rest : List ℕ) → l.front ≡ text ++ byte "{" ∷ [] → (l.place ≡ literal → begins_open rest ≡ false) → IsOpenBefore l.place ls l.done l.openers l.host false text (byte "{" ∷ rest) → BeginsList (before literal (l ∷ ls)) rest (levels_open (l ∷ ls))
begins_in l ls text rest front single inner =
    in_field (before literal (l ∷ ls)) rest (levels_open (l ∷ ls)) inner.outside inner.base inner.pieces text l.host inner.spot
    (ap (λ t. before l.place ls ++ (spelled l.done ++ t)) front ∙ (simp append_assoc) ∙ ap (λ t. t ++ (text ++ 123 ∷ [])) inner.before_is ∙ simp append_assoc) inner.list inner.begun inner.string
    (record { unnamed = inner.named_is; single = λ at. single (sym inner.place_is ∙ at) }) (omega (arith, inner.depth_is))

-- whole parts of a string before this rest
pub parts_at : (limit : Limit) (outer : List Level) (depth : ℕ) (host : Host) (place : Place) (named : Bool) (text next more : List ℕ) → HoldsParts limit outer depth host place named text next → PartsAt limit outer depth host place named text (next ++ more)
parts_at limit outer depth host place named text next more h = record { whole = h.whole; fit = h.fit more }

-- a literal part is open in a list
literal_open : (limit : Limit) (outer : List Level) (done : List Piece) (openers : List ℕ) (host : Host) (named : Bool) (text rest held more : List ℕ) → text ++ rest ≡ held ++ more → HoldsList limit outer literal done openers held → PartsAt limit outer (length openers + levels_open outer) host literal named text rest → BeginsList (before literal outer) (spelled done ++ (text ++ rest)) (levels_open outer) → IsOpenBefore literal outer done openers host named text rest
literal_open limit outer done openers host named text rest held more same list h begins = record {
  outside = before literal outer;
  base = levels_open outer;
  pieces = done;
  spot = literal_after h.parts;
  before_is = refl;
  list = begins;
  begun = subst (AreBegun (levels_open outer) done) (sym same) (are_begun limit outer literal done openers held more list);
  string = in_literal (literal_after h.parts) text rest h.opens_with.prefix h.parts refl
      (h.spell ∙ ap (λ t. t ++ joined h.parts) h.opens_with.spell ∙ append_assoc h.opens_with.prefix _ (joined h.parts)) h.opens_with.begun h.opens_with.raw h.quotes
      (parts_map _ Fields (limit.are_fields (length openers + levels_open outer)) host literal false h.parts rest h.fit) h.open_yet;
  place_is = refl;
  named_is = h.named_is;
  depth_is = let own = opens-depth openers done 0 list.opens in omega (arith, own);
}

-- and a specification
specification_open : (limit : Limit) (l : Level) (ls : List Level) (done : List Piece) (openers : List ℕ) (host : Host) (named : Bool) (text rest : List ℕ) (own : HoldsLevel limit l ls) → done ≡ [] → openers ≡ [] → (h : PartsAt limit (l ∷ ls) (length openers + levels_open (l ∷ ls)) host specification named text rest) → IsOpenBefore l.place ls l.done l.openers l.host false own.text (byte "{" ∷ (spelled h.opens_with.inside ++ (byte ":" ∷ (joined h.parts ++ rest)))) → IsOpenBefore specification (l ∷ ls) done openers host named text rest
specification_open limit l ls done openers host named text rest own no_done no_openers h inner =
    let opens = h.opens_with in let code = spelled opens.inside in
    let front : text ≡ own.text ++ (123 ∷ (code ++ (58 ∷ joined h.parts))) =
    h.spell ∙ ap (λ t. t ++ joined h.parts) (opens.spell ∙ ap (λ t. t ++ (code ++ 58 ∷ [])) own.spell) ∙ simp append_assoc in
    let whole : own.text ++ (123 ∷ (code ++ (58 ∷ (joined h.parts ++ rest)))) ≡ text ++ rest = (simp append_assoc) ∙ ap (λ t. t ++ rest) (sym front) in
    let spot = specification_after inner.spot own.text h.parts in
    let string : IsOpenString l.host inner.spot own.text (123 ∷ (code ++ (58 ∷ (joined h.parts ++ rest)))) = inner.string in record {
      outside = inner.outside;
      base = inner.base;
      pieces = inner.pieces;
      spot = spot;
      before_is = ap (λ (p : List Piece). (before l.place ls ++ spelled l.done) ++ spelled p) no_done ∙ append-nil (before l.place ls ++ spelled l.done) ∙ inner.before_is;
      list = subst (λ t. BeginsList inner.outside (spelled inner.pieces ++ t) inner.base) whole inner.list;
      begun = subst (AreBegun inner.base inner.pieces) whole inner.begun;
      string = in_specification spot inner.spot text rest own.text opens.inside h.parts refl front
          (subst (λ (x : Host). IsOpenString x inner.spot own.text (123 ∷ (code ++ (58 ∷ (joined h.parts ++ rest))))) opens.same_host string)
          (record { unnamed = inner.named_is; single = λ at. opens.single (sym inner.place_is ∙ at) [] }) opens.are_inside
          (parts_map _ Fields (limit.are_fields (length openers + levels_open (l ∷ ls))) host specification false h.parts rest h.fit) h.open_yet;
      place_is = refl;
      named_is = h.named_is;
      depth_is = let inner_depth = inner.depth_is in let zero : length openers ≡ 0 = ap length no_openers in omega (arith, inner_depth, zero);
    }

-- so is any string that the machine holds
pub stands_open : (limit : Limit) (place : Place) (outer : List Level) (done : List Piece) (openers : List ℕ) (host : Host) (named : Bool) (text rest held more : List ℕ) → text ++ rest ≡ held ++ more → HoldsList limit outer place done openers held → PartsAt limit outer (length openers + levels_open outer) host place named text rest → HoldsLevels limit place outer (spelled done ++ held) → IsOpenBefore place outer done openers host named text rest
stands_open limit literal [] done openers host named text rest held more same list h levels =
    literal_open limit [] done openers host named text rest held more same list h (at_start [] _ 0 refl refl)
stands_open limit literal (l ∷ ls) done openers host named text rest held more same list h levels =
    let own = levels.1 in let code = spelled done ++ (text ++ rest) in
    let is : code ≡ (spelled done ++ held) ++ more = ap (λ t. spelled done ++ t) same ∙ sym (append_assoc (spelled done) held more) in
    let inner = stands_open limit l.place ls l.done l.openers l.host false own.text (123 ∷ code) l.front code
    (sym (append_assoc own.text (123 ∷ []) code) ∙ ap (λ t. t ++ code) (sym own.spell)) own.list
    (parts_at limit ls (length l.openers + levels_open ls) l.host l.place false own.text (123 ∷ []) code own.parts) levels.2 in
    literal_open limit (l ∷ ls) done openers host named text rest held more same list h
    (begins_in l ls own.text code own.spell (λ at. ap begins_open is ∙ single_at l.place (spelled done ++ held) levels.0 at more) inner)
stands_open limit specification [] done openers host named text rest held more same list h levels = absurd levels
stands_open limit specification (l ∷ ls) done openers host named text rest held more same list h levels =
    let own = levels.1 in let none = list.no_list refl in let code = spelled h.opens_with.inside ++ (58 ∷ (joined h.parts ++ rest)) in
    let inner = stands_open limit l.place ls l.done l.openers l.host false own.text (123 ∷ code) l.front code
    (sym (append_assoc own.text (123 ∷ []) code) ∙ ap (λ t. t ++ code) (sym own.spell)) own.list
    (parts_at limit ls (length l.openers + levels_open ls) l.host l.place false own.text (123 ∷ []) code own.parts) levels.2 in
    specification_open limit l ls done openers host named text rest own none.0 none.1 h inner

-- and where code is open, a list begins
pub list_begins : (limit : Limit) (outer : List Level) (text more : List ℕ) → HoldsLevels limit literal outer text → BeginsList (before literal outer) (text ++ more) (levels_open outer)
list_begins limit [] text more levels = at_start [] _ 0 refl refl
list_begins limit (l ∷ ls) text more levels =
    let own = levels.1 in let code = text ++ more in
    begins_in l ls own.text code own.spell (λ at. single_at l.place text levels.0 at more)
    (stands_open limit l.place ls l.done l.openers l.host false own.text (123 ∷ code) l.front code
    (sym (append_assoc own.text (123 ∷ []) code) ∙ ap (λ t. t ++ code) (sym own.spell)) own.list
    (parts_at limit ls (length l.openers + levels_open ls) l.host l.place false own.text (123 ∷ []) code own.parts) levels.2)

module _ (limit : Limit) (outer : List Level) (depth : ℕ) (host : Host) (place : Place) (named : Bool) where
  -- parts of a string up to a text's end, where the last backslash may have nothing to escape yet
  pub record OpenUpTo (held : List ℕ) : Type 0 where
    pub text : List ℕ
    pub last : List ℕ
    pub spell : held ≡ text ++ last
    pub escapes : IsUnescaped last
    pub parts : PartsAt limit outer depth host place named text last

  whole_open : (held text : List ℕ) → held ≡ text → HoldsParts limit outer depth host place named text [] → OpenUpTo held
  whole_open held text is h = record { text = text; last = []; spell = is ∙ sym (append-nil text); escapes = inl refl; parts = parts_at limit outer depth host place named text [] [] h }

  -- a backslash and a character, to which no more belongs at the end
  escape_open : (held text : List ℕ) (s c : ℕ) → held ≡ text ++ s ∷ c ∷ [] → is_backslash s ≡ true → is_brace c ≡ false → may_be_escaped host place c ≡ true → HoldsParts limit outer depth host place named text (s ∷ []) → OpenUpTo held
  escape_open held text s c is slashes brace may h = record {
    text = text ++ s ∷ c ∷ [];
    last = [];
    spell = is ∙ sym (append-nil (text ++ s ∷ c ∷ []));
    escapes = inl refl;
    parts = record {
      whole = push_part limit outer host place named named text (s ∷ c ∷ []) h.whole (triple-other host.quote h.parts (s ∷ c ∷ []) [] refl h.open_yet refl) refl;
      fit = parts-push (limit.FieldsAt depth) host place false h.parts (s ∷ c ∷ []) [] (h.fit (c ∷ [])) (escape s c refl slashes brace may (and_right _ _ refl) (and_right _ _ refl));
    };
  }

  pub at_open : (at : At) (held : List ℕ) → (at ≡ after_brace → ⊥) → HoldsAt limit outer depth host place named at held → OpenUpTo held
  at_open between held other h = whole_open held held refl h.all
  at_open after_one held other h = whole_open held _ h.1 (one_quote limit outer depth host place named h.0 [] h.2 h.3)
  at_open after_two held other h = whole_open held _ h.1 (two_quotes limit outer depth host place named h.0 [] h.2 h.3)
  at_open after_slash held other (text, s, is, slashes, h) =
      record { text = text; last = s ∷ []; spell = is; escapes = inr (s, refl, slashes); parts = parts_at limit outer depth host place named text (s ∷ []) [] h }
  at_open after_return held other (text, s, r, is, slashes, returns, may, h) = escape_open held text s r is slashes (return-not-brace r returns) may h
  at_open after_name held other (text, s, n, is, slashes, is_name, may, h) = escape_open held text s n is slashes (name-not-brace host n is_name) may h
  at_open after_brace held other h = absurd (other refl)

module _ (limit : Limit) (outer : List Level) (done : List Piece) (openers : List ℕ) (m : FieldMode) (held read : List ℕ) (sound : IsFieldSound limit (field_state outer done openers m held) read) where
  -- a string with fields that is open up to a spot, of which more is said
  body_open : (host : Host) (place : Place) (named : Bool) (IsOpen : Spot → List ℕ → Type 0) → ((spot : Spot) → spot.place ≡ place → IsOpenUpTo host spot held → IsOpen spot held) → text_place m ≡ place → OpenUpTo limit outer (length openers + levels_open outer) host place named held → (spot : Spot) × (spot.place ≡ place) × StandsOpen (IsOpen spot) read (before place outer ++ spelled done)
  body_open host place named IsOpen is at up = let here = stands_at limit outer done openers m held read place sound at in
      let so = stands_open limit place outer done openers host named up.text up.last held [] (sym up.spell ∙ sym (append-nil held)) here.list up.parts here.levels in (
        so.spot,
        so.place_is,
        record {
          outside = so.outside;
          depth = so.base;
          pieces = so.pieces;
          front = held;
          list = subst (λ t. BeginsList so.outside (spelled so.pieces ++ t) so.base) (sym up.spell) so.list;
          begun = subst (AreBegun so.base so.pieces) (sym up.spell) so.begun;
          before = sym so.before_is;
          spell = append_assoc (before place outer) (spelled done) held ∙ here.spell;
          open_yet = is so.spot so.place_is (record { body = up.text; last = up.last; spell = up.spell; escapes = up.escapes; string = so.string });
        },
      )

  -- a piece of the innermost list that is open
  pub piece_open : (IsOpen : List ℕ → Type 0) → text_place m ≡ literal → IsOpen held → StandsOpen IsOpen read (before literal outer ++ spelled done)
  piece_open IsOpen at is = let here = stands_at limit outer done openers m held read literal sound at in record {
    outside = before literal outer;
    depth = levels_open outer;
    pieces = done;
    front = held;
    list = subst (λ t. BeginsList (before literal outer) t (levels_open outer)) (append-nil (spelled done ++ held)) (list_begins limit outer (spelled done ++ held) [] here.levels);
    begun = subst (AreBegun (levels_open outer) done) (append-nil held) (are_begun limit outer literal done openers held [] here.list);
    before = refl;
    spell = append_assoc (before literal outer) (spelled done) held ∙ here.spell;
    open_yet = is;
  }

-- the literal part of a string, a short or a long one
pub literal_is_open : (limit : Limit) (outer : List Level) (done : List Piece) (openers : List ℕ) (host : Host) (named : Bool) (at : At) (held read : List ℕ) → IsFieldSound limit (field_state outer done openers (body host literal named at) held) read → (at ≡ after_brace → ⊥) → (Other : List ℕ → Type 0) (is_long : Bool) → host.is_long ≡ is_long → StandsOpen (λ front. Other front ⊎ IsOpenLiteral is_long front) read (before literal outer ++ spelled done)
literal_is_open limit outer done openers host named at held read sound other Other is_long long =
    (body_open limit outer done openers (body host literal named at) held read sound host literal named (λ spot front. Other front ⊎ IsOpenLiteral is_long front) (λ spot place up. inr (host, spot, up, place, long)) refl
    (at_open limit outer (length openers + levels_open outer) host literal named at held other sound.mode)).2

pub opened_is_open : (limit : Limit) (outer : List Level) (done : List Piece) (openers : List ℕ) (host : Host) (held read : List ℕ) → IsFieldSound limit (field_state outer done openers (opened host) held) read → InOpenShort read (before literal outer ++ spelled done)
opened_is_open limit outer done openers host held read sound =
    let depth = length openers + levels_open outer in
    let parts = no_parts limit outer depth host literal held [] (short_opens host held sound.mode.2 sound.mode.0) sound.mode.1 in
    (body_open limit outer done openers (opened host) held read sound host literal false (λ spot front. IsPlainShortPrefix front ⊎ IsOpenLiteral false front) (λ spot place up. inr (host, spot, up, place, sound.mode.2)) refl
    (whole_open limit outer depth host literal false held held refl parts)).2

-- a specification
pub specification_is_open : (limit : Limit) (outer : List Level) (done : List Piece) (openers : List ℕ) (host : Host) (named : Bool) (at : At) (held read : List ℕ) → IsFieldSound limit (field_state outer done openers (body host specification named at) held) read → (at ≡ after_brace → ⊥) → (start : List ℕ) × InSpecification host read start
specification_is_open limit outer done openers host named at held read sound other =
    let own = body_open limit outer done openers (body host specification named at) held read sound host specification named (λ spot front. IsOpenUpTo host spot front) (λ spot place up. up) refl
    (at_open limit outer (length openers + levels_open outer) host specification named at held other sound.mode) in
    ((before specification outer ++ spelled done) ++ own.0.field, record { string = before specification outer ++ spelled done; spot = own.0; stands = own.2; place = own.1; before = refl })

-- a string without fields, or a backslash
pub short_class : (m : Mode) → in_short m ≡ true → class_of m ≡ string
short_class modes.Free is = absurd (cc)
short_class m is = cc

pub long_mode : (m : Mode) → in_long m ≡ true → (class_of m ≡ string) × (in_short m ≡ false)
long_mode modes.Free is = absurd (cc)
long_mode m is = ((cc), (cc))

pub short_is_open : (limit : Limit) (outer : List Level) (done : List Piece) (openers : List ℕ) (m : Mode) (held read : List ℕ) → IsFieldSound limit (field_state outer done openers (plain m) held) read → in_short m ≡ true → InOpenShort read (before literal outer ++ spelled done)
short_is_open limit outer done openers m held read sound is =
    let short = short_held m [] held sound.mode.0 is in
    piece_open limit outer done openers (plain m) held read sound (λ front. IsPlainShortPrefix front ⊎ IsOpenLiteral false front) refl
    (inl (short, other_prefix held short.prefix _ short.quote (sound.mode.1 (short_class m is)) short.spell (plain_quotes short.prefix short.begun) short.opens))

pub long_is_open : (limit : Limit) (outer : List Level) (done : List Piece) (openers : List ℕ) (m : Mode) (held read : List ℕ) → IsFieldSound limit (field_state outer done openers (plain m) held) read → in_long m ≡ true → InOpenLong read (before literal outer ++ spelled done)
long_is_open limit outer done openers m held read sound is =
    let long = long_held m [] held sound.mode.0 is in
    piece_open limit outer done openers (plain m) held read sound (λ front. IsPlainLongPrefix front ⊎ IsOpenLiteral true front) refl
    (inl (long, other_prefix held long.prefix _ long.quote (sound.mode.1 (long_mode m is).0) long.spell (plain_quotes long.prefix long.begun) long.opens))

-- the code of a field, whose brackets are closed
pub code_open_at : (limit : Limit) (l : Level) (ls : List Level) (done : List Piece) (m : FieldMode) (held read start : List ℕ) → IsFieldSound limit (field_state (l ∷ ls) done [] m held) read → may_end m ≡ true → before literal (l ∷ ls) ≡ start ++ 123 ∷ [] → InFieldCode read start
code_open_at limit l ls done m held read start sound may brace =
    let here = stands_at limit (l ∷ ls) done [] m held read literal sound (code_at_end m may) in let pieces = field_closed m done held in
    let ends = list_ends limit (l ∷ ls) done [] m held read sound may in record {
      depth = levels_open (l ∷ ls);
      pieces = pieces;
      list = subst (λ t. BeginsList (start ++ 123 ∷ []) t (levels_open (l ∷ ls))) (append-nil (spelled done ++ held) ∙ sym ends.spell)
          (subst (λ t. BeginsList t ((spelled done ++ held) ++ []) (levels_open (l ∷ ls))) brace (list_begins limit (l ∷ ls) (spelled done ++ held) [] here.levels));
      begun = begun_before (l ∷ ls) pieces [] [] ends.fit ends.opens ends.in_field;
      deep = omega arith;
      balanced = balanced_at [] pieces refl ends.opens;
      spell = sym (append_assoc start (123 ∷ []) (spelled pieces)) ∙ ap (λ t. t ++ spelled pieces) (sym brace) ∙ ap (λ t. before literal (l ∷ ls) ++ t) ends.spell ∙ here.spell;
    }
