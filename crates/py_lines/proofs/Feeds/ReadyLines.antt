-- The line that stands in what is held: the logical line of the pieces that the scan found.
use Rattle.py_lines.proofs.Prelude.{◌≡◌, ℕ, ◌+◌, ◌≤◌, true, false, Option, Some, None, List, [], ◌∷◌, ◌++◌, length, take, refl, sym, ap, ◌∙◌, subst, arith, length-append, encode_utf8_all, is_some, all_scalars, encodes_same, take-append_seam, Piece, spelled, LogicalLine, byte_len, line_ends, EachLiesIn}
use Rattle.py_lines.specs.Private.LineScan.{IsAtLineEnd, ScansIn}
use Rattle.py_lines.specs.Private.LineState.{first_mode, with_tokens}
use Rattle.py_lines.specs.Private.LineTokens.{AreLineText, HoldsTokens, IsLineAfter, IsLineText}
use Rattle.py_lines.specs.Private.Feed.{HasReadTokens, HasRoom, HoldsLine, HoldsSo, IsLineAfterHeld, IsReady, StandsSo, StopsHeld, line_held, with_line, Scan, Stop, Feed, line_of_feed, ready_of, scanning_of, LineState, Mode}
use Rattle.py_lines.proofs.LineTokens.Outlines.{line_whole}
use Rattle.py_lines.proofs.LogicalLines.TokenPlaces.{each_after}
use Rattle.py_lines.proofs.Readers.LineAnswers.{IsScannedLine, line_at_end, line_text}

-- what was scanned of what is held
pub stopped_text : (stop : ℕ) (held read rest : List ℕ) → encode_utf8_all read ++ rest ≡ held → stop ≡ byte_len read → take stop held ≡ encode_utf8_all read
stopped_text stop held read rest spell size = ap (λ (n : ℕ). take n held) size ∙ ap (take (byte_len read)) (sym spell) ∙ take-append_seam (encode_utf8_all read) rest

-- a line that was scanned whole
abbrev pub holds_line : (f : Feed) (end_len : ℕ) (read rest : List ℕ) (u : List Piece) → all_scalars read ≡ true
    → encode_utf8_all read ++ rest ≡ f.held.items → IsScannedLine (first_mode f.state.place) f.state.scan read end_len u → HoldsLine f end_len
holds_line f end_len read rest u scalars held line = record {
  read = read;
  rest = rest;
  pieces = u;
  scalars = scalars;
  spell = held;
  spells = line.line.spell;
  text = subst (λ t. AreLineText t u) (sym (stopped_text f.state.scan.stop f.held.items read rest held line.stop))
      (line_text (first_mode f.state.place) f.state.scan read end_len u scalars line);
  whole = line.line.whole;
  ends = line.ends;
  stop = line.stop;
  some = line.line.some;
}

-- a line that its line end has closed
module _ {m : Mode} {bytes : List ℕ} {scan : Scan} {end_len : ℕ} (s : ScansIn m bytes scan (Stop.LineEnd end_len)) where
  abbrev pub line_alone : IsAtLineEnd m scan s.read [] end_len
  line_alone = s.stops.0 [] (λ returned. refl)

  -- its pieces
  abbrev pub pieces_alone : List Piece
  pieces_alone = line_alone.body ++ line_alone.last ∷ []

  pub ended_alone : IsScannedLine m scan s.read end_len pieces_alone
  ended_alone = line_at_end m scan s.read [] end_len line_alone [] refl

abbrev pub ended_holds : (f : Feed) (end_len : ℕ) → StopsHeld f (Stop.LineEnd end_len) → HoldsLine f end_len
ended_holds f end_len s = holds_line f end_len s.read s.rest (pieces_alone s) s.scalars s.spell (ended_alone s)

module _ (f : Feed) (end_len : ℕ) (h : HoldsLine f end_len) where
  -- the line that stands in what is held lies there, and is characters
  pub held_within : f.state.scan.stop ≤ length f.held.items
  held_within = omega (arith, h.stop, ap length h.spell, length-append (encode_utf8_all h.read) h.rest)

  pub held_line_text : IsLineText (take f.state.scan.stop f.held.items) end_len
  held_line_text = (h.pieces, (h.text, h.ends))

-- the tokens of the line that stands in what is held were read
module _ (f : Feed) (state : LineState) (end_len line : ℕ) (tokens : HoldsTokens (take f.state.scan.stop f.held.items) end_len f.state.line state.tokens.items)
    (after : IsLineAfter f.state.line (take f.state.scan.stop f.held.items) end_len line) where
  abbrev pub with_read : Feed
  with_read = record f { state = with_tokens f.state state; next_line = line }

  line_read : (h : HoldsLine f end_len) → line_of_feed with_read end_len ≡ line_held f end_len h
  line_read h = line_whole _ h.text h.whole f.state.place f.state.line end_len h.ends (tokens h.pieces (h.text, h.ends))

  line_after : HoldsLine f end_len → IsLineAfterHeld with_read line
  line_after h read spell = after h.pieces (h.text, h.ends) ∙ ap (λ (t : List ℕ). f.state.line + line_ends t) (encodes_same (spelled h.pieces) read (h.text.spell ∙ sym spell))

  pub some_read : f.state.fault ≡ None → HasRoom f 0 → f.ready ≡ Some end_len → HoldsLine f end_len → HasReadTokens f with_read
  some_read no_fault room ready h = record {
    seen = λ seen held. ap (with_line f) (ap (ready_of with_read) ready ∙ (let (own, is) = subst (λ r. HoldsSo f r seen) ready held in ap Some (line_read own) ∙ sym is));
    sound = record { room = room; state = subst (StandsSo with_read) (sym ready) (record { no_fault = no_fault; holds = h; after = line_after h; line_is = line_read h }) };
  }

pub ready_seen : (f : Feed) (end_len : ℕ) → f.ready ≡ Some end_len → (r : IsReady f end_len) → scanning_of f ≡ with_line f (Some (line_held f end_len r.holds))
ready_seen f end_len is r = ap (with_line f) (ap (ready_of f) is ∙ ap Some r.line_is)

pub none_ready : (f : Feed) (ready : Option ℕ) → ready_of f ready ≡ None → ready ≡ None
none_ready f None seen = refl
none_ready f (Some n) seen = absurd (cc)

pub none_is : {A : Type 0} (r : Option A) → is_some r ≡ false → r ≡ None
none_is None h = refl
none_is (Some n) h = absurd (cc)

-- the line that stands in what is held, and its text
pub line_stands : (f : Feed) (r : Option ℕ) {line : Option LogicalLine} → HoldsSo f r line → is_some r ≡ true → (n : ℕ) × (r ≡ Some n) × (h : HoldsLine f n) × (line ≡ Some (line_held f n h))
line_stands f None holds h = absurd (cc)
line_stands f (Some n) holds h = (n, refl, holds.0, holds.1)

pub text_stands : (f : Feed) (r : Option ℕ) {line : Option LogicalLine} {l : LogicalLine} → HoldsSo f r line → line ≡ Some l → (n : ℕ) × (r ≡ Some n) × (l.text ≡ take f.state.scan.stop f.held.items)
text_stands f None holds is = absurd (let none = holds.0 in cc)
text_stands f (Some n) {line} {l} (h, at) is = let one : line_held f n h ≡ l = (cc) in (n, refl, ap (λ (u : LogicalLine). u.text) (sym one) ∙ h.text.spell)

pub some_is : (r : Option ℕ) → is_some r ≡ true → (n : ℕ) × (r ≡ Some n)
some_is None h = absurd (cc)
some_is (Some n) h = (n, refl)

-- the tokens of the line that is ready lie in it
pub ready_lies : (f : Feed) (end_len : ℕ) → IsReady f end_len → EachLiesIn (take f.state.scan.stop f.held.items) f.state.tokens.items
ready_lies f end_len r = subst (λ (l : LogicalLine). EachLiesIn l.text l.tokens) (sym r.line_is)
    (each_after [] f.state.line r.holds.pieces (ap all_scalars r.holds.spells ∙ r.holds.scalars))
