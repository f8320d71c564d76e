-- What is taken from a line's bytes, in one step or several: the scan of each line that stood before them has come beyond them.
use Rattle.py_lines.proofs.Prelude.{◌≡◌, ℕ, ◌+◌, ◌<◌, ◌≤◌, List, [], ◌∷◌, ◌++◌, length, drop, true, inl, inr, ◌⊎◌, ⊎_elim, refl, sym, ap, ◌∙◌, subst, arith, append_assoc, length-append, encode_utf8_all, all_scalars, encodes-append, is_return, ends, Scan, byte_len-append}
use Rattle.py_lines.specs.declared.scan.Progress.TheVariants as progress
use Rattle.py_lines.specs.declared.scan.Stop.{Stop}
use Rattle.py_lines.specs.declared.scan.Stop.TheVariants as stops
use Rattle.py_lines.specs.Private.Machine.{Mode}
use Rattle.py_lines.specs.Private.FieldMachine.{FieldScanned}
use Rattle.py_lines.specs.Private.LineScan.{IsLineBefore, Reached, ScansIn, StopsIn, begins_line}
use Rattle.py_lines.specs.Private.Passing.{EndsAfter}
use Rattle.py_lines.specs.Private.Scan.{ComesOver, ComesTo, EndsWithFeed, EndsWithReturn, Goes, HoldsRun, Rests, StandsAs, Takes}
use Rattle.py_lines.proofs.Text.Utf8Prefixes.{all_scalars-append}
use Rattle.py_lines.proofs.Lexings.LineEnds.{feed_unreturned}
use Rattle.py_lines.proofs.LogicalLines.Cuts.{ends-last}
use Rattle.py_lines.proofs.FieldScans.Taking.{comes_real, follows_open, goes_real, stands_open}
use Rattle.py_lines.proofs.LineScan.AsciiRuns.{is_low, low_encodes, low_is}
use Rattle.py_lines.proofs.LineScan.LineSteps.{line_fed, line_returned, rests_end, way_on}

-- more characters of a text
pub spell_over : (read run rest before whole : List ℕ) → encode_utf8_all run ++ rest ≡ before → encode_utf8_all read ++ before ≡ whole
    → encode_utf8_all (read ++ run) ++ rest ≡ whole
spell_over read run rest before whole spell all =
    ap (λ t. t ++ rest) (encodes-append read run) ∙ append_assoc (encode_utf8_all read) (encode_utf8_all run) rest
    ∙ ap (λ t. encode_utf8_all read ++ t) spell ∙ all

-- the scan goes through these characters
abbrev pub reached_more : {m : Mode} {text mid : List ℕ} {old : Scan} (r : Reached m text old mid) (run rest : List ℕ) (new : Scan) (u : FieldScanned)
    → Goes r.way.field run u → Rests new u rest → encode_utf8_all run ++ rest ≡ mid → all_scalars run ≡ true → Reached m text new rest
reached_more {text = text} {mid = mid} r run rest new u goes rests spell scalars = record {
  read = r.read ++ run;
  way = way_on r.way run u goes;
  rests = rests;
  spell = spell_over r.read run rest mid text spell r.spell;
  scalars = all_scalars-append r.read run r.scalars scalars;
}

pub reached_over : {m : Mode} {text bytes : List ℕ} {old : Scan} (r : Reached m text old bytes) (new : Scan) (len : ℕ)
    → Takes old bytes len new → Reached m text new (drop len bytes)
reached_over {m} {text} {bytes} {old} r new len takes =
    let over = takes r.rests.as_if r.rests.follows in
    by over.run over.spell over.scalars over.comes
  where
    by : (run : List ℕ) → encode_utf8_all run ++ drop len bytes ≡ bytes → all_scalars run ≡ true → ComesOver r.rests.as_if run new (drop len bytes)
        → Reached m text new (drop len bytes)
    by [] spell scalars follows = record {
      read = r.read;
      way = r.way;
      rests = record { as_if = r.rests.as_if; follows = follows; stands = subst (λ b. StandsAs b r.way.field r.rests.as_if) (sym spell) r.rests.stands };
      spell = ap (λ b. encode_utf8_all r.read ++ b) spell ∙ r.spell;
      scalars = r.scalars;
    }
    by (c ∷ cs) spell scalars (u, goes, rests) =
        reached_more r (c ∷ cs) (drop len bytes) new u
        (goes_real r.way.field r.rests.as_if u bytes (c ∷ cs) (drop len bytes) r.rests.stands scalars spell (omega arith) goes) rests spell scalars

-- a run of characters was held
pub reached_run : {m : Mode} {text mid : List ℕ} {old : Scan} (r : Reached m text old mid) (new : Scan) (rest : List ℕ)
    → HoldsRun old mid rest new → Reached m text new rest
reached_run {m} {text} r new rest (len, holds, is) = subst (Reached m text new) (sym is) (reached_over r new len (λ t follows. (holds t follows).0))

-- the scan stops after more characters of a line
pub scans_over : {m : Mode} {whole before : List ℕ} {old : Scan} (o : Reached m whole old before) (new : Scan) (stop : Stop) (run rest : List ℕ)
    → all_scalars run ≡ true → encode_utf8_all run ++ rest ≡ before → StopsIn m whole new stop (o.read ++ run) rest → ScansIn m whole new stop
scans_over {whole = whole} {before = before} o new stop run rest scalars spell is = record {
  read = o.read ++ run;
  rest = rest;
  scalars = all_scalars-append o.read run o.scalars scalars;
  spell = spell_over o.read run rest before whole spell o.spell;
  stops = is;
}

-- bytes of a line end are its characters
pub feed_bytes : (run : List ℕ) → (run ≡ []) ⊎ (run ≡ 13 ∷ []) → (all_scalars (run ++ 10 ∷ []) ≡ true) × (encode_utf8_all (run ++ 10 ∷ []) ≡ run ++ 10 ∷ [])
feed_bytes run which = let low = low_encodes is_low (run ++ 10 ∷ []) low_is (⊎_elim (λ is. rw is refl) (λ is. rw is refl) which) in (low.1, low.0)

pub return_bytes : encode_utf8_all (13 ∷ []) ≡ 13 ∷ []
return_bytes = (low_encodes is_low (13 ∷ []) low_is refl).0

-- the line ends with the next bytes
pub record EndsThere (m : Mode) (whole before : List ℕ) (old new : Scan) (len : ℕ) : Type 0 where
  pub scans : ScansIn m whole new (stops.LineEnd len)
  pub within : len ≤ length before
  pub stop : new.stop ≡ old.stop + len

pub ends_there : {m : Mode} {whole before : List ℕ} {old : Scan} → begins_line m ≡ true → (o : Reached m whole old before) → (new : Scan) (len : ℕ)
    → ComesTo o.way.field before old (progress.LineEnded len) new → EndsThere m whole before old new len
ends_there {m} {whole} {before} {old} start o new len comes = ⊎_elim with_feed with_return comes where
  after_it : (run : List ℕ) → encode_utf8_all run ≡ run → length run ≡ len → IsLineBefore m new (o.read ++ run) len → new.stop ≡ old.stop + len
  after_it run same size line =
      (line [] (λ returns. refl)).stop ∙ byte_len-append o.read run ∙ omega (arith, rests_end o.way start o.rests, ap length same, size)

  with_feed : EndsWithFeed o.way.field before len new → EndsThere m whole before old new len
  with_feed e =
      let all = e.run ++ 10 ∷ [] in let bytes = feed_bytes e.run e.first in
      let no_return = ap (ends is_return) (sym (append_assoc o.read e.run (10 ∷ []))) ∙ ends-last is_return (o.read ++ e.run) 10 ∙ feed_unreturned in
      let line = line_fed o.way start (stands_open before o.way.field o.rests.as_if (follows_open old o.rests.as_if o.rests.follows) o.rests.stands) e in
      record {
        scans = scans_over o new (stops.LineEnd len) all e.rest bytes.0
            (ap (λ t. t ++ e.rest) bytes.1 ∙ append_assoc e.run (10 ∷ []) e.rest ∙ e.spell) (line, inl no_return);
        within = omega (arith, e.size, ap length e.spell, length-append e.run (10 ∷ e.rest));
        stop = after_it all bytes.1 (length-append e.run (10 ∷ []) ∙ omega (arith, e.size)) line;
      }

  with_return : EndsWithReturn o.way.field before len new → EndsThere m whole before old new len
  with_return e =
      let line = line_returned o.way start e in
      record {
        scans = scans_over o new (stops.LineEnd len) (13 ∷ []) (e.b ∷ e.rest) refl (ap (λ t. t ++ e.b ∷ e.rest) return_bytes ∙ sym e.spell)
            (line, inr (e.b, e.rest, refl, e.other));
        within = omega (arith, e.size, ap length e.spell);
        stop = after_it (13 ∷ []) return_bytes (omega (arith, e.size)) line;
      }

-- or with some after others
pub ends_over : {m : Mode} {text bytes : List ℕ} {old : Scan} → begins_line m ≡ true → (r : Reached m text old bytes) → (new : Scan)
    (before len : ℕ) → EndsAfter old bytes before len new → ScansIn m text new (stops.LineEnd len)
ends_over {bytes = bytes} start r new before len e =
    let o = reached_over r e.mid before e.takes in
    let some = some_left o.rests.as_if (drop before bytes) (e.ends o.rests.as_if o.rests.follows) in
    (ends_there start o new len (comes_real e.mid new (drop before bytes) (progress.LineEnded len) o.way.field some o.rests e.ends)).scans
  where
    some_left : (t : FieldScanned) (left : List ℕ) → ComesTo t left e.mid (progress.LineEnded len) new → 0 < length left
    some_left t left (inl f) = omega (arith, ap length f.spell, length-append f.run (10 ∷ f.rest))
    some_left t left (inr f) = omega (arith, ap length f.spell)
