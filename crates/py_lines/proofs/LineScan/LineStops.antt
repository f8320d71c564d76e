-- The scan of a line goes on in more text, and stops.
use Rattle.py_lines.proofs.Prelude.{◌≡◌, ℕ, ◌+◌, ◌-◌, ◌<◌, ◌≤◌, true, false, Bool, List, [], ◌∷◌, ◌++◌, length, take, drop, refl, sym, ap, ◌∙◌, subst, arith, length-append, encode_utf8, encode_utf8_all, all_scalars, drop_at, drop-drop, take_rest, LineFault, Progress, Scan, OpenMode}
use Rattle.py_lines.specs.declared.mode.Mode.TheVariants as opens
use Rattle.py_lines.specs.declared.mode.Region.TheVariants as regions
use Rattle.py_lines.specs.declared.scan.Progress.TheVariants as progress
use Rattle.py_lines.specs.declared.scan.Stop.TheVariants as stops
use Rattle.py_lines.specs.Private.Machine.{Mode}
use Rattle.py_lines.specs.Private.FieldMachine.{FieldScanned}
use Rattle.py_lines.specs.Private.LineScan.{IsUnderWay, Reached, ReachedInSomeLine, WhereverReached, begins_line}
use Rattle.py_lines.specs.Private.Scan.{ComesTo, Follows, Goes, GoesOverAll, HasPending, HasQuote, HoldsRun, StandsAs, Steps, has_returned, is_pending}
use Rattle.py_lines.specs.Private.TakenPieces.{StopsSo}
use Rattle.py_lines.proofs.Text.Utf8Prefixes.{nothing_bad}
use Rattle.py_lines.proofs.FieldScans.Taking.{comes_real, goes_real, stands_self}
use Rattle.py_lines.proofs.LineScan.LineSteps.{rests_end, way_on}
use Rattle.py_lines.proofs.LineScan.Reaching.{EndsThere, ends_there, reached_more, reached_run, scans_over}

-- wherever in a line the scan stood before a text, it stands now before another
abbrev pub GoesTo : Scan → List ℕ → Scan → List ℕ → Type 0
GoesTo old text new rest = WhereverReached old text (λ m whole. Reached m whole new rest)

-- how it stands where it has come
pub record Stands (whole : List ℕ) (scan : Scan) (rest : List ℕ) : Type 0 where
  pub room : scan.stop + length rest ≡ length whole
  pub there : rest ≡ drop scan.stop whole
  pub quote : HasQuote scan.mode

pub stands_reached : (m : Mode) (whole : List ℕ) (scan : Scan) (rest : List ℕ) → begins_line m ≡ true → Reached m whole scan rest → Stands whole scan rest
stands_reached m whole scan rest start r = let end = rests_end r.way start r.rests in record {
  room = omega (arith, end, ap length r.spell, length-append (encode_utf8_all r.read) rest);
  there = sym (drop_at (encode_utf8_all r.read) rest scan.stop (sym end)) ∙ ap (drop scan.stop) r.spell;
  quote = r.rests.follows.quote;
}

-- what the way from one place of a line to another tells
pub record Gone (old : Scan) (text : List ℕ) (new : Scan) (rest : List ℕ) : Type 0 where
  pub room : new.stop + length rest ≡ old.stop + length text
  pub there : old.stop ≤ new.stop → rest ≡ drop (new.stop - old.stop) text
  pub quote : HasQuote new.mode
  pub way : ReachedInSomeLine new rest

pub gone : {old : Scan} {text : List ℕ} {new : Scan} {rest : List ℕ} → ReachedInSomeLine old text → GoesTo old text new rest → Gone old text new rest
gone {old = old} {text = text} {new = new} {rest = rest} (m, whole, start, r) goes =
    let before = stands_reached m whole old text start r in
    let now = stands_reached m whole new rest start (goes m whole start r) in
    record {
      room = omega (arith, before.room, now.room);
      there = λ further.
          now.there ∙ ap (λ (n : ℕ). drop n whole) (omega (arith, further))
          ∙ sym (drop-drop (new.stop - old.stop) old.stop whole) ∙ ap (drop (new.stop - old.stop)) (sym before.there);
      quote = now.quote;
      way = (m, whole, start, goes m whole start r);
    }

-- it has come to those of the bytes that are left, as a slice has them
pub record ComesAlong (first : Scan) (bytes : List ℕ) (scan : Scan) : Type 0 where
  pub further : first.stop ≤ scan.stop
  pub within : scan.stop - first.stop ≤ length bytes
  pub goes : GoesTo first bytes scan (take (length bytes - (scan.stop - first.stop)) (drop (scan.stop - first.stop) bytes))

pub comes_along : {first : Scan} {bytes : List ℕ} {scan : Scan} {rest : List ℕ} → ReachedInSomeLine first bytes → first.stop ≤ scan.stop
    → GoesTo first bytes scan rest → ComesAlong first bytes scan
comes_along {first} {bytes} {scan} way further goes = let on = gone way goes in record {
  further = further;
  within = omega (arith, on.room);
  goes = λ m whole start r.
      subst (Reached m whole scan) (on.there further ∙ sym (take_rest bytes (scan.stop - first.stop))) (goes m whole start r);
}

-- where nothing is left, nothing is pending
none_pending : (m : OpenMode) → is_pending m [] ≡ true
none_pending (opens.Fields h regions.Literal false) = refl
none_pending m = refl

-- Where the scan leaves bytes that don't tell yet: the machine goes over their characters, as the state that the scan keeps count of does.
record GoesPast (m : Mode) (read run rest : List ℕ) (to : FieldScanned) : Type 0 where
  way : IsUnderWay m (read ++ run)
  stands : StandsAs rest way.field to

as_itself : (rest : List ℕ) (t : FieldScanned) → (has_returned t ≡ true → rest ≡ []) → StandsAs rest t t
as_itself rest t alone = by (has_returned t) refl where
  by : (b : Bool) → has_returned t ≡ b → StandsAs rest t t
  by true is = subst (λ r. StandsAs r t t) (sym (alone is)) refl
  by false is = stands_self rest t is

goes_past : {m : Mode} {read : List ℕ} (way : IsUnderWay m read) (u : FieldScanned) (before run rest : List ℕ) (to : FieldScanned)
    → StandsAs before way.field u → all_scalars run ≡ true → encode_utf8_all run ++ rest ≡ before → Goes u run to
    → (has_returned to ≡ true → rest ≡ []) → GoesPast m read run rest to
goes_past way u before [] rest to stands scalars spell goes alone = record {
  way = way_on way [] way.field refl;
  stands = subst (StandsAs rest way.field) goes (subst (λ b. StandsAs b way.field u) (sym spell) stands);
}
goes_past way u before (c ∷ cs) rest to stands scalars spell goes alone = record {
  way = way_on way (c ∷ cs) to (goes_real way.field u to before (c ∷ cs) rest stands scalars spell (omega arith) goes);
  stands = as_itself rest to alone;
}

-- a run of characters was held
pub goes_run : {first : Scan} {text : List ℕ} {old : Scan} {before : List ℕ} → GoesTo first text old before → {new : Scan} {rest : List ℕ}
    → HoldsRun old before rest new → GoesTo first text new rest
goes_run goes {new = new} {rest = rest} holds m whole start r = reached_run (goes m whole start r) new rest holds

module _ {first : Scan} {text : List ℕ} {old : Scan} {before : List ℕ} (way : ReachedInSomeLine first text)
    (further : first.stop ≤ old.stop) (goes : GoesTo first text old before) where
  module _ (some : 0 < length before) (p : Progress) (new : Scan) (steps : Steps old before p new) where
    -- what the bytes come to, in a line
    comes : (q : Progress) {m : Mode} {whole : List ℕ} → p ≡ q → (o : Reached m whole old before) → ComesTo o.way.field before old q new
    comes q is o = subst (λ x. ComesTo o.way.field before old x new) is (comes_real old new before p o.way.field some o.rests steps)

    -- some of them were taken
    pub goes_step : {len : ℕ} → p ≡ progress.Going len → GoesTo first text new (drop len before) × (0 < len) × (len ≤ length before)
    goes_step {len = len} going =
        let (n, all, begins, at) = way in
        let first_over = comes (progress.Going len) going (goes n all begins at) in (
          λ m whole start r.
              let o = goes m whole start r in let over = comes (progress.Going len) going o in
              reached_more o over.run (drop len before) new over.to over.goes over.rests over.spell over.scalars,
          first_over.some,
          omega (arith, first_over.size, ap length first_over.spell, length-append (encode_utf8_all first_over.run) (drop len before)),
        )

    -- they ended the line
    pub stops_line : {len : ℕ} → p ≡ progress.LineEnded len → StopsSo text first (stops.LineEnd len) new
    stops_line {len = len} ended =
        let (n, all, begins, at) = way in record {
          further = omega (arith, further, (ends begins (goes n all begins at)).stop);
          scans = λ m whole start r. (ends start (goes m whole start r)).scans;
        }
      where
        ends : {m : Mode} {whole : List ℕ} → begins_line m ≡ true → Reached m whole old before → EndsThere m whole before old new len
        ends start o = ends_there start o new len (comes (progress.LineEnded len) ended o)

    -- something is wrong
    pub stops_wrong : {line_fault : LineFault} → p ≡ progress.Wrong line_fault → StopsSo text first (stops.Wrong line_fault) new
    stops_wrong {line_fault = line_fault} wrong = let (n, all, begins, at) = way in record {
      further = omega (arith, further, ap (λ (s : Scan). s.stop) (comes (progress.Wrong line_fault) wrong (goes n all begins at)).1);
      scans = λ m whole start r.
          let o = goes m whole start r in let (w, kept) = comes (progress.Wrong line_fault) wrong o in
          scans_over o new (stops.Wrong line_fault) w.run (encode_utf8 w.c ++ w.after) w.scalars w.spell (record {
            way = way_on o.way w.run w.to w.goes;
            c = w.c;
            after = w.after;
            scalar = w.scalar;
            spell = refl;
            none = w.none;
            open_yet = w.open_yet;
            fault = w.fault;
          });
    }

  -- the bytes that are left don't tell yet what they are
  stops_left : ((t : FieldScanned) → Follows old t → (all : GoesOverAll t before) × (has_returned all.to ≡ true → all.rest ≡ []))
      → HasPending old.mode before → StopsSo text first stops.TextEnd old
  stops_left over pending = record {
    further = further;
    scans = λ m whole start r.
        let o = goes m whole start r in let (all, alone) = over o.rests.as_if o.rests.follows in
        let past = goes_past o.way o.rests.as_if before all.run all.rest all.to o.rests.stands all.scalars all.spell all.goes alone in
        scans_over o old stops.TextEnd all.run all.rest all.scalars all.spell (record {
          way = past.way;
          none = all.none;
          left = before;
          reached = o;
          pending = pending;
          all = all;
          rest_is = refl;
          stands = past.stands;
          alone = alone;
        });
  }

  pub stops_waiting : (p : Progress) (new : Scan) → Steps old before p new → p ≡ progress.Waits → StopsSo text first stops.TextEnd new
  stops_waiting p new steps waits =
      let (n, all, begins, at) = way in let o = goes n all begins at in
      let told = waiting o.rests.as_if o.rests.follows in
      subst (StopsSo text first stops.TextEnd) (sym told.3) (stops_left (λ t follows. let more = waiting t follows in (more.0, more.1)) told.2)
    where
      waiting : (t : FieldScanned) → Follows old t → ComesTo t before old progress.Waits new
      waiting t follows = subst (λ x. ComesTo t before old x new) waits (steps t follows)

  -- or none is left
  pub stops_text : before ≡ [] → StopsSo text first stops.TextEnd old
  stops_text none = stops_left
      (λ t follows. (record { run = []; rest = []; spell = sym none; scalars = refl; none = nothing_bad; to = t; goes = refl; one = tt }, λ _. refl))
      (record { run = []; rest = []; spell = sym none; none = nothing_bad; is = none_pending old.mode })
