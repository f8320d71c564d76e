-- A finder over pieces takes bytes up to a line's end, and lets the line go at once if neither `import` nor `from` stands in it.
use Rattle.std.proofs.Common.{◌≡◌, ℕ, false, Option, None, Some, Result, Ok, Err, List, [], ◌∷◌, ◌++◌, codes, length, take, inl, inr, ◌⊎◌, refl, sym, ap, ◌∙◌, subst, append-nil, length-append, arith}
use Rattle.std.proofs.Math.Seq.{take-length}
use Rattle.std.proofs.lemmas.List.{length-take-le}
use Rattle.py_lines.specs.LogicalLine.{LogicalLine}
use Rattle.py_lines.specs.ScannerState.{ScannerState, EndsExactly, Feeds, FeedsNaming, GoesOnWith, HasSettled, HoldsReady, IsScanning, LacksBoth, Releases, TakesBytes, fed_of}
use Rattle.py_lines.specs.Settled.{IsSettled}
use Rattle.py_lines.specs.declared.fault.Fault.{Fault}
use Rattle.py_lines.specs.declared.fault.LexError.{LexError}
use Rattle.py_lines.specs.declared.fault.LexError.TheVariants as lex
use Rattle.py_imports.specs.BindingValue.{BindingValue}
use Rattle.py_imports.specs.Binds.{BindAll}
use Rattle.py_imports.specs.FirstWords.{LieWithoutImport, NoImportBegins}
use Rattle.isort_find.specs.Pieces.{PieceFinderState, HasFoundIn, IsBetweenLines, MeetsFaultIn, fed_by}
use Rattle.isort_find.specs.Position.{skip_in}
use Rattle.isort_find.specs.Private.KnownLaws.{AscentLaws, EachIsLexed, OneSettled, SettledLaws}
use Rattle.isort_find.specs.Private.PieceSteps.{FeedsLine, IsBetween, IsNextStart, MayPassLines, PassesLines, TakesBytesOf, TakesLineOf, TakesNothing, TriesReady, walker_of, with_walker}
use Rattle.isort_find.specs.Private.Walks.{with_fault}
use Rattle.isort_find.specs.declared.error.FindError.{FindError}
use Rattle.isort_find.specs.declared.pending.LineStart.{LineStart}
use Rattle.isort_find.proofs.Fed.Known.{none_or_some, still_scanning}
use Rattle.isort_find.proofs.Fed.LetGo.{BeginsLine, begun_here, ended_gone, line_begun}
use Rattle.isort_find.proofs.Fed.OneLine.{meets_fault, taken_between, takes_line, takes_no_byte, tries_bad}
use Rattle.isort_find.proofs.Fed.PassedLines.{BindNothing, gone_on, passed_between, passed_bind}
use Rattle.isort_find.proofs.Fed.TriedLines.{not_err}

-- the law `binds` of `py_imports::lines_without_import_bind_nothing`
abbrev pub QuietLaw : Type 0
QuietLaw = (lines : List LogicalLine) → LieWithoutImport lines → BindAll lines []

-- neither `import` nor `from` stands in these bytes
abbrev pub LacksWords : List ℕ → Type 0
LacksWords bytes = LacksBoth (codes "import") (codes "from") bytes

-- where each of two is false, so is that one of them holds
neither : {A B : Type 0} → ¬ A → ¬ B → ¬ (A ⊎ B)
neither a b (inl x) = a x
neither a b (inr y) = b y

-- so no import statement begins there
none_begins : (bytes : List ℕ) → LacksWords bytes → NoImportBegins bytes 0 (length bytes)
none_begins bytes lacks k low high may = neither (lacks.0 k low high) (lacks.1 k low high) may.1

-- and a line with these bytes binds nothing
line_binds : QuietLaw → (line : LogicalLine) → LacksWords line.text → BindNothing (line ∷ [])
line_binds law line lacks =
    let len = length line.text in
    passed_bind law line.text 0 len len (line ∷ []) (none_begins line.text lacks) (omega arith) (omega arith) (omega arith)
    (append-nil line.text ∙ sym (take-length line.text))

-- bytes were taken, and the line that got ready with them was released: neither word stands in it
pub record LetsGoAtOnce (t : ScannerState) (piece : List ℕ) (n : ℕ) (s : ScannerState) : Type 0 where
  pub mid : ScannerState
  pub takes : TakesBytes t piece n mid
  pub releases : Releases mid s
  pub lacks : LacksWords releases.unit.text

-- it is the next line of each text
record IsNextLine (old : PieceFinderState) (t : ScannerState) (piece : List ℕ) (n : ℕ) (s : ScannerState) (go : LetsGoAtOnce t piece n s)
    (text : List ℕ) (values : List BindingValue) : Type 0 where
  pub between : IsBetweenLines go.mid old.cursor text (skip_in old.position) values
  pub scanning : IsScanning go.mid text between.after.lines
  pub settled : HasSettled s text (between.after.lines ++ go.releases.unit ∷ [])

next_line : (old : PieceFinderState) (t : ScannerState) → BeginsLine old t
    → (piece : List ℕ) (n : ℕ) (s : ScannerState) (go : LetsGoAtOnce t piece n s) (text : List ℕ) (values : List BindingValue)
    → HasFoundIn old text values → GoesOnWith text (fed_by old) (take n piece) → IsNextLine old t piece n s go text values
next_line old t b piece n s go text values h goes =
    let between = taken_between old t b go.mid piece n go.takes text values h goes in
    let scanning = still_scanning go.mid text between.after.lines (go.takes.open_yet ∙ ended_gone old.scanning t b.scanner ∙ b.yet)
    between.released in
    record { between = between; scanning = scanning; settled = go.releases.scans text between.after.lines scanning }

-- the finder is between the lines after it
passes_at_once : QuietLaw → (old : PieceFinderState) (t : ScannerState) → BeginsLine old t → (piece : List ℕ) (n : ℕ) (s : ScannerState)
    → LetsGoAtOnce t piece n s → MayPassLines old → PassesLines old piece n (line_begun old s)
passes_at_once law old t b piece n s go may =
    let r = go.releases in
    let takes = go.takes in
    let held = ap length r.held in
    let taken = ap length takes.held in
    gone_on old t b s piece n takes.within (omega (arith, r.place, takes.place))
    (omega (
      arith,
      r.place,
      takes.place,
      held,
      taken,
      length-append r.unit.text s.held,
      length-append t.held (take n piece),
      length-take-le n piece takes.within,
    )) same (λ text values h goes.
    let line = next_line old t b piece n s go text values h goes in
    passed_between go.mid s old.cursor text (skip_in old.position) values (r.unit ∷ []) line.between may.fresh may.counts
    (line_binds law r.unit go.lacks text s.place s.line line.between.after.lines line.settled.0.first) line.settled.0)
  where
    same : s ≡ record t { place = s.place; line = s.line; held = s.held }
    same =
        let ready = go.releases.none_ready ∙ sym b.none_ready in
        let ended = go.releases.ended ∙ go.takes.open_yet in
        let fault = go.releases.fault ∙ go.takes.no_fault ∙ sym go.takes.fault in
        (λ i. record { place = s.place; line = s.line; held = s.held; ready = ready i; ended = ended i; fault = fault i })

-- a line that is ready and has no byte is all that is held
none_held : (held : List ℕ) (ready : Option LogicalLine) (line : LogicalLine) → ready ≡ Some line → line.text ≡ [] → HoldsReady held ready
    → length held ≡ 0
none_held held ready line is none holds = by (subst (HoldsReady held) is holds)
  where
    exact : (more : List ℕ) → EndsExactly [] more → length more ≡ 0
    exact more (inl h) = ap length h.1
    exact more (inr h) = absurd cc

    by : HoldsReady held (Some line) → length held ≡ 0
    by h =
        let len = ap length h.1 in
        let size = ap length none in
        let rest = exact h.0 (subst (λ (bytes : List ℕ). EndsExactly bytes h.0) none h.2) in
        omega (arith, len, size, rest, length-append line.text h.0)

-- a line that gets ready has a byte
some_text : AscentLaws → (old : PieceFinderState) (t : ScannerState) → BeginsLine old t
    → (piece : List ℕ) (n : ℕ) (s : ScannerState) (go : LetsGoAtOnce t piece n s) → go.releases.unit.text ≡ []
    → (text : List ℕ) (values : List BindingValue) → HasFoundIn old text values → GoesOnWith text (fed_by old) (take n piece) → ⊥
some_text ascent old t b piece n s go none text values h goes =
    let r = go.releases in
    let line = next_line old t b piece n s go text values h goes in
    let lines = line.between.after.lines in
    let empty = none_held go.mid.held go.mid.ready r.unit r.was none line.scanning.whole in
    let held = ap length r.held in
    let fed : fed_of s ≡ go.mid.place = omega (arith, empty, held, length-append r.unit.text s.held, r.place, ap length none) in
    let settled = subst (λ (k : ℕ). IsSettled (take k text) (lines ++ r.unit ∷ [])) fed line.settled.1 in
    let longer = ascent.within text go.mid.place go.mid.line lines (lines ++ r.unit ∷ []) line.scanning.first settled in
    let len = ap length longer.1 in
    omega (arith, len, length-append (lines ++ r.unit ∷ []) longer.0, length-append lines (r.unit ∷ []))

-- none was taken only where there is none
none_taken : (t : ScannerState) (piece : List ℕ) → t.ready ≡ None → (piece ≡ []) ⊎ ((u : LogicalLine) × (t.ready ≡ Some u)) → piece ≡ []
none_taken t piece none (inl nil) = nil
none_taken t piece none (inr u) = absurd (none_or_some _ u.0 none u.1)

-- bytes were taken, and a line was let go at once
lets_go : AscentLaws → QuietLaw → (old : PieceFinderState) (t : ScannerState) → t.place ≡ old.scanning.place → BeginsLine old t
    → (piece : List ℕ) (n : ℕ) (s : ScannerState) → LetsGoAtOnce t piece n s → MayPassLines old
    → TakesLineOf old piece (Ok n) (line_begun old s)
lets_go ascent law old t here b piece n s go may = by go.releases.unit.text refl
  where
    passes : PassesLines old piece n (line_begun old s)
    passes = passes_at_once law old t b piece n s go may

    by : (bytes : List ℕ) → go.releases.unit.text ≡ bytes → TakesLineOf old piece (Ok n) (line_begun old s)
    by [] none = inl (record {
      advances = passes.advances;
      undecided = λ text values h goes idle drained. absurd (some_text ascent old t b piece n s go none text values h goes);
      next_new = tt;
      some = λ zero. none_taken t piece b.none_ready (go.takes.some zero);
      no_fault = λ fault at. cc;
    })
    by (x ∷ xs) some = inr (record {
      advances = passes.advances;
      between = passes.between;
      some = λ zero. none_taken t piece b.none_ready (go.takes.some zero);
      further = let place = go.releases.place in let size = ap length some in omega (arith, place, size, go.takes.place, here);
    })

-- what the scanner did with the bytes: a line may have been let go
abbrev pub FeedsOne : PieceFinderState → List ℕ → ℕ → ScannerState → Type 0
FeedsOne old piece n s = TakesBytes old.scanning piece n s ⊎ (MayPassLines old × LetsGoAtOnce old.scanning piece n s)

feeds_one : (old mid : PieceFinderState) (piece : List ℕ) (n : ℕ) → FeedsLine old piece (Ok n) mid → FeedsOne old piece n mid.scanning
feeds_one old mid piece n fed = by fed.feeds
  where
    by : Feeds old.scanning piece (Ok n) mid.scanning ⊎ (MayPassLines old
        × FeedsNaming (codes "import") (codes "from") old.scanning piece (Ok n) mid.scanning) → FeedsOne old piece n mid.scanning
    by (inl takes) = inl takes
    by (inr naming) = named naming.1.same
      where
        named : (mid.scanning ≡ naming.1.mid) ⊎ ((line : LogicalLine) × (naming.1.mid.ready ≡ Some line) × LacksWords line.text
            × Releases naming.1.mid mid.scanning) → FeedsOne old piece n mid.scanning
        named (inl same) = inl (subst (TakesBytes old.scanning piece n) (sym same) naming.1.takes)
        named (inr go) =
            let r = go.3 in
            let is : go.0 ≡ r.unit = let e : Some go.0 ≡ Some r.unit = sym go.1 ∙ r.was in cc in
            inr (
              naming.0,
              record {
                mid = naming.1.mid;
                takes = naming.1.takes;
                releases = r;
                lacks = subst
                    (λ (line : LogicalLine). LacksWords line.text) is go.2;
              },
            )

-- an error is the scanner's
pub feeds_error : (old mid : PieceFinderState) (piece : List ℕ) (e : LexError) → FeedsLine old piece (Err e) mid
    → Feeds old.scanning piece (Err e) mid.scanning
feeds_error old mid piece e fed = by e fed.feeds
  where
    by : (e : LexError) → Feeds old.scanning piece (Err e) mid.scanning
        ⊎ (MayPassLines old × FeedsNaming (codes "import") (codes "from") old.scanning piece (Err e) mid.scanning)
        → Feeds old.scanning piece (Err e) mid.scanning
    by (lex.Fault fault) (inl feeds) = feeds
    by (lex.Fault fault) (inr naming) = naming.1
    by lex.Memory (inl feeds) = feeds
    by lex.Memory (inr naming) = naming.1

-- a line is tried where the finder is between two lines
pub tried_there : (old mid new : PieceFinderState) (piece : List ℕ) (fed : Result ℕ LexError) (result : Result (Unit {0}) FindError)
    → old ≡ line_begun old old.scanning → FeedsLine old piece fed mid → TriesReady mid result new
    → TriesReady (line_begun old mid.scanning) result new
tried_there old mid new piece fed result is feeds tries = subst (λ (f : PieceFinderState). TriesReady f result new)
    (feeds.same ∙ ap (λ (f : PieceFinderState). record f { scanning = mid.scanning }) is) tries

-- none is ready, and none was tried
nothing_tried : (f new : PieceFinderState) (result : Result (Unit {0}) FindError) → f.scanning.ready ≡ None → TriesReady f result new
    → (result ≡ Ok tt) × (new ≡ f)
nothing_tried f new result none (inl tried) = (tried.1, tried.2)
nothing_tried f new result none (inr h) = absurd (none_or_some _ h.line none h.at.ready)

-- bytes were taken, and the line was tried or let go
pub takes_one : SettledLaws → OneSettled → AscentLaws → QuietLaw → (old mid new : PieceFinderState) → IsBetween old
    → old.scanning.ended ≡ false → (piece : List ℕ) (n : ℕ) → FeedsLine old piece (Ok n) mid → (result : Result (Unit {0}) FindError)
    → result ≡ Ok tt → TriesReady mid result new → TakesLineOf old piece (Ok n) new
takes_one laws one ascent law old mid new between yet piece n fed result ok tried = by (feeds_one old mid piece n fed)
  where
    there : TriesReady (line_begun old mid.scanning) result new
    there = let gone = begun_here old old refl between yet in tried_there old mid new piece (Ok n) result gone.is fed tried

    by : FeedsOne old piece n mid.scanning → TakesLineOf old piece (Ok n) new
    by (inl takes) = let gone = begun_here old old refl between yet in inl
        (takes_line laws one ascent old old.scanning gone.begins mid.scanning piece n takes new result ok there)
    by (inr go) =
        let gone = begun_here old old refl between yet in
        let same = (nothing_tried (line_begun old mid.scanning) new result go.1.releases.none_ready there).1 in
        subst (TakesLineOf old piece (Ok n)) (sym same) (lets_go ascent law old old.scanning refl gone.begins piece n mid.scanning go.1
        go.0)

of_bytes : (old new : PieceFinderState) (piece : List ℕ) (answer : Result ℕ FindError) → TakesBytesOf old piece answer new
    → TakesLineOf old piece answer new
of_bytes old new piece (Ok n) takes = inl takes
of_bytes old new piece (Err e) takes = takes

-- the line that got ready is bad
pub tries_one_bad : SettledLaws → (old mid new : PieceFinderState) → IsBetween old → old.scanning.ended ≡ false → (piece : List ℕ) (n : ℕ)
    → FeedsLine old piece (Ok n) mid → (result : Result (Unit {0}) FindError) (e : FindError) (answer : Result ℕ FindError)
    → result ≡ Err e → answer ≡ Err e → TriesReady mid result new → TakesLineOf old piece answer new
tries_one_bad laws old mid new between yet piece n fed result e answer err is tried = by (feeds_one old mid piece n fed)
  where
    there : TriesReady (line_begun old mid.scanning) result new
    there = let gone = begun_here old old refl between yet in tried_there old mid new piece (Ok n) result gone.is fed tried

    by : FeedsOne old piece n mid.scanning → TakesLineOf old piece answer new
    by (inl takes) = let gone = begun_here old old refl between yet in of_bytes old new piece answer
        (tries_bad laws old old.scanning gone.begins mid.scanning piece n takes new result e answer err is there)
    by (inr go) = absurd (not_err e result (nothing_tried (line_begun old mid.scanning) new result go.1.releases.none_ready there).0 err)

-- the scanner meets a fault, and the walker has it from then on
pub fault_one : SettledLaws → EachIsLexed → (old mid new : PieceFinderState) → IsBetween old → old.scanning.ended ≡ false
    → (piece : List ℕ) (fault : Fault) (start : LineStart) → IsNextStart old.scanning start
    → FeedsLine old piece (Err (lex.Fault fault)) mid → new ≡ with_walker mid (with_fault (walker_of mid) start fault)
    → MeetsFaultIn old piece fault new
fault_one laws each old mid new between yet piece fault start here fed kept =
    let gone = begun_here old old refl between yet in
    let is = fed.same ∙ ap (λ (f : PieceFinderState). record f { scanning = mid.scanning }) gone.is in
    subst (MeetsFaultIn old piece fault) (sym (kept ∙ ap (λ (f : PieceFinderState). with_walker f (with_fault (walker_of f) start fault))
    is)) (meets_fault laws each old old.scanning gone.begins mid.scanning piece fault start here
    (feeds_error old mid piece (lex.Fault fault) fed))

-- memory ran out before the first byte
pub memory_one : SettledLaws → OneSettled → AscentLaws → (old mid : PieceFinderState) → IsBetween old → old.scanning.ended ≡ false
    → (piece : List ℕ) → FeedsLine old piece (Err lex.Memory) mid → TakesNothing old mid
memory_one laws one ascent old mid between yet piece fed =
    let gone = begun_here old old refl between yet in
    let same = (feeds_error old mid piece lex.Memory fed).same in
    subst (TakesNothing old) (sym (fed.same ∙ ap (λ (s : ScannerState). record old { scanning = s }) same ∙ gone.is))
    (takes_no_byte laws one ascent old old.scanning gone.begins)
