-- What is held in one step: characters that leave the open piece as it is, simple text of a string with fields, and words, spaces and
-- signs of a field's code up to the last sign.
use Rattle.py_lines.proofs.Prelude.{◌≡◌, ℕ, zero, suc, ◌+◌, ◌<◌, ◌≤◌, Bool, true, false, ◌&&◌, ◌==◌, List, [], ◌∷◌, ◌++◌, length, take, drop, refl, sym, ap, ◌∙◌, subst, append_assoc, append-nil, arith, take-append-drop, Some, encode_utf8_all, len_utf8, list_all, all_scalars, and_parts, and_right, length-take-le, take-take, is_quote, byte_len, spelled, Region, StringWithFields, Scan, literal, OpenMode, has_field}
use Rattle.py_lines.specs.declared.mode.Region.TheVariants as regions
use Rattle.py_lines.specs.declared.mode.Mode.TheVariants as opens
use Rattle.py_lines.specs.declared.mode.Spelling.TheVariants as spellings
use Rattle.py_lines.specs.Private.Machine.{long_move, move_of, short_move, spelling_with}
use Rattle.py_lines.specs.Private.FieldMachine.{FieldMode, FieldScanned, Level, before, between, body, field_move, field_moved, field_state, frames, grows, has_room_at, levels_open, room_step, roomy, text_place}
use Rattle.py_lines.specs.Private.FieldFaults.{here}
use Rattle.py_lines.specs.Private.Scan.{Follows, Goes, HoldsCode, HoldsField, HasQuote, KeepsOpen, ends_line, is_line_ending, is_shut, mode_from, host_in, passed, region_in, with_bytes}
use Rattle.py_lines.specs.Private.FieldText.{HasText}
use Rattle.py_lines.specs.Private.Run.{IsRunOf, Spans, is_code_byte, is_line_byte, is_literal_byte, stays}
use Rattle.py_lines.specs.Private.TakenPieces.{IsOperatorEnd}
use Rattle.py_lines.proofs.FieldScans.Bytes.{byte_len-more, push_three}
use Rattle.py_lines.proofs.FieldScans.Frames.{frames-length}
use Rattle.py_lines.proofs.FieldScans.Taking.{follows_open}
use Rattle.py_lines.proofs.FieldScans.Places.{follows_laid, here_on}
use Rattle.py_lines.proofs.FieldScans.PlainCode.{code_run, is_code_open, over_code, over_operator, plain_low, word_is}
use Rattle.py_lines.proofs.FieldScans.Takes.{comes_exact}
use Rattle.py_lines.proofs.FieldScans.Texts.{code_plain, text_stays, literal_parts}
use Rattle.py_lines.proofs.LineScan.AsciiRuns.{all_pass, line_byte_low, low_encodes}
use Rattle.py_lines.proofs.LineScan.Runs.{body_parts, stay_spelled}
use Rattle.py_lines.proofs.Machine.Soundness.{word_on}
use Rattle.py_lines.proofs.FieldMachine.Runs.{room_grows}

-- a character grows the open piece in its mode, where this is its text so far
abbrev Stays : FieldMode → List ℕ → ℕ → Type 0
Stays m held c = (field_move m held c ≡ grows m) × HoldsCode m (held ++ c ∷ []) × (is_shut m ≡ false)

-- so do those that stay in code, or in the text of a string without fields
code_stays : (m : OpenMode) (held : List ℕ) (c : ℕ) → stays m c ≡ true → HoldsCode (mode_from m) held → Stays (mode_from m) held c
unfolding field_move move_of short_move long_move spelling_with
code_stays (opens.Word spellings.Name) held c h holds = let is = word_is c h in (grind (arith, is.0, is.1), word_on spellings.Name held c holds is.0, refl)
code_stays (opens.Short q) held c h holds = (grind (arith, body_parts q c h), tt, refl)
code_stays m held c h holds = grind arith

-- and in a string's text
text_stays_so : (h : StringWithFields) (region : Region) (named : Bool) (held : List ℕ) (c : ℕ) → is_literal_byte h.quote c ≡ true
    → Stays (mode_from (opens.Fields h region named)) held c
unfolding field_move
text_stays_so h region named held c passes =
    let is = literal_parts h.quote c passes in (text_stays (host_in h) (region_in region) named c is.other is.slash is.none is.brace, tt, refl)

-- the state with more of the open piece
abbrev with_text : FieldScanned → List ℕ → FieldScanned
with_text t run = field_state t.outer t.done t.openers t.mode (t.held ++ run)

-- the scan follows over a run of such characters
grown_ends : (m n : FieldMode) (c : ℕ) → is_line_ending m (grows n) c ≡ false
grown_ends m n c = grind arith

-- it follows over one
module _ (scan : Scan) (t : FieldScanned) (c : ℕ) (follows : Follows scan t) (on : Stays t.mode t.held c) where
  abbrev next : FieldScanned
  next = with_text t (c ∷ [])

  one_step : room_step t c ≡ Some next
  one_step = ap (λ v. roomy (has_room_at (frames t) c v) (field_moved t c v)) on.0 ∙ ap (λ b. roomy b (Some next)) (room_grows (frames t) c t.mode)

  no_end : ends_line t c ≡ false
  no_end = ap (λ v. (frames t == 0) && is_line_ending t.mode v c) on.0 ∙ and_right (frames t == 0) _ (grown_ends t.mode t.mode c)

  follows_one : Follows (with_bytes scan (len_utf8 c)) next
  follows_one = search (follows, on.1, ap (λ (n : ℕ). n + len_utf8 c) follows.stop ∙ sym (push_three (before (text_place t.mode) t.outer) (spelled t.done) t.held c))

-- and over a run of them
follows_run : (passes : ℕ → Bool) (m : FieldMode) → ((held : List ℕ) (c : ℕ) → passes c ≡ true → HoldsCode m held → Stays m held c)
    → (scan : Scan) (t : FieldScanned) (run : List ℕ) → list_all passes run ≡ true
    → t.mode ≡ m → Follows scan t → Goes t run (with_text t run) × KeepsOpen t run × Follows (with_bytes scan (byte_len run)) (with_text t run)
follows_run passes m by scan t [] all is follows =
    let same : t ≡ with_text t [] = ap (λ held. field_state t.outer t.done t.openers t.mode held) (sym (append-nil t.held)) in
    let none : scan.stop ≡ scan.stop + 0 = omega arith in
    (same, tt, subst (λ (n : ℕ). Follows (record scan { stop = n }) (with_text t [])) none (subst (Follows scan) same follows))
follows_run passes m by scan t (c ∷ cs) all is follows =
    let parts = and_parts (passes c) (list_all passes cs) all in
    let on : Stays t.mode t.held c = subst (λ k. HoldsCode k t.held → Stays k t.held c) (sym is) (by t.held c parts.0) follows.holds in
    let one : FieldScanned = with_text t (c ∷ []) in
    let later = follows_run passes m by (with_bytes scan (len_utf8 c)) one cs parts.1 is (follows_one scan t c follows on) in
    let same : with_text one cs ≡ with_text t (c ∷ cs) = ap (λ held. field_state t.outer t.done t.openers t.mode held) (append_assoc t.held (c ∷ []) cs) in
    let far : scan.stop + len_utf8 c + byte_len cs ≡ scan.stop + byte_len (c ∷ cs) = omega (arith, byte_len-more c cs) in (
      subst (Goes t (c ∷ cs)) same (follows_open scan t follows, one, one_step scan t c follows on, no_end scan t c follows on, later.0),
      (one, one_step scan t c follows on, λ outside. on.2, later.1),
      subst (λ (n : ℕ). Follows (record scan { stop = n }) (with_text t (c ∷ cs))) far (subst (Follows (with_bytes (with_bytes scan (len_utf8 c)) (byte_len cs))) same later.2),
    )

-- characters that so many bytes spell
record Spells (bytes : List ℕ) (n : ℕ) (run : List ℕ) : Type 0 where
  scalars : all_scalars run ≡ true
  spell : encode_utf8_all run ≡ take n bytes
  within : n ≤ length bytes

spells_ascii : (passes : ℕ → Bool) (bytes : List ℕ) (n : ℕ) → n ≤ length bytes → ((c : ℕ) → passes c ≡ true → c < 128)
    → list_all passes (take n bytes) ≡ true → Spells bytes n (take n bytes)
spells_ascii passes bytes n within low all =
    let same = low_encodes passes (take n bytes) low all in record { scalars = same.1; spell = same.0; within = within }

size_of : (bytes : List ℕ) (n : ℕ) (run : List ℕ) → Spells bytes n run → byte_len run ≡ n
size_of bytes n run spells = ap length spells.spell ∙ length-take-le n bytes spells.within

-- from where the scan stands, the machine goes over a run, and the scan follows
abbrev GoesFrom : Scan → List ℕ → Scan → Type 0
GoesFrom old run new = (t : FieldScanned) → Follows old t → (u : FieldScanned) × Goes t run u × KeepsOpen t run × Follows new u

holds_run : (old new : Scan) (bytes : List ℕ) (n : ℕ) (run : List ℕ) → Spells bytes n run → GoesFrom old run new → HoldsField old bytes n new
holds_run old new bytes n run spells leads t follows =
    let (u, goes, keeps, after) = leads t follows in
    let spell = ap (λ (t : List ℕ). t ++ drop n bytes) spells.spell ∙ take-append-drop n bytes in
    (search (spell, spells.scalars, size_of bytes n run spells, comes_exact t u run new (drop n bytes) goes after), keeps)

-- characters that leave what is open as it is
holds_on : (scan : Scan) (bytes : List ℕ) (n : ℕ) (run : List ℕ) (passes : ℕ → Bool) → Spells bytes n run → list_all passes run ≡ true
    → ((held : List ℕ) (c : ℕ) → passes c ≡ true → HoldsCode (mode_from scan.mode) held → Stays (mode_from scan.mode) held c)
    → HoldsField scan bytes n (with_bytes scan n)
holds_on scan bytes n run passes spells all by = holds_run scan (with_bytes scan n) bytes n run spells (λ t follows.
    let (goes, keeps, after) = follows_run passes (mode_from scan.mode) by scan t run all (sym follows.mode) follows in
    (with_text t run, goes, keeps, subst (λ (k : ℕ). Follows (with_bytes scan k) (with_text t run)) (size_of bytes n run spells) after))

-- of a piece of code, or a string without fields
pub holds_characters : (scan : Scan) (bytes : List ℕ) (n : ℕ) → HasQuote scan.mode → Spans (stays scan.mode) bytes n
    → HoldsField scan bytes n (with_bytes scan n)
holds_characters scan bytes n quote spans =
    let (run, (scalars, spell)) = spans.utf8 in let all = stay_spelled scan.mode bytes n quote spans.run.within spans.run.each run spell in
    holds_on scan bytes n run (stays scan.mode) (record { scalars = scalars; spell = spell; within = spans.run.within }) all
    (λ held c passes holds. code_stays scan.mode held c passes holds)

-- text of a string with fields
pub holds_literal : (scan : Scan) (h : StringWithFields) (region : Region) (named : Bool) (bytes : List ℕ) (n : ℕ)
    → scan.mode ≡ opens.Fields h region named → IsRunOf (is_literal_byte h.quote) bytes n → HoldsField scan bytes n (with_bytes scan n)
holds_literal scan h region named bytes n mode run =
    let all : list_all (is_literal_byte h.quote) (take n bytes) ≡ true = all_pass (is_literal_byte h.quote) bytes n run.within run.each in
    holds_on scan bytes n (take n bytes) (is_literal_byte h.quote) (spells_ascii (is_literal_byte h.quote) bytes n run.within (λ c passes. (literal_parts h.quote c passes).low) all) all
    (λ held c passes holds. subst (λ (m : OpenMode). Stays (mode_from m) held c) (sym mode) (text_stays_so h region named held c passes))

-- simple text of a string with fields
pub holds_text : (scan : Scan) (h : StringWithFields) (bytes : List ℕ) (n : ℕ) → scan.mode ≡ opens.Fields h regions.Literal false
    → is_quote h.quote ≡ true → length scan.frames ≤ 100 → HasText h.quote bytes n → HoldsField scan bytes n (with_bytes scan n)
holds_text scan h bytes n mode quotes room text =
    let spells = spells_ascii is_line_byte bytes n text.0 line_byte_low text.1.low in
    holds_run scan (with_bytes scan n) bytes n (take n bytes) spells (λ t follows.
    let is : t ≡ field_state t.outer t.done t.openers (body (host_in h) literal false between) t.held = ap (λ m. field_state t.outer t.done t.openers m t.held) (sym follows.mode ∙ ap mode_from mode) in
    let l : Level = record { done = t.done; openers = t.openers; host = host_in h; place = literal; front = [] } in
    let few : length t.openers + levels_open t.outer ≤ 100 = omega (arith, room, frames-length t.outer t.done t.openers scan.frames follows.frames) in
    let (u, goes, keeps, (held, ends)) = text.1.goes t.outer l t refl quotes few (t.held, is) in let own = subst (Follows scan) is follows in
    let stop : scan.stop + n ≡ here u = omega (arith, follows.stop, here_on t u (take n bytes) (follows_laid scan t follows) goes, size_of bytes n (take n bytes) spells) in
    let further : Follows (with_bytes scan n) _ = record { mode = own.mode; holds = tt; no_list = own.no_list; quote = own.quote; start = own.start; frames = own.frames; stop = stop ∙ ap here ends } in
    (u, goes, keeps, subst (Follows (with_bytes scan n)) (sym ends) further))

-- where no piece is open, none begins before where the scan stops
pub free_start : (scan : Scan) (t : FieldScanned) → Follows scan t → scan.mode ≡ opens.Free → Follows (passed scan 0) t
free_start scan t follows free = grind (arith, append-nil, append_assoc)

-- code of a field: its first bytes, up to a sign
pub holds_code : (first : Scan) (bytes : List ℕ) (all len : ℕ) → first.mode ≡ opens.Free → has_field first.frames ≡ true
    → IsRunOf is_code_byte bytes all → IsOperatorEnd (take all bytes) len → HoldsField first bytes len (passed first len)
holds_code first bytes all zero free field run end = λ t follows.
    (record { run = []; spell = refl; scalars = refl; size = refl; comes = free_start first t follows free }, tt)
holds_code first bytes all (suc n) free field run end =
    let len : ℕ = suc n in
    let least : len ≤ all = omega (arith, end.0, length-take-le all bytes run.within) in let short : len ≤ length bytes = omega (arith, least, run.within) in
    let code : list_all is_code_byte (take len bytes) ≡ true = all_pass is_code_byte bytes len short (λ i early. run.each i (omega (arith, early, least))) in
    let same : over_code first (take len bytes) ≡ passed first len = ap (over_code first) (sym (take-take len all bytes least)) ∙ over_operator first (take all bytes) len end (omega arith) in
    holds_run first (passed first len) bytes len (take len bytes) (spells_ascii is_code_byte bytes len short (λ c h. plain_low c (code_plain c h).0) code) (λ t follows.
    let r = code_run is_code_byte first.frames (λ c h. let is = code_plain c h in (is.0, and_right (has_field first.frames) _ is.1)) first t (take len bytes) refl (ap is_code_open free) follows code in
    (r.to, r.goes, r.keeps field, subst (λ (s : Scan). Follows s r.to) same r.follows))
