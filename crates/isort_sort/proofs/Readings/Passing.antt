-- A line that is passed over: it has no import statement, says nothing, and no block may go on.
use Rattle.std.proofs.Common.{◌≡◌, ℕ, Bool, true, false, cond, not, ◌||◌, ◌&&◌, nat_lt, None, Some, List, [], ◌∷◌, ◌++◌, map, inl, inr, refl, sym, ap, ◌∙◌}
use Rattle.std.specs.Prelude.{slice_get, option_map}
use Rattle.std.specs.Option.{option_map_or}
use Rattle.std.specs.List.{list_any}
use Rattle.std.specs.Str.{IsUtf8}
use Rattle.py_lines.specs.LogicalLine.{LogicalLine}
use Rattle.py_lines.specs.declared.unit.UnitKind.{UnitKind}
use Rattle.py_lines.specs.declared.unit.UnitKind.TheVariants as unit_kind
use Rattle.py_lines.specs.declared.token.Token.{Token}
use Rattle.py_imports.specs.Binds.{terminal_in}
use Rattle.py_imports.specs.Declaration.{is_code}
use Rattle.py_imports.specs.Grammar.{Terminal, import_word, begins_import}
use Rattle.py_imports.specs.Shape.{begins_so}
use Rattle.py_imports.specs.Statement.{is_comment, significant}
use Rattle.py_imports.specs.declared.line_shape.Shape.TheVariants as shape
use Rattle.isort_sort.specs.Private.Actions.{asks_to_skip, no_actions, AreActions}
use Rattle.isort_sort.specs.Private.Found.{Finding, with_blank, with_comments, closed_block, after_blank, after_comments, after_other}
use Rattle.isort_sort.specs.Line.{comment_texts}
use Rattle.isort_sort.specs.Private.LineRole.{turned}
use Rattle.isort_sort.specs.Private.Reading.{has_code, stop_of, FindsLine, IsReadSoFar, MayPass, ReadsLine, ReadsSkip}
use Rattle.isort_sort.specs.Row.{is_comment_kind, parts_blocks, before_line, string_skips}
use Rattle.isort_sort.specs.declared.read.LineReader.{LineReader}
use Rattle.isort_sort.specs.declared.skip.SkipReader.{SkipReader}
use Rattle.isort_sort.proofs.Readings.Lines.{any_match, finds_blank, finds_comments, finds_other}
use Rattle.isort_sort.proofs.Readings.LinesRead.{read_on, still_before}
use Rattle.isort_sort.proofs.Rows.Roles.{sortable_begins}
use Rattle.isort_sort.proofs.Rows.Skips.{skip_pushed}
use Rattle.std.proofs.Math.Bool.{and-false, or-false}
use Rattle.std.proofs.lemmas.Bool.{or_parts}

first_only : (x : Terminal) (xs : List Terminal) → begins_import (x ∷ []) ≡ begins_import (x ∷ xs)
first_only import_word xs = refl
first_only _ xs = refl

-- whether a token is spelled as the first word of an import statement
abbrev is_first : List ℕ → Token → Bool
is_first text t = begins_import (terminal_in text t ∷ [])

none_first : (text : List ℕ) (tokens : List Token) → list_any (is_first text) tokens ≡ false → begins_import (map (terminal_in text) (significant tokens)) ≡ false
none_first text [] h = refl
none_first text (t ∷ ts) h = by (is_comment t.kind) (none_first text ts)
  where
    by : (c : Bool) → (list_any (is_first text) ts ≡ false → begins_import (map (terminal_in text) (significant ts)) ≡ false) → begins_import (map (terminal_in text) (cond (not c) (t ∷ significant ts) (significant ts))) ≡ false
    by true later = later (or_parts (is_first text t) (list_any (is_first text) ts) h).1
    by false later = sym (first_only (terminal_in text t) (map (terminal_in text) (significant ts))) ∙ (or_parts (is_first text t) (list_any (is_first text) ts) h).0

-- a line without a token that is spelled as `import` or `from` begins with none
pub begins_none : (line : LogicalLine) → list_any (λ t. begins_import (terminal_in line.text t ∷ [])) line.tokens ≡ false → begins_so line ≡ false
begins_none line none = (λ i. is_code line.kind && none_first line.text line.tokens none i) ∙ and-false (is_code line.kind)

quiet_turned : (line : LogicalLine) → AreActions line no_actions → (off : Bool) → turned off line ≡ off
quiet_turned line quiet off = λ i. cond (sym quiet.off i) true (cond (sym quiet.on i && not (sym quiet.off i)) false off)

quiet_parts : (line : LogicalLine) → AreActions line no_actions → parts_blocks line ≡ false
quiet_parts line quiet = λ i. sym quiet.off i || sym quiet.on i || sym quiet.split i

-- the state after a line that no block takes in, where none may go on
abbrev pub passed_to : ℕ → Finding → Finding
passed_to stop f = record f { place = stop }

-- such a line changes nothing but the byte that was reached
finds_passed : (off : Bool) (line : LogicalLine) (f : Finding) → IsUtf8 line.text → AreActions line no_actions → begins_so line ≡ false → f.opened ≡ None → FindsLine off line f (passed_to (stop_of line) f)
finds_passed off line f utf8 quiet plain closed = by line.kind refl
  where
    stop : ℕ
    stop = stop_of line

    passed : Finding
    passed = passed_to stop f

    by : (kind : UnitKind) → line.kind ≡ kind → FindsLine off line f passed
    by unit_kind.Blank k =
        let ended = nat_lt 0 line.end_len in
        let same : passed ≡ after_blank stop ended f = λ i. record { found = f.found; opened = (closed ∙ sym (ap (option_map (with_blank stop ended)) closed)) i; place = stop } in
        finds_blank off line utf8 f passed stop refl ended same k refl
    by unit_kind.Comment k =
        let said = comment_texts line in
        let same : passed ≡ after_comments stop said f = λ i. record { found = f.found; opened = (closed ∙ sym (ap (option_map (with_comments said)) closed)) i; place = stop } in
        finds_comments off line utf8 f passed stop refl said same (ap is_comment_kind k, quiet_parts line quiet) (any_match f.opened refl)
    by unit_kind.Code k =
        let asks = before_line line shape.Other in
        let same : passed ≡ after_other stop asks f = λ i. record { found = sym (ap (λ o. option_map_or (λ o. f.found ++ closed_block (Some asks) o ∷ []) o f.found) closed) i; opened = closed i; place = stop } in
        finds_other off line utf8 f passed stop refl asks same (shape.Other, plain, refl, inl (k, inr (λ is. let both : true ≡ false = sym (sortable_begins line is) ∙ plain in absurd (cc))))

-- code was read, and so a line
begun_by : (lines : List LogicalLine) (r : LineReader) → r.skip.begun ≡ true → IsReadSoFar lines r → r.begun ≡ true
begun_by [] r begun h = absurd (let both : true ≡ false = sym begun ∙ h.skip.begun in cc)
begun_by (l ∷ ls) r begun h = h.begun

-- whether the text is skipped stays as it was
skips_on : (line : LogicalLine) (r : SkipReader) → AreActions line no_actions → r.begun ≡ true → ReadsSkip line r r
skips_on line r quiet begun = skip_pushed line r r (sym kept) (begun ∙ sym (ap (λ b. b || has_code line) begun))
  where
    string : Bool
    string = string_skips line (slice_get (significant line.tokens) 0)

    kept : r.skips || asks_to_skip r.begun line ≡ r.skips
    kept = (λ i. r.skips || (sym quiet.skip_file i || (not (begun i) && string))) ∙ or-false r.skips

-- a line was passed over
pub passed_on : (line : LogicalLine) (old : LineReader) → IsUtf8 line.text → AreActions line no_actions → begins_so line ≡ false → MayPass old → ReadsLine line old (record old { blocks = passed_to (stop_of line) old.blocks })
passed_on line old utf8 quiet plain may lines stands h = read_on lines line old (record old { blocks = passed_to (stop_of line) old.blocks })
    (finds_passed old.off line old.blocks utf8 quiet plain may.1)
    refl
    (sym (quiet_turned line quiet old.off))
    (skips_on line old.skip quiet may.0)
    stands
    (still_before lines line old (begun_by lines old may.0 h) h)
