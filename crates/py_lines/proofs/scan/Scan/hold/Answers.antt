use Rattle.py_lines.proofs.Prelude.{length-take-le, ◌≡◌, ◌+◌, ◌≤◌, ◌∙◌, false, length, length-take, refl, subst, sym, arith, OpenMode, rest_is}
use Rattle.py_lines.specs.declared.mode.Region.TheVariants as regions
use Rattle.py_lines.specs.declared.mode.Mode.TheVariants as opens
use Rattle.py_lines.specs.Private.Scan.{HasQuote, HoldsField}
use Rattle.py_lines.proofs.LineScan.AsciiRuns.{quote_fits}
use Rattle.py_lines.proofs.FieldScans.Runs.{holds_characters, holds_code, holds_literal, holds_text}
use Rattle.py_lines.proofs.scan.Scan.hold.Goals as goal
use Rattle.py_lines.proofs.scan.Scan.hold.Goals.{After-last_operator_end-len, Joined-self, in-Free, in-Fields-default-Literal-false, in-Fields+in-Fields, in_default}

pub overflow_cast-host : goal.overflow_cast-host
overflow_cast-host c = quote_fits c.in-Fields-default-Literal-false.host.quote (subst HasQuote c.in-Fields-default-Literal-false.is c.requires.quote)

pub overflow_cast-host-in-Fields : goal.overflow_cast-host-in-Fields
overflow_cast-host-in-Fields c = quote_fits c.in-Fields.host.quote (subst HasQuote c.in-Fields.is c.requires.quote)

pub slice_bounds-last_operator_end-end : goal.slice_bounds-last_operator_end-end
slice_bounds-last_operator_end-end c = sym (length-take-le c.len_in.result c.args.bytes.now c.len_in.ensures.within)

-- up to the last sign
signs : (c : After-last_operator_end-len) → c.last_operator_end-len.result ≤ length c.args.bytes.now
signs c = omega (arith, c.last_operator_end-len.ensures.0, length-take c.len_in.result c.args.bytes.now)

pub overflow_add-self : goal.overflow_add-self
overflow_add-self c = omega (arith, signs c, c.requires.bytes)

pub characters_in-len-requires : goal.characters_in-len-requires
characters_in-len-requires c = record { quote = c.requires.quote }

-- so many of the bytes
within : (c : Joined-self) → (c.match-self.self.stop ≡ c.args.self.now.stop) × (c.match-self.len ≤ length c.args.bytes.now)
within c = elim c.match-self.branch [
  | in-Free w ↦ rw (w.self-is, w.len-is) (refl, omega (arith, w.last_operator_end-len.ensures.0, length-take w.len_in.result c.args.bytes.now))
  | in-Fields-default-Literal-false w ↦ rw (w.self-is, w.len-is) (refl, w.text_len-len.ensures.0)
  | in-Fields+in-Fields w ↦ rw (w.self-is, w.len-is) (refl, w.literal_run-len.ensures.within)
  | in_default w ↦ rw (w.self-is, w.len-is) (refl, w.characters_in-len.ensures.run.within)
]

pub overflow_add-self-2 : goal.overflow_add-self-2
overflow_add-self-2 c = let (stop, fits) = within (goal.at.overflow_add-self-2 c).Joined-self in omega (arith, stop, fits, c.requires.bytes)

pub slice_bounds-result-count : goal.slice_bounds-result-count
slice_bounds-result-count c = (within (goal.at.slice_bounds-result-count c).Joined-self).1

pub slice_bounds-result-start : goal.slice_bounds-result-start
slice_bounds-result-start c = (within (goal.at.slice_bounds-result-start c).Joined-self).1

pub returns : goal.returns
returns c = let old = c.args.self.now in let bytes = c.args.bytes.now in (
  c.match-self.len,
  elim c.match-self.branch [
    | in-Free w ↦
        let len = w.last_operator_end-len.result in
        rw (w.self-is, w.len-is) (subst (λ (m : OpenMode). HoldsField old bytes len (record old { mode = m; start = old.stop + len; stop = old.stop + len })) (sym w.in-Free.is)
        (holds_code old bytes w.len_in.result len w.in-Free.is (sym w.has_field.ensures ∙ w.if-has_field.true) w.len_in.ensures w.last_operator_end-len.ensures))
    | in-Fields-default-Literal-false w ↦
        let at = w.in-Fields-default-Literal-false in let mode : old.mode ≡ opens.Fields at.host regions.Literal false = grind arith in
        rw (w.self-is, w.len-is) (holds_text old at.host bytes w.text_len-len.result mode (subst HasQuote at.is c.requires.quote) (let few = w.if-len-le10.true in omega (arith, few, w.len.ensures.is)) w.text_len-len.ensures)
    | in-Fields+in-Fields w ↦
        rw (w.self-is, w.len-is) (holds_literal old w.in-Fields.host w.in-Fields.field-1 w.in-Fields.field-2 bytes w.literal_run-len.result w.in-Fields.is w.literal_run-len.ensures)
    | in_default w ↦
        rw (w.self-is, w.len-is) (holds_characters old bytes w.characters_in-len.result c.requires.quote w.characters_in-len.ensures)
  ],
  rest_is bytes c.match-self.len,
)

pub slice_bounds-result-end : goal.slice_bounds-result-end
slice_bounds-result-end c = grind arith
