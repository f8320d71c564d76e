use Rattle.py_lines.proofs.Prelude.{◌≡◌, Bool, Option, Some, None, true, false, refl, sym, ap, ◌∙◌, arith, le-ltb, lt-ltb, Frame, Region, StringWithFields, is_quote, OpenMode}
use Rattle.py_lines.specs.declared.frames.Frame.TheVariants as frame
use Rattle.py_lines.specs.declared.mode.Region.TheVariants as regions
use Rattle.py_lines.specs.declared.mode.Mode.TheVariants as opens
use Rattle.py_lines.specs.Private.Frames.{IsInnermostFrame}
use Rattle.py_lines.specs.Private.Scan.{EndsOpen, is_text}
use Rattle.py_lines.proofs.FieldScans.CodeItems.{code_mode}
use Rattle.py_lines.proofs.FieldScans.Ends.{IsStringOf, brace_left, code_left, frame_fault, lone_is, lone_of, quote_left, slash_left, specification_left, string_left}
use Rattle.py_lines.proofs.scan.Scan.unfinished.Goals as goal
use Rattle.py_lines.proofs.scan.Scan.unfinished.Goals.{In_default-3, In-Fields, In-Fields-default-Literal-false, In_default, Joined-bytes-eq1, then-bytes-eq1, else-bytes-eq1}

-- the byte, where it is the only one
lone : (c : Joined-bytes-eq1) → c.if-bytes-eq1.lone ≡ lone_of c.args.bytes.now
lone c = elim c.if-bytes-eq1.branch [
  | then-bytes-eq1 w ↦ grind (arith, lone_is)
  | else-bytes-eq1 w ↦ grind (arith, lone_is)
]

-- the text of a string with fields
fields_mode : {m : OpenMode} {host : StringWithFields} {region place : Region} {named plain : Bool} → m ≡ opens.Fields host region named
    → region ≡ place → named ≡ plain → m ≡ opens.Fields host place plain
fields_mode is text same = cc

pub returns-in-Fields-default-Specification-default : goal.returns-in-Fields-default-Specification-default
returns-in-Fields-default-Specification-default c = let a = c.in-Fields-default-Specification-default in
    specification_left c.args.self.now c.args.bytes.now c.requires.pending a.field-0 a.field-2 (fields_mode a.is (rw a.is at a.field-1-is) refl) _ c.last_place.ensures refl

plain : (c : In-Fields-default-Literal-false) → c.in-Fields-default-Literal-false.field-2 ≡ false
plain c = grind arith

pub returns-then-len-lt-MAX_DEPTH : goal.returns-then-len-lt-MAX_DEPTH
returns-then-len-lt-MAX_DEPTH c = let a = c.in-Fields-default-Literal-false in let few = c.if-len-lt-MAX_DEPTH.true in
    brace_left c.args.self.now c.args.bytes.now c.requires.pending a.field-0 true (fields_mode a.is (rw a.is at a.field-1-is) (plain (goal.at.returns-then-len-lt-MAX_DEPTH c).In-Fields-default-Literal-false))
    (sym (lone (goal.at.returns-then-len-lt-MAX_DEPTH c).Joined-bytes-eq1) ∙ c.if-lone-eq123.true) (lt-ltb _ 200 (omega (arith, few, c.len.ensures.is))) _ refl refl

pub returns-else-len-lt-MAX_DEPTH : goal.returns-else-len-lt-MAX_DEPTH
returns-else-len-lt-MAX_DEPTH c = let a = c.in-Fields-default-Literal-false in let full = c.if-len-lt-MAX_DEPTH.false in
    brace_left c.args.self.now c.args.bytes.now c.requires.pending a.field-0 false (fields_mode a.is (rw a.is at a.field-1-is) (plain (goal.at.returns-else-len-lt-MAX_DEPTH c).In-Fields-default-Literal-false))
    (sym (lone (goal.at.returns-else-len-lt-MAX_DEPTH c).Joined-bytes-eq1) ∙ c.if-lone-eq123.true) (le-ltb _ 200 (omega (arith, full, c.len.ensures.is))) _ refl refl

-- no field opens in it
text_mode : (c : In-Fields) → lone_of c.args.bytes.now ≡ c.if-bytes-eq1.lone → IsStringOf c.in-Fields.host.is_long (lone_of c.args.bytes.now) c.args.self.now.mode
text_mode c byte =
    let is : c.args.self.now.mode ≡ opens.Fields c.in-Fields.host regions.Literal c.in-Fields.field-2 = fields_mode c.in-Fields.is (grind arith) refl in
    rw is (refl, λ plain brace. let own : c.if-bytes-eq1.lone ≡ 123 = sym byte ∙ brace in grind arith)

pub returns-in-Fields : goal.returns-in-Fields
returns-in-Fields c = let all = goal.at.returns-in-Fields c in
    string_left c.args.self.now c.args.bytes.now c.requires.pending c.in-Fields.host.is_long _ (text_mode all.In-Fields (sym (lone (goal.at.returns-in-Fields c).Joined-bytes-eq1))) (rw c.if-host.true refl) refl

pub returns-in-Fields-2 : goal.returns-in-Fields-2
returns-in-Fields-2 c = let all = goal.at.returns-in-Fields-2 c in
    string_left c.args.self.now c.args.bytes.now c.requires.pending c.in-Fields.host.is_long _ (text_mode all.In-Fields (sym (lone (goal.at.returns-in-Fields-2 c).Joined-bytes-eq1))) (rw c.if-host.false refl) refl

pub returns-in-Short : goal.returns-in-Short
returns-in-Short c = string_left c.args.self.now c.args.bytes.now c.requires.pending false _ (rw c.in-Short.is refl) refl refl

pub returns-in-Long : goal.returns-in-Long
returns-in-Long c = string_left c.args.self.now c.args.bytes.now c.requires.pending true _ (rw c.in-Long.is refl) refl refl

code : (c : In_default) → is_text c.args.self.now.mode ≡ false
code c = code_mode c.args.self.now.mode c.in_default.not-Short c.in_default.not-Long c.in_default.not-Fields

pub returns-in_default : goal.returns-in_default
returns-in_default c = let all = goal.at.returns-in_default c in
    quote_left c.args.self.now c.args.bytes.now c.requires.pending (code all.In_default) (ap is_quote (sym (lone (goal.at.returns-in_default c).Joined-bytes-eq1)) ∙ sym c.is_quote.ensures ∙ c.if-is_quote.true) _ refl
    (ap (λ p. p.0) c.string_start.ensures)

pub returns-in_default-2 : goal.returns-in_default-2
returns-in_default-2 c = let all = goal.at.returns-in_default-2 c in
    slash_left c.args.self.now c.args.bytes.now c.requires.pending (code all.In_default) (sym (lone (goal.at.returns-in_default-2 c).Joined-bytes-eq1) ∙ c.if-lone-eq92.true) _ refl refl

-- neither a string nor a backslash is open
ends : (c : In_default-3) → is_text c.args.self.now.mode ≡ false → c.if-bytes-eq1.lone ≡ lone_of c.args.bytes.now → (top : Option Frame) → IsInnermostFrame top c.args.self.now.frames
    → EndsOpen c.args.self.now c.args.bytes.now (frame_fault top)
ends c outside byte = code_left c.args.self.now c.args.bytes.now c.requires.pending outside (ap is_quote (sym byte) ∙ sym c.is_quote.ensures ∙ c.if-is_quote.false)
    (λ slash. c.if-lone-eq92.false (byte ∙ slash))

pub returns-in_err-place-in_default-3 : goal.returns-in_err-place-in_default-3
returns-in_err-place-in_default-3 c = let all = goal.at.returns-in_err-place-in_default-3 c in
    rw c.from_residual.ensures (ends all.In_default-3 (code all.In_default) (lone (goal.at.returns-in_err-place-in_default-3 c).Joined-bytes-eq1) None c.in_err-place-in_default-3.ensures)

pub returns-in-Bracket : goal.returns-in-Bracket
returns-in-Bracket c = let all = goal.at.returns-in-Bracket c in
    ends all.In_default-3 (code all.In_default) (lone (goal.at.returns-in-Bracket c).Joined-bytes-eq1) (Some (frame.Bracket c.in-Bracket.field-0 c.in-Bracket.place))
    (rw c.in-Bracket.is at c.in_ok-place-in_default-3.ensures)

pub returns-in-Field : goal.returns-in-Field
returns-in-Field c = let all = goal.at.returns-in-Field c in
    ends all.In_default-3 (code all.In_default) (lone (goal.at.returns-in-Field c).Joined-bytes-eq1) (Some (frame.Field c.in-Field.field)) (rw c.in-Field.is at c.in_ok-place-in_default-3.ensures)
