use Rattle.py_lines.proofs.Prelude.{◌≡◌, ◌∙◌, ◌==◌, ℕ, true, false, List, ◌∷◌, drop, slice_index, ap, inl, inr, arith, refl, subst, ne_eqb, nat_tests, take_rest, byte, is_backslash, is_break, is_quote, begins, Region, BeginsWith}
use Rattle.py_lines.specs.declared.mode.Region.TheVariants as regions
use Rattle.py_lines.specs.declared.mode.Mode.TheVariants as opens
use Rattle.py_lines.specs.Private.FieldMachine.{between_move, body_move, field_move}
use Rattle.py_lines.specs.Private.Scan.{GrowsInText, WaitsInText, WouldDo, region_in}
use Rattle.py_lines.proofs.Text.CharacterTests.{not_quote}
use Rattle.py_lines.proofs.FieldScans.StringBytes.{does_so, end_grows, first_byte_at, first_is, grows_braces, text_in, waits_brace}
use Rattle.py_lines.proofs.string_text.fields_move.Goals as goal
use Rattle.py_lines.proofs.string_text.fields_move.Goals.{After-text_move}

pub escape_move-requires : goal.escape_move-requires
unfolding is_backslash
escape_move-requires c = ap is_backslash c.in-92-default.is-0

pub returns-in-None : goal.returns-in-None
returns-in-None c quotes = rw (c.in-123-Literal.is-1, c.if-not-named-2.true)
    (subst (WaitsInText (text_in c.args.host regions.Literal false)) (first_byte_at c.args.bytes.now 123 c.in-123-Literal.is-0 (omega arith))
    (waits_brace c.args.host quotes (drop 1 c.args.bytes.now) (rw (← take_rest c.args.bytes.now 1) c.in-None.ensures)))

pub returns-in-Some-eq123 : goal.returns-in-Some-eq123
returns-in-Some-eq123 c quotes = let bytes = c.args.bytes.now in
    let next : BeginsWith (drop 1 bytes) 123 = rw (← take_rest bytes 1, ← c.in-Some-eq123.field-0-test) c.in-Some-eq123.ensures in
    let spell : 123 ∷ 123 ∷ drop 1 (drop 1 bytes) ≡ bytes
    = ap (λ t. 123 ∷ t) (first_is (drop 1 bytes) 123 (omega arith) next) ∙ first_byte_at bytes 123 c.in-123-Literal.is-0 (omega arith) in
    rw (c.in-123-Literal.is-1, c.if-not-named-2.true)
    (subst (λ t. GrowsInText (text_in c.args.host regions.Literal false) t (opens.Fields c.args.host regions.Literal false) 2) spell
    (grows_braces c.args.host quotes (drop 1 (drop 1 bytes))))

-- a `{` that opens a field
brace_first : (bytes : List ℕ) → slice_index bytes 0 ≡ 123 → begins (λ c. c == byte "{") bytes ≡ true
brace_first bytes is = subst (λ t. begins (λ c. c == byte "{") t ≡ true) (first_byte_at bytes 123 is (omega arith)) refl

apart : (region : Region) → region ≡ regions.Specification → region ≡ regions.Literal → ⊥
apart region specification literal = cc

pub returns-in-123-Specification : goal.returns-in-123-Specification
returns-in-123-Specification c quotes = record {
  is = ap (λ named. text_in c.args.host c.args.region named) c.if-not-named.true;
  brace = brace_first c.args.bytes.now c.in-123-Specification.is-0;
  next = λ literal. absurd (apart c.args.region c.in-123-Specification.is-1 literal);
}

pub returns-in-Some : goal.returns-in-Some
returns-in-Some c quotes = let bytes = c.args.bytes.now in record {
  is = ap (λ named. text_in c.args.host c.args.region named) c.if-not-named-2.true;
  brace = brace_first bytes c.in-123-Literal.is-0;
  next = λ literal. (c.in-Some.field-0, rw (← take_rest bytes 1) c.in-Some.ensures, ne_eqb c.in-Some.field-0 123 c.in-Some.field-0-test.1);
}

-- a `}` that ends the field, and one that stands for itself
pub returns-in-125-Specification : goal.returns-in-125-Specification
unfolding field_move body_move between_move is_backslash is_break is_quote
returns-in-125-Specification c quotes = (
  rw (c.in-125-Specification.is-1, c.if-not-named-3.true, not_quote 125 c.args.host.quote quotes refl),
  subst (λ t. begins (λ c. c == byte "}") t ≡ true) (first_byte_at c.args.bytes.now 125 c.in-125-Specification.is-0 (omega arith)) refl,
)

pub returns-in-125-default : goal.returns-in-125-default
returns-in-125-default c quotes = end_grows _ _ _ _ quotes c.in-125-Specification.is-0 (inr c.if-not-named-3.false)

pub returns-in-125-default-2 : goal.returns-in-125-default-2
returns-in-125-default-2 c quotes = end_grows c.args.host c.args.region c.args.named c.args.bytes.now quotes c.in-125-default.is-0
    (inl (λ same. apart c.args.region same c.in-125-default.is-1))

-- what another byte does
text_does : (c : After-text_move) → WouldDo (text_in c.args.host c.args.region c.args.named) c.args.bytes.now c.text_move.result
unfolding is_backslash
text_does c = c.text_move.ensures.does (refl, refl, grind (arith, nat_tests), grind (arith, nat_tests), grind (arith, nat_tests))

pub returns-in-Specification-Closes : goal.returns-in-Specification-Closes
returns-in-Specification-Closes c quotes = let step = c.in-Specification-Closes in
    let does = text_does (goal.at.returns-in-Specification-Closes c).After-text_move in
    (step.field-0-1, rw step.is-0 (rw (step.is-0, step.is-1) at does), ap region_in step.is-0)

pub returns-in_default-2 : goal.returns-in_default-2
returns-in_default-2 c quotes = does_so _ _ c.text_move.result (λ n same. absurd (grind arith)) (text_does (goal.at.returns-in_default-2 c).After-text_move)

pub returns-in_default-2-2 : goal.returns-in_default-2-2
returns-in_default-2-2 c quotes =
    does_so _ _ c.text_move.result (λ n same. ap region_in c.in_default-2.is-0) (text_does (goal.at.returns-in_default-2-2 c).After-text_move)
