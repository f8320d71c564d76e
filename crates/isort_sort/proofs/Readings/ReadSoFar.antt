-- What is known of the lines of a text as they are read, one after another.
use Rattle.std.proofs.Common.{◌≡◌, true, false, Option, Some, Result, Ok, Err, List, [], ◌∷◌, ◌++◌, map, append-nil, append_assoc, inl, inr, refl, sym, ap, ◌∙◌, subst, arith}
use Rattle.std.proofs.Math.Path.{transport}
use Rattle.py_lines.specs.LogicalLine.{LogicalLine}
use Rattle.py_lines.specs.Lexed.{IsLexed}
use Rattle.py_lines.specs.Lines.{line_in, ReadsNextLine, ReadsTokens}
use Rattle.py_lines.specs.Reader.{Reader, Continues, Ends, HasGiven}
use Rattle.py_lines.specs.declared.fault.LexError.{LexError}
use Rattle.py_lines.specs.declared.fault.LexError.TheVariants as lex
use Rattle.py_lines.specs.declared.unit.Line as given_line
use Rattle.py_lines.specs.declared.unit.Unit as unit
use Rattle.py_imports.specs.Binds.{Binds, BindAll, Refuses}
use Rattle.py_imports.specs.BindingValue.{BindingValue, binding_value}
use Rattle.py_imports.specs.declared.binding.Binding.{Binding}
use Rattle.py_imports.specs.declared.error.ImportError.{ImportError}
use Rattle.py_imports.specs.declared.error.ImportError.TheVariants as import
use Rattle.isort_sort.specs.Answers.{IsRefused}
use Rattle.isort_sort.specs.Private.Found.{IsFurther}
use Rattle.isort_sort.specs.Private.Reading.{stop_of, IsKnown, ReadsLine, ReadsOver, StandsAfter}
use Rattle.isort_sort.specs.declared.read.LineReader.{LineReader}
use Rattle.isort_sort.specs.Errors.{sort_error_of, sort_error_of_import}
use Rattle.isort_sort.specs.Line.{imported_of}
use Rattle.isort_sort.proofs.Readings.Lines.{any_match}
use Rattle.isort_sort.proofs.Rows.Texts.{given_after}

pub imports_of_bindings : (bindings : List Binding) → map (λ b. imported_of (binding_value b)) bindings ≡ map imported_of (map binding_value bindings)
imports_of_bindings [] = refl
imports_of_bindings (b ∷ bs) = ap (λ l. imported_of (binding_value b) ∷ l) (imports_of_bindings bs)

-- one line more binds
pub BindAll-snoc : (lines : List LogicalLine) (line : LogicalLine) (values more : List BindingValue) → BindAll lines values → Binds line more → BindAll (lines ++ line ∷ []) (values ++ more)
BindAll-snoc [] line values more h b = (more, [], ap (λ x. x ++ more) h ∙ sym (append-nil more), b, refl)
BindAll-snoc (l ∷ ls) line values more h b = (h.0, h.1 ++ more, ap (λ x. x ++ more) h.2 ∙ append_assoc h.0 h.1 more, h.3, BindAll-snoc ls line h.1 more h.4 b)

-- a line that was given, and then read with its tokens, continues the lines before it
pub continues : {old new last : Reader} {found : Option given_line.Line} {l : given_line.Line} {read : Result unit.Unit LexError} {u : unit.Unit}
    → ReadsNextLine old (Ok found) new → found ≡ Some l → (last ≡ new) × ReadsTokens l read → read ≡ Ok u → Continues old (line_in u) last
continues {old} {new} {last} {found} {l} {read} {u} next is (same, reads) was =
    let (line, outline, passes) = subst (λ o. ReadsNextLine old (Ok o) new) is next in
    let told : line_in u ≡ line = (subst (ReadsTokens l) was reads) line outline in
    transport (λ i. Continues old (sym told i) (sym same i)) passes.continues

-- a line that was read stands directly after those before it
pub stands_after : (old new : Reader) (given : List LogicalLine) (line : LogicalLine) → Continues old line new → HasGiven old given → StandsAfter given line
stands_after old new given line on are_given = given_after new given line (on.given given are_given)

-- and after all bytes that were read
pub further_on : (old new : Reader) (r : LineReader) (line : LogicalLine) → Continues old line new → IsKnown old r → IsFurther (stop_of line) r.blocks
further_on old new r line on known =
    let stands = stands_after old new known.given line on known.are_given in
    any_match r.blocks.opened (omega (arith, on.some_text, stands, known.so_far.place))

-- what is known is known with one line more
pub known_on : (old new : Reader) (r next : LineReader) (line : LogicalLine) (more : List BindingValue) → Continues old line new → Binds line more → ReadsLine line r next → IsKnown old r → IsKnown new next
known_on old new r next line more on binds reads known = record {
  given = known.given ++ line ∷ [];
  values = known.values ++ more;
  within = on.within;
  are_given = on.given known.given known.are_given;
  bind = BindAll-snoc known.given line known.values more known.bind binds;
  so_far = reads known.given (stands_after old new known.given line on known.are_given) known.so_far;
}

-- the next line was read
pub reads_line : (old new : Reader) (r next : LineReader) (line : LogicalLine) (more : List BindingValue) → Continues old line new → Binds line more → ReadsLine line r next → IsKnown old r → ReadsOver old (Ok true) new next
reads_line old new r next line more on binds reads known = (known_on old new r next line more on binds reads known, on.text, omega (arith, on.place, on.some_text))

-- no line is left
pub reads_end : (old new : Reader) (r : LineReader) → Ends old new → IsKnown old r → ReadsOver old (Ok false) new r
reads_end old new r ends known = record {
  lines = known.given;
  accepted = record { values = known.values; lexed = ends.all known.given known.are_given; good = known.bind };
  so_far = known.so_far;
}

-- the fault of a text whose next line can't be read
pub refuses_text : (old new : Reader) (r : LineReader) (e : LexError) → ReadsNextLine old (Err e) new → IsKnown old r → IsRefused old.text (sort_error_of e)
refuses_text old new r lex.Memory reads known = absurd (reads)
refuses_text old new r (lex.Fault fault) reads known = inr (record {
  lines = known.given;
  values = known.values;
  lexed = reads.all known.given known.are_given;
  good = known.bind;
})

-- the fault of a text whose next line is bad
pub refuses_line : (old new : Reader) (r : LineReader) (line : LogicalLine) (e : ImportError) → Continues old line new → Refuses line e → IsKnown old r → IsRefused old.text (sort_error_of_import e)
refuses_line old new r line import.Memory on bad known = tt
refuses_line old new r line (import.Fault fault) on bad known =
    let lines = known.given in
    let begins = on.begins lines known.are_given in
    inl (record {
      before = lines;
      line = line;
      after = begins.more;
      end = begins.end;
      values = known.values;
      lexed = subst (λ t. IsLexed t (lines ++ line ∷ begins.more) begins.end) on.text (subst (λ ls. IsLexed new.text ls begins.end) (append_assoc lines (line ∷ []) begins.more) begins.lexed);
      good = known.bind;
      bad = bad;
    })
