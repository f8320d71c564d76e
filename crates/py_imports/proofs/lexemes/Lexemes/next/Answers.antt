-- Comments are passed over, and the next other token is the next lexeme.
use Rattle.std.proofs.Common.{◌+◌, ◌∷◌, ◌<◌, sym, ◌∙◌, ap, get_or, map, length, arith}
use Rattle.std.proofs.lemmas.Option.{slice_get-get_or}
use Rattle.py_lines.specs.declared.token.Token.{Token}
use Rattle.py_lines.specs.declared.token.TokKind.TheVariants as kind
use Rattle.py_imports.specs.Grammar.{terminal_of}
use Rattle.py_imports.specs.Statement.{significant}
use Rattle.py_imports.specs.Binds.{terminal_in}
use Rattle.py_imports.proofs.TokenLemmas.{window, window-significant, window-comment}
use Rattle.py_imports.proofs.lexemes.Lexemes.next.Goals as goal

pub loop-self-preserved : goal.loop-self-preserved
loop-self-preserved c =
    let s = c.loop-self.self in
    let none : Token = record { kind = kind.Name; start = 0; stop = 0; line = 0 } in
    record {
      unit = c.loop-self.invariant.unit;
      end = c.loop-self.invariant.end;
      place = omega (arith, c.loop-self.invariant.place);
      rest = ap (map (terminal_in s.unit.now.text.now)) (sym (window-comment s.unit.now.tokens.now s.place s.end none c.loop-self-test.true s.within (sym c.if-not-is_comment.ensures))) ∙ c.loop-self.invariant.rest;
    }

pub returns-then-not-is_comment-clause-lexeme : goal.returns-then-not-is_comment-clause-lexeme
returns-then-not-is_comment-clause-lexeme c =
    let s = c.loop-self.self in
    let tokens = s.unit.now.tokens.now in
    let text = s.unit.now.text.now in
    let none : Token = record { kind = kind.Name; start = 0; stop = 0; line = 0 } in
    let rest = map (terminal_in text) (significant (window tokens (s.place + 1) s.end)) in
    let step = ap (map (terminal_in text)) (window-significant tokens s.place s.end none c.loop-self-test.true s.within (sym c.if-not-is_comment.ensures)) in
    let here : s.place < length tokens = omega (arith, s.within) in
    let word = c.word-word.ensures (get_or tokens s.place none) (slice_get-get_or tokens s.place none here) in
    sym c.loop-self.invariant.rest ∙ step ∙ ap (λ w. terminal_of (get_or tokens s.place none).kind w ∷ rest) (sym word) ∙ sym (c.of_token.ensures rest)
