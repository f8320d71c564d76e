use Rattle.std.proofs.lemmas.Grind.{common_steps}
use Rattle.py_lines.proofs.Prelude.{sym, ◌∙◌, subst, arith, refl, encode_utf8_all, length-take-le, spelled, string, rest_of}
use Rattle.py_lines.specs.Private.Run.{HasWholePlainString}
use Rattle.py_lines.proofs.LineTokens.FirstCharacters.{spelled_bytes}
use Rattle.py_lines.proofs.LineTokens.FirstPieces.{cut_at, taken}
use Rattle.py_lines.proofs.LineTokens.FirstString.{string_within}
use Rattle.py_lines.proofs.LineTokens.Strings.{plain_taken}
use Rattle.py_lines.proofs.line_tokens.string_len.Goals as goal

pub returns-in-Some : goal.returns-in-Some
returns-in-Some c =
    (plain_taken c.args.bytes.now c.args.prefix c.in-Some.len c.requires.quote c.requires.prefix
    (sym c.requires.fields ∙ c.if-not-has_fields.true)
    (subst (HasWholePlainString (rest_of c.args.bytes.now c.args.prefix)) c.in-Some.is c.whole_plain_string.ensures))

pub take_first-requires-clause-string : goal.take_first-requires-clause-string
take_first-requires-clause-string c = let (p, b) = c.requires.piece in (p, c.requires.string p b, b)

pub slice_bounds-line_ends-end : goal.slice_bounds-line_ends-end
slice_bounds-line_ends-end c =
    let (p, b) = c.requires.piece in
    let stop = c.take_first.ensures p (c.requires.string p b) b in
    sym (length-take-le c.take_first.new.self.stop c.args.bytes.now (omega (arith, stop, string_within c.args.bytes.now p b)))

pub returns : goal.returns
returns c = λ p b.
    let is = c.requires.string p b in
    let stop = c.take_first.ensures p is b in
    let text = cut_at c.args.bytes.now (encode_utf8_all p.text) (encode_utf8_all (spelled b.others)) _ (spelled_bytes c.args.bytes.now p b) stop in
    taken b string is refl stop (c.line_ends.ensures.count p.text (sym text.0))

pub overflow_add-result : goal.overflow_add-result
overflow_add-result c = grind (arith, common_steps)

pub whole_plain_string-requires : goal.whole_plain_string-requires
whole_plain_string-requires c = grind (arith, common_steps)

pub slice_bounds-whole_plain_string-count : goal.slice_bounds-whole_plain_string-count
slice_bounds-whole_plain_string-count c = grind (arith, common_steps)

pub slice_bounds-whole_plain_string-start : goal.slice_bounds-whole_plain_string-start
slice_bounds-whole_plain_string-start c = grind (arith, common_steps)
