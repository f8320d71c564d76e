-- Which logical lines are declarations. Python Language Reference, 8.7, 8.8 and 8.9.3.
use Rattle.std.specs.Prelude.{ℕ, Bool, true, false, ◌==◌, ◌&&◌, ◌||◌, Option, None, Some, List, codes, slice_get, slice_range}
use Rattle.std.specs.Str.{byte, bytes_eq}
use Rattle.py_lines.specs.LogicalLine.{LogicalLine}
use Rattle.py_lines.specs.Token.{is_operator_where}
use Rattle.py_lines.specs.declared.token.TokKind.{TokKind}
use Rattle.py_lines.specs.declared.token.TokKind.TheVariants as kind
use Rattle.py_lines.specs.declared.token.Token.{Token}
use Rattle.py_lines.specs.declared.unit.UnitKind.{UnitKind}
use Rattle.py_lines.specs.declared.unit.UnitKind.TheVariants as unit_kind

abbrev pub is_code : UnitKind → Bool
is_code unit_kind.Code = true
is_code _ = false

abbrev pub is_name : TokKind → Bool
is_name kind.Name = true
is_name _ = false

abbrev pub is_at_sign : TokKind → Bool
is_at_sign k = is_operator_where (λ c. c == byte "@") k

-- whether the token, if there is one, is this word
abbrev pub is_word : List ℕ → List ℕ → Option Token → Bool
is_word text word None = false
is_word text word (Some t) = is_name t.kind && bytes_eq (slice_range text t.start t.stop) word

-- whether there is a token, and it is `@`
abbrev pub is_at : Option Token → Bool
is_at None = false
is_at (Some t) = is_at_sign t.kind

-- whether the tokens begin with `def`, `class`, `@` or `async def`
abbrev pub begins_declaration : List ℕ → List Token → Bool
begins_declaration text tokens =
    is_word text (codes "def") (slice_get tokens 0)
    || is_word text (codes "class") (slice_get tokens 0)
    || is_at (slice_get tokens 0)
    || (is_word text (codes "async") (slice_get tokens 0) && is_word text (codes "def") (slice_get tokens 1))

-- a declaration: code that isn't indented, and begins so
abbrev pub is_declaration : LogicalLine → Bool
is_declaration line = is_code line.kind && (line.indent == 0) && begins_declaration line.text line.tokens
