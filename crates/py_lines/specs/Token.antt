-- What kinds of tokens there are, and where the tokens of a unit lie in its text. Python Language Reference, 2.
use Rattle.std.specs.Prelude.{◌≡◌, ℕ, ◌≤◌, Bool, true, false, Some, List, length, slice_get}
use Rattle.std.specs.Str.{IsCharBoundary}
use Rattle.py_lines.specs.Balance.{is_opening, is_closing}
use Rattle.py_lines.specs.declared.token.TokKind.{TokKind}
use Rattle.py_lines.specs.declared.token.TokKind.TheVariants as kind
use Rattle.py_lines.specs.declared.token.Token.{Token}

-- whether the token is a comment (2.1.3)
abbrev pub is_comment : TokKind → Bool
is_comment kind.Remark = true
is_comment _ = false

-- whether the token is an operator or delimiter whose byte passes
abbrev pub is_operator_where : (ℕ → Bool) → TokKind → Bool
is_operator_where passes (kind.Op c) = passes c
is_operator_where passes _ = false

-- `(`, `[` or `{`
abbrev pub opens_bracket : TokKind → Bool
opens_bracket k = is_operator_where is_opening k

-- `)`, `]` or `}`
abbrev pub closes_bracket : TokKind → Bool
closes_bracket k = is_operator_where is_closing k

-- the token lies in the text, from one character's start to another's
pub record LiesIn (text : List ℕ) (t : Token) : Type 0 where
  pub ordered : t.start ≤ t.stop
  pub within : t.stop ≤ length text
  pub from : IsCharBoundary text t.start
  pub to : IsCharBoundary text t.stop

-- each token lies in the text
abbrev pub EachLiesIn : List ℕ → List Token → Type 0
EachLiesIn text tokens = (i : ℕ) (t : Token) → slice_get tokens i ≡ Some t → LiesIn text t
