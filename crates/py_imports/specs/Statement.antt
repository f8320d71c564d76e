-- Where statements start in a logical line, and which tokens each has. Python Language Reference, 7 and 8.
use Rattle.std.specs.Prelude.{ℕ, ◌+◌, ◌-◌, Bool, true, false, not, ◌==◌, ◌&&◌, ◌||◌, List, [], ◌∷◌, ◌++◌, map, filter, take_while, if◌then◌else◌}
use Rattle.std.specs.Str.{byte}
use Rattle.py_lines.specs.Token.{is_operator_where, opens_bracket, closes_bracket}
pub use Rattle.py_lines.specs.Token.{is_comment}
use Rattle.py_lines.specs.declared.token.TokKind.{TokKind}
use Rattle.py_lines.specs.declared.token.Token.{Token}

-- the tokens that are no comments, in order: comments are no part of a statement (2.1.3)
abbrev pub significant : List Token → List Token
significant tokens = filter (λ t. not (is_comment t.kind)) tokens

abbrev pub is_semicolon : TokKind → Bool
is_semicolon k = is_operator_where (λ c. c == byte ";") k

abbrev pub is_colon_token : TokKind → Bool
is_colon_token k = is_operator_where (λ c. c == byte ":") k

-- `;` stands between statements, and `:` before those of a suite (7, 8)
abbrev pub is_divider : TokKind → Bool
is_divider k = is_semicolon k || is_colon_token k

-- the depth after a token: opening brackets less closing ones
abbrev pub depth_past : ℕ → TokKind → ℕ
depth_past depth k = if opens_bracket k then depth + 1 else (if closes_bracket k then depth - 1 else depth)

-- the depth after tokens that begin at this depth
abbrev pub depth_after_tokens : ℕ → List Token → ℕ
depth_after_tokens depth [] = depth
depth_after_tokens depth (t ∷ ts) = depth_after_tokens (depth_past depth t.kind) ts

-- whether the last of these tokens, which begin at this depth, is `;` or `:` at depth 0
abbrev pub ends_in_divider : ℕ → List Token → Bool
ends_in_divider depth [] = false
ends_in_divider depth (t ∷ []) = is_divider t.kind && (depth == 0)
ends_in_divider depth (t ∷ u ∷ ts) = ends_in_divider (depth_past depth t.kind) (u ∷ ts)

-- whether a statement may start after these tokens: after none, or a `;` or `:` at depth 0
abbrev pub may_start_after : List Token → Bool
may_start_after [] = true
may_start_after (t ∷ ts) = ends_in_divider 0 (t ∷ ts)

-- a place in a list of tokens: a token, with what stands before and after it
pub record TokenPlace : Type 0 where
  pub before : List Token
  pub token : Token
  pub after : List Token

-- the places of tokens that stand after these
abbrev pub places_from : List Token → List Token → List TokenPlace
places_from before [] = []
places_from before (t ∷ ts) = record { before = before; token = t; after = ts } ∷ places_from (before ++ t ∷ []) ts

-- the places at which statements start, in order
abbrev pub starts : List Token → List TokenPlace
starts tokens = filter (λ p. may_start_after p.before) (places_from [] tokens)

-- whether a `;` at depth 0 stands at this place
abbrev pub is_end : TokenPlace → Bool
is_end p = is_semicolon p.token.kind && (depth_after_tokens 0 p.before == 0)

-- the tokens of the statement that starts here: those before the first `;` at depth 0, or all
abbrev pub statement_at : TokenPlace → List Token
statement_at p = map (λ q. q.token) (take_while (λ q. not (is_end q)) (places_from [] (p.token ∷ p.after)))
