-- What is known of a line by its tokens, one after another.
use Rattle.std.proofs.Common.{◌≡◌, ℕ, suc, ◌+◌, ◌-◌, ◌<◌, ◌≤◌, Bool, true, false, not, ◌==◌, ◌&&◌, ◌||◌, nat_lt, cond, None, Some, List, [], ◌∷◌, ◌++◌, length, map, take, drop, get_or, slice_get, slice_range, refl, sym, ap, ◌∙◌, arith, length-append}
use Rattle.std.proofs.lemmas.Bool.{ltb-true, ltb-false, lt-ltb, le-ltb, eq-eqb, ne_eqb}
use Rattle.std.proofs.lemmas.List.{take-append-drop, take_all, take_more, drop_all, drop_more}
use Rattle.std.proofs.lemmas.Option.{slice_get-get_or}
use Rattle.std.proofs.lemmas.List.Quantifiers.{position-Some}
use Rattle.std.specs.List.{list_any, list_all, position, position_or_len}
use Rattle.py_lines.specs.declared.token.Token.{Token}
use Rattle.py_lines.specs.declared.token.TokKind.{TokKind}
use Rattle.py_lines.specs.declared.token.TokKind.TheVariants as kind
use Rattle.py_imports.specs.Statement.{is_comment, significant, is_semicolon, depth_past, depth_after_tokens, TokenPlace, places_from, is_end}
use Rattle.py_imports.specs.Private.Parsing.{up_to_semicolon}
use Rattle.py_imports.specs.Shape.{terminals_of, begins_so, is_parenthesis, ends_with_opening, is_nothing, stands_well}
use Rattle.py_lines.specs.LogicalLine.{LogicalLine}
use Rattle.py_lines.specs.declared.unit.UnitKind.TheVariants as unit_kind
use Rattle.py_imports.specs.Binds.{terminal_in}
use Rattle.py_imports.specs.Declaration.{is_code as line_is_code}
use Rattle.py_imports.specs.Grammar.{Terminal, terminal_of, begins_import}
use Rattle.py_imports.specs.Private.Items.{with_first_word}
use Rattle.py_imports.specs.Private.Places.{IsFirstCode, BeginsAt}
use Rattle.py_imports.specs.declared.items.Form.{Form}
use Rattle.py_imports.proofs.StatementLemmas.{token_at_place}
use Rattle.py_imports.proofs.TokenLemmas.{depth_behind-snoc}
use Rattle.py_imports.proofs.EndLemmas.{significant-append}
use Rattle.py_imports.proofs.BindingLemmas.{from_significant}

-- a token that is no comment, after comments alone
pub first_code_from : (tokens : List Token) (i : ℕ) (t : Token) → i < length tokens → significant tokens ≡ significant (drop i tokens) → is_comment (get_or tokens i t).kind ≡ false → IsFirstCode tokens i
first_code_from tokens i t within e code = record { first = get_or tokens i t; at = slice_get-get_or tokens i t within; all = e ∙ from_significant tokens i t within code }

-- whether a token is no comment
abbrev is_no_comment : Token → Bool
is_no_comment t = not (is_comment t.kind)

no_comment : (b : Bool) → not b ≡ true → b ≡ false
no_comment true e = absurd cc
no_comment false e = refl

-- the tokens before the first that is no comment are comments
comments_before : (tokens : List Token) → significant tokens ≡ significant (drop (position_or_len is_no_comment tokens) tokens)
comments_before [] = refl
comments_before (t ∷ ts) = by_kind (comments_before ts) (is_comment t.kind) refl
  where
    by_kind : significant ts ≡ significant (drop (position_or_len is_no_comment ts) ts) → (b : Bool) → is_comment t.kind ≡ b → significant (t ∷ ts) ≡ significant (drop (position_or_len is_no_comment (t ∷ ts)) (t ∷ ts))
    by_kind later true e = let next : 1 + position_or_len is_no_comment ts ≡ suc (position_or_len is_no_comment ts) = omega arith in rw (e, next) later
    by_kind later false e = rw (e, e) refl

-- where the first token stands that is no comment
pub first_code_at : (tokens : List Token) (place : ℕ) → Some place ≡ position (λ t. not (is_comment t.kind)) tokens → IsFirstCode tokens place
first_code_at tokens place e = by_found (nat_lt (position_or_len is_no_comment tokens) (length tokens)) refl
  where
    none : Token
    none = record { kind = kind.Name; start = 0; stop = 0; line = 0 }

    by_found : (b : Bool) → nat_lt (position_or_len is_no_comment tokens) (length tokens) ≡ b → IsFirstCode tokens place
    by_found true h =
        let found : Some place ≡ Some (position_or_len is_no_comment tokens) = e ∙ ap (λ b. cond b (Some (position_or_len is_no_comment tokens)) None) h in
        let same : place ≡ position_or_len is_no_comment tokens = cc in
        let at = position-Some is_no_comment tokens place none (sym e) in
        first_code_from tokens place none at.0 (comments_before tokens ∙ ap (λ n. significant (drop n tokens)) (sym same)) (no_comment (is_comment (get_or tokens place none).kind) at.1)
    by_found false h = absurd (let missing : Some place ≡ None = e ∙ ap (λ b. cond b (Some (position_or_len is_no_comment tokens)) None) h in cc)

pub no_code : (tokens : List Token) → None ≡ position (λ t. not (is_comment t.kind)) tokens → significant tokens ≡ []
no_code tokens e = by_found (nat_lt (position_or_len is_no_comment tokens) (length tokens)) refl
  where
    by_found : (b : Bool) → nat_lt (position_or_len is_no_comment tokens) (length tokens) ≡ b → significant tokens ≡ []
    by_found true h = absurd (let found : None ≡ Some (position_or_len is_no_comment tokens) = e ∙ ap (λ b. cond b (Some (position_or_len is_no_comment tokens)) None) h in cc)
    by_found false h = comments_before tokens ∙ ap significant (drop_all (position_or_len is_no_comment tokens) tokens (ltb-false (position_or_len is_no_comment tokens) (length tokens) h))

-- the line's terminals, where its first token that is no comment has this text
terminals_begin : (line : LogicalLine) (place : ℕ) (none : Token) (word : List ℕ) (f : IsFirstCode line.tokens place) → place < length line.tokens → word ≡ slice_range line.text f.first.start f.first.stop → terminals_of line ≡ terminal_of (get_or line.tokens place none).kind word ∷ map (terminal_in line.text) (significant (drop (place + 1) line.tokens))
terminals_begin line place none word f within w =
    let rest = map (terminal_in line.text) (significant (drop (place + 1) line.tokens)) in
    ap (map (terminal_in line.text)) f.all ∙ ap (λ v. terminal_of f.first.kind v ∷ rest) (sym w) ∙ ap (λ (t : Token). terminal_of t.kind word ∷ rest) (sym (token_at_place line.tokens place none f.first within f.at))

-- that token begins no import statement
pub begins_no_import : (line : LogicalLine) (place : ℕ) (none : Token) (word : List ℕ) (f : IsFirstCode line.tokens place) → line.kind ≡ unit_kind.Code → place < length line.tokens → word ≡ slice_range line.text f.first.start f.first.stop → ((ts : List Terminal) → begins_import (terminal_of (get_or line.tokens place none).kind word ∷ ts) ≡ false) → begins_so line ≡ false
begins_no_import line place none word f code within w h =
    ap (λ k. line_is_code k && begins_import (terminals_of line)) code ∙ ap begins_import (terminals_begin line place none word f within w) ∙ h (map (terminal_in line.text) (significant (drop (place + 1) line.tokens)))

-- that token begins one
pub begins_one : (line : LogicalLine) (place : ℕ) (none : Token) (word : List ℕ) (which : Form) (f : IsFirstCode line.tokens place) → line.kind ≡ unit_kind.Code → place < length line.tokens → word ≡ slice_range line.text f.first.start f.first.stop → ((ts : List Terminal) → terminal_of (get_or line.tokens place none).kind word ∷ ts ≡ with_first_word which ts) → BeginsAt line place which
begins_one line place none word which f code within w h = record { code = code; first = f; begins = terminals_begin line place none word f within w ∙ h (map (terminal_in line.text) (significant (drop (place + 1) line.tokens))) }

pub first_code_within : (tokens : List Token) (place : ℕ) → Some place ≡ position (λ t. not (is_comment t.kind)) tokens → place < length tokens
first_code_within tokens place e = (position-Some is_no_comment tokens place (record { kind = kind.Name; start = 0; stop = 0; line = 0 }) (sym e)).0

nat_lt-suc : (a b : ℕ) → nat_lt a b ≡ nat_lt (suc a) (suc b)
nat_lt-suc a b = by_order (nat_lt a b) refl
  where
    by_order : (r : Bool) → nat_lt a b ≡ r → nat_lt a b ≡ nat_lt (suc a) (suc b)
    by_order true e = e ∙ sym (lt-ltb (suc a) (suc b) (omega (arith, ltb-true a b e)))
    by_order false e = e ∙ sym (le-ltb (suc a) (suc b) (omega (arith, ltb-false a b e)))

-- a `;` at depth 0 stands among tokens where fewer stand before the first one
ends_among : (before ts : List Token) → list_any is_end (places_from before ts) ≡ nat_lt (length (up_to_semicolon (depth_after_tokens 0 before) ts)) (length ts)
ends_among before [] = refl
ends_among before (t ∷ ts) = by_end (ends_among (before ++ t ∷ []) ts ∙ ap (λ d. nat_lt (length (up_to_semicolon d ts)) (length ts)) (depth_behind-snoc 0 before t)) (is_end here) refl
  where
    here : TokenPlace
    here = record { before = before; token = t; after = ts }

    by_end : list_any is_end (places_from (before ++ t ∷ []) ts) ≡ nat_lt (length (up_to_semicolon (depth_past (depth_after_tokens 0 before) t.kind) ts)) (length ts) → (b : Bool) → is_end here ≡ b → is_end here || list_any is_end (places_from (before ++ t ∷ []) ts) ≡ nat_lt (length (up_to_semicolon (depth_after_tokens 0 before) (t ∷ ts))) (length (t ∷ ts))
    by_end others true e = rw e (sym (lt-ltb 0 (length (t ∷ ts)) (omega arith)))
    by_end others false e = rw e (others ∙ nat_lt-suc (length (up_to_semicolon (depth_past (depth_after_tokens 0 before) t.kind) ts)) (length ts))

semicolon_is_code : (k : TokKind) → is_semicolon k ≡ true → is_comment k ≡ false
semicolon_is_code kind.Remark e = absurd cc
semicolon_is_code kind.Name e = refl
semicolon_is_code kind.Number e = refl
semicolon_is_code kind.Str e = refl
semicolon_is_code (kind.Op c) e = refl

-- fewer significant tokens stand before a token that is one
fewer_before : (tokens : List Token) (i : ℕ) (t : Token) → i < length tokens → is_comment (get_or tokens i t).kind ≡ false → length (significant (take i tokens)) < length (significant tokens)
fewer_before tokens i t within code =
    let split : significant tokens ≡ significant (take i tokens) ++ significant (drop i tokens) = ap significant (sym (take-append-drop i tokens)) ∙ significant-append (take i tokens) (drop i tokens) in
    rw (split, from_significant tokens i t within code) (omega (arith, length-append (significant (take i tokens)) (get_or tokens i t ∷ significant (drop (i + 1) tokens))))

-- a `;` stands outside brackets where the first statement ends before all tokens
pub divided : (tokens : List Token) (end : ℕ) → end ≤ length tokens → significant (take (end - 0) (drop 0 tokens)) ≡ up_to_semicolon 0 (significant (drop 0 tokens)) → ((t : Token) → slice_get tokens end ≡ Some t → is_semicolon t.kind ≡ true) → nat_lt end (length tokens) ≡ list_any is_end (places_from [] (significant tokens))
divided tokens end within e ends = by_end (nat_lt end (length tokens)) refl ∙ ap (λ x. nat_lt (length x) (length (significant tokens))) same ∙ sym (ends_among [] (significant tokens))
  where
    none : Token
    none = record { kind = kind.Name; start = 0; stop = 0; line = 0 }

    same : significant (take end tokens) ≡ up_to_semicolon 0 (significant tokens)
    same = let whole : end ≡ end - 0 = omega arith in ap (λ n. significant (take n tokens)) whole ∙ e

    by_end : (b : Bool) → nat_lt end (length tokens) ≡ b → nat_lt end (length tokens) ≡ nat_lt (length (significant (take end tokens))) (length (significant tokens))
    by_end true h =
        let less : end < length tokens = ltb-true end (length tokens) h in
        let code = semicolon_is_code (get_or tokens end none).kind (ends (get_or tokens end none) (slice_get-get_or tokens end none less)) in
        h ∙ sym (lt-ltb (length (significant (take end tokens))) (length (significant tokens)) (fewer_before tokens end none less code))
    by_end false h =
        let all : take end tokens ≡ tokens = take_all end tokens (ltb-false end (length tokens) h) in
        h ∙ sym (rw all (le-ltb (length (significant tokens)) (length (significant tokens)) (omega arith)))

ends_with_opening-snoc : (ts : List Token) (t : Token) → ends_with_opening (ts ++ t ∷ []) ≡ is_parenthesis t.kind
ends_with_opening-snoc [] t = refl
ends_with_opening-snoc (u ∷ []) t = refl
ends_with_opening-snoc (u ∷ v ∷ ts) t = ends_with_opening-snoc (v ∷ ts) t

-- the comments before token `i` stand well; whether a `(` stands directly before it
pub record StandWell (tokens : List Token) (i : ℕ) (after_opening : Bool) : Type 0 where
  pub rest : list_all stands_well (places_from [] tokens) ≡ list_all stands_well (places_from (take i tokens) (drop i tokens))
  pub last : after_opening ≡ ends_with_opening (take i tokens)

is_last : (tokens : List Token) (i : ℕ) → i < length tokens → is_nothing (drop (i + 1) tokens) ≡ (i + 1 == length tokens)
is_last tokens i within = by_end (nat_lt (i + 1) (length tokens)) refl
  where
    none : Token
    none = record { kind = kind.Name; start = 0; stop = 0; line = 0 }

    by_end : (b : Bool) → nat_lt (i + 1) (length tokens) ≡ b → is_nothing (drop (i + 1) tokens) ≡ (i + 1 == length tokens)
    by_end true h =
        let less : i + 1 < length tokens = ltb-true (i + 1) (length tokens) h in
        ap is_nothing (drop_more tokens (i + 1) none less) ∙ sym (ne_eqb (i + 1) (length tokens) (λ same. omega arith))
    by_end false h =
        let more : length tokens ≤ i + 1 = ltb-false (i + 1) (length tokens) h in
        ap is_nothing (drop_all (i + 1) tokens more) ∙ sym (eq-eqb (i + 1) (length tokens) (omega arith))

-- one token more, by whether it stands well
pub stand_well_by : (tokens : List Token) (i : ℕ) (after_opening : Bool) (t : Token) → StandWell tokens i after_opening → i < length tokens → list_all stands_well (places_from [] tokens) ≡ (not (is_comment (get_or tokens i t).kind) || (i + 1 == length tokens) || after_opening) && list_all stands_well (places_from (take (i + 1) tokens) (drop (i + 1) tokens))
stand_well_by tokens i after_opening t s within =
    let u = get_or tokens i t in
    let rest = drop (i + 1) tokens in
    s.rest ∙ ap (λ x. list_all stands_well (places_from (take i tokens) x)) (drop_more tokens i t within)
    ∙ ap (λ b. (not (is_comment u.kind) || b || ends_with_opening (take i tokens)) && list_all stands_well (places_from (take i tokens ++ u ∷ []) rest)) (is_last tokens i within)
    ∙ ap (λ b. (not (is_comment u.kind) || (i + 1 == length tokens) || b) && list_all stands_well (places_from (take i tokens ++ u ∷ []) rest)) (sym s.last)
    ∙ ap (λ x. (not (is_comment u.kind) || (i + 1 == length tokens) || after_opening) && list_all stands_well (places_from x rest)) (sym (take_more tokens i t within))

pub stand_well_more : (tokens : List Token) (i : ℕ) (after_opening here opening : Bool) (t : Token) → StandWell tokens i after_opening → i < length tokens → here ≡ not (is_comment (get_or tokens i t).kind) || (i + 1 == length tokens) || after_opening → here ≡ true → opening ≡ is_parenthesis (get_or tokens i t).kind → StandWell tokens (i + 1) opening
stand_well_more tokens i after_opening here opening t s within e h o = record {
  rest = stand_well_by tokens i after_opening t s within ∙ ap (λ b. b && list_all stands_well (places_from (take (i + 1) tokens) (drop (i + 1) tokens))) (sym e ∙ h);
  last = o ∙ sym (ends_with_opening-snoc (take i tokens) (get_or tokens i t)) ∙ ap ends_with_opening (sym (take_more tokens i t within));
}

-- whether a token passes, from token `i` on
pub any_from : (passes : Token → Bool) (tokens : List Token) (i : ℕ) (t : Token) → i < length tokens → list_any passes tokens ≡ list_any passes (drop i tokens) → list_any passes tokens ≡ passes (get_or tokens i t) || list_any passes (drop (i + 1) tokens)
any_from passes tokens i t within e = e ∙ ap (list_any passes) (drop_more tokens i t within)

-- the same, where what the token at the place does is known
pub any_here : (passes : Token → Bool) (tokens : List Token) (i : ℕ) (b : Bool) → i < length tokens → list_any passes tokens ≡ list_any passes (drop i tokens) → ((t : Token) → slice_get tokens i ≡ Some t → b ≡ passes t) → list_any passes tokens ≡ b || list_any passes (drop (i + 1) tokens)
any_here passes tokens i b within e here =
    let none : Token = record { kind = kind.Name; start = 0; stop = 0; line = 0 } in
    any_from passes tokens i none within e ∙ ap (λ x. x || list_any passes (drop (i + 1) tokens)) (sym (here (get_or tokens i none) (slice_get-get_or tokens i none within)))
