-- What is cut off a comment, and the comments of a line one after another.
use Rattle.std.proofs.Common.{◌≡◌, ℕ, ◌+◌, ◌-◌, ◌<◌, Bool, true, false, cond, ◌||◌, ◌&&◌, Option, None, Some, MatchOption, Bor, lit<, List, [], ◌∷◌, ◌++◌, length, take, drop, get_or, append_assoc, length-drop, length-append, map, string_bytes, String, Global, refl, sym, ap, ◌∙◌, arith}
use Rattle.std.specs.Prelude.{filter, slice_range, if◌then◌else◌, slice_get, ◌==◌}
use Rattle.std.specs.Char.{IsScalar, char_set_contains}
use Rattle.std.specs.List.{list_all, list_any}
use Rattle.std.specs.Str.Pattern.{FindsPrefixBy, FindsSuffixBy, HasCharAt, FindsCharPrefix, StripsPrefix, CutsPrefixes, CutsSuffixes, IsFullyTrimmed, IsTrimStartMatches, IsTrimEndMatches}
use Rattle.std.specs.Option.{unwrap_or}
use Rattle.std.proofs.lemmas.Bool.{lt-ltb, ne_eqb}
use Rattle.std.proofs.lemmas.Bool.Decides.{nat_tests}
use Rattle.std.proofs.lemmas.List.{take-append-drop, length-take, drop_more, take_more, map-append}
use Rattle.std.proofs.lemmas.List.Elements.{filter-append}
use Rattle.std.proofs.lemmas.Str.{encode_ascii}
use Rattle.std.proofs.lemmas.Str.Pattern.{drop_at_char}
use Rattle.std.proofs.Math.Seq.{drop-length}
use Rattle.py_lines.specs.Character.{is_space}
use Rattle.py_lines.specs.declared.token.TokKind.TheVariants as kind
use Rattle.py_lines.specs.declared.token.Token.{Token}
use Rattle.py_imports.specs.ActionComment.{says}
use Rattle.py_imports.specs.Statement.{is_comment}
use Rattle.py_imports.specs.declared.action_comment.ActionComment.{ActionComment}
use Rattle.isort_sort.specs.Line.{without_hash, without_start, without_end, stripped, is_text}
use Rattle.std.proofs.Math.Bool.{and-false}
use Rattle.isort_sort.proofs.Rows.Spaces.{space_low}
use Rattle.std.proofs.lemmas.Option.{slice_get-get_or}

-- space, tab and form feed
abbrev pub spaces : List ℕ
spaces = 32 ∷ 9 ∷ 12 ∷ []

-- a pattern of these characters finds what passes any test that agrees with it
abbrev pub FindsSpaces : ((ℕ → Bool) → List ℕ → Option ℕ → Type 0) → List ℕ → Option ℕ → Type 0
FindsSpaces F text found = (passes : ℕ → Bool) → ((c : ℕ) → char_set_contains spaces c ≡ passes c) → F passes text found

is_space_set : (c : ℕ) → char_set_contains spaces c ≡ is_space c
unfolding is_space
is_space_set c = grind (arith, nat_tests)

space_is_scalar : (c : ℕ) → c < 128 → IsScalar c
space_is_scalar c h = rw (lt-ltb c 55296 (omega arith)) refl

-- a text at whose start a space was found
begins_so : (c n : ℕ) (text : List ℕ) → is_space c ≡ true → HasCharAt c text 0 n → text ≡ c ∷ drop n text
begins_so c n text space here = drop_at_char c text 0 n here (space_low c space)

cut_start : (text : List ℕ) (ns : List ℕ) (rest : List ℕ) → CutsPrefixes (FindsSpaces FindsPrefixBy) text ns rest → without_start text ≡ without_start rest
cut_start text [] rest e = ap without_start (sym e)
cut_start text (n ∷ ns) rest h =
    let found = h.2 is_space is_space_set in
    cut_start text ns h.0 h.1
    ∙ ap without_start (begins_so found.0 n h.0 found.1 found.2)
    ∙ ap (λ b. cond b (without_start (drop n h.0)) (found.0 ∷ drop n h.0)) found.1
    ∙ ap without_start (sym h.3)

-- a text that begins with no space
bare_start : (text : List ℕ) → FindsPrefixBy is_space text None → without_start text ≡ text
bare_start [] h = refl
bare_start (b ∷ text) h = by (is_space b) refl
  where
    by : (x : Bool) → is_space b ≡ x → without_start (b ∷ text) ≡ b ∷ text
    by true e =
        let low = space_low b e in
        let none = h b text (space_is_scalar b low) (ap (λ l. l ++ text) (sym (encode_ascii b low))) in
        absurd (cc)
    by false e = rw e refl

trimmed_start : (text : List ℕ) → IsFullyTrimmed (FindsSpaces FindsPrefixBy) text → without_start text ≡ text
trimmed_start text (None, finds, small) = bare_start text (finds is_space is_space_set)
trimmed_start text (Some n, finds, small) =
    let found = finds is_space is_space_set in
    let whole = begins_so found.0 n text found.1 found.2 in
    absurd (omega (arith, ap length whole, length-drop n text))

-- what was cut of the start of a text
pub start_is : (text rest : List ℕ) → IsTrimStartMatches (FindsSpaces FindsPrefixBy) text rest → rest ≡ without_start text
start_is text rest h = sym (cut_start text h.0.0 rest h.0.1 ∙ trimmed_start rest h.1)

-- a text at whose end a space was found
ends_so : (c n : ℕ) (text : List ℕ) → is_space c ≡ true → HasCharAt c text (length text - n) (length text) → text ≡ take (length text - n) text ++ c ∷ []
ends_so c n text space here =
    sym (take-append-drop (length text - n) text)
    ∙ ap (λ l. take (length text - n) text ++ l) (drop_at_char c text (length text - n) (length text) here (space_low c space) ∙ ap (λ l. c ∷ l) (drop-length text))

all_but : (text : List ℕ) (c : ℕ) → is_space c ≡ true → list_all is_space (text ++ c ∷ []) ≡ list_all is_space text
all_but [] c space = ap (λ b. b && true) space
all_but (b ∷ text) c space = ap (λ x. is_space b && x) (all_but text c space)

end_but : (text : List ℕ) (c : ℕ) → is_space c ≡ true → without_end (text ++ c ∷ []) ≡ without_end text
end_but [] c space = ap (λ b. cond (b && true) [] (c ∷ [])) space
end_but (b ∷ text) c space = ap (λ x. cond x [] (b ∷ without_end (text ++ c ∷ []))) (all_but (b ∷ text) c space) ∙ ap (λ l. cond (list_all is_space (b ∷ text)) [] (b ∷ l)) (end_but text c space)

cut_end : (text : List ℕ) (ns : List ℕ) (rest : List ℕ) → CutsSuffixes (FindsSpaces FindsSuffixBy) text ns rest → without_end text ≡ without_end rest
cut_end text [] rest e = ap without_end (sym e)
cut_end text (n ∷ ns) rest h =
    let found = h.2 is_space is_space_set in
    cut_end text ns h.0 h.1
    ∙ ap without_end (ends_so found.0 n h.0 found.1 found.2)
    ∙ end_but (take (length h.0 - n) h.0) found.0 found.1
    ∙ ap without_end (sym h.3)

-- the last character, where there is one, is no space
abbrev IsBareEnd : List ℕ → Type 0
IsBareEnd text = (front : List ℕ) (c : ℕ) → text ≡ front ++ c ∷ [] → is_space c ≡ false

none_all : (b : ℕ) (text : List ℕ) → IsBareEnd (b ∷ text) → list_all is_space (b ∷ text) ≡ false
none_all b [] bare = ap (λ x. x && true) (bare [] b refl)
none_all b (c ∷ text) bare = ap (λ x. is_space b && x) (none_all c text (λ front d e. bare (b ∷ front) d (ap (λ l. b ∷ l) e))) ∙ and-false (is_space b)

bare_end : (text : List ℕ) → IsBareEnd text → without_end text ≡ text
bare_end [] bare = refl
bare_end (b ∷ text) bare = ap (λ x. cond x [] (b ∷ without_end text)) (none_all b text bare) ∙ ap (λ l. b ∷ l) (bare_end text (λ front c e. bare (b ∷ front) c (ap (λ l. b ∷ l) e)))

trimmed_end : (text : List ℕ) → IsFullyTrimmed (FindsSpaces FindsSuffixBy) text → without_end text ≡ text
trimmed_end text (None, finds, small) = bare_end text (λ front c e. by front c e (is_space c) refl)
  where
    by : (front : List ℕ) (c : ℕ) → text ≡ front ++ c ∷ [] → (x : Bool) → is_space c ≡ x → is_space c ≡ false
    by front c e true space =
        let low = space_low c space in
        finds is_space is_space_set c front (space_is_scalar c low) (e ∙ ap (λ l. front ++ l) (sym (encode_ascii c low)))
    by front c e false space = space
trimmed_end text (Some n, finds, small) =
    let found = finds is_space is_space_set in
    let whole = ends_so found.0 n text found.1 found.2 in
    absurd (omega (arith, ap length whole, length-append (take (length text - n) text) (found.0 ∷ []), length-take (length text - n) text))

-- what was cut off the end of a text
pub end_is : (text rest : List ℕ) → IsTrimEndMatches (FindsSpaces FindsSuffixBy) text rest → rest ≡ without_end text
end_is text rest h = sym (cut_end text h.0.0 rest h.0.1 ∙ trimmed_end rest h.1)

-- what was left of a text when the `#` at its start was stripped, if there is one
pub hash_cut : (comment : Bor (List ℕ)) (found : Option (Bor (List ℕ))) → MatchOption found (FindsCharPrefix 35 comment.now None) (λ rest. StripsPrefix (FindsCharPrefix 35) comment.now rest.now) → (unwrap_or found comment).now ≡ without_hash comment.now
hash_cut comment None none = by comment.now none
  where
    by : (text : List ℕ) → FindsCharPrefix 35 text None → text ≡ without_hash text
    by [] h = refl
    by (b ∷ text) h = sym (rw (ne_eqb b 35 (λ e. h text (ap (λ x. x ∷ text) e ∙ ap (λ l. l ++ text) (sym (encode_ascii 35 (lit< tt)))))) refl)
hash_cut comment (Some rest) cut = cut.2 ∙ sym (ap without_hash (drop_at_char 35 comment.now 0 cut.0 cut.1 (lit< tt)))

-- the token at a place, and its bytes
abbrev pub token_at : List Token → ℕ → Token
token_at tokens i = get_or tokens i (record { kind = kind.Name; start = 0; stop = 0; line = 0 })

pub token_is_at : (tokens : List Token) (i : ℕ) → i < length tokens → slice_get tokens i ≡ Some (token_at tokens i)
token_is_at tokens i within = slice_get-get_or tokens i (record { kind = kind.Name; start = 0; stop = 0; line = 0 }) within

abbrev pub word_at : List ℕ → List Token → ℕ → List ℕ
word_at text tokens i = slice_range text (token_at tokens i).start (token_at tokens i).stop

-- the comments among these tokens of a text, and whether one of them says the action
abbrev pub texts : List ℕ → List Token → List (List ℕ)
texts text tokens = map (λ t. slice_range text t.start t.stop) (filter (λ t. is_comment t.kind) tokens)

abbrev pub comments_say : ActionComment → List ℕ → List Token → Bool
comments_say a text tokens = list_any (says a) (texts text tokens)

-- one token after the others
pub says_on : (a : ActionComment) (text : List ℕ) (tokens : List Token) (i : ℕ) → i < length tokens → comments_say a text tokens ≡ comments_say a text (drop i tokens) → comments_say a text tokens ≡ is_comment (token_at tokens i).kind && says a (word_at text tokens i) || comments_say a text (drop (i + 1) tokens)
says_on a text tokens i within e = e ∙ ap (comments_say a text) (drop_more tokens i _ within) ∙ by (is_comment (token_at tokens i).kind)
  where
    others : List Token
    others = filter (λ t. is_comment t.kind) (drop (i + 1) tokens)

    by : (b : Bool) → list_any (says a) (map (λ t. slice_range text t.start t.stop) (cond b (token_at tokens i ∷ others) others)) ≡ b && says a (word_at text tokens i) || list_any (says a) (map (λ t. slice_range text t.start t.stop) others)
    by true = refl
    by false = refl

-- where one token after the others brings some more comments
pub texts_on : (text : List ℕ) (tokens : List Token) (i : ℕ) (before after : List (List ℕ)) → i < length tokens → before ++ texts text (drop i tokens) ≡ texts text tokens → after ≡ before ++ (if is_comment (token_at tokens i).kind then word_at text tokens i ∷ [] else []) → after ++ texts text (drop (i + 1) tokens) ≡ texts text tokens
texts_on text tokens i before after within e is =
    ap (λ l. l ++ texts text (drop (i + 1) tokens)) is
    ∙ append_assoc before _ (texts text (drop (i + 1) tokens))
    ∙ ap (λ l. before ++ l) (sym (by (is_comment (token_at tokens i).kind)) ∙ sym (ap (texts text) (drop_more tokens i _ within)))
    ∙ e
  where
    others : List Token
    others = filter (λ t. is_comment t.kind) (drop (i + 1) tokens)

    by : (b : Bool) → map (λ t. slice_range text t.start t.stop) (cond b (token_at tokens i ∷ others) others) ≡ (if b then word_at text tokens i ∷ [] else []) ++ map (λ t. slice_range text t.start t.stop) others
    by true = refl
    by false = refl

-- what comments say, without the empty ones
abbrev pub said : List (List ℕ) → List (List ℕ)
said comments = filter is_text (map (λ t. stripped (without_hash t)) comments)

-- one comment more
text_unless : (t : List ℕ) → (if is_text t then t ∷ [] else []) ≡ (if length t == 0 then [] else t ∷ [])
text_unless [] = refl
text_unless (b ∷ bs) = sym (ap (λ x. if x then [] else (b ∷ bs) ∷ []) (ne_eqb (length (b ∷ bs)) 0 (λ e. omega (arith, e))))

pub said_more : (items : List (String Global)) (k : ℕ) (item : String Global) (content : List ℕ) (empty : Bool) → k < length items → item ≡ get_or items k item → content ≡ stripped (without_hash (string_bytes item)) → empty ≡ (length content == 0) → said (map string_bytes (take (k + 1) items)) ≡ said (map string_bytes (take k items)) ++ (if empty then [] else content ∷ [])
said_more items k item content empty within at is none =
    ap (λ l. said (map string_bytes l)) (take_more items k item within)
    ∙ ap said (map-append string_bytes (take k items) (get_or items k item ∷ []))
    ∙ ap (filter is_text) (map-append (λ t. stripped (without_hash t)) (map string_bytes (take k items)) (string_bytes (get_or items k item) ∷ []))
    ∙ filter-append is_text (map (λ t. stripped (without_hash t)) (map string_bytes (take k items))) (stripped (without_hash (string_bytes (get_or items k item))) ∷ [])
    ∙ ap (λ (c : List ℕ). said (map string_bytes (take k items)) ++ (if is_text c then c ∷ [] else [])) (ap (λ s. stripped (without_hash (string_bytes s))) (sym at) ∙ sym is)
    ∙ ap (λ (l : List (List ℕ)). said (map string_bytes (take k items)) ++ l) (text_unless content ∙ ap (λ b. if b then [] else content ∷ []) (sym none))
