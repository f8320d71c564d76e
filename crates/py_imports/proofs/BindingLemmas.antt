-- What the program has bound of a logical line so far.
use Rattle.std.proofs.Common.{◌≡◌, ℕ, ◌+◌, ◌<◌, ◌≤◌, Bool, true, false, ◌==◌, ◌&&◌, List, [], ◌∷◌, ◌++◌, length, map, filter, drop, get_or, refl, sym, ap, ◌∙◌, subst, append_assoc, add-one, drop-cons}
use Rattle.std.proofs.lemmas.Option.{slice_get-get_or}
use Rattle.std.proofs.lemmas.List.{append-nil, drop_all, map-append}
use Rattle.py_lines.specs.LogicalLine.{LogicalLine}
use Rattle.py_lines.specs.declared.token.Token.{Token}
use Rattle.py_imports.specs.Statement.{is_comment, significant, is_divider, depth_past, depth_after_tokens, ends_in_divider, may_start_after, TokenPlace, places_from, starts}
use Rattle.py_imports.specs.BindingValue.{BindingValue, binding_at, binding_value}
use Rattle.py_imports.specs.Grammar.{Imported}
use Rattle.py_imports.specs.Binds.{BindsAt, BindEach, Binds, Refuses}
use Rattle.py_imports.specs.Private.Items.{StartWith}
use Rattle.py_imports.specs.Private.Bindings.{BindsMore, RefusesAt, IsPlaceAt}
use Rattle.py_imports.specs.declared.binding.Binding.{Binding}
use Rattle.py_imports.specs.declared.bindings.Head.{Head}
use Rattle.py_imports.specs.declared.error.ImportError.{ImportError}
use Rattle.py_imports.specs.declared.error.ImportError.TheVariants as error
use Rattle.py_imports.proofs.ReaderLemmas.{AreRead, one_more_read}
use Rattle.py_imports.proofs.TokenLemmas.{depth_behind-snoc, significant-cons}

ends_in_divider-snoc : (depth : ℕ) (ts : List Token) (t : Token) → ends_in_divider depth (ts ++ t ∷ []) ≡ is_divider t.kind && (depth_after_tokens depth ts == 0)
ends_in_divider-snoc depth [] t = refl
ends_in_divider-snoc depth (u ∷ []) t = refl
ends_in_divider-snoc depth (u ∷ v ∷ ts) t = ends_in_divider-snoc (depth_past depth u.kind) (v ∷ ts) t

may_start_behind-snoc : (ts : List Token) (t : Token) → may_start_after (ts ++ t ∷ []) ≡ is_divider t.kind && (depth_after_tokens 0 ts == 0)
may_start_behind-snoc [] t = refl
may_start_behind-snoc (u ∷ ts) t = ends_in_divider-snoc 0 (u ∷ ts) t

-- the places among these at which statements start
abbrev starts_among : List TokenPlace → List TokenPlace
starts_among ps = filter (λ p. may_start_after p.before) ps

-- the statements were bound that start before token `i`, whose depth this is; whether one may start there
pub record BindsSoFar (line : LogicalLine) (i depth : ℕ) (here : Bool) (bindings : List Binding) : Type 0 where
  pub before : List Token
  pub done : List TokenPlace
  pub split : starts (significant line.tokens) ≡ done ++ starts_among (places_from before (significant (drop i line.tokens)))
  pub level : depth ≡ depth_after_tokens 0 before
  pub start : here ≡ may_start_after before
  pub binds : BindEach line done (map binding_value bindings)

pub binds_nothing : (line : LogicalLine) → BindsSoFar line 0 0 true []
binds_nothing line = record { before = []; done = []; split = refl; level = refl; start = refl; binds = refl }

BindEach-snoc : (line : LogicalLine) (ps : List TokenPlace) (p : TokenPlace) (bs more : List BindingValue) → BindEach line ps bs → BindsAt line p more → BindEach line (ps ++ p ∷ []) (bs ++ more)
BindEach-snoc line [] p bs more e b = (more, [], ap (λ x. x ++ more) e ∙ sym (append-nil more), b, refl)
BindEach-snoc line (q ∷ ps) p bs more (first, others, e, b, rest) c = (first, others ++ more, ap (λ x. x ++ more) e ∙ append_assoc first others more, b, BindEach-snoc line ps p others more rest c)

-- the tokens from one on
from_token : (tokens : List Token) (i : ℕ) (t : Token) → i < length tokens → drop i tokens ≡ get_or tokens i t ∷ drop (i + 1) tokens
from_token tokens i t within = rw (add-one, drop-cons tokens i t)

pub from_significant : (tokens : List Token) (i : ℕ) (t : Token) → i < length tokens → is_comment (get_or tokens i t).kind ≡ false → significant (drop i tokens) ≡ get_or tokens i t ∷ significant (drop (i + 1) tokens)
from_significant tokens i t within code = ap significant (from_token tokens i t within) ∙ significant-cons (get_or tokens i t) (drop (i + 1) tokens) code

-- the place of a token that is no comment
abbrev place_at : LogicalLine → List Token → ℕ → Token → TokenPlace
place_at line before i t = record { before = before; token = get_or line.tokens i t; after = significant (drop (i + 1) line.tokens) }

is_place_at : (line : LogicalLine) (before : List Token) (i : ℕ) (t : Token) → i < length line.tokens → IsPlaceAt line.tokens i (place_at line before i t)
is_place_at line before i t within = (slice_get-get_or line.tokens i t within, refl)

-- the starts from a place on, where a statement starts there and where none does
starts_here : (p : TokenPlace) (ps : List TokenPlace) → may_start_after p.before ≡ true → starts_among (p ∷ ps) ≡ p ∷ starts_among ps
starts_here p ps e = rw e

starts_later : (p : TokenPlace) (ps : List TokenPlace) → may_start_after p.before ≡ false → starts_among (p ∷ ps) ≡ starts_among ps
starts_later p ps e = rw e

level_behind : (before : List Token) (depth : ℕ) (t : Token) → depth ≡ depth_after_tokens 0 before → depth_past depth t.kind ≡ depth_after_tokens 0 (before ++ t ∷ [])
level_behind before depth t e = ap (λ d. depth_past d t.kind) e ∙ sym (depth_behind-snoc 0 before t)

start_behind : (before : List Token) (depth : ℕ) (t : Token) → depth ≡ depth_after_tokens 0 before → is_divider t.kind && (depth == 0) ≡ may_start_after (before ++ t ∷ [])
start_behind before depth t e = ap (λ d. is_divider t.kind && (d == 0)) e ∙ sym (may_start_behind-snoc before t)

-- the starts, with the place of token `i` among what is left
split_at : (line : LogicalLine) (i depth : ℕ) (here : Bool) (bindings : List Binding) (t : Token) (s : BindsSoFar line i depth here bindings) → i < length line.tokens → is_comment (get_or line.tokens i t).kind ≡ false → starts (significant line.tokens) ≡ s.done ++ starts_among (place_at line s.before i t ∷ places_from (s.before ++ get_or line.tokens i t ∷ []) (significant (drop (i + 1) line.tokens)))
split_at line i depth here bindings t s within code = s.split ∙ ap (λ x. s.done ++ starts_among (places_from s.before x)) (from_significant line.tokens i t within code)

-- a token is passed at which no statement starts
pub passes_token : (line : LogicalLine) (i depth : ℕ) (bindings : List Binding) (t : Token) → BindsSoFar line i depth false bindings → i < length line.tokens → is_comment (get_or line.tokens i t).kind ≡ false → BindsSoFar line (i + 1) (depth_past depth (get_or line.tokens i t).kind) (is_divider (get_or line.tokens i t).kind && (depth == 0)) bindings
passes_token line i depth bindings t s within code =
    let u = get_or line.tokens i t in
    let rest = places_from (s.before ++ u ∷ []) (significant (drop (i + 1) line.tokens)) in
    record {
      before = s.before ++ u ∷ [];
      done = s.done;
      split = split_at line i depth false bindings t s within code ∙ ap (λ x. s.done ++ x) (starts_later (place_at line s.before i t) rest (sym s.start));
      level = level_behind s.before depth u s.level;
      start = start_behind s.before depth u s.level;
      binds = s.binds;
    }

-- a comment is passed
pub passes_comment : (line : LogicalLine) (i depth : ℕ) (here : Bool) (bindings : List Binding) (t : Token) → BindsSoFar line i depth here bindings → i < length line.tokens → is_comment (get_or line.tokens i t).kind ≡ true → BindsSoFar line (i + 1) depth here bindings
passes_comment line i depth here bindings t s within comment =
    let passed : significant (get_or line.tokens i t ∷ drop (i + 1) line.tokens) ≡ significant (drop (i + 1) line.tokens) = rw comment in
    record {
      before = s.before;
      done = s.done;
      split = s.split ∙ ap (λ ts. s.done ++ starts_among (places_from s.before ts)) (ap significant (from_token line.tokens i t within) ∙ passed);
      level = s.level;
      start = s.start;
      binds = s.binds;
    }

-- all tokens were passed
pub binds_all : (line : LogicalLine) (i depth : ℕ) (here : Bool) (bindings : List Binding) → BindsSoFar line i depth here bindings → length line.tokens ≤ i → Binds line (map binding_value bindings)
binds_all line i depth here bindings s end =
    let all = s.split ∙ ap (λ ts. s.done ++ starts_among (places_from s.before (significant ts))) (drop_all i line.tokens end) ∙ append-nil s.done in
    let Each : List TokenPlace → Type 0 = λ ps. BindEach line ps (map binding_value bindings) in
    subst Each (sym all) s.binds

-- a statement starts at a token, and was bound
pub passes_start : (line : LogicalLine) (i depth : ℕ) (old new : List Binding) (t : Token) → BindsSoFar line i depth true old → i < length line.tokens → is_comment (get_or line.tokens i t).kind ≡ false → ((p : TokenPlace) → IsPlaceAt line.tokens i p → BindsMore line p old new) → BindsSoFar line (i + 1) (depth_past depth (get_or line.tokens i t).kind) (is_divider (get_or line.tokens i t).kind && (depth == 0)) new
passes_start line i depth old new t s within code bound =
    let u = get_or line.tokens i t in
    let p = place_at line s.before i t in
    let rest = places_from (s.before ++ u ∷ []) (significant (drop (i + 1) line.tokens)) in
    let more = bound p (is_place_at line s.before i t within) in
    record {
      before = s.before ++ u ∷ [];
      done = s.done ++ p ∷ [];
      split = split_at line i depth true old t s within code ∙ ap (λ x. s.done ++ x) (starts_here p rest (sym s.start)) ∙ sym (append_assoc s.done (p ∷ []) (starts_among rest));
      level = level_behind s.before depth u s.level;
      start = start_behind s.before depth u s.level;
      binds = subst (BindEach line (s.done ++ p ∷ [])) (sym more.adds) (BindEach-snoc line s.done p (map binding_value old) more.values s.binds more.binds);
    }

refused_by : (line : LogicalLine) (p : TokenPlace) (done later : List TokenPlace) (values : List BindingValue) (e : ImportError) → starts (significant line.tokens) ≡ done ++ p ∷ later → BindEach line done values → RefusesAt line p e → Refuses line e
refused_by line p done later values error.Memory split good r = tt
refused_by line p done later values (error.Fault f) split good r = record { before = done; start = p; after = later; values = values; split = split; good = good; bad = r.0; place = r.1 }

-- a statement starts at a token, and was refused
pub refuses_start : (line : LogicalLine) (i depth : ℕ) (old : List Binding) (t : Token) (e : ImportError) → BindsSoFar line i depth true old → i < length line.tokens → is_comment (get_or line.tokens i t).kind ≡ false → ((p : TokenPlace) → IsPlaceAt line.tokens i p → RefusesAt line p e) → Refuses line e
refuses_start line i depth old t e s within code refused =
    let p = place_at line s.before i t in
    let rest = places_from (s.before ++ get_or line.tokens i t ∷ []) (significant (drop (i + 1) line.tokens)) in
    refused_by line p s.done (starts_among rest) (map binding_value old) e (split_at line i depth true old t s within code ∙ ap (λ x. s.done ++ x) (starts_here p rest (sym s.start))) s.binds (refused p (is_place_at line s.before i t within))

-- the same state by other names
pub same_so_far : (line : LogicalLine) (i depth level : ℕ) (here start : Bool) (old new : List Binding) → BindsSoFar line i depth here old → level ≡ depth → start ≡ here → new ≡ old → BindsSoFar line i level start new
same_so_far line i depth level here start old new s d h b = record {
  before = s.before;
  done = s.done;
  split = s.split;
  level = d ∙ s.level;
  start = h ∙ s.start;
  binds = subst (λ bs. BindEach line s.done (map binding_value bs)) (sym b) s.binds;
}

-- the imports that were read so far were bound, and their bindings put after others
pub record BoundSoFar (Before Now : List Imported → Type 0) (head : Head) (old new : List Binding) : Type 0 where
  pub done : List Imported
  pub read : AreRead Before Now done
  pub adds : map binding_value new ≡ map binding_value old ++ map (binding_at head.line head.indented) done

-- one binding more
pub one_bound : (Before Now After : List Imported → Type 0) (head : Head) (old mid new : List Binding) (i : Imported) → BoundSoFar Before Now head old mid → StartWith Now i After → map binding_value new ≡ map binding_value mid ++ binding_at head.line head.indented i ∷ [] → BoundSoFar Before After head old new
one_bound Before Now After head old mid new i s first e =
    let at = binding_at head.line head.indented in
    record {
      done = s.done ++ i ∷ [];
      read = one_more_read Before Now After s.done i s.read first;
      adds = e ∙ ap (λ x. x ++ at i ∷ []) s.adds ∙ append_assoc (map binding_value old) (map at s.done) (at i ∷ []) ∙ ap (λ x. map binding_value old ++ x) (sym (map-append at s.done (i ∷ [])));
    }
