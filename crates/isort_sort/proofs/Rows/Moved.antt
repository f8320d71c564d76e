-- A logical line imports the same wherever it stands.
use Rattle.std.proofs.Common.{◌≡◌, ℕ, ◌+◌, ◌==◌, Bool, cond, not, ◌&&◌, List, [], ◌∷◌, ◌++◌, map, take, refl, sym, ap, ◌∙◌, subst}
use Rattle.std.specs.Prelude.{filter, nat_lt, take_while}
use Rattle.std.specs.List.{prefix_len}
use Rattle.std.proofs.lemmas.List.{map-append, take-map}
use Rattle.std.proofs.lemmas.Simd.{map-map}
use Rattle.py_lines.specs.LogicalLine.{LogicalLine}
use Rattle.py_lines.specs.Words.{Extent, extent_of}
use Rattle.py_lines.specs.declared.token.Token.{Token}
use Rattle.py_imports.specs.Binds.{Binds, BindEach, BindsAt, nothing, imports, values_at, terminals_at, terminal_in}
use Rattle.py_imports.specs.BindingValue.{BindingValue, binding_at}
use Rattle.py_imports.specs.Grammar.{Terminal, Imported, IsImport, begins_import}
use Rattle.py_imports.specs.Statement.{is_comment, is_semicolon, significant, depth_past, depth_after_tokens, ends_in_divider, may_start_after, TokenPlace, places_from, starts, is_end, statement_at}
use Rattle.isort_sort.specs.Line.{imported_of}
use Rattle.isort_sort.proofs.LineLaws.Each.{filter-map}

prefix-map : {X Y : Type 0} (test : Y → Bool) (f : X → Y) (xs : List X) → prefix_len test (map f xs) ≡ prefix_len (λ x. test (f x)) xs
prefix-map test f [] = refl
prefix-map test f (x ∷ xs) = ap (λ n. cond (test (f x)) (1 + n) 0) (prefix-map test f xs)

-- a token without its line
abbrev pub still : Token → Token
still t = record { kind = t.kind; start = t.start; stop = t.stop; line = 0 }

abbrev pub still_place : TokenPlace → TokenPlace
still_place p = record { before = map still p.before; token = still p.token; after = map still p.after }

still_extent : Extent → Token
still_extent e = record { kind = e.kind; start = e.start; stop = e.stop; line = 0 }

pub still_alike : (ts us : List Token) → map extent_of ts ≡ map extent_of us → map still ts ≡ map still us
unfolding still_extent
still_alike ts us h = sym (map-map still_extent extent_of ts) ∙ ap (map still_extent) h ∙ map-map still_extent extent_of us

-- what is the same without lines is the same of tokens that differ in their lines alone
pub across : {X : Type 0} (f : List Token → X) → ((ts : List Token) → f (map still ts) ≡ f ts) → (ts us : List Token) → map still ts ≡ map still us → f ts ≡ f us
across f same ts us e = sym (same ts) ∙ ap f e ∙ same us

pub significant_still : (ts : List Token) → significant (map still ts) ≡ map still (significant ts)
significant_still ts = filter-map (λ t. not (is_comment t.kind)) still ts

pub significant_alike : (ts us : List Token) → map still ts ≡ map still us → map still (significant ts) ≡ map still (significant us)
significant_alike ts us e = sym (significant_still ts) ∙ ap significant e ∙ significant_still us

divider_still : (d : ℕ) (ts : List Token) → ends_in_divider d (map still ts) ≡ ends_in_divider d ts
divider_still d [] = refl
divider_still d (t ∷ []) = refl
divider_still d (t ∷ u ∷ ts) = divider_still (depth_past d t.kind) (u ∷ ts)

start_still : (ts : List Token) → may_start_after (map still ts) ≡ may_start_after ts
start_still [] = refl
start_still (t ∷ ts) = divider_still 0 (t ∷ ts)

depth_still : (d : ℕ) (ts : List Token) → depth_after_tokens d (map still ts) ≡ depth_after_tokens d ts
depth_still d [] = refl
depth_still d (t ∷ ts) = depth_still (depth_past d t.kind) ts

pub end_still : (p : TokenPlace) → is_end (still_place p) ≡ is_end p
end_still p = ap (λ (d : ℕ). is_semicolon p.token.kind && (d == 0)) (depth_still 0 p.before)

-- places among tokens
pub places_still : (b ts : List Token) → places_from (map still b) (map still ts) ≡ map still_place (places_from b ts)
places_still b [] = refl
places_still b (t ∷ ts) =
    ap (λ l. still_place (record { before = b; token = t; after = ts }) ∷ l)
    (ap (λ c. places_from c (map still ts)) (sym (map-append still b (t ∷ []))) ∙ places_still (b ++ t ∷ []) ts)

starts_still : (ts : List Token) → starts (map still ts) ≡ map still_place (starts ts)
starts_still ts =
    ap (filter (λ p. may_start_after p.before)) (places_still [] ts)
    ∙ filter-map (λ p. may_start_after p.before) still_place (places_from [] ts)
    ∙ (λ i. map still_place (filter (λ p. start_still p.before i) (places_from [] ts)))

statement_still : (p : TokenPlace) → statement_at (still_place p) ≡ map still (statement_at p)
statement_still p =
    let ps = places_from [] (p.token ∷ p.after) in
    let goes_on : TokenPlace → Bool = λ q. not (is_end q) in
    ap (λ l. map (λ (q : TokenPlace). q.token) (take_while goes_on l)) (places_still [] (p.token ∷ p.after))
    ∙ (λ i. map (λ (q : TokenPlace). q.token) (take (prefix-map goes_on still_place ps i) (map still_place ps)))
    ∙ (λ i. map (λ (q : TokenPlace). q.token) (take (prefix_len (λ q. not (end_still q i)) ps) (map still_place ps)))
    ∙ ap (map (λ (q : TokenPlace). q.token)) (take-map still_place (prefix_len goes_on ps) ps)
    ∙ map-map (λ (q : TokenPlace). q.token) still_place (take_while goes_on ps)
    ∙ sym (map-map still (λ (q : TokenPlace). q.token) (take_while goes_on ps))

pub terminals_still : (text : List ℕ) (ts : List Token) → map (terminal_in text) (map still ts) ≡ map (terminal_in text) ts
terminals_still text ts = map-map (terminal_in text) still ts

terminals_alike : (l m : LogicalLine) (p q : TokenPlace) → l.text ≡ m.text → still_place p ≡ still_place q → terminals_at l p ≡ terminals_at m q
terminals_alike l m p q text e =
    sym (terminals_still l.text (statement_at p)) ∙ ap (map (terminal_in l.text)) (sym (statement_still p))
    ∙ (λ i. map (terminal_in (text i)) (statement_at (e i)))
    ∙ ap (map (terminal_in m.text)) (statement_still q) ∙ terminals_still m.text (statement_at q)

-- what a bound imports is what it was made of
pub imported_again : (line : ℕ) (indented : Bool) (is : List Imported) → map imported_of (map (binding_at line indented) is) ≡ is
imported_again line indented [] = refl
imported_again line indented (i ∷ is) = ap (λ l. i ∷ l) (imported_again line indented is)

-- the same is imported
record ImportsSame (P : List BindingValue → Type 0) (values : List BindingValue) : Type 0 where
  others : List BindingValue
  holds : P others
  same : map imported_of others ≡ map imported_of values

at_place : (l m : LogicalLine) (p q : TokenPlace) (values : List BindingValue) → terminals_at l p ≡ terminals_at m q → BindsAt l p values → ImportsSame (BindsAt m q) values
at_place l m p q values same (nothing _ _ _ begins none) =
    record { others = []; holds = nothing m q [] (sym (ap begins_import same) ∙ begins) refl; same = sym (ap (map imported_of) none) }
at_place l m p q values same (imports _ _ _ is begins import are) =
    record {
      others = values_at m q is;
      holds = imports m q (values_at m q is) is (sym (ap begins_import same) ∙ begins) (subst (λ (ts : List Terminal). IsImport ts is) same import) refl;
      same = imported_again q.token.line (nat_lt 0 m.indent) is ∙ sym (ap (map imported_of) are ∙ imported_again p.token.line (nat_lt 0 l.indent) is);
    }

same_heads : {X : Type 0} (a b : X) (xs ys : List X) → a ∷ xs ≡ b ∷ ys → (a ≡ b) × (xs ≡ ys)
same_heads a b xs ys h = let first : a ≡ b = cc in let others : xs ≡ ys = cc in (first, others)

at_places : (l m : LogicalLine) (ps qs : List TokenPlace) (values : List BindingValue) → l.text ≡ m.text → map still_place ps ≡ map still_place qs → BindEach l ps values → ImportsSame (BindEach m qs) values
at_places l m [] [] values text e b = record { others = []; holds = refl; same = sym (ap (map imported_of) b) }
at_places l m [] (q ∷ qs) values text e b = absurd (cc)
at_places l m (p ∷ ps) [] values text e b = absurd (cc)
at_places l m (p ∷ ps) (q ∷ qs) values text e (first, rest, is, one, more) =
    let both = same_heads (still_place p) (still_place q) (map still_place ps) (map still_place qs) e in
    let a = at_place l m p q first (terminals_alike l m p q text both.0) one in
    let c = at_places l m ps qs rest text both.1 more in
    record {
      others = a.others ++ c.others;
      holds = (a.others, c.others, refl, a.holds, c.holds);
      same = map-append imported_of a.others c.others ∙ (λ i. a.same i ++ c.same i) ∙ sym (ap (map imported_of) is ∙ map-append imported_of first rest);
    }

pub moved : (l m : LogicalLine) → l.text ≡ m.text → map extent_of l.tokens ≡ map extent_of m.tokens → (values : List BindingValue) → Binds l values → (others : List BindingValue) × Binds m others × (map imported_of others ≡ map imported_of values)
moved l m text tokens values binds =
    let same = significant_alike l.tokens m.tokens (still_alike l.tokens m.tokens tokens) in
    let found = at_places l m (starts (significant l.tokens)) (starts (significant m.tokens)) values text (sym (starts_still (significant l.tokens)) ∙ ap starts same ∙ starts_still (significant m.tokens)) binds in
    (found.others, found.holds, found.same)
