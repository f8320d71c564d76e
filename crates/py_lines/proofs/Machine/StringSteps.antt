-- The machine goes through the text of a string, item by item: the open piece grows by each, and ends with the last quote.
use Rattle.py_lines.proofs.Prelude.{◌≡◌, ℕ, Bool, true, false, cond, ◌==◌, eqb, List, [], ◌∷◌, ◌++◌, refl, sym, ap, ◌∙◌, subst, inl, inr, append_assoc, ◌⊎◌, arith, list_all, list_all-append, and_parts, and_from, or_parts, eq-eqb, eqb-true, both_ways, not-true, if◌then◌else◌, is_quote, is_line_feed, is_return, is_backslash, string}
use Rattle.py_lines.specs.PieceGrammar.{is_prefix, IsPrefix, is_item, is_bare, is_short_item, joined, begins_triple, has_triple, MayPrecedePlain}
use Rattle.py_lines.specs.Private.Machine.{Spelling, Mode, Move, class_of, move_of, short_move, long_move, first_spelling, spelling_on, is_prefix_spelling}
use Rattle.py_lines.proofs.Pieces.PieceLists.{joined-append}
use Rattle.py_lines.proofs.Text.CharacterTests.{prefix_word, quote-not-word, excluded, not_quote, slash-not-quote, feed-not-others, unbarred}
use Rattle.py_lines.proofs.Machine.Spellings.{prefix_spelling}
use Rattle.py_lines.proofs.Machine.PieceSteps.{stops_unless, Grown, grown-append, grown-word, EndsWith, ends_before, ends_at}
use Rattle.py_lines.proofs.Machine.OpenPieces.{quotes_items}

-- a prefix, and the quote after it
pub opens_at : (s : Spelling) (q : ℕ) → is_prefix_spelling s ≡ true → is_quote q ≡ true → move_of (Mode.Word s) q ≡ Move.Grows (Mode.Opened q)
unfolding move_of
opens_at s q prefix quotes = rw (quote-not-word q quotes, prefix, quotes)

pub grown-prefix : (a : ℕ) (bs : List ℕ) (q : ℕ) → is_prefix (a ∷ bs) ≡ true → is_quote q ≡ true → Grown (Mode.Word (first_spelling a)) (bs ++ q ∷ []) (Mode.Opened q)
grown-prefix a bs q is quotes =
    grown-append _ (Mode.Word (spelling_on (first_spelling a) bs)) _ bs (q ∷ []) (grown-word (first_spelling a) bs (prefix_word a bs is).1)
    (Mode.Opened q, opens_at _ q (sym (prefix_spelling a bs) ∙ is) quotes, refl)

-- in a short string that holds something
abbrev HoldsShort : ℕ → Mode → Type 0
HoldsShort q m = (m ≡ Mode.Inside q) ⊎ (m ≡ Mode.EscapeReturn q)

-- in a short string, between two items
abbrev pub IsShortMode : ℕ → Mode → Type 0
IsShortMode q m = (m ≡ Mode.Opened q) ⊎ HoldsShort q m

short_moves : (q c : ℕ) (m : Mode) → IsShortMode q m → eqb c q ≡ false → is_line_feed c ≡ false → move_of m c ≡ short_move q c
unfolding move_of
short_moves q c m short other no_feed = grind arith

-- a backslash in a short string
pub short_escapes : (q c : ℕ) (m : Mode) → IsShortMode q m → is_quote q ≡ true → is_backslash c ≡ true → move_of m c ≡ Move.Grows (Mode.Escape q)
unfolding short_move
short_escapes q c m short quotes slash = short_moves q c m short (not_quote c q quotes (slash-not-quote c slash)) (excluded is_backslash is_line_feed c (λ feeds. (feed-not-others c feeds).1) slash) ∙ rw slash

-- the open piece grows by a text, and such a mode is open after it
abbrev pub GrownTo : (Mode → Type 0) → Mode → List ℕ → Type 0
GrownTo IsSuch from text = (to : Mode) × IsSuch to × Grown from text to

grown-item : (q : ℕ) (m : Mode) (item : List ℕ) → IsShortMode q m → is_quote q ≡ true → is_short_item q item ≡ true → GrownTo (HoldsShort q) m item
unfolding move_of short_move
grown-item q m (c ∷ []) short quotes is = (Mode.Inside q, inl refl, grind (arith, short_moves q c m short, unbarred q c))
grown-item q m (c ∷ d ∷ []) short quotes is = ((if is_return d then Mode.EscapeReturn q else Mode.Inside q), grind arith, grind (arith, short_escapes q c m short quotes))
grown-item q m (c ∷ d ∷ e ∷ []) short quotes is =
    (Mode.Inside q, inl refl, (Mode.Escape q, grind (arith, short_escapes q c m short quotes), (Mode.EscapeReturn q, grind arith, (Mode.Inside q, grind arith, refl))))
grown-item q m item short quotes is = absurd (both_ways _ refl is)

-- the items of a short string, if there are some
pub short_body : (q : ℕ) (m : Mode) (item : List ℕ) (items : List (List ℕ)) → IsShortMode q m → is_quote q ≡ true → list_all (is_short_item q) (item ∷ items) ≡ true → GrownTo (HoldsShort q) m (joined (item ∷ items))
short_body q m item [] short quotes each =
    let first = grown-item q m item short quotes (and_parts (is_short_item q item) true each).0 in
    (first.0, first.1, grown-append m first.0 first.0 item [] first.2 refl)
short_body q m item (i ∷ is) short quotes each =
    let parts = and_parts (is_short_item q item) (list_all (is_short_item q) (i ∷ is)) each in
    let first = grown-item q m item short quotes parts.0 in let others = short_body q first.0 i is (inr first.1) quotes parts.1 in
    (others.0, others.1, grown-append m first.0 others.0 item (joined (i ∷ is)) first.2 others.2)

-- a quote closes it
short_closes : (q : ℕ) (m : Mode) → HoldsShort q m → is_quote q ≡ true → (class_of m ≡ string) × (move_of m q ≡ Move.Closes)
unfolding move_of
short_closes q m short quotes = grind (arith, excluded is_quote is_line_feed q (λ feeds. (feed-not-others q feeds).0) quotes, eq-eqb q q refl)

pub short_ends : (text prefix : List ℕ) (q : ℕ) (items : List (List ℕ)) (rest : List ℕ) → text ≡ prefix ++ (q ∷ joined items ++ q ∷ []) → IsPrefix prefix → is_quote q ≡ true → list_all (is_short_item q) items ≡ true → MayPrecedePlain string text rest → EndsWith string (Mode.Opened q) (joined items ++ q ∷ []) rest
unfolding move_of
short_ends text prefix q [] rest spell is quotes each before = ends_before (Mode.Empty q) (Mode.Empty q, rw (eq-eqb q q refl), refl) (refl, λ done held. refl)
    (stops_unless (Mode.Empty q) (λ c. c == q) refl (λ c h. rw h) rest (before prefix q spell is quotes))
short_ends text prefix q (i ∷ items) rest spell is quotes each before =
    let body = short_body q (Mode.Opened q) i items (inl refl) quotes each in
    let last = short_closes q body.0 body.1 quotes in ends_at body.0 (joined (i ∷ items)) q refl body.2 last.0 last.1

-- how many quotes stand directly before a place in a long string
pub data QuotesBefore : Type 0 where
  none : QuotesBefore
  one : QuotesBefore
  two : QuotesBefore

abbrev pub mode_at : ℕ → QuotesBefore → Mode
mode_at q none = Mode.Long q
mode_at q one = Mode.LongOne q
mode_at q two = Mode.LongTwo q

abbrev pub quotes_before : ℕ → QuotesBefore → List (List ℕ)
quotes_before q none = []
quotes_before q one = (q ∷ []) ∷ []
quotes_before q two = (q ∷ []) ∷ (q ∷ []) ∷ []

-- one more quote; the third closes the string
abbrev pub next : QuotesBefore → QuotesBefore
next none = one
next other = two

abbrev pub seen_with : ℕ → QuotesBefore → List ℕ → QuotesBefore
seen_with q seen item = cond (is_bare (λ c. c == q) item) (next seen) none

abbrev pub seen_after : ℕ → QuotesBefore → List (List ℕ) → QuotesBefore
seen_after q seen [] = seen
seen_after q seen (item ∷ items) = seen_after q (seen_with q seen item) items

long_moves : (q c : ℕ) (seen : QuotesBefore) → eqb c q ≡ false → move_of (mode_at q seen) c ≡ long_move q c
unfolding move_of
long_moves q c seen other = grind arith

-- a backslash in a long string
pub long_escapes : (q c : ℕ) (seen : QuotesBefore) → is_quote q ≡ true → is_backslash c ≡ true → move_of (mode_at q seen) c ≡ Move.Grows (Mode.LongEscape q)
unfolding long_move
long_escapes q c seen quotes slash = long_moves q c seen (not_quote c q quotes (slash-not-quote c slash)) ∙ rw slash

-- an item that is no quote of the string
grown-other : (q : ℕ) (seen : QuotesBefore) (item : List ℕ) → is_quote q ≡ true → is_item item ≡ true → is_bare (λ c. c == q) item ≡ false → Grown (mode_at q seen) item (Mode.Long q)
unfolding move_of long_move
grown-other q seen (c ∷ []) quotes is other = (Mode.Long q, long_moves q c seen other ∙ rw (not-true _ is), refl)
grown-other q seen (c ∷ d ∷ []) quotes is other = (Mode.LongEscape q, long_escapes q c seen quotes is, (Mode.Long q, refl, refl))
grown-other q seen (c ∷ d ∷ e ∷ []) quotes is other = grind (arith, long_escapes q c seen quotes, long_moves q e none, not_quote e q quotes, feed-not-others e)
grown-other q seen item quotes is other = absurd (both_ways _ refl is)

bare_quote : (q : ℕ) (item : List ℕ) → is_bare (λ c. c == q) item ≡ true → item ≡ q ∷ []
bare_quote q (c ∷ []) h = ap (λ d. d ∷ []) (eqb-true c q h)
bare_quote q item h = absurd (both_ways _ refl h)

-- one more quote, where the string goes on
quote_grows : (q : ℕ) (seen : QuotesBefore) (items : List (List ℕ)) → has_triple q (quotes_before q seen ++ (q ∷ []) ∷ items) ≡ false → (move_of (mode_at q seen) q ≡ Move.Grows (mode_at q (next seen))) × (has_triple q (quotes_before q (next seen) ++ items) ≡ false)
unfolding move_of
quote_grows q seen items h = grind (arith, eq-eqb q q refl)

-- what stays open after some items and one more
pub later_triple : (q : ℕ) (before : List (List ℕ)) (item : List ℕ) (items : List (List ℕ)) → has_triple q (before ++ item ∷ items) ≡ false → has_triple q items ≡ false
later_triple q [] item items h = (or_parts (begins_triple q (item ∷ items)) (has_triple q items) h).1
later_triple q (b ∷ bs) item items h = later_triple q bs item items (or_parts (begins_triple q (b ∷ (bs ++ item ∷ items))) (has_triple q (bs ++ item ∷ items)) h).1

-- the items of a long string
pub grown-long : (q : ℕ) (seen : QuotesBefore) (items : List (List ℕ)) → is_quote q ≡ true → list_all is_item items ≡ true → has_triple q (quotes_before q seen ++ items) ≡ false → Grown (mode_at q seen) (joined items) (mode_at q (seen_after q seen items))
grown-long q seen [] quotes each triple = refl
grown-long q seen (i ∷ is) quotes each triple =
    let parts = and_parts (is_item i) (list_all is_item is) each in
    let first = go parts.0 (is_bare (λ c. c == q) i) refl in
    grown-append _ (mode_at q (seen_with q seen i)) _ i (joined is) first.0 (grown-long q (seen_with q seen i) is quotes parts.1 first.1)
  where
    go : is_item i ≡ true → (b : Bool) → is_bare (λ c. c == q) i ≡ b → Grown (mode_at q seen) i (mode_at q (cond b (next seen) none)) × (has_triple q (quotes_before q (cond b (next seen) none) ++ is) ≡ false)
    go item true h = let same = bare_quote q i h in
        let one_more = quote_grows q seen is (subst (λ (j : List ℕ). has_triple q (quotes_before q seen ++ j ∷ is) ≡ false) same triple) in
        (subst (λ (j : List ℕ). Grown (mode_at q seen) j (mode_at q (next seen))) (sym same) (mode_at q (next seen), one_more.0, refl), one_more.1)
    go item false h = (grown-other q seen i quotes item h, later_triple q (quotes_before q seen) i is triple)

seen_after-append : (q : ℕ) (seen : QuotesBefore) (xs ys : List (List ℕ)) → seen_after q seen (xs ++ ys) ≡ seen_after q (seen_after q seen xs) ys
seen_after-append q seen [] ys = refl
seen_after-append q seen (x ∷ xs) ys = seen_after-append q (seen_with q seen x) xs ys

two_quotes : (q : ℕ) (seen : QuotesBefore) → seen_after q seen ((q ∷ []) ∷ (q ∷ []) ∷ []) ≡ two
two_quotes q seen = grind (arith, eq-eqb q q refl)

-- three quotes, and what a long string grows by
pub grown-opening : (q : ℕ) (body : List ℕ) (m : Mode) → Grown (Mode.Long q) body m → Grown (Mode.Opened q) (q ∷ q ∷ body) m
unfolding move_of
grown-opening q body m grown = (Mode.Empty q, rw (eq-eqb q q refl), (Mode.Long q, rw (eq-eqb q q refl), grown))

pub long_ends : (q : ℕ) (items : List (List ℕ)) (rest : List ℕ) → is_quote q ≡ true → list_all is_item items ≡ true → has_triple q (items ++ (q ∷ []) ∷ (q ∷ []) ∷ []) ≡ false → EndsWith string (Mode.Opened q) (q ∷ q ∷ (joined items ++ q ∷ q ∷ q ∷ [])) rest
unfolding move_of
long_ends q items rest quotes each triple =
    let all = items ++ (q ∷ []) ∷ (q ∷ []) ∷ [] in
    let cut : joined items ++ q ∷ q ∷ q ∷ [] ≡ joined all ++ q ∷ [] = simp (joined-append, append_assoc) in
    let seen : seen_after q none all ≡ two = seen_after-append q none items ((q ∷ []) ∷ (q ∷ []) ∷ []) ∙ two_quotes q (seen_after q none items) in
    let run = grown-long q none all quotes (list_all-append is_item items ((q ∷ []) ∷ (q ∷ []) ∷ []) ∙ and_from _ _ each (quotes_items q quotes)) triple in
    ends_at (Mode.LongTwo q) (q ∷ q ∷ joined all) q (ap (λ t. q ∷ q ∷ t) cut) (grown-opening q (joined all) (Mode.LongTwo q) (subst (λ s. Grown (Mode.Long q) (joined all) (mode_at q s)) seen run)) refl (rw (eq-eqb q q refl))
