-- What the bytes with which a string's text goes on do to it, item after item.
use Rattle.py_lines.proofs.Prelude.{◌≡◌, ℕ, ◌<◌, ◌≤◌, Bool, true, false, not, ◌&&◌, ◌==◌, Option, None, Some, List, [], ◌∷◌, ◌++◌, ◌+◌, length, drop, slice_index, refl, sym, ap, ◌∙◌, subst, arith, append-nil, inl, inr, ◌⊎◌, encode_utf8, encode_utf8_all, nat_lt, if◌then◌else◌, list_all, len_utf8, StartsWithNoChar, drop-append_seam, drop-cons, drop_all, and_from, cond_both, both_ways, eq-eqb, eqb-true, ltb-true, ltb-false, or_right, encode_ascii, len_utf8_ascii, len_utf8_bounds, is_backslash, is_brace, is_break, is_quote, is_return, StringWithFields, Region, literal, OpenMode, BeginsWith}
use Rattle.py_lines.specs.declared.mode.Region.TheVariants as regions
use Rattle.py_lines.specs.declared.mode.Mode.TheVariants as opens
use Rattle.py_lines.specs.declared.string_text.TextMove.{TextMove}
use Rattle.py_lines.specs.declared.string_text.TextMove.TheVariants as text_moves
use Rattle.py_lines.specs.Private.FieldMachine.{At, FieldMode, after_brace, after_name, after_slash, between, between_move, body, body_move, closing_move, escape_move, field_move, grows, is_barred_escape, text_place, refused}
use Rattle.py_lines.specs.Private.Scan.{BreaksInText, DoesText, GrowsInText, HasQuote, IsTextAt, QuotesInText, TextAlike, TextAs, TextGoes, WaitsInText, WouldDo, escape_in, host_in, region_in, is_part_of_text, is_pending, is_text, mode_from, quotes_in}
use Rattle.py_lines.proofs.Text.CharacterTests.{not_quote, the_one}
use Rattle.py_lines.proofs.Text.Utf8Prefixes.{nothing_bad}
use Rattle.py_lines.proofs.FieldMachine.StringParts.{open_moves, slash_grows}
use Rattle.py_lines.proofs.FieldScans.Bytes.{byte_len-one}
use Rattle.py_lines.proofs.FieldScans.StringTexts.{EscapesBy, HasNoName, IsAtQuote, TakesQuotes, body_alike, body_escapes, break_refused, not_barred, other_grows, pending_text, quote_closes, quotes_apart, quotes_long, returned, slashed, text_as-self, text_at, text_mode, the_low, waits_not, with_one}
use Rattle.py_lines.proofs.LineScan.AsciiRuns.{is_low, is_low_from, low_encodes, low_is, quote_ascii, break_low}

-- characters of ASCII by which the text grows
pub grows_low : (m to : FieldMode) (mode : OpenMode) (run rest : List ℕ) → (is_text mode ≡ true) × HasQuote mode → list_all is_low run ≡ true → 0 < length run → TextGoes m run to → TextAs rest to (mode_from mode) → GrowsInText m (run ++ rest) mode (length run)
grows_low m to mode run rest text low some goes alike = let encodes = low_encodes is_low run low_is low in let after = drop-append_seam run rest in
    let spell : encode_utf8_all run ++ drop (length run) (run ++ rest) ≡ run ++ rest = ap (λ t. encode_utf8_all run ++ t) after ∙ ap (λ t. t ++ rest) encodes.0 in
    search (some, text, spell, encodes.1, ap length encodes.0, goes, subst (λ t. TextAs t to (mode_from mode)) (sym after) alike)

-- characters of ASCII after which the bytes don't tell
pub waits_low : (m to : FieldMode) (run rest : List ℕ) → list_all is_low run ≡ true → StartsWithNoChar rest → TextGoes m run to → ((mode : OpenMode) → mode_from mode ≡ m → is_pending mode run ≡ true) → WaitsInText m (run ++ rest)
waits_low m to run rest low none goes pending = let encodes = low_encodes is_low run low_is low in
    record { run = run; rest = rest; spell = ap (λ t. t ++ rest) encodes.0; scalars = encodes.1; none = none; to = to; goes = goes; pending = pending }

-- in the text of a string with fields
abbrev pub text_in : StringWithFields → Region → Bool → FieldMode
text_in h region named = mode_from (opens.Fields h region named)

-- where the first byte is this
pub first_byte_at : (bytes : List ℕ) (b : ℕ) → slice_index bytes 0 ≡ b → 0 < b → b ∷ drop 1 bytes ≡ bytes
first_byte_at [] b is some = absurd (omega (arith, is, some))
first_byte_at (c ∷ cs) b is some = ap (λ (x : ℕ). x ∷ cs) (sym is)

-- quotes with which a string would close
closes_by : (m to : FieldMode) (q : ℕ) (run rest : List ℕ) → is_quote q ≡ true → (run ≡ []) ⊎ (run ≡ q ∷ q ∷ []) → TextGoes m run to → IsAtQuote m q to → QuotesInText m (run ++ q ∷ rest) (length run + 1) (closing_move (text_place m))
closes_by m to q run rest quotes low goes here = grind arith

-- a quote of a short string
pub first_is : (bytes : List ℕ) (c : ℕ) → c < 128 → BeginsWith bytes c → c ∷ drop 1 bytes ≡ bytes
first_is bytes c low next =
    ap (λ (k : ℕ). c ∷ drop k bytes) (sym (len_utf8_ascii c low)) ∙ ap (λ t. t ++ drop (len_utf8 c) bytes) (sym (encode_ascii c low)) ∙ next.spell

pub first_byte_is : (bytes : List ℕ) (c : ℕ) → c < 128 → BeginsWith bytes c → slice_index bytes 0 ≡ c
first_byte_is bytes c low next = sym (ap (λ t. slice_index t 0) (first_is bytes c low next))

pub closes_short : (m : FieldMode) (q c : ℕ) (bytes : List ℕ) → is_quote q ≡ true → BeginsWith bytes c → c ≡ q → IsTextAt m q false (slice_index bytes 0) → QuotesInText m bytes 1 (closing_move (text_place m))
closes_short m q c bytes quotes next same at = let is : BeginsWith bytes q = subst (BeginsWith bytes) same next in
    subst (λ t. QuotesInText m t 1 (closing_move (text_place m))) (first_is bytes q (quote_ascii q quotes) is)
    (closes_by m m q [] (drop 1 bytes) quotes (inl refl) refl (quote_closes m q (text_at m q false bytes q is at)))

-- a line end in one
pub breaks_short : (m : FieldMode) (q c : ℕ) (bytes : List ℕ) → is_quote q ≡ true → BeginsWith bytes c → is_break c ≡ true → IsTextAt m q false (slice_index bytes 0) → BreaksInText m bytes
breaks_short m q c bytes quotes next break at = let none = break_refused m q c (text_at m q false bytes c next at) quotes break in
    let spell = first_is bytes c (break_low c break) next in
    record { run = []; c = c; after = drop 1 bytes; spell = spell; first = inl refl; breaking = break; to = m; goes = refl; does = none.0; waits = none.1 }

-- by how many quotes the bytes begin with
pub by_quotes : (q : ℕ) (P : List ℕ → Option ℕ → Type 0) → P (q ∷ []) None → P (q ∷ q ∷ []) None → ((b : ℕ) (rest : List ℕ) → b == q ≡ false → P (q ∷ b ∷ rest) (Some 1))
    → ((b : ℕ) (rest : List ℕ) → b == q ≡ false → P (q ∷ q ∷ b ∷ rest) (Some 2)) → ((rest : List ℕ) → P (q ∷ q ∷ q ∷ rest) (Some 3)) → (more : List ℕ) → P (q ∷ more) (quotes_in (q ∷ more))
by_quotes q P one two other closed long [] = one
by_quotes q P one two other closed long (c ∷ []) =
    cond_both (c == q) None (Some 1) (P (q ∷ c ∷ [])) (λ same. subst (λ (x : ℕ). P (q ∷ x ∷ []) None) (sym (eqb-true c q same)) two) (other c [])
by_quotes q P one two other closed long (c ∷ d ∷ rest) = cond_both (c == q) (Some (if d == q then 3 else 2)) (Some 1) (P (q ∷ c ∷ d ∷ rest))
    (λ same. subst (λ (x : ℕ). P (q ∷ x ∷ d ∷ rest) (Some (if d == q then 3 else 2))) (sym (eqb-true c q same))
    (cond_both (d == q) 3 2 (λ n. P (q ∷ q ∷ d ∷ rest) (Some n)) (λ third. subst (λ (x : ℕ). P (q ∷ q ∷ x ∷ rest) (Some 3)) (sym (eqb-true d q third)) (long rest)) (closed d rest)))
    (other c (d ∷ rest))

-- what so many bytes come to, where they tell it
abbrev pub Comes : OpenMode → List ℕ → Option ℕ → Type 0
Comes mode bytes None = WaitsInText (mode_from mode) bytes
Comes mode bytes (Some n) = GrowsInText (mode_from mode) bytes mode n

-- so quotes, three of which close a long string
abbrev pub QuotesCome : OpenMode → List ℕ → Option ℕ → Type 0
QuotesCome mode bytes o =
    (o ≡ Some 3 → QuotesInText (mode_from mode) bytes 3 (closing_move (text_place (mode_from mode)))) × ((o ≡ Some 3 → ⊥) → Comes mode bytes o)

fewer_come : (mode : OpenMode) (bytes : List ℕ) (o : Option ℕ) → (o ≡ Some 3 → ⊥) → Comes mode bytes o → QuotesCome mode bytes o
fewer_come mode bytes o other come = (λ three. absurd (other three), λ none. come)

module _ (mode : OpenMode) (q : ℕ) (quotes : is_quote q ≡ true) (at : IsTextAt (mode_from mode) q true q) where
  abbrev m : FieldMode
  m = mode_from mode

  takes : TakesQuotes m q
  takes = quotes_long m q at

  low : is_low q ≡ true
  low = is_low_from q (quote_ascii q quotes)

  -- one of them, and two
  goes_one : TextGoes m (q ∷ []) (with_one m)
  goes_one = (with_one m, takes.first, refl)

  goes_two : TextGoes m (q ∷ q ∷ []) (with_one (with_one m))
  goes_two = (with_one m, takes.first, (with_one (with_one m), takes.second, refl))

  grows_by : (to : FieldMode) (run : List ℕ) → list_all is_low run ≡ true → 0 < length run → TextGoes m run to → (c : ℕ) (rest : List ℕ)
      → (Some (length run) ≡ Some 3 → ⊥) → TextAlike c to m → QuotesCome mode (run ++ c ∷ rest) (Some (length run))
  grows_by to run all some goes c rest other alike =
      fewer_come mode _ _ other (grows_low m to mode run (c ∷ rest) (text_mode mode q true q at quotes) all some goes alike)

  waits_by : (to : FieldMode) (run : List ℕ) → list_all is_low run ≡ true → TextGoes m run to
      → is_part_of_text true q run ≡ true → QuotesCome mode (run ++ []) None
  waits_by to run all goes part = fewer_come mode _ None (λ is. absurd (cc))
      (waits_low m to run [] all nothing_bad goes (λ other same. pending_text other m q true q run at part same))

  come_so : (more : List ℕ) → QuotesCome mode (q ∷ more) (quotes_in (q ∷ more))
  come_so = let one : list_all is_low (q ∷ []) ≡ true = and_from _ _ low refl in
      let two : list_all is_low (q ∷ q ∷ []) ≡ true = and_from _ _ low one in let same : q == q ≡ true = eq-eqb q q refl in
      by_quotes q (QuotesCome mode) (waits_by (with_one m) (q ∷ []) one goes_one (or_right (is_backslash q) _ same))
      (waits_by (with_one (with_one m)) (q ∷ q ∷ []) two goes_two (or_right _ _ (and_from _ _ same same)))
      (λ c rest other. grows_by (with_one m) (q ∷ []) one (omega arith) goes_one c rest (λ is. absurd (cc)) (quotes_apart m q c at quotes other).0)
      (λ c rest other. grows_by (with_one (with_one m)) (q ∷ q ∷ []) two (omega arith) goes_two c rest (λ is. absurd (cc))
      (quotes_apart m q c at quotes other).1)
      (λ rest. (λ is. closes_by m (with_one (with_one m)) q (q ∷ q ∷ []) rest quotes (inr refl) goes_two takes.third, λ other. absurd (other refl)))

pub quotes_come : (mode : OpenMode) (q c : ℕ) (long : Bool) (bytes : List ℕ) → is_quote q ≡ true → BeginsWith bytes c → c ≡ q → long ≡ true
    → IsTextAt (mode_from mode) q long (slice_index bytes 0) → QuotesCome mode bytes (quotes_in bytes)
quotes_come mode q c long bytes quotes next same is at = let first : BeginsWith bytes q = subst (BeginsWith bytes) same next in
    subst (λ t. QuotesCome mode t (quotes_in t)) (first_is bytes q (quote_ascii q quotes) first)
    (come_so mode q quotes (text_at (mode_from mode) q true bytes q first (rw (← is) at)) (drop 1 bytes))

-- a backslash and what it escapes
module _ (mode : OpenMode) (q : ℕ) (long : Bool) (text : (is_text mode ≡ true) × HasQuote mode) (pending : (run : List ℕ) → is_part_of_text long q run ≡ true → (other : OpenMode) → mode_from other ≡ mode_from mode → is_pending other run ≡ true) where
  abbrev own : FieldMode
  own = mode_from mode

  escapes_other : (c : ℕ) (rest : List ℕ) → EscapesBy own c rest → c == 13 ≡ false → GrowsInText own (92 ∷ c ∷ rest) mode (if nat_lt c 128 then 2 else 1)
  escapes_other c rest by other = cond_both (nat_lt c 128) 2 1 (GrowsInText own (92 ∷ c ∷ rest) mode) (λ small. let to = by.low (ltb-true c 128 small) other in
      grows_low own to.0 mode (92 ∷ c ∷ []) rest text (and_from _ _ small refl) (omega arith) (slashed own, by.slash, (to.0, to.1, refl)) to.2)
      (λ wide. grows_low own (slashed own) mode (92 ∷ []) (c ∷ rest) text refl (omega arith) (slashed own, by.slash, refl) (by.wide (ltb-false c 128 wide)))

  -- where CR comes first of those that are escaped
  goes_return : (c : ℕ) (rest : List ℕ) → EscapesBy own c rest → c == 13 ≡ true → TextGoes own (92 ∷ 13 ∷ []) (returned own)
  goes_return c rest by same = (slashed own, by.slash, (returned own, by.return (eqb-true c 13 same), refl))

  escapes_so : (rest : List ℕ) → EscapesBy own (slice_index rest 0) (drop 1 rest) → Comes mode (92 ∷ rest) (escape_in (92 ∷ rest))
  unfolding is_backslash
  escapes_so [] by = waits_low own (slashed own) (92 ∷ []) [] refl nothing_bad (slashed own, by.slash, refl) (pending (92 ∷ []) refl)
  escapes_so (c ∷ []) by = cond_both (c == 13) None (Some (if nat_lt c 128 then 2 else 1)) (Comes mode (92 ∷ c ∷ []))
      (λ same. rw (eqb-true c 13 same) (waits_low own (returned own) (92 ∷ 13 ∷ []) [] refl nothing_bad (goes_return c [] by same) (pending (92 ∷ 13 ∷ []) refl)))
      (escapes_other c [] by)
  escapes_so (c ∷ d ∷ rest) by = cond_both (c == 13) (if d == 10 then 3 else 2) (if nat_lt c 128 then 2 else 1) (GrowsInText own (92 ∷ c ∷ d ∷ rest) mode)
      (λ same. rw (eqb-true c 13 same) (cond_both (d == 10) 3 2 (GrowsInText own (92 ∷ 13 ∷ d ∷ rest) mode)
      (λ feed. rw (eqb-true d 10 feed) (grows_low own own mode (92 ∷ 13 ∷ 10 ∷ []) rest text refl (omega arith)
      (slashed own, by.slash, (returned own, by.return (eqb-true c 13 same), (own, by.feed, refl))) (text_as-self rest own)))
      (λ other. grows_low own (returned own) mode (92 ∷ 13 ∷ []) (d ∷ rest) text refl (omega arith) (goes_return c (d ∷ rest) by same) (by.no_feed d other))))
      (escapes_other c (d ∷ rest) by)

pub escapes_come : (mode : OpenMode) (q : ℕ) (long : Bool) (c : ℕ) (bytes : List ℕ) → IsTextAt (mode_from mode) q long c → is_quote q ≡ true → is_backslash (slice_index bytes 0) ≡ true
    → EscapesBy (mode_from mode) (slice_index bytes 1) (drop 2 bytes) → Comes mode bytes (escape_in bytes)
unfolding is_backslash
escapes_come mode q long c [] at quotes slash by = absurd (both_ways _ refl slash)
escapes_come mode q long c (b ∷ rest) at quotes slash by = subst (λ (x : ℕ). Comes mode (x ∷ rest) (escape_in (x ∷ rest))) (sym (the_one 92 b slash))
    (escapes_so mode q long (text_mode mode q long c at quotes) (λ run part other same. pending_text other (mode_from mode) q long c run at part same) rest by)

-- another character
pub grows_other : (mode : OpenMode) (q : ℕ) (long : Bool) (c : ℕ) (bytes : List ℕ) → is_quote q ≡ true → BeginsWith bytes c → c == q ≡ false → is_backslash c ≡ false → is_break c && not long ≡ false → IsTextAt (mode_from mode) q long (slice_index bytes 0) → GrowsInText (mode_from mode) bytes mode (len_utf8 c)
grows_other mode q long c bytes quotes next other slash break at = let here = text_at (mode_from mode) q long bytes c next at in
    let goes : TextGoes (mode_from mode) (c ∷ []) (mode_from mode) = (mode_from mode, other_grows (mode_from mode) q long c here other slash break, refl) in
    let spell = ap (λ t. t ++ drop (len_utf8 c) bytes) (append-nil (encode_utf8 c)) ∙ next.spell in let text = text_mode mode q long c here quotes in
    search ((len_utf8_bounds c).0, text, spell, and_from _ _ next.scalar refl, byte_len-one c, goes, text_as-self (drop (len_utf8 c) bytes) (mode_from mode))

-- In a string with fields: a `{` of the literal part, which bytes follow that tell no character, or another one
module _ (h : StringWithFields) (quotes : is_quote h.quote ≡ true) where
  opened : FieldMode
  opened = body (host_in h) literal false after_brace

  opens_so : field_move (text_in h regions.Literal false) [] 123 ≡ grows opened
  unfolding field_move body_move opened
  opens_so = open_moves (host_in h) literal between quotes

  pending_brace : (mode : OpenMode) → mode_from mode ≡ text_in h regions.Literal false → is_pending mode (123 ∷ []) ≡ true
  pending_brace mode same = grind arith

  pub waits_brace : (rest : List ℕ) → StartsWithNoChar rest → WaitsInText (text_in h regions.Literal false) (123 ∷ rest)
  waits_brace rest none = waits_low (text_in h regions.Literal false) opened (123 ∷ []) rest refl none (opened, opens_so, refl) pending_brace

  pub grows_braces : (rest : List ℕ) → GrowsInText (text_in h regions.Literal false) (123 ∷ 123 ∷ rest) (opens.Fields h regions.Literal false) 2
  unfolding field_move body_move opened
  grows_braces rest = let text = text_in h regions.Literal false in
      grows_low text text (opens.Fields h regions.Literal false) (123 ∷ 123 ∷ []) rest (refl, quotes) refl (omega arith)
      (opened, opens_so, (text, refl, refl)) (text_as-self rest text)

-- a `}` that stands for itself
pub end_grows : (h : StringWithFields) (region : Region) (named : Bool) (bytes : List ℕ) → is_quote h.quote ≡ true → slice_index bytes 0 ≡ 125
    → (region ≡ regions.Specification → ⊥) ⊎ (named ≡ true) → GrowsInText (text_in h region named) bytes (opens.Fields h region false) 1
unfolding field_move body_move between_move is_backslash is_break is_quote
end_grows h region named bytes quotes first stays = let text = text_in h region false in
    subst (λ t. GrowsInText (text_in h region named) t (opens.Fields h region false) 1) (first_byte_at bytes 125 first (omega arith))
    (grows_low (text_in h region named) text (opens.Fields h region false) (125 ∷ []) (drop 1 bytes) (refl, quotes) refl (omega arith)
    (text, ends region stays, refl) (text_as-self (drop 1 bytes) text))
  where
    ends : (region : Region) → (region ≡ regions.Specification → ⊥) ⊎ (named ≡ true)
        → field_move (text_in h region named) [] 125 ≡ grows (text_in h region false)
    ends regions.Literal stays = rw (not_quote 125 h.quote quotes refl)
    ends regions.Specification (inl other) = absurd (other refl)
    ends regions.Specification (inr is) = rw (is, not_quote 125 h.quote quotes refl)

-- where what would close a string does
pub does_so : (m : FieldMode) (bytes : List ℕ) (r : TextMove) → ((n : ℕ) → r ≡ text_moves.Closes n → text_place m ≡ literal) → WouldDo m bytes r
    → DoesText m bytes r
does_so m bytes (text_moves.Closes n) place does = subst (λ p. QuotesInText m bytes n (closing_move p)) (place n refl) does
does_so m bytes r place does = does

-- where a line end may stand after a backslash
may_escape : (h : StringWithFields) (region : Region) (c : ℕ) → (is_break c ≡ true → region ≡ regions.Specification → h.is_long ≡ true)
    → is_barred_escape (host_in h) (region_in region) c ≡ false
may_escape h region c long = grind arith

-- in the text of this string, where a backslash stands first
module _ (h : StringWithFields) (region : Region) (named : Bool) (bytes : List ℕ) (slash : is_backslash (slice_index bytes 0) ≡ true)
    (quotes : is_quote h.quote ≡ true) where
  abbrev mode : OpenMode
  mode = opens.Fields h region named

  abbrev at : At → FieldMode
  at place = body (host_in h) (region_in region) named place

  goes : field_move (at between) [] 92 ≡ grows (at after_slash)
  unfolding field_move body_move is_backslash
  goes = slash_grows (host_in h) (region_in region) named between 92 quotes refl

  two_bytes : 2 ≤ length bytes → 92 ∷ slice_index bytes 1 ∷ drop 2 bytes ≡ bytes
  unfolding is_backslash
  two_bytes some = ap (λ t. 92 ∷ t) (sym (drop-cons bytes 1 0 some)) ∙ first_byte_at bytes 92 (the_one 92 (slice_index bytes 0) slash) (omega arith)

  -- what doesn't tell yet
  pending : (run : List ℕ) → is_part_of_text h.is_long h.quote run ≡ true → (other : OpenMode) → mode_from other ≡ at between → is_pending other run ≡ true
  unfolding is_backslash
  pending run part other same = pending_text other (at between) h.quote h.is_long 0 run (refl, refl, refl, refl, refl) part same

  -- before a brace, which keeps its meaning
  pub grows_slash : 2 ≤ length bytes → slice_index bytes 1 < 128 → is_brace (slice_index bytes 1) ≡ true → GrowsInText (at between) bytes mode 1
  unfolding body_move escape_move
  grows_slash some low brace = subst (λ t. GrowsInText (at between) t mode 1) (two_bytes some)
      (grows_low (at between) (at after_slash) mode (92 ∷ []) (slice_index bytes 1 ∷ drop 2 bytes) (refl, quotes) refl (omega arith)
      (at after_slash, goes, refl) (body_alike (slice_index bytes 1) (host_in h) (region_in region) named after_slash refl
      (λ c first. rw (ap is_brace (the_low (slice_index bytes 1) c low first) ∙ brace) refl)))

  -- before a line end, where none may stand
  pub breaks_escape : 2 ≤ length bytes → is_brace (slice_index bytes 1) ≡ false → is_break (slice_index bytes 1) ≡ true
      → region ≡ regions.Specification → h.is_long ≡ false → BreaksInText (at between) bytes
  unfolding field_move body_move escape_move
  breaks_escape some brace break same long = let over : TextGoes (at between) (92 ∷ []) (at after_slash) = (at after_slash, goes, refl) in
      let does : field_move (at after_slash) [] (slice_index bytes 1) ≡ refused = rw (brace, same, break, long) refl in
      let run : List ℕ = 92 ∷ [] in let first : (run ≡ []) ⊎ (run ≡ 92 ∷ []) = inr refl in
      search (two_bytes some, first, break, over, does, waits_not (host_in h) (region_in region) named after_slash refl)

  -- before `N`
  name_goes : h.is_raw ≡ false → field_move (at after_slash) [] 78 ≡ grows (at after_name)
  unfolding field_move body_move escape_move is_brace is_break is_return
  name_goes raw = rw (not_barred (host_in h) (region_in region) 78 refl, raw)

  pub grows_name : 2 < length bytes → h.is_raw ≡ false → slice_index bytes 1 ≡ 78 → slice_index bytes 2 ≡ 123
      → GrowsInText (at between) bytes (opens.Fields h region true) 3
  unfolding body_move field_move
  grows_name some raw name brace = let to = mode_from (opens.Fields h region true) in
      let spell : 92 ∷ 78 ∷ 123 ∷ drop 3 bytes ≡ bytes = rw (← name, ← brace, ← drop-cons bytes 2 0 some) (two_bytes (omega (arith, some))) in
      subst (λ t. GrowsInText (at between) t (opens.Fields h region true) 3) spell
      (grows_low (at between) to (opens.Fields h region true) (92 ∷ 78 ∷ 123 ∷ []) (drop 3 bytes) (refl, quotes) refl (omega arith)
      (at after_slash, goes, (at after_name, name_goes raw, (to, refl, refl))) (text_as-self (drop 3 bytes) to))

  pub waits_name : 2 ≤ length bytes → length bytes < 3 → h.is_raw ≡ false → slice_index bytes 1 ≡ 78 → WaitsInText (at between) bytes
  unfolding is_backslash
  waits_name some fewer raw name = let spell : 92 ∷ 78 ∷ [] ≡ bytes = rw (← name, ← drop_all 2 bytes (omega (arith, fewer))) (two_bytes some) in
      subst (WaitsInText (at between)) spell (waits_low (at between) (at after_name) (92 ∷ 78 ∷ []) [] refl nothing_bad
      (at after_slash, goes, (at after_name, name_goes raw, refl)) (pending (92 ∷ 78 ∷ []) refl))

  -- before another byte, or none
  pub escapes : (o : Option ℕ) → o ≡ escape_in bytes → is_brace (slice_index bytes 1) ≡ false
      → (is_break (slice_index bytes 1) ≡ true → region ≡ regions.Specification → h.is_long ≡ true)
      → HasNoName (host_in h) (slice_index bytes 1) (drop 2 bytes) → Comes mode bytes o
  unfolding is_backslash
  escapes o is brace long no_name = rw is (escapes_come mode h.quote h.is_long 0 bytes (refl, refl, refl, refl, refl) quotes slash
      (body_escapes (host_in h) (region_in region) named _ (drop 2 bytes) quotes brace (may_escape h region (slice_index bytes 1) long) no_name))
