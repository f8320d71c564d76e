-- What a logical line that is read says of what is found, and what the end or a fault says.
use Rattle.std.proofs.Common.{◌≡◌, ℕ, Bool, true, false, Option, None, Some, List, [], ◌∷◌, ◌++◌, length, min, drop, inl, inr, ◌⊎◌, refl, sym, ap, ◌∙◌, subst, append_assoc, append-nil, length-append, arith}
use Rattle.py_lines.specs.LogicalLine.{LogicalLine}
use Rattle.py_lines.specs.Lexed.{IsLexed, BeginsLexing}
use Rattle.py_lines.specs.declared.fault.Fault.{Fault}
use Rattle.py_imports.specs.BindingValue.{BindingValue}
use Rattle.py_imports.specs.Binds.{Binds, BindAll, IsBadAt}
use Rattle.isort_find.specs.Found.{firsts, ends_top, counted_lines, of_all, before_bad, IsFound}
use Rattle.isort_find.specs.Lexing.{LineAt}
use Rattle.isort_find.specs.Cursor.{CursorState, BeginsNext, IsAfter, HasStopped}
use Rattle.isort_find.specs.Pending.{pending_after}
use Rattle.isort_find.specs.Position.{IsInside, EndsInFaultAt}
use Rattle.isort_find.specs.Private.CursorMoves.{cursor_before}
use Rattle.isort_find.specs.declared.options.FindOptions.{FindOptions}
use Rattle.isort_find.specs.declared.pending.LineStart.{LineStart}
use Rattle.isort_find.specs.Private.KnownLaws.{BasicLaws}
use Rattle.isort_find.proofs.Finds.CountedLines.{AllCount, counted-all, end-all, counted-cut, end-cut, counted-more}
use Rattle.isort_find.proofs.Finds.LinePlaces.{bytes_given}
use Rattle.isort_find.proofs.Finds.NextLines.{same_begun, none_begun}

-- what was looked at of the next line
abbrev pub IsPartOf : List ℕ → FindOptions → List LogicalLine → List BindingValue → Type 0
IsPartOf text options lines part = (part ≡ []) ⊎ BeginsNext text options lines part

-- nothing was looked at of a line that isn't there, is bad or ends the top
pub none_of_end : BasicLaws → (text : List ℕ) (options : FindOptions) (lines : List LogicalLine) (part : List BindingValue) (end : Option Fault) → IsLexed text lines end → IsPartOf text options lines part → part ≡ []
none_of_end one text options lines part end lexed (inl none) = none
none_of_end one text options lines part end lexed (inr n) = absurd (none_begun one text lines end n.line lexed n.begins)

pub none_of_bad : BasicLaws → (text : List ℕ) (options : FindOptions) (lines : List LogicalLine) (part : List BindingValue) (line : LogicalLine) (fault : Fault) → BeginsLexing text (lines ++ line ∷ []) → IsBadAt line fault → IsPartOf text options lines part → part ≡ []
none_of_bad one text options lines part line fault begins bad (inl none) = none
none_of_bad one text options lines part line fault begins bad (inr n) = absurd (one.not_both line (part ++ n.rest) fault (subst (λ (l : LogicalLine). Binds l (part ++ n.rest)) (sym (same_begun one text lines line n.line begins n.begins)) n.binds) bad)

counts_or_ends : (b : Bool) → b ≡ true → b ≡ false → ⊥
counts_or_ends b h k = cc

none_of_top : BasicLaws → (text : List ℕ) (options : FindOptions) (lines : List LogicalLine) (part : List BindingValue) (line : LogicalLine) → BeginsLexing text (lines ++ line ∷ []) → ends_top options line ≡ true → IsPartOf text options lines part → part ≡ []
none_of_top one text options lines part line begins ends (inl none) = none
none_of_top one text options lines part line begins ends (inr n) = absurd (counts_or_ends _ ends (subst (λ (l : LogicalLine). ends_top options l ≡ false) (sym (same_begun one text lines line n.line begins n.begins)) n.in_top))

-- what was looked at of a line begins what it binds
splits_of : BasicLaws → (text : List ℕ) (options : FindOptions) (lines : List LogicalLine) (part bs : List BindingValue) (line : LogicalLine) → BeginsLexing text (lines ++ line ∷ []) → Binds line bs → IsPartOf text options lines part → (rest : List BindingValue) × (bs ≡ part ++ rest)
splits_of one text options lines part bs line begins binds (inl none) = (bs, ap (λ t. t ++ bs) (sym none))
splits_of one text options lines part bs line begins binds (inr n) = (n.rest, one.one_list line bs (part ++ n.rest) binds (subst (λ (l : LogicalLine). Binds l (part ++ n.rest)) (sym (same_begun one text lines line n.line begins n.begins)) n.binds))

min_length : (part rest : List BindingValue) → min (length part) (length (part ++ rest)) ≡ length part
min_length part rest = omega (arith, length-append part rest)

drop_part : (part rest : List BindingValue) → drop (length part) (part ++ rest) ≡ rest
drop_part [] rest = refl
drop_part (p ∷ ps) rest = drop_part ps rest

-- what was found of lines that are all looked at
pub found_whole : {text : List ℕ} {options : FindOptions} {offset number taken : ℕ} {values : List BindingValue} (b : IsAfter text options offset number taken values) → b.part ≡ [] → values ≡ firsts options.unique [] b.before
found_whole {options = options} b none = b.found ∙ ap (firsts options.unique []) (ap (λ t. b.before ++ t) none ∙ append-nil b.before)

-- all that lines bind is found where the text ends after them, or has a lexical fault there
pub found_lexed : (text : List ℕ) (options : FindOptions) (lines : List LogicalLine) (before values : List BindingValue) (end : Option Fault) → IsLexed text lines end → AllCount options lines → BindAll lines before → values ≡ firsts options.unique [] before → IsFound text options values end
found_lexed text options lines before values end lexed in_top binds found = record {
  lines = lines;
  lexical = end;
  lexed = lexed;
  found = of_all _ _ _ values end before (subst (λ (ls : List LogicalLine). BindAll ls before) (sym (counted-all options lines in_top)) binds) found (sym (end-all options lines end in_top));
}

-- the same, where the next line ends the top
pub found_at_top : (text : List ℕ) (options : FindOptions) (lines : List LogicalLine) (line : LogicalLine) (before values : List BindingValue) → BeginsLexing text (lines ++ line ∷ []) → AllCount options lines → ends_top options line ≡ true → BindAll lines before → values ≡ firsts options.unique [] before → IsFound text options values None
found_at_top text options lines line before values begins in_top ends binds found = record {
  lines = lines ++ line ∷ begins.more;
  lexical = begins.end;
  lexed = subst (λ (ls : List LogicalLine). IsLexed text ls begins.end) (append_assoc lines (line ∷ []) begins.more) begins.lexed;
  found = of_all _ _ _ values None before (subst (λ (ls : List LogicalLine). BindAll ls before) (sym (counted-cut options lines line begins.more in_top ends)) binds) found (sym (end-cut options lines line begins.more begins.end in_top ends));
}

-- the same, where the next line is bad
pub found_at_bad : (text : List ℕ) (options : FindOptions) (lines : List LogicalLine) (line : LogicalLine) (before values : List BindingValue) (fault : Fault) → BeginsLexing text (lines ++ line ∷ []) → AllCount options lines → ends_top options line ≡ false → IsBadAt line fault → BindAll lines before → values ≡ firsts options.unique [] before → IsFound text options values (Some fault)
found_at_bad text options lines line before values fault begins in_top counts bad binds found = record {
  lines = lines ++ line ∷ begins.more;
  lexical = begins.end;
  lexed = subst (λ (ls : List LogicalLine). IsLexed text ls begins.end) (append_assoc lines (line ∷ []) begins.more) begins.lexed;
  found = before_bad _ _ _ values (Some fault) lines line (counted_lines options begins.more) before fault (counted-more options lines line begins.more in_top counts) binds bad found refl;
}

-- a finder is about to read this logical line, after lines that were looked through
pub record IsAtLine (text : List ℕ) (options : FindOptions) (start : LineStart) (skip : ℕ) (line : LogicalLine) (values : List BindingValue) : Type 0 where
  pub after : IsAfter text options start.offset start.line skip values
  pub begins : BeginsLexing text (after.lines ++ line ∷ [])

-- the line binds these: they are to be looked at, except those that were
pub reads_bindings : BasicLaws → (text : List ℕ) (options : FindOptions) (start : LineStart) (skip : ℕ) (line : LogicalLine) (values bs : List BindingValue) (a : IsAtLine text options start skip line values) → Binds line bs → ends_top options line ≡ false → IsInside text options a.after.lines line (pending_after start skip bs) values
reads_bindings one text options start skip line values bs a binds counts =
    let b = a.after in
    let cut = splits_of one text options b.lines b.part bs line a.begins binds b.is_part.1 in
    let left : drop skip bs ≡ cut.0 = (λ i. drop (b.is_part.0 i) (cut.1 i)) ∙ drop_part b.part cut.0 in
    record {
      before = b.before;
      part = b.part;
      begins = a.begins;
      start = b.given;
      binds = b.binds;
      binds_line = subst (Binds line) (cut.1 ∙ ap (λ t. b.part ++ t) (sym left)) binds;
      taken = (λ i. min (b.is_part.0 i) (length (cut.1 i))) ∙ min_length b.part cut.0;
      in_top = b.in_top;
      line_in_top = counts;
      found = b.found;
    }

-- what there is at the end or a fault: nothing was looked at of what comes next, and all of what comes before
pub record IsAtNothing {text : List ℕ} {options : FindOptions} {offset number taken : ℕ} {values : List BindingValue} (b : IsAfter text options offset number taken values) : Type 0 where
  pub none : b.part ≡ []
  pub found : values ≡ firsts options.unique [] b.before

pub nothing_at_end : BasicLaws → {text : List ℕ} {options : FindOptions} {offset number taken : ℕ} {values : List BindingValue} (b : IsAfter text options offset number taken values) (end : Option Fault) → IsLexed text b.lines end → IsAtNothing b
nothing_at_end one {text} {options} b end lexed = let none = none_of_end one text options b.lines b.part end lexed b.is_part.1 in record { none = none; found = found_whole b none }

pub nothing_at_top : BasicLaws → {text : List ℕ} {options : FindOptions} {offset number taken : ℕ} {values : List BindingValue} (b : IsAfter text options offset number taken values) (line : LogicalLine) → BeginsLexing text (b.lines ++ line ∷ []) → ends_top options line ≡ true → IsAtNothing b
nothing_at_top one {text} {options} b line begins ends = let none = none_of_top one text options b.lines b.part line begins ends b.is_part.1 in record { none = none; found = found_whole b none }

pub nothing_at_bad : BasicLaws → {text : List ℕ} {options : FindOptions} {offset number taken : ℕ} {values : List BindingValue} (b : IsAfter text options offset number taken values) (line : LogicalLine) (fault : Fault) → BeginsLexing text (b.lines ++ line ∷ []) → IsBadAt line fault → IsAtNothing b
nothing_at_bad one {text} {options} b line fault begins bad = let none = none_of_bad one text options b.lines b.part line fault begins bad b.is_part.1 in record { none = none; found = found_whole b none }

-- a finder may stop before what comes next
pub stops_before : {text : List ℕ} {values : List BindingValue} {taken : ℕ} (cursor : CursorState) (start : LineStart) (b : IsAfter text cursor.options start.offset start.line taken values) → IsAtNothing b → HasStopped text cursor values → HasStopped text (cursor_before cursor start) values
stops_before cursor start b n stopped = record {
  after = record {
    lines = b.lines;
    before = b.before;
    part = [];
    given = b.given;
    binds = b.binds;
    in_top = b.in_top;
    is_part = (refl, inl refl);
    found = n.found ∙ ap (firsts cursor.options.unique []) (sym (append-nil b.before));
  };
  keys = stopped.keys;
  given = stopped.given;
}

-- the line is bad
pub reads_bad : BasicLaws → (text : List ℕ) (options : FindOptions) (start : LineStart) (skip : ℕ) (line : LogicalLine) (values : List BindingValue) (fault : Fault) (a : IsAtLine text options start skip line values) → IsBadAt line fault → ends_top options line ≡ false → EndsInFaultAt text options values start.offset fault
reads_bad one text options start skip line values fault a bad counts =
    let b = a.after in (
      found_at_bad text options b.lines line b.before values fault a.begins b.in_top counts bad b.binds (nothing_at_bad one b line fault a.begins bad).found,
      inl (record { before = b.lines; line = line; begins = a.begins; place = bytes_given _ b.lines b.given; is = bad }),
    )

-- the line ends the top
pub reads_top : BasicLaws → (text : List ℕ) (options : FindOptions) (start : LineStart) (skip : ℕ) (line : LogicalLine) (values : List BindingValue) (a : IsAtLine text options start skip line values) → ends_top options line ≡ true → IsFound text options values None × LineAt text start.offset (λ l. ends_top options l ≡ true)
reads_top one text options start skip line values a ends =
    let b = a.after in (
      found_at_top text options b.lines line b.before values a.begins b.in_top ends b.binds (nothing_at_top one b line a.begins ends).found,
      record { before = b.lines; line = line; begins = a.begins; place = bytes_given _ b.lines b.given; is = ends },
    )

-- the text has a lexical fault after the lines
pub meets_lexical : BasicLaws → {text : List ℕ} {options : FindOptions} {offset number taken : ℕ} {values : List BindingValue} (b : IsAfter text options offset number taken values) (fault : Fault) → IsLexed text b.lines (Some fault) → EndsInFaultAt text options values offset fault
meets_lexical one {text} {options} {values = values} b fault lexed = (
  found_lexed text options b.lines b.before values (Some fault) lexed b.in_top b.binds (nothing_at_end one b (Some fault) lexed).found,
  inr (b.lines, lexed, bytes_given _ b.lines b.given),
)
