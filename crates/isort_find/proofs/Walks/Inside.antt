-- Inside a logical line, whose bindings are looked at one by one.
use Rattle.std.proofs.Common.{◌≡◌, ℕ, Bool, true, false, not, List, [], ◌∷◌, ◌++◌, inl, inr, refl, sym, ap, ◌∙◌, subst, append_assoc, append-nil, length-append, arith}
use Rattle.std.specs.List.{list_all}
use Rattle.py_lines.specs.LogicalLine.{LogicalLine}
use Rattle.py_lines.specs.Reader.{HasGiven, standing_at}
use Rattle.py_imports.specs.BindingValue.{BindingValue}
use Rattle.py_imports.specs.Binds.{Binds}
use Rattle.isort_find.specs.Key.{Key}
use Rattle.isort_find.specs.Found.{firsts, has_one_like, ends_top}
use Rattle.isort_find.specs.Cursor.{CursorState, next_count, keys_of, IsAfter, HasStopped, knows_key}
use Rattle.isort_find.specs.Pending.{PendingState}
use Rattle.isort_find.specs.Position.{IsInside, BindsFrom}
use Rattle.isort_find.specs.Private.CursorMoves.{cursor_after}
use Rattle.isort_find.specs.Private.LooksAtBindings.{Looks, PassesBindings, TakesNew}
use Rattle.isort_find.specs.declared.options.FindOptions.{FindOptions}
use Rattle.isort_find.specs.declared.pending.LineStart.{LineStart}
use Rattle.isort_find.proofs.Keys.Firsts.{known_is, firsts-all_known, firsts-new, keys_of-snoc, given-snoc}
use Rattle.isort_find.proofs.Keys.TakenBindings.{list_all-snoc}
use Rattle.isort_find.proofs.Finds.LinePlaces.{bytes_given}
use Rattle.isort_find.proofs.Finds.NextLines.{BindAll-one_more}

pub nothing_dropped : (dropped rest : List BindingValue) → [] ≡ dropped ++ rest → rest ≡ []
nothing_dropped [] rest h = sym h
nothing_dropped (d ∷ ds) rest h = absurd cc

-- bindings with known keys were looked at
pub inside_passed : (text : List ℕ) (cursor : CursorState) (lines : List LogicalLine) (line : LogicalLine) (p q : PendingState) (values : List BindingValue) → HasStopped text cursor values → PassesBindings cursor p q → IsInside text cursor.options lines line p values → IsInside text cursor.options lines line q values
inside_passed text cursor lines line p q values stopped passes w =
    let unique = cursor.options.unique in
    record {
      before = w.before;
      part = w.part ++ passes.dropped;
      begins = w.begins;
      start = subst (λ (x : LineStart). HasGiven (standing_at text x.offset x.line) lines) (sym passes.start) w.start;
      binds = w.binds;
      binds_line = subst (Binds line) (ap (λ t. w.part ++ t) passes.split ∙ sym (append_assoc w.part passes.dropped q.left)) w.binds_line;
      taken = omega (arith, passes.taken, w.taken, length-append w.part passes.dropped);
      in_top = w.in_top;
      line_in_top = w.line_in_top;
      found = w.found ∙ sym (firsts-all_known unique (w.before ++ w.part) passes.dropped (subst (λ (ks : List Key). list_all (knows_key unique ks) passes.dropped ≡ true) (stopped.keys ∙ ap (keys_of unique) w.found) passes.known)) ∙ ap (firsts unique []) (append_assoc w.before w.part passes.dropped);
    }

-- the cursor after a binding that was given
abbrev pub given_at : CursorState → PendingState → BindingValue → CursorState
given_at s p b = record { options = s.options; offset = p.start.offset; line = p.start.line; taken = p.taken; given = next_count s.given; keys = s.keys ++ keys_of s.options.unique (b ∷ []) }

pub gives_at : (s t : CursorState) (old new : PendingState) (b : BindingValue) → TakesNew s old b t new → t ≡ given_at s new b
gives_at s t old new b takes = takes.gives ∙ ap (λ (x : CursorState). cursor_after x new.start new.taken) takes.admits.same

not_not : (a : Bool) → true ≡ not a → a ≡ false
not_not true h = h
not_not false h = refl

-- a binding with a new key was looked at
inside_given : (text : List ℕ) (cursor : CursorState) (lines : List LogicalLine) (line : LogicalLine) (p q : PendingState) (values : List BindingValue) (b : BindingValue) → HasStopped text cursor values → knows_key cursor.options.unique cursor.keys b ≡ false → Looks p b q → IsInside text cursor.options lines line p values → IsInside text cursor.options lines line q (values ++ b ∷ [])
inside_given text cursor lines line p q values b stopped new looks w =
    let looked = w.before ++ w.part in
    let unique = cursor.options.unique in
    let unseen : has_one_like unique looked b ≡ false = sym (known_is unique looked b) ∙ ap (λ ks. knows_key unique ks b) (sym (stopped.keys ∙ ap (keys_of unique) w.found)) ∙ new in
    record {
      before = w.before;
      part = w.part ++ b ∷ [];
      begins = w.begins;
      start = subst (λ (x : LineStart). HasGiven (standing_at text x.offset x.line) lines) (sym looks.start) w.start;
      binds = w.binds;
      binds_line = subst (Binds line) (ap (λ t. w.part ++ t) looks.left ∙ sym (append_assoc w.part (b ∷ []) q.left)) w.binds_line;
      taken = omega (arith, looks.taken, w.taken, length-append w.part (b ∷ []));
      in_top = w.in_top;
      line_in_top = w.line_in_top;
      found = ap (λ t. t ++ b ∷ []) w.found ∙ sym (firsts-new unique looked b unseen) ∙ ap (firsts unique []) (append_assoc w.before w.part (b ∷ []));
    }

-- inside a line a finder may stop
inside_after : (text : List ℕ) (options : FindOptions) (lines : List LogicalLine) (line : LogicalLine) (p : PendingState) (values : List BindingValue) → IsInside text options lines line p values → IsAfter text options p.start.offset p.start.line p.taken values
inside_after text options lines line p values w = record {
  lines = lines;
  before = w.before;
  part = w.part;
  given = w.start;
  binds = w.binds;
  in_top = w.in_top;
  is_part = (w.taken, inr (record { line = line; rest = p.left; begins = w.begins; binds = w.binds_line; in_top = w.line_in_top }));
  found = w.found;
}

-- what there is once a binding was given: where the finder stands, that it may stop, and where the binding comes from
pub record HasGivenOne (text : List ℕ) (cursor : CursorState) (lines : List LogicalLine) (line : LogicalLine) (q : PendingState) (values : List BindingValue) (b : BindingValue) : Type 0 where
  pub inside : IsInside text cursor.options lines line q (values ++ b ∷ [])
  pub stopped : HasStopped text cursor (values ++ b ∷ [])
  pub from : BindsFrom text cursor.offset b

-- the next binding with a new key was given
pub one_given : (text : List ℕ) (cursor t : CursorState) (lines : List LogicalLine) (line : LogicalLine) (p q : PendingState) (values : List BindingValue) (b : BindingValue) → HasStopped text cursor values → TakesNew cursor p b t q → IsInside text cursor.options lines line p values → HasGivenOne text t lines line q values b
one_given text cursor t lines line p q values b stopped takes w =
    let unique = cursor.options.unique in
    let mid = inside_passed text cursor lines line p takes.between values stopped takes.passes w in
    let inside = inside_given text cursor lines line takes.between q values b stopped (not_not _ takes.admits.answer) takes.looks mid in
    subst (λ (s : CursorState). HasGivenOne text s lines line q values b) (sym (gives_at cursor t p q b takes)) (record {
      inside = inside;
      stopped = record {
        after = inside_after text cursor.options lines line q (values ++ b ∷ []) inside;
        keys = ap (λ ks. ks ++ keys_of unique (b ∷ [])) stopped.keys ∙ sym (keys_of-snoc unique values b);
        given = ap next_count stopped.given ∙ given-snoc values b;
      };
      from = record {
        before = lines;
        line = line;
        begins = w.begins;
        place = bytes_given _ lines mid.start ∙ ap (λ (x : LineStart). x.offset) (sym takes.looks.start);
        is = (mid.part, q.left, subst (Binds line) (ap (λ t. mid.part ++ t) takes.looks.left) mid.binds_line);
      };
    })

-- a line of which nothing is left was looked through
abbrev pub line_over : (text : List ℕ) (options : FindOptions) (place number : ℕ) (lines : List LogicalLine) (line : LogicalLine) (p : PendingState) (values : List BindingValue) → p.left ≡ [] → HasGiven (standing_at text place number) (lines ++ line ∷ []) → IsInside text options lines line p values → IsAfter text options place number 0 values
line_over text options place number lines line p values none given w = record {
  lines = lines ++ line ∷ [];
  before = w.before ++ w.part;
  part = [];
  given = given;
  binds = BindAll-one_more lines line w.before w.part w.binds (subst (Binds line) (ap (λ t. w.part ++ t) none ∙ append-nil w.part) w.binds_line);
  in_top = list_all-snoc (λ l. not (ends_top options l)) lines line w.in_top (ap not w.line_in_top);
  is_part = (refl, inl refl);
  found = w.found ∙ ap (firsts options.unique []) (sym (append-nil (w.before ++ w.part)));
}
