-- What a finder is after the next binding of the line that was read last.
use Rattle.std.proofs.Common.{◌≡◌, Option, None, Some, Result, Ok, Err, List, length, refl, sym, ap, subst, length-append, arith}
use Rattle.py_lines.specs.Reader.{Reader}
use Rattle.py_imports.specs.BindingValue.{BindingValue, binding_value}
use Rattle.py_imports.specs.declared.binding.Binding.{Binding}
use Rattle.isort_find.specs.Cursor.{CursorState}
use Rattle.isort_find.specs.Pending.{PendingState}
use Rattle.isort_find.specs.Position.{phase_in}
use Rattle.isort_find.specs.Finder.{HasFound, FindsNext, FinderRunsOut, finder_state}
use Rattle.isort_find.specs.Private.FinderSteps.{LooksThrough, GivesNew}
use Rattle.isort_find.specs.Private.LooksAtBindings.{PassesBindings, TakesNew, TakesNextBinding}
use Rattle.isort_find.specs.Private.Walks.{WalkerState, TakesAt, walker_state}
use Rattle.isort_find.specs.declared.error.FindError.{FindError}
use Rattle.isort_find.specs.declared.walker.Position.{Position}
use Rattle.isort_find.specs.declared.walker.Position.TheVariants as position
use Rattle.isort_find.specs.declared.walker.Phase.TheVariants as phase
use Rattle.isort_find.proofs.Walks.Inside.{inside_passed, gives_at, one_given}

-- bindings with known keys were looked at
found_passed : (reader : Reader) (cursor : CursorState) (p q : PendingState) (values : List BindingValue) → PassesBindings cursor p q → HasFound (finder_state reader (position.Within p) cursor) values → HasFound (finder_state reader (position.Within q) cursor) values
found_passed reader cursor p q values passes h =
    let w = h.reached in
    record { stopped = h.stopped; reached = record { lines = w.lines; line = w.line; given = w.given; inside = inside_passed reader.text cursor w.lines w.line p q values h.stopped passes w.inside } }

-- the next binding was given
gives : (reader : Reader) (cursor t : CursorState) (p q : PendingState) (b : BindingValue) → TakesNew cursor p b t q → FindsNext (finder_state reader (position.Within p) cursor) b (finder_state reader (position.Within q) t)
gives reader cursor t p q b takes =
    let at = gives_at cursor t p q b takes in
    let fewer = ap length takes.passes.split in
    let one = ap length takes.looks.left in
    record {
      found = λ values h.
          let w = h.reached in
          let g = one_given reader.text cursor t w.lines w.line p q values b h.stopped takes w.inside in
          record { stopped = g.stopped; reached = record { lines = w.lines; line = w.line; given = w.given; inside = g.inside } };
      offset = λ values h. let w = h.reached in (one_given reader.text cursor t w.lines w.line p q values b h.stopped takes w.inside).from;
      task = record { text = refl; options = ap (λ (c : CursorState). c.options) at };
      given = ap (λ (c : CursorState). c.given) at;
      falls = omega (arith, fewer, one, length-append takes.passes.dropped takes.between.left);
      was_open = refl;
      is_open = refl;
    }

-- nothing was left
looks_none : (reader : Reader) (s : Position) (cursor : CursorState) → phase_in s ≡ phase.Open → (r : Result (Option Binding) FindError) → r ≡ Ok None → LooksThrough (finder_state reader s cursor) (finder_state reader s cursor) → GivesNew (finder_state reader s cursor) r (finder_state reader s cursor)
looks_none reader s cursor opened r is looks = subst (λ (x : Result (Option Binding) FindError). GivesNew (finder_state reader s cursor) x (finder_state reader s cursor)) (sym is) looks

takes_next : (reader : Reader) (cursor t : CursorState) (p q : PendingState) (r : Result (Option Binding) FindError) → TakesNextBinding cursor p r t q → GivesNew (finder_state reader (position.Within p) cursor) r (finder_state reader (position.Within q) t)
takes_next reader cursor t p q (Ok (Some b)) takes = gives reader cursor t p q (binding_value b) takes
takes_next reader cursor t p q (Ok None) takes =
    let fewer = ap length takes.0.split in
    subst (λ (s : CursorState). LooksThrough (finder_state reader (position.Within p) cursor) (finder_state reader (position.Within q) s)) (sym takes.2) (record {
      keeps = record { kept = λ values h. found_passed reader cursor p q values takes.0 h; task = record { text = refl; options = refl }; given = refl };
      none = takes.1;
      cursor = refl;
      falls = omega (arith, fewer, length-append takes.0.dropped q.left);
      is_open = refl;
    })
takes_next reader cursor t p q (Err e) takes = (
  subst (λ (s : CursorState). FinderRunsOut (finder_state reader (position.Within p) cursor) (finder_state reader (position.Within q) s)) (sym takes.1) (record {
    kept = λ values h. found_passed reader cursor p q values takes.0 h;
    task = record { text = refl; options = refl };
    cursor = refl;
    was_open = refl;
    is_open = refl;
  }),
  takes.2,
)

nothing_left : (reader : Reader) (s : Position) (cursor : CursorState) → phase_in s ≡ phase.Open → LooksThrough (finder_state reader s cursor) (finder_state reader s cursor) → (r : Result (Option Binding) FindError) (w : WalkerState) → r ≡ Ok None → w ≡ walker_state s cursor → GivesNew (finder_state reader s cursor) r (finder_state reader w.position w.cursor)
nothing_left reader s cursor opened looks r w is same = subst (λ (x : WalkerState). GivesNew (finder_state reader s cursor) r (finder_state reader x.position x.cursor)) (sym same) (looks_none reader s cursor opened r is looks)

-- what is looked at of the line read last, at each answer
pub gives_new : (reader : Reader) (s : Position) (cursor : CursorState) (r : Result (Option Binding) FindError) (w : WalkerState) → phase_in s ≡ phase.Open → TakesAt s cursor r w → GivesNew (finder_state reader s cursor) r (finder_state reader w.position w.cursor)
gives_new reader (position.Within p) cursor r w opened takes = subst (λ (x : WalkerState). GivesNew (finder_state reader (position.Within p) cursor) r (finder_state reader x.position x.cursor)) (sym takes.same) (takes_next reader cursor w.cursor p takes.rest r takes.takes)
gives_new reader (position.Between skip) cursor r w opened takes = nothing_left reader (position.Between skip) cursor refl (record { keeps = record { kept = λ values h. h; task = record { text = refl; options = refl }; given = refl }; none = refl; cursor = refl; falls = omega arith; is_open = refl }) r w takes.0 takes.1
gives_new reader (position.Unread start skip) cursor r w opened takes = nothing_left reader (position.Unread start skip) cursor refl (record { keeps = record { kept = λ values h. h; task = record { text = refl; options = refl }; given = refl }; none = refl; cursor = refl; falls = omega arith; is_open = refl }) r w takes.0 takes.1
gives_new reader (position.End passed) cursor r w opened takes = absurd cc
gives_new reader (position.Fault fault) cursor r w opened takes = absurd cc
