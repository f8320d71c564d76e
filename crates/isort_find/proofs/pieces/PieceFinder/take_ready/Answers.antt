-- An error of taking the next binding is handed on.
use Rattle.std.proofs.Common.{Option, Result, Ok, refl, sym, subst}
use Rattle.py_imports.specs.declared.binding.Binding.{Binding}
use Rattle.isort_find.specs.Pieces.{piece_finder_state}
use Rattle.isort_find.specs.Private.PieceSteps.{ReadsUnread}
use Rattle.isort_find.specs.Private.Walks.{TakesOne}
use Rattle.isort_find.specs.declared.error.FindError.{FindError}
use Rattle.isort_find.proofs.pieces.PieceFinder.take_ready.Goals as goal

pub returns-in-Err : goal.returns-in-Err
returns-in-Err c =
    let s = c.self.inside in
    let read = subst (λ (r : Result (Unit {0}) FindError). ReadsUnread c.args.self.now r c.read_unread.new.self) c.in_ok-read_unread.was c.read_unread.ensures in
    record {
      mid = piece_finder_state s.scanner s.walker.position s.walker.cursor;
      read = Ok tt;
      reads = subst (ReadsUnread c.args.self.now (Ok tt)) (sym c.self.view_is) read;
      takes = record {
        mid = c.next_new.new.self;
        walker = c.next_new.new.self;
        takes = subst (λ (r : Result (Option Binding) FindError). TakesOne s.walker r c.next_new.new.self) c.in-Err.is c.next_new.ensures;
        looks = refl;
        same = refl;
      };
    }
