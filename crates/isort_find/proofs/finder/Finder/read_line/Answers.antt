-- What the next line says of the finder that reads it.
use Rattle.std.proofs.Common.{◌∙◌, sym, ap, subst}
use Rattle.isort_find.specs.Finder.{FinderState, finder_state}
use Rattle.isort_find.specs.Private.FinderSteps.{StandsBefore}
use Rattle.isort_find.proofs.Wholes.ReadLine.{IsAbout, goes_back, stands_then, stands_here, reads_line}
use Rattle.isort_find.proofs.finder.Finder.read_line.Goals as goal

pub pass_lines-requires : goal.pass_lines-requires
pass_lines-requires c =
    let old = c.args.self.now in
    let back = goes_back old.reader old.position old.cursor c.go_back.new.self c.requires.is_open c.requires.none_left c.in_ok-go_back.ensures.ok in
    record { stands = stands_here c.go_back.new.self back.is_open back.none back.read }

pub returns : goal.returns
returns c =
    let s = c.self.inside in
    let f = finder_state s.lines s.walker.position s.walker.cursor in
    let old = c.args.self.now in
    let laws = c.known_laws.ensures.settled.ends.laws in
    let back = goes_back old.reader old.position old.cursor c.go_back.new.self c.requires.is_open c.requires.none_left c.in_ok-go_back.ensures.ok in
    let about : IsAbout old f c.start-start.result c.options.result = record {
      was_open = c.requires.is_open;
      back = stands_then old c.go_back.new.self f back (subst (StandsBefore c.go_back.new.self) (sym c.self.view_is) c.pass_lines.ensures);
      offset = c.start-start.ensures.offset ∙ ap (λ (x : FinderState). x.reader.place) (sym c.self.view_is);
      number = c.start-start.ensures.line ∙ ap (λ (x : FinderState). x.reader.line) (sym c.self.view_is);
      options_are = c.options.ensures;
    } in
    reads_line laws old f c.start-start.result c.options.result c.next_step-step.new.lines c.next_step-step.result c.follow.result c.follow.new.self about c.next_step-step.ensures.step c.follow.ensures
