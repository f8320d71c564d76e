use Rattle.py_lines.proofs.Prelude.{◌++◌, ap, refl, sym, ◌∙◌, subst, length, take, length-append, length-take, arith, length-take-le, first_mode}
use Rattle.py_lines.specs.Private.LineScan.{ScansIn}
use Rattle.py_lines.specs.Private.Feed.{Stop}
use Rattle.py_lines.proofs.Feeds.GivenBack.{HoldsStop, holds_bytes, holds_line_end, stop_within, takes_met}
use Rattle.py_lines.proofs.Feeds.OpenLine.{begun_unchanged}
use Rattle.py_lines.proofs.feed.Feed.hold.Goals.{Joined-stop, in-LineEnd, in_default}
use Rattle.py_lines.proofs.feed.Feed.hold.Goals as goal

pub overflow_add-self : goal.overflow_add-self
overflow_add-self c =
    let f = c.args.self.now in let s = subst (ScansIn (first_mode f.state.place) (f.held.items ++ c.args.piece.now) f.state.scan) c.in-LineEnd.is c.requires.scanned in
    omega (arith, stop_within s, length-append f.held.items c.args.piece.now, c.requires.room.fits)

-- what is held then
held_stop : (c : Joined-stop) → HoldsStop (first_mode c.args.self.now.state.place) c.args.self.now.held.items c.args.piece.now c.args.self.now.state.scan c.args.stop c.match-stop.len
held_stop c =
    let f = c.args.self.now in let m = first_mode f.state.place in let piece = c.args.piece.now in
    elim c.match-stop.branch [
      | in-LineEnd w ↦ subst (λ (t : Stop). HoldsStop m f.held.items piece f.state.scan t c.match-stop.len) (sym w.in-LineEnd.is)
          (holds_line_end f.held.items piece c.match-stop.len (w.len-is ∙ w.min-len.ensures) (subst (ScansIn m (f.held.items ++ piece) f.state.scan) w.in-LineEnd.is c.requires.scanned))
      | in_default w ↦ subst (HoldsStop m f.held.items piece f.state.scan c.args.stop) (sym w.len-is) (holds_bytes f.held.items piece c.requires.scanned)
    ]

pub slice_bounds-extend_from_slice-end : goal.slice_bounds-extend_from_slice-end
slice_bounds-extend_from_slice-end c = sym (length-take-le c.match-stop.len c.args.piece.now (held_stop (goal.at.slice_bounds-extend_from_slice-end c).Joined-stop).within)

pub meet-requires-clause-stops : goal.meet-requires-clause-stops
meet-requires-clause-stops c =
    subst (λ t. ScansIn (first_mode c.args.self.now.state.place) t c.args.self.now.state.scan c.args.stop) (sym c.in_default-extend_from_slice.ensures.items) (held_stop (goal.at.meet-requires-clause-stops c).Joined-stop).stops

pub meet-requires-clause-within : goal.meet-requires-clause-within
meet-requires-clause-within c = omega (arith, c.len-before.ensures, ap length c.in_default-extend_from_slice.ensures.items, length-append c.args.self.now.held.items (take c.match-stop.len c.args.piece.now))

pub meet-requires-clause-room : goal.meet-requires-clause-room
meet-requires-clause-room c = record { fits = omega (arith, ap length c.in_default-extend_from_slice.ensures.items, length-append c.args.self.now.held.items (take c.match-stop.len c.args.piece.now), length-take c.match-stop.len c.args.piece.now, c.requires.room.fits); few_lines = c.requires.room.few_lines }

pub meet-requires-clause-not_ready : goal.meet-requires-clause-not_ready
meet-requires-clause-not_ready c = c.requires.not_ready

pub returns-clause-takes : goal.returns-clause-takes
returns-clause-takes c =
    let h = held_stop (goal.at.returns-clause-takes c).Joined-stop in
    takes_met c.args.self.now _ c.meet.new.self c.args.piece.now c.match-stop.len c.len-before.result
    (record { held = c.in_default-extend_from_slice.ensures.items; place = refl; line = refl; ended = refl; fault = refl }) h.within h.some (omega (arith, c.len-before.ensures)) c.meet.result c.meet.ensures.meets

pub returns-in-Err-clause-takes : goal.returns-in-Err-clause-takes
returns-in-Err-clause-takes c =
    let f = c.args.self.now in
    rw c.into.ensures (begun_unchanged f (record f { held = c.extend_from_slice.new.self; state = c.restart.new.self }) f.state c.requires.not_ready
    (record { held = c.in-Err.ensures.items; place = refl; line = refl; ended = refl; fault = refl }) c.restart.ensures)
