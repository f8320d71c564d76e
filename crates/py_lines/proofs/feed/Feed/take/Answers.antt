use Rattle.py_lines.proofs.Prelude.{◌++◌, ap, refl, sym, length, take, length-append, length-take, arith, ◌-◌, drop, length-take-le, first_mode}
use Rattle.py_lines.specs.Private.LineScan.{Reached}
use Rattle.py_lines.proofs.LineScan.TextSteps.{begun_sound}
use Rattle.py_lines.proofs.Feeds.GivenBack.{takes_met, takes_reread}
use Rattle.py_lines.proofs.Feeds.OpenLine.{open_stop, open_size, reached_held, reached_next}
use Rattle.py_lines.proofs.feed.Feed.take.Goals.{Else-scanned-before}
use Rattle.py_lines.proofs.feed.Feed.take.Goals as goal

-- an item is held that the bytes don't tell: one byte more is held, and the scan stands before the item
pub extend-stop-requires-clause-way : goal.extend-stop-requires-clause-way
extend-stop-requires-clause-way c =
    let f = c.args.self.now in
    (first_mode f.state.place, _, begun_sound f.state.place, reached_held f c.extend_from_slice.new.self _ c.in_ok-extend_from_slice.ensures.items c.requires.opens _ c.deref.ensures.value)

pub meet-requires-clause-stops : goal.meet-requires-clause-stops
meet-requires-clause-stops c =
    let f = c.args.self.now in
    c.extend-stop.ensures.stops (first_mode f.state.place) _ (begun_sound f.state.place) (reached_held f c.extend_from_slice.new.self _ c.in_ok-extend_from_slice.ensures.items c.requires.opens _ c.deref.ensures.value)

pub returns-then-scanned-before : goal.returns-then-scanned-before
returns-then-scanned-before c =
    takes_met c.args.self.now _ c.meet.new.self c.args.piece.now c.min.result c.len-before.result
    (record { held = c.in_ok-extend_from_slice.ensures.items; place = refl; line = refl; ended = refl; fault = refl }) (omega (arith, c.min.ensures)) (λ none. omega (arith, c.min.ensures, none)) (omega (arith, c.len-before.ensures))
    c.meet.result c.meet.ensures.meets

-- all that is held was scanned: the scan stands before the piece
reached : (c : Else-scanned-before) → Reached (first_mode c.args.self.now.state.place) (c.args.self.now.held.items ++ c.args.piece.now) c.args.self.now.state.scan c.args.piece.now
reached c = reached_next c.args.self.now c.args.piece.now c.requires.opens (omega (arith, c.if-scanned-before.false, c.len-before.ensures))

pub extend-stop-requires-2-clause-way : goal.extend-stop-requires-2-clause-way
extend-stop-requires-2-clause-way c = let f = c.args.self.now in (first_mode f.state.place, f.held.items ++ c.args.piece.now, begun_sound f.state.place, reached (goal.at.extend-stop-requires-2-clause-way c).Else-scanned-before)

pub extend-stop-requires-2-clause-bytes : goal.extend-stop-requires-2-clause-bytes
extend-stop-requires-2-clause-bytes c = let f = c.args.self.now in let (rest, o) = c.requires.opens in omega (arith, open_stop f rest o, open_size f rest o, c.requires.room.fits)

pub slice_bounds-extend_from_slice-end : goal.slice_bounds-extend_from_slice-end
slice_bounds-extend_from_slice-end c = sym (length-take-le c.min.result c.args.piece.now (omega (arith, c.min.ensures)))

pub slice_bounds-extend-count : goal.slice_bounds-extend-count
slice_bounds-extend-count c = omega (arith, c.if-scanned-before.true, c.len-before.ensures, ap length c.deref.ensures.value, ap length c.in_ok-extend_from_slice.ensures.items, length-append c.args.self.now.held.items (take c.min.result c.args.piece.now))

pub extend-stop-requires-clause-bytes : goal.extend-stop-requires-clause-bytes
extend-stop-requires-clause-bytes c =
    let stop = c.args.self.now.state.scan.stop in let held = c.deref.result.now in
    omega (arith, c.if-scanned-before.true, c.len-before.ensures, length-take (length held - stop) (drop stop held), ap length c.deref.ensures.value, ap length c.in_ok-extend_from_slice.ensures.items, length-append c.args.self.now.held.items (take c.min.result c.args.piece.now), length-take c.min.result c.args.piece.now, c.requires.room.fits)

pub meet-requires-clause-within : goal.meet-requires-clause-within
meet-requires-clause-within c = omega (arith, c.len-before.ensures, ap length c.in_ok-extend_from_slice.ensures.items, length-append c.args.self.now.held.items (take c.min.result c.args.piece.now))

pub meet-requires-clause-room : goal.meet-requires-clause-room
meet-requires-clause-room c = record { fits = omega (arith, ap length c.in_ok-extend_from_slice.ensures.items, length-append c.args.self.now.held.items (take c.min.result c.args.piece.now), length-take c.min.result c.args.piece.now, c.requires.room.fits); few_lines = c.requires.room.few_lines }

pub meet-requires-clause-not_ready : goal.meet-requires-clause-not_ready
meet-requires-clause-not_ready c = c.requires.not_ready

pub hold-requires-clause-scanned : goal.hold-requires-clause-scanned
hold-requires-clause-scanned c = let f = c.args.self.now in c.extend-stop-2.ensures.stops (first_mode f.state.place) (f.held.items ++ c.args.piece.now) (begun_sound f.state.place) (reached (goal.at.hold-requires-clause-scanned c).Else-scanned-before)

pub hold-requires-clause-not_ready : goal.hold-requires-clause-not_ready
hold-requires-clause-not_ready c = c.requires.not_ready

pub hold-requires-clause-room : goal.hold-requires-clause-room
hold-requires-clause-room c = c.requires.room

pub returns : goal.returns
returns c = takes_reread c.args.self.now _ refl c.args.piece.now c.hold.result c.hold.new.self c.hold.ensures.takes

pub returns-in_err-extend_from_slice : goal.returns-in_err-extend_from_slice
returns-in_err-extend_from_slice c = grind arith

pub slice_bounds-extend-start : goal.slice_bounds-extend-start
slice_bounds-extend-start c = grind arith
