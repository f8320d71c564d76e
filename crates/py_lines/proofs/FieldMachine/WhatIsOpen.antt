-- What is open at a place is told by the state of the machine with fields there, so nothing else is: a string, a backslash, a
-- specification, code of a field, or a spot where a field may open.
use Rattle.py_lines.proofs.Prelude.{◌≡◌, ℕ, Bool, true, false, Some, List, [], ◌∷◌, ◌++◌, inl, inr, refl, sym, ap, ◌∙◌, subst, append_assoc, ⊎_elim, ◌<◌, append-nil, arith, byte, if◌then◌else◌, is_mark, is_quote, begins, spelled}
use Rattle.py_lines.specs.PieceGrammar.{IsPrefix}
use Rattle.py_lines.specs.OpenFields.{Spot, StandsOpen, IsOpenUpTo, IsOpenLiteral, InOpenShort, InOpenLong, AfterOpenBackslash, InSpecification, BeginsList, InFieldCode}
use Rattle.py_lines.specs.FieldStrings.{is_field_prefix, Host, Place, literal, specification}
use Rattle.py_lines.specs.Private.Machine.{Mode}
use Rattle.py_lines.specs.Private.FieldMachine.{before, FieldMode, plain, FieldScanned, field_state, field_text_start, field_pieces, field_started, field_steps_from, in_open_short, in_open_long, after_open_backslash, InSpecificationOf, body, after_brace, Level, levels_open, frames, may_end}
use Rattle.py_lines.proofs.Fields.Parts.{some_head}
use Rattle.py_lines.proofs.Machine.Starts.{start-slash}
use Rattle.py_lines.proofs.Machine.StringSteps.{GrownTo}
use Rattle.py_lines.proofs.Machine.OpenStrings.{prefix-unmarked, slash-not-mark, short_end, long_end}
use Rattle.py_lines.proofs.FieldMachine.PlainSteps.{grown-alike}
use Rattle.py_lines.proofs.FieldMachine.PieceRuns.{plain_opens}
use Rattle.py_lines.proofs.FieldMachine.Runs.{NoLimit, Goes, StopsAt, goes-append, goes-grown, goes-begins, steps_of}
use Rattle.py_lines.proofs.FieldMachine.OpenStrings.{IsInString, in_part, at_first, HasOpened, open_unmarked, open_begins, up_to_runs, open_quotes, brace_opens, string_runs}
use Rattle.py_lines.proofs.FieldMachine.OpenLists.{list_runs, after_pieces, string_begins, pieces_run, IsBraced, alike, alike_after, ListRun, level_of, braces}
use Rattle.py_lines.specs.Faults.{IsFieldDue}
use Rattle.py_lines.proofs.FieldMachine.Completeness.{may_begin}
use Rattle.py_lines.proofs.FieldMachine.ListBrackets.{balanced_openers}

-- the machine comes from the text's start through these characters to such a state
pub record Comes (characters : List ℕ) (IsSuch : FieldScanned → Type 0) : Type 0 where
  pub to : FieldScanned
  pub goes : Goes NoLimit field_text_start characters to
  pub such : IsSuch to

-- such a state is the one to which it comes
pub comes_to : (characters : List ℕ) (IsSuch : FieldScanned → Type 0) (s : FieldScanned) → Comes characters IsSuch → field_steps_from (Some field_text_start) characters ≡ Some s → IsSuch s
comes_to characters IsSuch s comes steps =
    let same : comes.to ≡ s = cc (steps_of NoLimit field_text_start comes.to characters comes.goes, steps) in subst IsSuch same comes.such

-- the characters before the open piece, where a string, its specification with it, or a backslash is open
abbrev pub StartsAfter : Place → List ℕ → FieldScanned → Type 0
StartsAfter place start s = before place s.outer ++ spelled s.done ≡ start

-- something is open after pieces of a list that end at `start`
pub record FrontAt (characters start front : List ℕ) : Type 0 where
  pub from : FieldScanned
  pub stops : StopsAt from.mode from.held front
  pub start_is : before literal from.outer ++ spelled (field_pieces from) ≡ start
  pub goes : (t : FieldScanned) (c : ℕ) (cs : List ℕ) → front ≡ c ∷ cs → Goes NoLimit from front t → Goes NoLimit field_text_start characters t

front_at : (IsOpen : List ℕ → Type 0) (characters start : List ℕ) (at : StandsOpen IsOpen characters start) → begins is_mark at.front ≡ false → FrontAt characters start at.front
front_at IsOpen characters start at unmarked =
    let pieces_at = after_pieces at.outside at.depth at.pieces at.front (list_runs at.outside (spelled at.pieces ++ at.front) at.depth at.list) at.begun (string_begins at.pieces at.front unmarked) in
    record {
      from = pieces_at.from;
      stops = pieces_at.stops;
      start_is = ap (λ t. t ++ spelled (field_pieces pieces_at.from)) pieces_at.start_is ∙ ap (λ p. at.outside ++ spelled p) pieces_at.pieces_are ∙ at.before;
      goes = λ t c cs is goes.
          subst (λ x. Goes NoLimit field_text_start x t) (sym (append_assoc at.outside (spelled at.pieces) at.front) ∙ ap (λ x. x ++ at.front) at.before ∙ at.spell)
          (pieces_at.goes t at.front (record { first = c; others = cs; more = cs; one_is = is; two_is = is }) goes);
    }

-- a string, or the literal part of one with fields
abbrev pub InLiteral : Bool → FieldMode → Type 0
InLiteral is_long mode = (if is_long then in_open_long mode else in_open_short mode) ≡ true

-- a string without fields, whose text grows so after its first quote
plain_comes : (IsOpen : List ℕ → Type 0) (characters start : List ℕ) (at : StandsOpen IsOpen characters start) (is_long : Bool) (prefix : List ℕ) (q : ℕ) (inner : List ℕ) → at.front ≡ prefix ++ q ∷ inner → IsPrefix prefix → is_field_prefix prefix ≡ false → is_quote q ≡ true → GrownTo (λ m. InLiteral is_long (plain m)) (Mode.Opened q) inner → Comes characters (λ s. InLiteral is_long s.mode × StartsAfter literal start s)
plain_comes IsOpen characters start at is_long prefix q inner spell is no_field quotes (m, such, grown) =
    let front = front_at IsOpen characters start at (subst (λ t. begins is_mark t ≡ false) (sym spell) (prefix-unmarked prefix q inner is quotes)) in
    let from = front.from in let state : Mode → List ℕ → FieldScanned = λ n held. field_state from.outer (field_pieces from) from.openers (plain n) held in
    let to : FieldScanned = state m ((prefix ++ q ∷ []) ++ inner) in
    let run = goes-append NoLimit from (state (Mode.Opened q) (prefix ++ q ∷ [])) to (prefix ++ q ∷ []) inner
    (plain_opens NoLimit from prefix q inner is no_field quotes (subst (StopsAt from.mode from.held) spell front.stops))
    (goes-grown NoLimit from.outer (field_pieces from) from.openers (plain (Mode.Opened q)) (plain m) (prefix ++ q ∷ []) inner (grown-alike (Mode.Opened q) m inner (inl refl) grown)) in
    let full = some_head prefix q inner in record {
      to = to;
      goes = front.goes to full.0 full.1 (spell ∙ full.2) (subst (λ t. Goes NoLimit from t to) (append_assoc prefix (q ∷ []) inner ∙ sym spell) run);
      such = (such, front.start_is);
    }

literal_mode : (host : Host) (named : Bool) (is_long : Bool) (mode : FieldMode) → IsInString host literal named mode [] → host.is_long ≡ is_long → InLiteral is_long mode
literal_mode host named is_long mode (in_part at is apart) long = grind arith
literal_mode host named is_long mode (at_first is place_is unnamed short) long = grind arith

-- a string with fields that is open
host_comes : (IsOpen : List ℕ → Type 0) (characters start : List ℕ) (at : StandsOpen IsOpen characters start) (host : Host) (spot : Spot) → IsOpenUpTo host spot at.front → Comes characters (λ s. IsInString host spot.place spot.named s.mode [] × StartsAfter spot.place start s × HasOpened spot.place s.outer spot.field)
host_comes IsOpen characters start at host spot is =
    let front = front_at IsOpen characters start at (subst (λ t. begins is_mark t ≡ false) (sym is.spell) (open_unmarked host spot is.body is.last is.last is.string)) in
    let run = up_to_runs front.from host spot at.front is front.stops in let to : FieldScanned = field_state run.outer run.done run.openers run.mode at.front in
    let full = open_begins host spot is.body is.last is.last is.string in
    record { to = to; goes = front.goes to full.0 full.1 (is.spell ∙ full.2) run.goes; such = (run.stands, run.start_is ∙ front.start_is, run.field_is) }

literal_comes : (IsOpen : List ℕ → Type 0) (characters start : List ℕ) (at : StandsOpen IsOpen characters start) (is_long : Bool) → IsOpenLiteral is_long at.front → Comes characters (λ s. InLiteral is_long s.mode × StartsAfter literal start s)
literal_comes IsOpen characters start at is_long (host, spot, is, at_literal, long) = let own = host_comes IsOpen characters start at host spot is in record {
  to = own.to;
  goes = own.goes;
  such = (literal_mode host spot.named is_long own.to.mode (subst (λ p. IsInString host p spot.named own.to.mode []) at_literal own.such.0) long, subst (λ p. StartsAfter p start own.to) at_literal own.such.1);
}

-- a string that is open: one without fields, or the literal part of one with fields
pub short_open_comes : (characters start : List ℕ) → InOpenShort characters start → Comes characters (λ s. (in_open_short s.mode ≡ true) × StartsAfter literal start s)
short_open_comes characters start at = ⊎_elim
    (λ plain. let short = plain.0 in plain_comes _ characters start at false short.prefix short.quote _ short.spell short.begun plain.1 short.opens (short_end short.quote short.items short.last short.opens short.holds short.escapes))
    (λ is. literal_comes _ characters start at false is) at.open_yet

pub long_open_comes : (characters start : List ℕ) → InOpenLong characters start → Comes characters (λ s. (in_open_long s.mode ≡ true) × StartsAfter literal start s)
long_open_comes characters start at = ⊎_elim
    (λ plain. let long = plain.0 in plain_comes _ characters start at true long.prefix long.quote _ long.spell long.begun plain.1 long.opens (long_end long.quote long.items long.last long.opens long.holds.0 long.holds.1 long.escapes))
    (λ is. literal_comes _ characters start at true is) at.open_yet

-- a backslash outside strings and comments
pub backslash_comes : (characters start : List ℕ) → AfterOpenBackslash characters start → Comes characters (λ s. (after_open_backslash s.mode ≡ true) × StartsAfter literal start s)
backslash_comes characters start at =
    let (s, is, slashes) = at.open_yet in
    let front = front_at _ characters start at (subst (λ t. begins is_mark t ≡ false) (sym is) (slash-not-mark s slashes)) in let from = front.from in
    let to : FieldScanned = field_state from.outer (field_pieces from) from.openers (plain Mode.Backslash) (s ∷ []) in
    let run : Goes NoLimit from (s ∷ []) to =
    goes-begins NoLimit from to to s [] (subst (StopsAt from.mode from.held) is front.stops) (ap (field_started from.outer (field_pieces from) from.openers s) (start-slash s slashes)) (λ opens. tt) refl in
    record { to = to; goes = front.goes to s [] is (subst (λ t. Goes NoLimit from t to) (sym is) run); such = (refl, front.start_is) }

-- a specification, whose field opened after `field` in the string after `string`
pub record SpecificationAt (host : Host) (start : List ℕ) (s : FieldScanned) : Type 0 where
  pub string : List ℕ
  pub field : List ℕ
  pub mode_is : InSpecificationOf host s.mode
  pub string_is : StartsAfter specification string s
  pub field_is : HasOpened specification s.outer field
  pub before : string ++ field ≡ start

specification_mode : (host : Host) (named : Bool) (mode : FieldMode) → IsInString host specification named mode [] → InSpecificationOf host mode
specification_mode host named mode (in_part at is apart) = subst (InSpecificationOf host) (sym is) (refl, apart)
specification_mode host named mode (at_first is place_is unnamed short) = absurd (cc)

pub specification_comes : (host : Host) (characters start : List ℕ) (at : InSpecification host characters start) → Comes characters (λ s. (own : SpecificationAt host start s) × (own.string ≡ at.string))
specification_comes host characters start at = let own = host_comes _ characters at.string at.stands host at.spot at.stands.open_yet in record {
  to = own.to;
  goes = own.goes;
  such = (
    record {
      string = at.string;
      field = at.spot.field;
      mode_is = specification_mode host at.spot.named own.to.mode (subst (λ p. IsInString host p at.spot.named own.to.mode []) at.place own.such.0);
      string_is = subst (λ p. StartsAfter p at.string own.to) at.place own.such.1;
      field_is = subst (λ p. HasOpened p own.to.outer at.spot.field) at.place own.such.2;
      before = at.before;
    },
    refl,
  );
}

-- code of a field goes to the end: outside brackets, and its `{` comes after `start`
pub data CodeAt (start : List ℕ) (s : FieldScanned) : Type 0 where
  in_code : 0 < levels_open s.outer → s.openers ≡ [] → may_end s.mode ≡ true → before literal s.outer ≡ start ++ byte "{" ∷ [] → CodeAt start s
  at_brace : (host : Host) → s.mode ≡ body host literal false after_brace → (before literal s.outer ++ spelled s.done) ++ s.held ≡ start ++ byte "{" ∷ [] → CodeAt start s

pub code_comes : (characters start : List ℕ) → InFieldCode characters start → Comes characters (CodeAt start)
code_comes characters start is = go (spelled is.pieces) refl where
  outside : List ℕ
  outside = start ++ 123 ∷ []

  list : ListRun outside (spelled is.pieces ++ []) is.depth
  list = list_runs outside (spelled is.pieces ++ []) is.depth (subst (λ t. BeginsList outside t is.depth) (sym (append-nil (spelled is.pieces))) is.list)

  at : (outer : List Level) (t : FieldScanned) → levels_open outer ≡ is.depth → before literal outer ≡ outside → IsBraced outer t → CodeAt start t
  at [] t deep start_is braced = absurd (omega (arith, is.deep, deep))
  at (l ∷ ls) t deep start_is (inr braced) = subst (CodeAt start) (sym braced.1) (in_code (subst (λ n. 0 < n) (sym deep) is.deep) refl refl start_is)
  at (l ∷ ls) t deep start_is (inl braced) = subst (CodeAt start) (sym braced.1)
      (at_brace l.host refl (append_assoc (before literal ls) (spelled l.done) l.front ∙ ap (λ p. before p ls ++ (spelled l.done ++ l.front)) (sym braced.0) ∙ start_is))

  go : (text : List ℕ) → spelled is.pieces ≡ text → Comes characters (CodeAt start)
  go [] none = record {
    to = list.begins_at.0;
    goes = subst (λ x. Goes NoLimit field_text_start x list.begins_at.0) (ap (λ t. start ++ 123 ∷ t) (sym none) ∙ is.spell) list.begins_at.1;
    such = at list.outer list.begins_at.0 list.deep list.start_is list.begins_at.2;
  }
  go (c ∷ cs) full = let run = pieces_run list.outer is.depth is.pieces [] list.deep is.begun (may_begin is.pieces) in
      let to : FieldScanned = field_state list.outer run.done run.after run.mode run.held in
      let both : Some run.after ≡ Some [] = sym run.opens ∙ balanced_openers is.pieces is.balanced [] in record {
        to = to;
        goes = subst (λ x. Goes NoLimit field_text_start x to) (append_assoc start (123 ∷ []) (spelled is.pieces) ∙ is.spell)
            (list.goes to (spelled is.pieces) (record { first = c; others = cs; more = cs; one_is = append-nil (spelled is.pieces) ∙ full; two_is = full }) run.goes);
        such = in_code (subst (λ n. 0 < n) (sym list.deep) is.deep) (cc) run.stops list.start_is;
      }

-- where a field may open, directly after the `{` of a literal part, and so many brackets and fields are open
pub brace_comes : (depth : ℕ) (start after : List ℕ) → IsFieldDue literal depth start after → Comes (start ++ byte "{" ∷ []) (λ s. (host : Host) × (s.mode ≡ body host literal false after_brace) × (frames s ≡ depth))
brace_comes depth start after is =
    let later : List ℕ = is.front ++ 123 ∷ after in let unmarked = open_unmarked is.host is.spot is.front (123 ∷ after) (123 ∷ after) is.string in
    let pieces_at = after_pieces is.outside is.base is.pieces later (list_runs is.outside (spelled is.pieces ++ later) is.base is.list) is.begun (string_begins is.pieces later unmarked) in
    let run = string_runs pieces_at.from is.host is.spot is.front (123 ∷ after) is.string pieces_at.stops in
    let stands = subst (λ n. IsInString is.host literal n run.mode (123 ∷ after)) is.may.unnamed (subst (λ p. IsInString is.host p is.spot.named run.mode (123 ∷ after)) is.place_is run.stands) in
    let s : FieldScanned = field_state run.outer run.done run.openers run.mode is.front in
    let move = brace_opens is.host literal run.mode is.front after stands (open_quotes is.host is.spot is.front (123 ∷ after) is.string) in
    let braced = braces run.outer run.done run.openers is.host literal run.mode is.front move in record {
      to = braced.0;
      goes = subst (λ x. Goes NoLimit field_text_start x braced.0) (simp (← is.spell, append_assoc))
          (pieces_at.goes braced.0 (is.front ++ 123 ∷ []) (alike_after is.front (123 ∷ after) (123 ∷ []) (alike 123 after [])) (goes-append NoLimit pieces_at.from s braced.0 is.front (123 ∷ []) run.goes braced.1));
      such = go s braced.0 (omega (arith, run.depth_is, pieces_at.deep, is.deep)) braced.2;
    }
  where
    go : (s t : FieldScanned) → frames s ≡ depth → IsBraced (level_of s.done s.openers is.host literal s.held ∷ s.outer) t → (other : Host) × (t.mode ≡ body other literal false after_brace) × (frames t ≡ depth)
    go s t deep (inl is_so) = (is.host, ap (λ (x : FieldScanned). x.mode) is_so.1, ap frames is_so.1 ∙ deep)
    go s t deep (inr is_so) = let no : literal ≡ specification = is_so.0 in absurd (cc)
