-- Before the first line of a text.
use Rattle.std.proofs.Common.{◌≡◌, ℕ, Option, None, Some, List, [], inl, refl, sym, subst}
use Rattle.py_lines.specs.Reader.{HasGiven, standing_at}
use Rattle.isort_find.specs.Cursor.{CursorState, first_cursor, keys_of, IsAfter, HasStopped}
use Rattle.isort_find.specs.declared.options.FindOptions.{FindOptions}
use Rattle.isort_find.specs.declared.options.ImportKey.{ImportKey}

no_keys : (unique : Option ImportKey) → [] ≡ keys_of unique []
no_keys None = refl
no_keys (Some key) = refl

-- nothing was looked at yet
abbrev pub after_none : (text : List ℕ) (options : FindOptions) (place line : ℕ) → HasGiven (standing_at text place line) [] → IsAfter text options place line 0 []
after_none text options place line given = record { lines = []; before = []; part = []; given = given; binds = refl; in_top = refl; is_part = (refl, inl refl); found = refl }

-- a cursor at the start of a text
pub stopped_first : (text : List ℕ) (options : FindOptions) (cursor : CursorState) → cursor ≡ first_cursor options → HasGiven (standing_at text 0 1) [] → HasStopped text cursor []
stopped_first text options cursor is given = subst (λ (c : CursorState). HasStopped text c []) (sym is) (record {
  after = after_none text options 0 1 given;
  keys = no_keys options.unique;
  given = refl;
})
