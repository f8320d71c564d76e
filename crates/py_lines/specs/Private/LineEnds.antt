-- Line ends in the bytes of a text.
use Rattle.std.specs.Prelude.{◌≡◌, ◌<◌, ◌≤◌, ◌⊎◌, ℕ, ◌+◌, ◌&&◌, not, Bool, true, false, Option, None, Some, List, [], ◌∷◌, length, take, drop, if◌then◌else◌}
use Rattle.py_lines.specs.Character.{is_break, is_line_feed, is_return}
pub use Rattle.py_lines.specs.LogicalLine.{line_ends}
use Rattle.py_lines.specs.Piece.{begins}
pub use Rattle.std.specs.List.{count_by}
pub use Rattle.memchr.specs.Find.{is_byte}

-- how many of the bytes are CR that isn't before LF
abbrev pub lone_returns : List ℕ → ℕ
lone_returns [] = 0
lone_returns (c ∷ cs) = (if is_return c && not (begins is_line_feed cs) then 1 else 0) + lone_returns cs

-- So many line ends of these bytes stand from one byte to another, by those of what follows each. Of CR LF between which a byte is cut
-- it is LF that counts.
abbrev pub CountsTo : List ℕ → ℕ → ℕ → ℕ → Type 0
CountsTo bytes from to ends = ends + line_ends (drop to bytes) ≡ line_ends (drop from bytes)

-- a line end: CR LF, or LF alone
abbrev pub line_end_of : Bool → List ℕ
line_end_of true = 13 ∷ 10 ∷ []
line_end_of false = 10 ∷ []

-- bytes that begin with another one than LF
abbrev pub BeginOther : List ℕ → Type 0
BeginOther [] = ⊥
BeginOther (c ∷ cs) = c ≡ 10 → ⊥

-- a line end outside strings, before these bytes: CR LF, LF alone, or CR alone, before another byte
abbrev pub IsOuterEnd : List ℕ → List ℕ → Type 0
IsOuterEnd text after = ((returned : Bool) × (text ≡ line_end_of returned)) ⊎ ((text ≡ 13 ∷ []) × BeginOther after)

-- the bytes begin with such a line end of so many of them
pub record BeginsOuterEnd (bytes : List ℕ) (len : ℕ) : Type 0 where
  pub some : 0 < len
  pub within : len ≤ length bytes
  pub is : IsOuterEnd (take len bytes) (drop len bytes)

abbrev pub HasOuterEnd : List ℕ → Option ℕ → Type 0
HasOuterEnd bytes None = begins is_break bytes ≡ true → bytes ≡ 13 ∷ []
HasOuterEnd bytes (Some len) = BeginsOuterEnd bytes len
