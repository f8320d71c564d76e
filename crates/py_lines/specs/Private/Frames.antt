-- The brackets and fields that are open in a line, as a list with the innermost first. It serves the contracts of private functions.
use Rattle.std.specs.Prelude.{◌≡◌, ℕ, ◌+◌, ◌<◌, Bool, true, false, Option, None, Some, List, [], ◌∷◌, length}
pub use Rattle.py_lines.specs.Balance.{closing_of}
pub use Rattle.py_lines.specs.declared.frames.Frame.{Frame}
use Rattle.py_lines.specs.declared.frames.Frame.TheVariants as frame

-- what was opened last
abbrev pub IsInnermostFrame : Option Frame → List Frame → Type 0
IsInnermostFrame None fs = fs ≡ []
IsInnermostFrame (Some f) fs = (others : List Frame) × (fs ≡ f ∷ others)

-- the byte where it stands
abbrev pub place_of : Frame → ℕ
place_of (frame.Bracket opener place) = place
place_of (frame.Field field) = field.place

-- how many of them are fields, and whether one is
abbrev pub fields_of : List Frame → ℕ
fields_of [] = 0
fields_of (frame.Bracket opener place ∷ fs) = fields_of fs
fields_of (frame.Field field ∷ fs) = fields_of fs + 1

abbrev pub has_field : List Frame → Bool
has_field [] = false
has_field (frame.Bracket opener place ∷ fs) = has_field fs
has_field (frame.Field field ∷ fs) = true

-- a bracket or a field was opened, or there is no room for it
abbrev pub OpensFrame : List Frame → Frame → Bool → List Frame → Type 0
OpensFrame old f true new = (length old < 200) × (new ≡ f ∷ old)
OpensFrame old f false new = (length old ≡ 200) × (new ≡ old)

-- what was opened last was taken away, if something is open
abbrev pub TakesFrame : List Frame → Option Frame → List Frame → Type 0
TakesFrame old None new = (old ≡ []) × (new ≡ [])
TakesFrame old (Some f) new = old ≡ f ∷ new

-- the innermost is a bracket that this closes, with others round it
abbrev pub IsClosedBy : List Frame → ℕ → List Frame → Type 0
IsClosedBy fs closer others = (opener : ℕ) × (place : ℕ) × (fs ≡ frame.Bracket opener place ∷ others) × (closer ≡ closing_of opener)

-- it was closed, or isn't one
abbrev pub ClosesBracket : List Frame → ℕ → Bool → List Frame → Type 0
ClosesBracket old closer true new = IsClosedBy old closer new
ClosesBracket old closer false new = ((others : List Frame) → ¬ (IsClosedBy old closer others)) × (new ≡ old)
