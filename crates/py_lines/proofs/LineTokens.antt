-- The tokens of a whole line are read from its text: what its bytes begin with is the line's next piece.
pub mod Spellings
pub mod FirstCharacters
pub mod FirstPieces
pub mod Depths
pub mod StringRuns
pub mod FirstString
pub mod Strings
pub mod Lines
pub mod Anyway
pub mod Outlines
