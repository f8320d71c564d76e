-- The logical lines of a text and of what is written, and their rows.
pub mod UnitRows
pub mod LineUnits
pub mod BlockUnits
pub mod Marked
pub mod FirstCharacters
pub mod UnitBinds
pub mod FirstEnds
