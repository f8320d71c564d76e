-- The lines of a text, as they are read one after another.
pub mod Lines
pub mod LinesRead
pub mod ReadSoFar
pub mod Passing
pub mod PassedLines
