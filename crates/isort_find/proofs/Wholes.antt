-- A finder that has the whole text.
pub mod TakenNext
pub mod ReadLine
pub mod PassedLines
pub mod Calls
