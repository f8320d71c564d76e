-- The machine on the pieces of a text.
pub mod Starts
pub mod Spellings
pub mod PieceSteps
pub mod StringSteps
pub mod OpenPieces
pub mod Soundness
pub mod LiveTexts
pub mod OpenStrings
pub mod EarlierPieces
