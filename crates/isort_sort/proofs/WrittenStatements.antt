-- A written statement, read back: it is one logical line that imports what it says.
pub mod Rests
pub mod Remarks
pub mod Lines
pub mod Statements
pub mod NamesRests
pub mod Sources
pub mod Written
