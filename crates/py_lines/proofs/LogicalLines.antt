-- The logical lines that pieces are cut into.
pub mod Cuts
pub mod NextLine
pub mod TokenPlaces
pub mod Words
pub mod WorkedRows
