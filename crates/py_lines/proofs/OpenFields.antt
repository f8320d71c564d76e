-- What is open at a place of a text with fields.
pub mod WorkedRows
