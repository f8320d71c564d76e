-- Strings with fields, and texts with them.
pub mod WorkedRows
pub mod Elsewhere
pub mod Prefixes
pub mod Parts
pub mod OneReading
pub mod Nesting
