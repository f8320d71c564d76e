-- Texts without a prefix of strings with fields before a quote: they are the same with fields and without.
pub mod SameRuns
pub mod SameLexings
pub mod WorkedRows
