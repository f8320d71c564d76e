-- The faults of texts with fields.
pub mod EndFaults
pub mod Ends
pub mod CharacterFaults
pub mod FaultPrefixes
pub mod Verdict
pub mod WorkedRows
