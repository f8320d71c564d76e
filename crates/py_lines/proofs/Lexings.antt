-- The lines of a whole text, and its end or fault.
pub mod Prefixes
pub mod LineEnds
pub mod OuterRuns
pub mod LinePrefix
pub mod Existence
pub mod FirstLines
pub mod LinesBefore
pub mod DecidedFaults
