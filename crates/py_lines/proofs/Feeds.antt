-- What is settled and decided where a text is fed in pieces.
pub mod Known
pub mod SettledSoFar
pub mod DecidedSoFar
pub mod Released
pub mod OpenLine
pub mod ReadyLines
pub mod LastBytes
pub mod GivenBack
pub mod FedScanner
pub mod SimpleLines
pub mod EndedHeld
pub mod PassedLines
