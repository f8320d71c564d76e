-- The scan of logical lines: where each may end, and what pieces it has.
pub mod LineSteps
pub mod TextSteps
pub mod LineCount
pub mod Runs
pub mod Spans
pub mod AsciiRuns
pub mod ClassStarts
pub mod PlainStrings
pub mod LineStops
pub mod WholeLines
pub mod FeedLines
pub mod Reaching
