-- A text of written blocks: sorting it changes nothing.
pub mod WrittenBlocks
pub mod Again
pub mod SortedAgain
pub mod AtStart
pub mod Sorted
