-- The sorted text, block by block.
pub mod Arranging
pub mod Parts
pub mod Comparing
pub mod OfParts
pub mod Written
pub mod SortedCuts
pub mod OneSorted
pub mod BlockSpans
pub mod LaidAgain
