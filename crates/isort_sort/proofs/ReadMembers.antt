-- The members of a block, as its logical lines are read.
pub mod OldBlock
pub mod Stripped
pub mod ReadComments
pub mod ReadImports
pub mod ReadMembers
pub mod FirstLines
pub mod ReadBlocks
