-- Bytes of a line that are passed over at once: what the scan would come to over them, item after item.
pub mod FirstBytes
pub mod Counts
pub mod WordsBefore
pub mod PlainBytes
pub mod Ends
pub mod Items
pub mod Passed
pub mod LineFeeds
pub mod Reads
pub mod FieldStrings
pub mod Pieces
pub mod BracketFeeds
