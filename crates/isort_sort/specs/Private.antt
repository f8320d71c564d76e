-- What contracts of private functions alone cite: the values of the program's types, blocks as they are found, what is
-- seen of a block's statements, packed lines, and a sorted text part by part. No public contract names a word of these
-- files.
pub mod Values
pub mod Group
pub mod Found
pub mod LineRole
pub mod Actions
pub mod Markers
pub mod Reading
pub mod Arranged
pub mod Compared
pub mod LineEnd
pub mod Gathered
pub mod GroupOrder
pub mod Packing
pub mod Writes
pub mod LayoutTexts
pub mod Parts
