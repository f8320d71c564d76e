-- Characters, the bytes that spell them, line ends among these, and vectors of bytes.
pub mod CharacterTests
pub mod Utf8Prefixes
pub mod Decoding
pub mod Utf8Shapes
pub mod FirstCharacters
pub mod Incomplete
pub mod HighBytes
pub mod FirstBytes
pub mod Lanes
pub mod LineEnds
pub mod Splits
