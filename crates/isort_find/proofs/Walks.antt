-- What a finder says of its text as it goes through logical lines, whether it has the whole text or is fed pieces.
pub mod Starts
pub mod Inside
pub mod NextLine
pub mod Tries
