-- What the finders' contracts cite, and in Private what those of private functions alone cite.
pub mod Key
pub mod KeyText
pub mod GivenKeys
pub mod Found
pub mod Settled
pub mod Lexing
pub mod Cursor
pub mod Pending
pub mod Position
pub mod Finder
pub mod Pieces
pub mod Private
