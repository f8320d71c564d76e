-- What contracts of private functions alone cite: how the import statements of a logical line are read. No public contract
-- names a word of these files.
pub mod Parsing
pub mod Lexemes
pub mod Items
pub mod Bindings
pub mod Places
pub mod Gaps
