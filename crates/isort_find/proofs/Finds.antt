-- What is found in a text, and in the logical lines that its known bytes settle.
pub mod CountedLines
pub mod NextLines
pub mod LinePlaces
pub mod Beginnings
pub mod OneFound
pub mod PassedOn
pub mod SettledFound
pub mod SettledGrowing
