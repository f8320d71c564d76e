-- The orders of statements and items, and lists that are in order.
pub mod InOrder
pub mod Contained
pub mod SortedVectors
pub mod Statements
pub mod Equality
