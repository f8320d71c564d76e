-- The blocks of rows, and how they are found.
pub mod RoleTests
pub mod Steps
pub mod Rows
pub mod SomeBlocks
pub mod OneBlocks
pub mod Replaced
pub mod Spans
