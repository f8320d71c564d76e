-- The rows of a text's lines.
pub mod Spaces
pub mod Comments
pub mod Marks
pub mod Roles
pub mod Skips
pub mod Texts
pub mod Silence
pub mod Markers
pub mod SomeRows
pub mod OneRows
pub mod ReadBack
pub mod Switches
pub mod Moved
pub mod MovedRoles
