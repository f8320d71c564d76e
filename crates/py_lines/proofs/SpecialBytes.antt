-- Marks of the bytes of a text that aren't plain: how they are found, and which are left.
pub mod LookUps
pub mod Bits
pub mod Places
