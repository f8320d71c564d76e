-- The lines of statements, and their text.
pub mod OneCut
pub mod Lengths
pub mod Widths
pub mod Writing
pub mod Packing
pub mod Cuts
pub mod Pieces
pub mod LaidOut
