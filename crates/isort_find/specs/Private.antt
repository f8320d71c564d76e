-- What the steps of a finder promise one another. Contracts of private functions alone cite these.
pub mod KnownLaws
pub mod CursorMoves
pub mod LooksAtBindings
pub mod LineSteps
pub mod Walks
pub mod FinderSteps
pub mod PieceSteps
