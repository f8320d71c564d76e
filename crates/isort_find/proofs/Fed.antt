-- A finder that is fed a text in pieces.
pub mod Known
pub mod Starts
pub mod LetGo
pub mod PassedLines
pub mod TriedLines
pub mod Settled
pub mod Held
pub mod OneLine
pub mod LineAtOnce
pub mod MoreLines
pub mod WholePiece
pub mod NothingFed
pub mod Ready
pub mod NoneReady
pub mod OpenYet
pub mod AfterFault
