-- Lists of pieces, and the brackets in them.
pub mod PieceLists
pub mod TripleQuotes
pub mod OpenBrackets
pub mod ShallowPieces
