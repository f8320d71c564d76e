-- The machine with fields, on the pieces of a text.
pub mod WorkedRows
pub mod Runs
pub mod StringParts
pub mod PlainSteps
pub mod ListBrackets
pub mod PieceRuns
pub mod StringRuns
pub mod CodeRuns
pub mod Completeness
pub mod OpenStrings
pub mod OpenLists
pub mod WhatIsOpen
pub mod OuterLists
pub mod EarlierPieces
pub mod WholeRuns
