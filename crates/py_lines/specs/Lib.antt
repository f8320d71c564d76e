-- What contracts say of texts, of their logical lines and tokens, and of the two readers. The headline is `IsLexed` of
-- Lexed: a text's logical lines, and then its end or its fault. Above it stand the states of the readers (Reader,
-- ScannerState), and below it what it is made of.
pub mod Character
pub mod Piece
pub mod Balance
pub mod PieceGrammar
pub mod FieldStrings
pub mod LogicalLine
pub mod Fields
pub mod Dialect
pub mod Reading
pub mod OpenFields
pub mod Faults
pub mod Lexed
pub mod WithoutFields
pub mod Neighbours
pub mod Words
pub mod Settled
pub mod Given
pub mod ScannerState
pub mod Reader
pub mod Token
pub mod FaultWords
pub mod Outline
pub mod UnitLine
pub mod Lines
pub mod Private
