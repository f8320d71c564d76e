-- What contracts of private functions alone cite: the machine that goes through a text, the scan of logical lines,
-- and the reader of lines. No public contract names a word of these files. Those that belong to one file of src/ pass on what else its
-- contracts cite.
pub mod Mode
pub mod Machine
pub mod FieldMachine
pub mod FieldFaults
pub mod Frames
pub mod Scan
pub mod FieldText
pub mod LineScan
pub mod LineEnds
pub mod Outline
pub mod LineState
pub mod SimpleLine
pub mod LineTokens
pub mod Source
pub mod Run
pub mod Marks
pub mod Passing
pub mod LongStrings
pub mod TakenPieces
pub mod WholeLines
pub mod Feed
