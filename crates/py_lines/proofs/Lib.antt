-- How the proof goes.
--
-- Definitions look at the whole text. A reading is a list of pieces, each in its class and before a rest that it may
-- precede, with brackets in pairs. There is no mode and no stack.
--
-- One machine goes through a text, character by character. It keeps the finished pieces, a mode, and the characters of the
-- open piece. A character grows the open piece, closes it, follows it, or is refused (specs/Private/Machine.antt; proofs/Machine).
--
-- It reads the fields of strings, too (specs/Private/FieldMachine.antt), and keeps those that are open as levels: in each of
-- them the pieces and brackets before. It is complete (proofs/FieldMachine). It goes through the parts of a string wherever it
-- goes through the fields among them, and through a list of pieces wherever it goes through the strings among them; so it goes
-- through fields, by how many stand one in another. Each run says what its characters open, so one proof gives two theorems: the
-- machine goes through every list that is read, however deep; and where a text has a reading, each character has room. The other
-- way round, the state tells what is open at a place (WhatIsOpen): the machine comes from the text's start to each
-- string, list and spot that the definitions call open. It is sound (proofs/FieldSoundness). What it holds, in each mode and of
-- each field that is open, is stated for any limit on what may stand at a depth, so one proof gives two theorems: where it may
-- end, its pieces read the text; and they are shallow if each character had room. What it holds says which lists of pieces and
-- which strings are open, and what is open can be closed, so a text is live exactly if the machine goes through it with room. The code
-- goes by this machine, in scan.rt and string_text.rt.
--
-- Where no field is open, its finished pieces are those of the text, and else those of its outermost list (FieldMachine/OuterLists), which only
-- grows. With pieces before them it goes on as it does alone (EarlierPieces). So a line's run is a part of the text's.
--
-- Faults (proofs/Faults): where the machine with fields stops, a first cause fits; where a live text isn't read, its state says
-- what is open at the end. What is open is told by the state alone, so the fault is one, and the state names it: its kind and
-- place are those of `IsFaultAt`. So every text is read or has one fault.
--
-- The lexing of a text (proofs/Lexings, over LogicalLines): the lines that end before the machine stops are the
-- longest prefix that ends a line, and with the fault they are `IsLexed`. A text has one reading, and one longest
-- prefix that ends a line, so its logical lines are one list. Its fault is one too: of one kind, at one byte, which
-- stands after some characters of the text, and these tell its line. From the end of lines that were given, the
-- machine goes on to the text's end or to its fault, so the lines of the whole text begin with them. A reader at the
-- start has given none, so every text has some lexing. Settled pieces begin all pieces that read more, so their lines are final.
--
-- What is open in a line (proofs/FieldScans): the scan keeps the mode, the place and the frames of a state of the machine with fields
-- (`Follows`, specs/Private/Scan), and each item keeps it so: in code (Taking, Operators), and in the text of strings (StringTexts).
-- Where an item ends before the machine has ended it, that state is as good as the machine's own before the next byte (`GoAlike`,
-- Taking), so what holds of a step from the one holds from the other. What the scan says of a fault is what the machine's state says.
-- Characters of one piece, code of a field up to a sign, and simple text of a string, with whole fields, are taken at once (Runs). Simple
-- text leads the machine from one place of a string to another, whatever was open before (`Leads`, specs/Private/FieldText; Texts and
-- TextLengths). What is taken at once is told as a step is (`Takes`, specs/Private/Scan), and such steps are put together (Takes).
--
-- Pieces of code that are passed over from mark to mark (proofs/PassedPieces) are what the scan would take item by item. So plain bytes lead it
-- to a word, space or nothing that is open (FieldScans/PlainCode), and what stands at the mark is the next item. LF before it are passed by
-- their marks alone (LineFeeds), in brackets of a line, too (BracketFeeds).
--
-- The scan of logical lines (proofs/LineScan): what it has gone over of the line, the machine has (`IsUnderWay`, specs/Private/LineScan). The
-- machine is sound there, so where a line ends its pieces are those of the line (LineSteps). What is taken from where the scan stands is
-- taken in each line in which it stands so (Reaching, LineStops). After a line end the machine goes on as it does alone, so the next line is
-- scanned from its own start. Lines that were passed follow one another (WholeLines), also those of which each ends with one of many LF that are
-- passed at once (FeedLines). That such lines are the text's next is in Readers/PassedLines, and where it comes in pieces in Feeds/PassedLines.
--
-- The tokens of a whole line (proofs/LineTokens): they are read from its text alone, piece by piece, and so for all pieces
-- that the text spells. Each class of pieces begins with other bytes. A word, a space or a comment is the run of bytes that
-- the text begins with, since what follows it can't go on with it. A string is what the scan closes first (FirstString): by one
-- reading no other piece stands there. So what was read is always the first part of the line's pieces, and at the end all of them. A simple
-- line is read before its end is known: each of its pieces is the same wherever after it the line ends (Anyway). The indentation of a line,
-- and what it holds, are told by its first bytes, since it is one line (Outlines).
--
-- Bytes that open or close something (proofs/SpecialBytes), and LF, are found by masks of 64 bytes.
--
-- The reader (proofs/Readers) puts these together for one call: a line, a fault or the end. A line that is given without its tokens is the
-- outline of the line that it is with them (GivenLines).
--
-- Pieces (proofs/Feeds, over Lexings): from the state of the scan, the theorems over plain lists say which lines the
-- bytes fed settle, and whether they decide a fault. Of the bytes fed no more are taken than up to the line's end, so
-- a line is ready as soon as it is settled. A simple one is taken as any line, with its tokens (SimpleLines).
--
-- One reading (proofs/Fields): the machine with fields goes over a piece that is read, finds it, and may stop there. It is in one state
-- after a text, so where two pieces begin in one place it finds one alone, and they are the same. So of two lists of pieces one begins
-- with the other. An operator ends with its first character, whatever follows. What is open in a text is defined
-- (specs/OpenFields.antt); proofs/OpenFields shows it by rows.
--
-- Texts without a prefix of strings with fields before a quote (proofs/Elsewhere): the machine opens no string with fields in such a text, and
-- none in what closes all that is open. So the text is live with fields exactly if it is live without. Nothing that is open in it is a string with
-- fields, so its fault is the same, and its lexing.
--
-- proofs/Prelude has what the files use of the standard library, and of the definitions what many of them use, and each names in one line
-- what it needs of it. proofs/Text has characters, the bytes that spell them, and vectors of bytes (Lanes). Files named WorkedRows are rows
-- worked out by hand, which are proved of the definitions.
pub mod Prelude
pub mod Text
pub mod Pieces
pub mod Neighbours
pub mod Letters
pub mod WordBreaks
pub mod Fields
pub mod OpenFields
pub mod Machine
pub mod FieldMachine
pub mod FieldSoundness
pub mod FieldScans
pub mod Faults
pub mod LogicalLines
pub mod Lexings
pub mod Elsewhere
pub mod LineScan
pub mod LineTokens
pub mod SpecialBytes
pub mod PassedPieces
pub mod Readers
pub mod Feeds
