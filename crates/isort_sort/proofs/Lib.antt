-- How the proof goes.
--
-- Definitions are sets and cuts. A statement's items are exactly those of the imports, in strictly ascending order. In
-- a cut each line of two or more items fits, and the next line's first item wouldn't. There is no map, no sort and no
-- room left on a line.
--
-- Orders (proofs/Orders: Statements, InOrder): the order of statements is total, and only equal ones are equal in it.
-- So there is one list in order.
--
-- Cuts (proofs/Layouts: OneCut, Lengths, Widths): items that fit without the last ones make one cut.
--
-- Reading (proofs/Rows, proofs/Readings): the rows so far are those of the lines read, and the finder is as far in
-- these. A line that is passed over has a row that changes nothing but the place (Readings/Passing), since a line that ends
-- before the next `import` and `from` holds neither (Rows/Markers), and a line without `isort:` says no action
-- (Rows/Silence). So it is with many lines that are passed over in one call (Readings/PassedLines). A row's text is what the line
-- has after a byte order mark, so that the mark and the rows' texts are the text (Rows/Texts).
--
-- Blocks (proofs/Finding: Steps, Rows): a finder holds the blocks that are settled, and one that may go on; it is seen as a
-- `Finding`, and its invariant is that no more blank lines are counted than there are bytes. Whatever
-- cut the rows to come have makes a cut of all. So at the end its blocks are those of a cut, which is the only one
-- (Finding/OneBlocks).
--
-- Grouping (proofs/Groups: Gathered, Seen, Brought, Grouped; proofs/Orders/Equality): the map has of each statement
-- what its imports bring, and that is what the definitions take. Sorting puts it in order (Orders/SortedVectors,
-- Groups/Ordered).
--
-- Layout (proofs/Layouts: Packing, Cuts, Writing, Pieces, LaidOut): packing from left to right is the cut, and
-- what is written one after another, statement by statement, is the layout.
--
-- One call: `find_blocks` answers the blocks of a cut (`IsFoundIn`), and `arrange` the layout of each (`IsArranged`), of which
-- `text_left` is what `push_next` still has to put.
-- What `Parts` has handed out is sorted whatever sorts the rest of the cut (`HasMade`; proofs/SortedTexts: Arranging,
-- Parts), and so the parts with the last of the text are the sorted text (SortedTexts/OfParts, Finding/Spans). A text is compared
-- piece by piece (`Takes`; SortedTexts/Comparing). Where
-- `sort_outcome` stops early, there is a sorted text that goes on from the parts so far, since each block has a layout.
--
-- Writers. The loop of write.rt counts interruptions in a row by `Metered`, so it ends whatever the writer does.
-- proofs/SortedTexts/Written: what was written and what is left are the bytes.
--
-- One sorted text (proofs/Rows: OneRows, SomeRows; proofs/Finding/SomeBlocks; proofs/SortedTexts: OneSorted,
-- SortedCuts): by the laws of one lexing, one list of bindings, one order and one cut, a text has one list of rows,
-- one cut at blocks, and one layout of each.
--
-- Laws on lines (proofs/LineLaws): the pieces of logical lines (Parts, OneLine, Units, Joined), their tokens (Tokens), what
-- stands after a byte order mark and indentation (Indented), what holds of each element of a list (Each), and the laws of the
-- crates below (Laws).
--
-- Written statements are read back (proofs/WrittenStatements). A layout's text is in the order of its pieces. A part is
-- pieces with the bytes that they spell, what they say to the import grammar, and their comments. A statement is put together
-- from its end, piece before piece: what follows a piece is a part, of one logical line, whose comment stands well and whose
-- first piece may touch it (Rests). Names are put before what may follow a name, on lines of any layout (NamesRests). So the
-- whole statement is a member that imports what it says (Lines, Remarks, Statements). What the statements of a block say comes
-- from its members (Sources, Written).
--
-- The lines of a text (proofs/WrittenLines). A text is its logical lines, each as its pieces, with a row that doesn't depend
-- on where the line stands (UnitRows, UnitBinds). A block that is written is lines too: comments above, statements, blank
-- lines (LineUnits, BlockUnits, Marked). The first line end of a sorted text is what it was (FirstEnds,
-- FirstCharacters).
--
-- Members (proofs/ReadMembers). The members of a block that is read say what its statements need (OldBlock, ReadComments,
-- Stripped, ReadImports, ReadMembers), and so its layout has no other line end in its first line (FirstLines). ReadBlocks says
-- what the members of each block of a text are.
--
-- Sorted texts stay (proofs/SortedAgain). Each block, put before the lines after it, is a block with the layout that it had
-- (WrittenBlocks), and so on through a text (Again). Last what the text begins with is looked at: another line
-- (SortedAgain), or a block, perhaps after a byte order mark (AtStart). Sorted has what all this rests on, from the laws.
-- Each block that is written keeps its layout beside the run that it is read as (WrittenBlocks, `read_back`), and so the
-- blocks are read back through the text.
--
-- Nothing else changes (proofs/SortedTexts/BlockSpans): the spans are those of the cut, and what a sorted text has
-- between layouts are the texts of the other rows.
pub mod Orders
pub mod Groups
pub mod Layouts
pub mod Rows
pub mod Finding
pub mod Readings
pub mod SortedTexts
pub mod LineLaws
pub mod WrittenStatements
pub mod WrittenLines
pub mod ReadMembers
pub mod SortedAgain
