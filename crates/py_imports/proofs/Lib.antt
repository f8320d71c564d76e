-- How the proof goes.
--
-- Definitions look at whole lists. An import statement is a relation by cases between terminals and what they bind:
-- lists are cut at commas, modules at dots. The starts are a filter over all places of the line, by the tokens before
-- each, and a statement has the tokens before the first place with a `;` at depth 0. There is no flag, and nothing is
-- read.
--
-- Tokens (proofs/TokenLemmas): the terminals that are left after a place, with comments passed over.
--
-- Reading is the grammar (proofs/ModuleLemmas, ItemLemmas): Parsing reads a module or an item as long as can be. What
-- it reads is one by the grammar, and one by the grammar is read whole if nothing after it belongs to it. So there is
-- one way to cut.
--
-- Loops (proofs/ReadingLemmas, ListLemmas): what was read so far of a module, and how a list goes on after its first
-- item. If the next item isn't read, or neither a comma nor the end follows it, there is no list at all.
--
-- What is imported (proofs/NamesLemmas): names, names in brackets or `*`, by the first terminal.
--
-- One statement (proofs/StatementLemmas, ReaderLemmas): the items that `ImportItems` gives, one after another, are
-- `IsImport`, or no list is.
--
-- Its end (proofs/EndLemmas): going on token by token with the depth, one comes to the first place that has a `;` at
-- depth 0.
--
-- Shapes (proofs/ShapeLemmas, ActionLemmas, SortableLemmas): a loop over tokens or bytes has seen all places up to its
-- own. A line that binds a list is in the grammar where it is one import statement, so only its other tests are made.
-- proofs/ShapeRows has rows worked out by hand.
--
-- One logical line (proofs/BindingLemmas): after each token, what starts before it was bound, and the depth and the
-- flag for a start are those of the tokens before.
--
-- A line without an import (proofs/FirstWordLemmas): where no token is spelled `import` or `from`, no statement is an
-- import statement, and the line binds nothing.
--
-- Lines in which no import statement may begin, by their bytes (proofs/QuietLines): their pieces are gone through. Before a
-- token at which a statement starts stand the line's first byte, a join, a line end, `;` or `:`, and then only spaces, since
-- a comment goes to the line's end. So a statement may begin at its byte (proofs/BytePlaces), and neither word stands there.
-- The search for such bytes looks where the first two letters of a word stand (proofs/WordPlaces), which it finds in 64 bytes
-- at once (proofs/WordLanes).
--
-- Laws (proofs/OneListLemmas, DecidingLemmas, OneFaultLemmas): a statement binds one list. Parsing decides of every
-- statement whether the grammar has it, so each logical line binds a list or has a fault. Two ways to find a first bad
-- statement are one, so it has one fault, and then binds nothing.
pub mod TokenLemmas
pub mod ModuleLemmas
pub mod ItemLemmas
pub mod ReadingLemmas
pub mod ListLemmas
pub mod NamesLemmas
pub mod BindingLemmas
pub mod StatementLemmas
pub mod FirstWordLemmas
pub mod WordLanes
pub mod WordPlaces
pub mod BytePlaces
pub mod QuietLines
pub mod PassedLines
pub mod EndLemmas
pub mod OneListLemmas
pub mod DecidingLemmas
pub mod OneFaultLemmas
pub mod ReaderLemmas
pub mod ActionLemmas
pub mod JoinedTexts
pub mod OneStatement
pub mod Names
pub mod ImportedNames
pub mod ShapeLemmas
pub mod ShapeRows
pub mod SortableLemmas
