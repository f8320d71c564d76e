-- How the proof goes.
--
-- The text (proofs/Documents): the contract of `toml` becomes `document_of`.
--
-- One key (proofs/Readings, Entries, Table): what a reader of value.rt answers is `read_value`, for a list entry by
-- entry, and taking it changes the field of this key alone.
--
-- All keys (proofs/Table, Refusals): after each key, those before it have their values, and none of them was refused. So
-- the loop ends with `values_in`, or with the refusal whose key comes first by its bytes.
--
-- Own sections (proofs/Names, OwnListsRead): what `sections` lists, name by name, and the lists, one after another.
--
-- What all settings keep (proofs/SectionOrders, EntriesAlone): in the order of a table each section stands once, and a
-- list that was read holds entries alone.
--
-- The list of keys (proofs/KeyLaws): it is complete and ascends.
--
-- Sections (proofs/Prefixes, Places, Indexes): the own lists come first, and their index gives the first that holds a
-- prefix. The first of all pairs of a prefix and a list is what prefix by prefix finds.
--
-- Lists of modules (proofs/ModuleLists): the standard library is sorted, so a binary search finds what it holds, and two
-- lists are compared place by place.
--
-- Orders (proofs/OrderParts, OrderRuns, OrderNumbers, OrderShared): the runs that the code splits off are the first parts
-- of the cut, of two numbers without leading zeros the longer one is greater, and what two texts begin with alike doesn't
-- count, if it cuts no number.
--
-- Total orders (proofs/OrderLaws, OrderThen): one order and then another is total if both are, and so the orders are
-- total. proofs/OrderRows has rows worked out by hand.
pub mod Documents
pub mod Indexes
pub mod KeyLaws
pub mod ModuleLists
pub mod Names
pub mod OrderLaws
pub mod OrderNumbers
pub mod OrderParts
pub mod OrderRows
pub mod OrderRuns
pub mod OrderShared
pub mod OrderThen
pub mod OwnListsRead
pub mod Places
pub mod Prefixes
pub mod Readings
pub mod Refusals
pub mod SectionOrders
pub mod Table
pub mod Entries
pub mod EntriesAlone
