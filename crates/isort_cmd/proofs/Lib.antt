-- How the proof goes.
--
-- The command line. Each option that is added to the parser adds one rule to what it reads (proofs/OptionLemmas), so
-- the parser reads as `isort_app`. This is a simple command, by computing (proofs/ParseLemmas), so the contract of
-- `try_get_matches_from` is exact. proofs/MatchLemmas: what the getters answer, by the rows of the matches.
--
-- Lines (proofs/PrintedLemmas): the lines of some bindings and then of others are those of all.
--
-- The listing. After each import the lines of all bindings that the finder has given were written, of every text that
-- begins with the bytes fed (`GivenAreListed` of specs/Private/Steps.antt; proofs/ListingLemmas). Where a chunk was taken, that is
-- all that these bytes settle, and they decide no fault (`HasListedSettled`; proofs/ChunkLemmas, AmidLemmas, ReadLemmas). The
-- contracts of `feed`, `next_ready` and `finish` turn the end and the fault into `IsFound` (proofs/EndLemmas,
-- IdentifyLemmas). If a write fails or memory runs out, the laws of isort_find make what was written a prefix of the
-- lines of all that is found. Each call of `Listing` has one clause, a word matched on its answer; proofs/StageLemmas
-- has a lemma for each exit.
--
-- Readers and writers. The loops of read.rt and flush.rt count interruptions in a row by `Metered`, so each ends
-- whatever the reader or writer does.
pub mod PrintedLemmas
pub mod ListingLemmas
pub mod ChunkLemmas
pub mod InputLemmas
pub mod ReadLemmas
pub mod EndLemmas
pub mod StageLemmas
pub mod AmidLemmas
pub mod IdentifyLemmas
pub mod MatchLemmas
pub mod OptionLemmas
pub mod ParseLemmas
pub mod CommandRows
