-- How the proof goes.
--
-- Each call makes one call of a library and turns what that answers into an `Answer`, so most goals hold by computing.
-- proofs/ReadingLemmas: what `from_pyproject` says of a text, as `reading`. proofs/AnswerLemmas: when memory runs out
-- while settings are read, every call may answer so. In the listing, the records are those of what the finder has
-- given so far (`HasListed` of proofs/FindLemmas); at the end and at the fault that is all that is found.
--
-- A handle owns memory by a raw pointer, which the borrow checker doesn't follow. So the five functions of src/parts.rt and
-- src/held.rt are proved by hand, in proofs/parts and proofs/held. Each is a walk of its code, statement by statement. A
-- handle with its pointer and its allocator owns what a box of them owns, as a box's proofs have it: so each walk takes what
-- it is handed as a box (`boxed` of proofs/HeldRows), goes through the moves or the call, and gives a box's ownership as that
-- of what it makes. All functions above these are proved as everything else.
mod AnswerLemmas
mod FindLemmas
mod HeldRows
mod KeyLemmas
mod ReadingLemmas
mod RecordLemmas
