-- How the proof goes.
--
-- Definitions look at the whole text. `IsFound` lexes all of it, cuts the lines at the first that ends the top, and
-- filters over all bindings. There is no set, no queue and no cursor.
--
-- Lines are those of the text (proofs/Finds/NextLines, over the laws of py_lines and py_imports): what a reader has given
-- begins the lexing of the text, which has one list of lines; and a line binds one list, or is bad.
--
-- The first under each key (proofs/Keys): the bindings given have exactly the keys that all
-- bindings looked at have. So to ask for a key given is to ask all bindings before, and dropping one changes nothing. The code
-- has the keys in the order of their texts, each with its place in the order in which they came (Keys/Places).
--
-- A walker goes through the lines (proofs/Walks), for a finder over a whole text and for one over pieces. Inside a line some
-- of its bindings were looked at, the rest is in the queue, and the cursor counts up to the one that was given last. The
-- next line adds its bindings, ends the top, or is bad; or the text ends, or has its lexical fault. Each of these is said
-- of the text by itself. A finder that goes on from a cursor is between lines, with some bindings of the next line looked
-- at before.
--
-- Places (proofs/Finds/LinePlaces): logical lines that were given have as many bytes as their reader's place says, so the
-- cursor's offset is where its line begins.
--
-- What was given (proofs/Finds/Beginnings, OneFound): each logical line binds or is bad, and not both, and the first bad one
-- stands at one place. So for every text one list is found, with one end or fault, and what a finder has given is its
-- beginning.
--
-- What is settled (proofs/Finds/SettledFound, SettledGrowing, over the law `settled_is_final` of py_lines): what is found in
-- settled lines begins what is found in each text that goes on so, and more bytes only add to it. A bad line among them
-- decides its fault.
--
-- A finder over a whole text (proofs/Wholes) hands its walker the lines that a reader gives. What the loop of `next_import`
-- goes through keeps the bindings given, and `left_of` falls with each line that is read and each binding that is given.
--
-- A finder over pieces (proofs/Fed) says everything of every text that goes on from the bytes fed, so no proof divides a
-- text. Where it stands says what it has found (`HasReachedIn`). It lets a line go (LetGo), passes over lines that bind nothing
-- (PassedLines), tries the next one (TriedLines), takes bytes up to a line's end (OneLine), where a line in which neither `import`
-- nor `from` stands is let go at once (LineAtOnce), and line by line (MoreLines) a whole piece (WholePiece). Asked for what is ready
-- it gives a binding (Ready) or none (NoneReady). Where nothing is ready, all that is settled was given and no fault is decided
-- (Settled), and the rest is held (Held).
pub mod Keys
pub mod Finds
pub mod Walks
pub mod Wholes
pub mod Fed
