-- The label and the words that tell of each fault.
use Rattle.std.specs.Prelude.{ℕ, List, codes}
use Rattle.py_lines.specs.declared.fault.FaultKind.{FaultKind}
use Rattle.py_lines.specs.declared.fault.FaultKind.TheVariants.{BadUtf8, BadChar, OpenString, OpenTriple, WrongClose, OpenBracket, BadJoin, TooDeep, BadImport, OpenField}

-- the label and the words of a fault
abbrev pub fault_words : FaultKind → List ℕ
fault_words BadUtf8 = codes "F1 not UTF-8"
fault_words BadChar = codes "F2 unexpected character"
fault_words OpenString = codes "F3 string not closed"
fault_words OpenTriple = codes "F4 triple-quoted string not closed"
fault_words WrongClose = codes "F5 closing bracket without its opening"
fault_words OpenBracket = codes "F6 bracket not closed"
fault_words BadJoin = codes "F7 backslash not before a line end"
fault_words TooDeep = codes "F8 more than 200 brackets open"
fault_words BadImport = codes "F9 import statement not understood"
fault_words OpenField = codes "F10 field not closed"
