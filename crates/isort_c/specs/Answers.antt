-- Answers, and what a call leaves in the caller's buffer.
use Rattle.std.specs.Prelude.{◌≡◌, ◌⊎◌, ℕ, nat_le, if◌then◌else◌, List, ◌++◌, length, drop}
use Rattle.py_lines.specs.declared.fault.Fault.{Fault}
use Rattle.py_lines.specs.declared.fault.FaultKind.{FaultKind}
use Rattle.py_lines.specs.declared.fault.FaultKind.TheVariants as kind
use Rattle.isort_c.specs.declared.answer.Answer.{Answer}
use Rattle.isort_c.specs.declared.answer.TheConstants.{FAULT, MEMORY}

-- an answer with nothing but a status
abbrev pub plain_answer : ℕ → Answer
plain_answer status = record { status = status; label = 0; key = 0; section = 0; offset = 0; line = 0; size = 0 }

-- the number in the label of a fault: 1 of F1
abbrev pub fault_number : FaultKind → ℕ
fault_number kind.BadUtf8 = 1
fault_number kind.BadChar = 2
fault_number kind.OpenString = 3
fault_number kind.OpenTriple = 4
fault_number kind.WrongClose = 5
fault_number kind.OpenBracket = 6
fault_number kind.BadJoin = 7
fault_number kind.TooDeep = 8
fault_number kind.BadImport = 9
fault_number kind.OpenField = 10

-- the answer at a fault
abbrev pub fault_answer : Fault → Answer
fault_answer f = record (plain_answer FAULT) { label = fault_number f.kind; offset = f.offset; line = f.line }

-- this answer, unless memory ran out
abbrev pub IsUnlessMemory : Answer → Answer → Type 0
IsUnlessMemory wanted answer = (answer ≡ wanted) ⊎ (answer ≡ plain_answer MEMORY)

-- the buffer with these bytes at its beginning, where they fit
abbrev pub filled : List ℕ → List ℕ → List ℕ
filled bytes out = if nat_le (length bytes) (length out) then bytes ++ drop (length bytes) out else out
