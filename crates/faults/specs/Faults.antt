-- A refusal of a call: its cause, and the line that it names. Assumes nothing.
use Rattle.std.specs.Prelude.{ℕ, cond, List, ◌++◌, codes, decimal}
use Rattle.faults.specs.declared.cause.Cause.{Cause}
use Rattle.faults.specs.declared.fault.Fault.{Fault}
use Rattle.faults.specs.Causes.{number_of, part_of, has_line}
use Rattle.faults.specs.Parts.{name_of}

-- a cause met at a line: the line is 0 where the cause names none
abbrev pub fault_at : Cause → ℕ → Fault
fault_at c line = record { cause = c; line = cond (has_line c) line 0 }

-- a cause of the whole call, which names no line
abbrev pub whole_fault : Cause → Fault
whole_fault c = record { cause = c; line = 0 }

-- how a refusal is printed
abbrev pub shown_fault : Fault → List ℕ
shown_fault f = codes "fault " ++ (decimal (number_of f.cause) ++ (codes ", line " ++ (decimal f.line ++ (codes ", " ++ name_of (part_of f.cause)))))
