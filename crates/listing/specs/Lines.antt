-- The lines that are printed, as bytes. Assumes nothing.
use Rattle.std.specs.Prelude.{ℕ, cond, List, ◌++◌, codes, decimal, ◌==◌}
use Rattle.operations.specs.declared.step.Step.{Step}
use Rattle.operations.specs.Listing.{listed}

-- what so many operations are called
abbrev pub unit_of : ℕ → List ℕ
unit_of count = cond (count == 1) (codes "operation") (codes "operations")

-- an operation: its position, the line of the text, and the step
abbrev pub step_line : ℕ → Step → List ℕ
step_line position step = codes "  " ++ (decimal position ++ (codes ": line " ++ (decimal step.line ++ (codes ": " ++ listed step))))

-- the head of a module's listing
abbrev pub summary_line : List ℕ → ℕ → List ℕ
summary_line name count = name ++ (codes ": " ++ (decimal count ++ (codes " " ++ unit_of count)))
