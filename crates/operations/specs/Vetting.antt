-- Vetting as a function: what it answers to a list of records. Assumes nothing.
use Rattle.std.specs.Prelude.{ℕ, cond, List, [], ◌∷◌, ◌++◌, length, Some, None, Ok, Err, Option, Result, ◌==◌, nat_lt}
use Rattle.faults.specs.declared.cause.Cause.TheVariants.{NoOperation, NoRoom, BadRecord, BadTarget}
use Rattle.faults.specs.declared.fault.Fault.{Fault}
use Rattle.faults.specs.Faults.{fault_at, whole_fault}
use Rattle.operations.specs.declared.operation.Operation.{Operation}
use Rattle.operations.specs.declared.step.Step.{Step}
use Rattle.operations.specs.Records.{step_of}
use Rattle.operations.specs.Sound.{target_fits}

-- one record of so many: code and fields first, then the target
abbrev pub vet_step : ℕ → ℕ → Option Step → Result Step Fault
vet_step count line None = Err (fault_at BadRecord line)
vet_step count line (Some s) = cond (target_fits count s.code s.n) (Ok s) (Err (fault_at BadTarget line))

abbrev pub vet_record : ℕ → Operation → Result Step Fault
vet_record count o = vet_step count o.line (step_of o)

-- the records after those that gave the steps done
abbrev pub vet_on : ℕ → List Step → List Operation → Result (List Step) Fault
vet_on count done [] = Ok done
vet_on count done (o ∷ os) = elim (vet_record count o) [ Ok s ↦ vet_on count (done ++ s ∷ []) os | Err f ↦ Err f ]

-- the steps of the program, or the first refusal
abbrev pub vetting : List Operation → Result (List Step) Fault
vetting ops =
    cond (length ops == 0) (Err (whole_fault NoOperation))
    (cond (nat_lt 512 (length ops)) (Err (whole_fault NoRoom))
    (vet_on (length ops) [] ops))
