-- What a module's text says: its steps, or why it is refused. Assumes nothing.
use Rattle.std.specs.Prelude.{ℕ, List, Some, None, Err, Option, Result}
use Rattle.faults.specs.declared.fault.Fault.{Fault}
use Rattle.operations.specs.declared.operation.Operation.{Operation}
use Rattle.operations.specs.declared.step.Step.{Step}
use Rattle.operations.specs.Vetting.{vetting}
use Rattle.form.specs.Reading.{reading}

-- the records that were read are vetted, unless reading is refused
abbrev pub vet_read : List Operation → Option Fault → Result (List Step) Fault
vet_read done None = vetting done
vet_read done (Some f) = Err f

-- a text, read with room for so many records
abbrev pub module_in : List ℕ → ℕ → Result (List Step) Fault
module_in text room = vet_read (reading text room).done (reading text room).found
