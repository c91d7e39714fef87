-- The law of vetting. Assumes nothing.
use Rattle.std.specs.Prelude.{◌≡◌, ℕ, ◌<◌, ◌≤◌, Bool, true, false, ◌⊎◌, List, map, length, ℤ, pos, Ok, Err, Result, slice_index_or}
use Rattle.faults.specs.declared.cause.Cause.TheVariants.{NoOperation, NoRoom, BadRecord, BadTarget}
use Rattle.faults.specs.declared.fault.Fault.{Fault}
use Rattle.faults.specs.Faults.{fault_at, whole_fault}
use Rattle.operations.specs.declared.code.Code.{Code}
use Rattle.operations.specs.declared.operation.Operation.{Operation}
use Rattle.operations.specs.declared.step.Step.{Step}
use Rattle.operations.specs.Records.{plain}
use Rattle.operations.specs.Sound.{leads}
use Rattle.operations.specs.Table.{row, number_of}

-- a register field as the table wants it: 0 to 15, or 0 where it is not used
abbrev pub Field : Bool → ℕ → Type 0
Field true r = r ≤ 15
Field false r = r ≡ 0

abbrev pub Number : Bool → ℤ → Type 0
Number true n = Unit {0}
Number false n = n ≡ pos 0

-- a record in order: some operation's number, and fields as that operation uses them
pub record Orderly (o : Operation) (c : Code) : Type 0 where
  pub code : o.code ≡ number_of c
  pub d : Field (row c).uses.d o.d
  pub a : Field (row c).uses.a o.a
  pub b : Field (row c).uses.b o.b
  pub n : Number (row c).uses.n o.n

-- a record that goes nowhere, or to a position of a program of so many
abbrev pub Within : ℕ → Operation → Code → Type 0
Within count o c = leads c ≡ true → (v : ℕ) × (o.n ≡ pos v) × (v < count)

-- a record that may stand in a program of so many
abbrev pub Fit : ℕ → Operation → Type 0
Fit count o = (c : Code) × Orderly o c × Within count o c

-- records that make a program
pub record Whole (ops : List Operation) : Type 0 where
  pub some : 0 < length ops
  pub few : length ops ≤ 512
  pub each : (k : ℕ) (d : Operation) → k < length ops → Fit (length ops) (slice_index_or ops k d)

-- the first record that does not fit, and the check that it fails: code and fields before the target
pub record Unfit (ops : List Operation) (f : Fault) : Type 0 where
  pub at : ℕ
  pub here : at < length ops
  pub earlier : (k : ℕ) (d : Operation) → k < at → Fit (length ops) (slice_index_or ops k d)
  pub fails : (d : Operation) →
      ((((c : Code) → Orderly (slice_index_or ops at d) c → ⊥) × (f ≡ fault_at BadRecord (slice_index_or ops at d).line))
      ⊎ ((c : Code) × Orderly (slice_index_or ops at d) c × (Within (length ops) (slice_index_or ops at d) c → ⊥) × (f ≡ fault_at BadTarget (slice_index_or ops at d).line)))

-- the law of vetting: records that make a program are its steps; else the first check that fails is told
abbrev pub Vetted : List Operation → Result (List Step) Fault → Type 0
Vetted ops (Ok steps) = Whole ops × (map plain steps ≡ ops)
Vetted ops (Err f) =
    ((length ops ≡ 0) × (f ≡ whole_fault NoOperation))
    ⊎ (((512 < length ops) × (f ≡ whole_fault NoRoom))
    ⊎ ((0 < length ops) × (length ops ≤ 512) × Unfit ops f))
