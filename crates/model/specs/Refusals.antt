-- What a call that is refused answers and leaves, and what a start, a press and a fault do to counter and phase. Assumes nothing.
use Rattle.std.specs.Prelude.{◌≡◌, ℕ, ◌<◌, ◌≤◌, true, false, List, length, Some, None, Ok, Err}
use Rattle.faults.specs.declared.cause.Cause.{Cause}
use Rattle.faults.specs.declared.cause.Cause.TheVariants.{NotGoing, NotForPress, BadPress, BadEntry}
use Rattle.faults.specs.Faults.{fault_at, whole_fault}
use Rattle.operations.specs.declared.operation.Operation.{Operation}
use Rattle.operations.specs.declared.step.Step.{Step}
use Rattle.operations.specs.Records.{step_of}
use Rattle.model.specs.declared.answer.Answer.TheVariants.{Started, Ran}
use Rattle.model.specs.declared.refusal.Refusal.TheVariants.{Plain, InRun}
use Rattle.model.specs.declared.outcome.Outcome.TheVariants.{End}
use Rattle.model.specs.declared.phase.Phase.{Phase}
use Rattle.model.specs.declared.phase.Phase.TheVariants.{Idle, Going, Halted}
use Rattle.model.specs.Sheet.{Player}
use Rattle.model.specs.Driving.{Driven, Reply, Turn, start, run, press, handle, barred, run_fault}

-- the phase that a run which was going leaves, by its answer: a fault halts, a stop makes idle, else it is going
abbrev pub phase_after : Reply → Phase
phase_after (Err (InRun f)) = Halted
phase_after (Ok (Ran n e End)) = Idle
phase_after _ = Going

module _ {M : Type 0} (X : Player M) (s : Driven M) where
  -- answered so, and all left as it was
  abbrev pub Keeping : Turn M → Reply → Type 0
  Keeping t r = (t.answer ≡ r) × (t.after ≡ s)

  pub record Refuses : Type 0 where
    -- 34: a start outside the program; any other begins, in whatever phase, with all frames closed
    pub entry : (os : List Step) (x : ℕ) → length os ≤ x → Keeping (handle X (start os x) s) (Err (Plain (whole_fault BadEntry)))
    pub begins : (os : List Step) (x : ℕ) → x < length os → handle X (start os x) s ≡ record { answer = Ok Started; after = record { counter = x; phase = Going; player = X.close s.player } }
    -- 30: a run that is not going, whatever its budget
    pub idle : (os : List Step) (k : ℕ) → s.phase ≡ Idle → Keeping (handle X (run os k) s) (run_fault NotGoing 0 0 0)
    pub halted : (os : List Step) (k : ℕ) → s.phase ≡ Halted → Keeping (handle X (run os k) s) (run_fault NotGoing 0 0 0)
    pub phases : (os : List Step) (k : ℕ) → s.phase ≡ Going → (handle X (run os k) s).after.phase ≡ phase_after (handle X (run os k) s).answer
    -- 32, before 31: a pressed record that is no step, and a step that the host may not press
    pub records : (r : Operation) → step_of r ≡ None → Keeping (handle X (press r) s) (Err (Plain (fault_at BadPress r.line)))
    pub bars : (r : Operation) (o : Step) → step_of r ≡ Some o → barred o.code ≡ true → Keeping (handle X (press r) s) (Err (Plain (fault_at NotForPress o.line)))
    -- a press moves neither counter nor phase, and a fault of its step is told by the record's line
    pub counter : (r : Operation) → (handle X (press r) s).after.counter ≡ s.counter
    pub phase : (r : Operation) → (handle X (press r) s).after.phase ≡ s.phase
    pub presses : (r : Operation) (o : Step) → step_of r ≡ Some o → barred o.code ≡ false → (handle X (press r) s).after.player ≡ (X.act s.counter o s.player).after
    pub faults : (r : Operation) (o : Step) (c : Cause) → step_of r ≡ Some o → barred o.code ≡ false → (X.act s.counter o s.player).way ≡ Err c → (handle X (press r) s).answer ≡ Err (Plain (fault_at c o.line))
