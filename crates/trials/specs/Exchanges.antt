-- Calls with their answers, registers and rows, written as one would say them. Assumes nothing.
use Rattle.std.specs.Prelude.{ℕ, ◌-◌, ◌^◌, List, [], Some, None, Ok, Err}
use Rattle.faults.specs.declared.cause.Cause.{Cause}
use Rattle.faults.specs.declared.cause.Cause.TheVariants.{BadEntry}
use Rattle.operations.specs.declared.step.Step.{Step}
use Rattle.operations.specs.Records.{plain}
use Rattle.heaps.specs.Rule.{HeapRule}
use Rattle.racks.specs.Rule.{RackRule}
use Rattle.best_fit.specs.Rule.{best_fit_rule, cleared}
use Rattle.slots.specs.Rule.{slots_rule, cleared as cleared_slots}
use Rattle.quarantine.specs.Rule.{quarantine_rule, quarantined}
use Rattle.racks.specs.Row.{stack_rule, ring_rule, fresh_row}
use Rattle.model.specs.declared.sidecar.Sidecar.{Sidecar}
use Rattle.model.specs.declared.outcome.Outcome.{Outcome}
use Rattle.model.specs.declared.answer.Answer.TheVariants.{Started, Ran, Pressed}
use Rattle.model.specs.declared.refusal.Refusal.TheVariants.{Plain, InRun}
use Rattle.model.specs.Driving.{HostCall, Reply, start, run, press}
use Rattle.trials.specs.Rows.{Row, Register, Exchange}

-- a call that is answered so
abbrev pub says : HostCall → Reply → Exchange
says q r = record { call = q; answer = r }

-- the press of a step's record: it is done, or hands out a value, or is refused at its line
abbrev pub does : Step → Exchange
does s = says (press (plain s)) (Ok (Pressed None))

abbrev pub gives : Step → ℕ → Exchange
gives s v = says (press (plain s)) (Ok (Pressed (Some v)))

abbrev pub fails : Step → Cause → Exchange
fails s f = says (press (plain s)) (Err (Plain (record { cause = f; line = s.line })))

-- a start at an entry, and one that is refused for it
abbrev pub starts : List Step → ℕ → Exchange
starts os x = says (start os x) (Ok Started)

abbrev pub no_entry : List Step → ℕ → Exchange
no_entry os x = says (start os x) (Err (Plain (record { cause = BadEntry; line = 0 })))

-- a run with a budget: so many steps are done, with this extra, and an outcome, or a fault at a line
abbrev pub runs : List Step → ℕ → ℕ → ℕ → Outcome → Exchange
runs os k n e o = says (run os k) (Ok (Ran n e o))

abbrev pub halts : List Step → ℕ → ℕ → ℕ → Cause → ℕ → Exchange
halts os k n e f l = says (run os k) (Err (InRun (record { fault = record { cause = f; line = l }; done = n; extra = e })))

-- a register with a plain number
abbrev pub number : ℕ → ℕ → Register Sidecar
number i w = record { number = i; word = w; beside = None }

-- a register with an address: its word, then base, bound, key and place of its sidecar
abbrev pub address : ℕ → ℕ → ℕ → ℕ → ℕ → ℕ → Register Sidecar
address i w lo hi k p = record { number = i; word = w; beside = Some (record { base = lo; bound = hi; key = k; place = p }) }

-- the highest ceiling
abbrev pub highest : ℕ
highest = 2 ^ 64 - 1

-- a row over a heap and a rack, each in a state before making, and a ceiling of the keys
abbrev pub row_over : (H : HeapRule) → H.State → (R : RackRule) → R.State → ℕ → List Exchange → List (Register Sidecar) → Row
row_over H h R r top xs rs = record { heap = H; rack = R; heap_before = h; rack_before = r; ceiling = top; exchanges = xs; registers = rs }

-- rows over best-fit and the stack rack, over best-fit and the ring rack, over slots, and over a quarantine on best-fit
abbrev pub on_stack : ℕ → List Exchange → List (Register Sidecar) → Row
on_stack = row_over best_fit_rule cleared stack_rule fresh_row

abbrev pub on_ring : ℕ → List Exchange → List (Register Sidecar) → Row
on_ring = row_over best_fit_rule cleared ring_rule fresh_row

abbrev pub on_slots : ℕ → List Exchange → List (Register Sidecar) → Row
on_slots = row_over slots_rule cleared_slots stack_rule fresh_row

abbrev pub on_quarantine : ℕ → List Exchange → List (Register Sidecar) → Row
on_quarantine = row_over (quarantine_rule best_fit_rule) (quarantined cleared []) stack_rule fresh_row
