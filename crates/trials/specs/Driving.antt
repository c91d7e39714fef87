-- Worked trials of start, run and press. Assumes nothing.
use Rattle.std.specs.Prelude.{List, [], ◌∷◌, Err, pos}
use Rattle.faults.specs.declared.cause.Cause.TheVariants.{NoSidecar, ZeroDivisor, OffProgram, NotGoing, NotForPress, BadPress}
use Rattle.operations.specs.declared.code.Code.TheVariants.{Stop, Set}
use Rattle.operations.specs.declared.operation.Operation.{Operation}
use Rattle.operations.specs.declared.step.Step.{Step}
use Rattle.model.specs.declared.outcome.Outcome.TheVariants.{Spent, Out, End}
use Rattle.model.specs.declared.refusal.Refusal.TheVariants.{Plain}
use Rattle.model.specs.Driving.{press}
use Rattle.trials.specs.Rows.{Row}
use Rattle.trials.specs.Exchanges.{says, does, gives, fails, starts, no_entry, runs, halts, number, highest, on_stack}
use Rattle.trials.specs.Steps.{step_with, line, program, stop, put, div, load, jump, jzero, call, ret, out}

-- a run is refused (30) before the first start; a budget of 0 is spent at once, also behind the last step; one more step there gives 29,
-- with the counts so far, and from then on 30 until the next start
abbrev pub one_step : List Step
one_step = program (put 1 5 ∷ [])

abbrev pub spent : Row
spent = on_stack highest
    (halts one_step 9 0 0 NotGoing 0 ∷ starts one_step 0 ∷ runs one_step 0 0 0 Spent ∷ runs one_step 1 1 0 Spent ∷ runs one_step 0 0 0 Spent
    ∷ halts one_step 1 0 0 OffProgram 0 ∷ halts one_step 1 0 0 NotGoing 0 ∷ halts one_step 0 0 0 NotGoing 0
    ∷ starts one_step 0 ∷ halts one_step 2 1 0 OffProgram 0 ∷ [])
    (number 1 5 ∷ [])

-- out and stop answer so also as the last of the budget; an out leaves the run going, a stop makes it idle
abbrev pub out_then_stop : List Step
out_then_stop = program (put 1 5 ∷ out 1 ∷ stop ∷ [])

abbrev pub last_of_budget : Row
last_of_budget = on_stack highest
    (starts out_then_stop 0 ∷ runs out_then_stop 2 2 0 (Out 5) ∷ runs out_then_stop 1 1 0 End ∷ halts out_then_stop 9 0 0 NotGoing 0
    ∷ starts out_then_stop 1 ∷ runs out_then_stop 9 1 0 (Out 5) ∷ runs out_then_stop 9 1 0 End ∷ [])
    (number 1 5 ∷ [])

-- a start outside the program gives 34, and leaves what was going, idle or halted
abbrev pub bad_entry : Row
bad_entry = on_stack highest
    (no_entry out_then_stop 3 ∷ halts out_then_stop 9 0 0 NotGoing 0 ∷ starts out_then_stop 0 ∷ runs out_then_stop 1 1 0 Spent
    ∷ no_entry out_then_stop 3 ∷ runs out_then_stop 9 1 0 (Out 5) ∷ runs out_then_stop 9 1 0 End ∷ no_entry out_then_stop 9 ∷ halts out_then_stop 9 0 0 NotGoing 0 ∷ [])
    (number 1 5 ∷ [])

-- run takes its steps from the program that it brings, at the position where the last one ended
abbrev pub other : List Step
other = program (stop ∷ stop ∷ put 1 6 ∷ out 1 ∷ [])

abbrev pub other_program : Row
other_program = on_stack highest
    (starts out_then_stop 0 ∷ runs out_then_stop 2 2 0 (Out 5) ∷ runs other 9 2 0 (Out 6) ∷ halts out_then_stop 9 0 0 OffProgram 0 ∷ [])
    (number 1 6 ∷ [])

-- a fault in a run halts it; presses are still done then, and their faults halt nothing
abbrev pub faulty : List Step
faulty = program (put 1 5 ∷ div 1 1 2 ∷ out 1 ∷ [])

abbrev pub halted : Row
halted = on_stack highest
    (starts faulty 0 ∷ halts faulty 9 1 0 ZeroDivisor 3 ∷ gives (out 1) 5 ∷ does (put 2 1) ∷ halts faulty 9 0 0 NotGoing 0
    ∷ starts faulty 1 ∷ fails (line 12 (load 3 1 0)) NoSidecar ∷ runs faulty 9 2 0 (Out 5) ∷ [])
    (number 1 5 ∷ number 2 1 ∷ number 3 0 ∷ [])

-- a press moves neither counter nor state
abbrev pub pressing : Row
pressing = on_stack highest
    (gives (out 1) 0 ∷ halts out_then_stop 9 0 0 NotGoing 0 ∷ starts out_then_stop 0 ∷ gives (out 1) 0 ∷ does (put 2 6) ∷ gives (out 2) 6
    ∷ runs out_then_stop 9 2 0 (Out 5) ∷ [])
    (number 1 5 ∷ number 2 6 ∷ [])

-- what the host may not press gives 31; a record of an unknown code, with a register above 15 or with an unused field filled gives 32, and that before 31;
-- each with the record's line
abbrev pub unknown : Operation
unknown = record { code = 99; d = 0; a = 0; b = 0; n = pos 0; line = 7 }

abbrev pub not_pressed : Row
not_pressed = on_stack highest
    (fails (line 8 stop) NotForPress ∷ fails (jump 0) NotForPress ∷ fails (jzero 1 0) NotForPress ∷ fails (call 0) NotForPress ∷ fails (line 3 ret) NotForPress
    ∷ says (press unknown) (Err (Plain (record { cause = BadPress; line = 7 }))) ∷ fails (line 9 (step_with Stop 1 0 0 0)) BadPress
    ∷ fails (put 16 5) BadPress ∷ fails (step_with Set 1 1 0 5) BadPress ∷ does (put 15 5) ∷ [])
    (number 1 0 ∷ number 15 5 ∷ [])

abbrev pub driving : List Row
driving = spent ∷ last_of_budget ∷ bad_entry ∷ other_program ∷ halted ∷ pressing ∷ not_pressed ∷ []
