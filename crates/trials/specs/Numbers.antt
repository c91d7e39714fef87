-- Worked trials of sums, products, quotients, comparisons and jumps. Assumes nothing.
use Rattle.std.specs.Prelude.{List, [], ◌∷◌}
use Rattle.faults.specs.declared.cause.Cause.TheVariants.{ZeroDivisor}
use Rattle.operations.specs.declared.step.Step.{Step}
use Rattle.model.specs.declared.outcome.Outcome.TheVariants.{Out}
use Rattle.trials.specs.Rows.{Row}
use Rattle.trials.specs.Exchanges.{does, fails, starts, runs, number, address, highest, on_stack}
use Rattle.trials.specs.Steps.{negative, program, stop, put, add, sub, addi, mul, div, less, jump, jzero, global, out}

-- with the largest word in register 1 and 2 in register 2: sum, differences and products wrap, the quotient and the comparisons are unsigned
abbrev pub wrapping : Row
wrapping = on_stack highest
    (does (negative (put 1 1)) ∷ does (put 2 2) ∷ does (add 3 1 2) ∷ does (sub 4 2 1) ∷ does (sub 5 1 2) ∷ does (mul 6 1 1) ∷ does (mul 7 1 2) ∷ does (div 8 1 2)
    ∷ does (less 9 2 1) ∷ does (less 10 1 2) ∷ does (less 11 2 2) ∷ does (negative (addi 12 2 3)) ∷ does (addi 13 1 9) ∷ [])
    (number 1 18446744073709551615 ∷ number 2 2 ∷ number 3 1 ∷ number 4 3 ∷ number 5 18446744073709551613 ∷ number 6 1 ∷ number 7 18446744073709551614
    ∷ number 8 9223372036854775807 ∷ number 9 1 ∷ number 10 0 ∷ number 11 0 ∷ number 12 18446744073709551615 ∷ number 13 8 ∷ [])

-- a quotient by 0 gives 28 and leaves the register
abbrev pub by_zero : Row
by_zero = on_stack highest
    (does (put 1 9) ∷ does (put 2 7) ∷ fails (div 2 1 3) ZeroDivisor ∷ does (div 4 3 1) ∷ [])
    (number 2 7 ∷ number 4 0 ∷ [])

-- a difference has the sidecar of the first, a product, a quotient and a comparison none
abbrev pub beside : Row
beside = on_stack highest
    (does (global 1 8) ∷ does (put 2 2) ∷ does (sub 3 1 2) ∷ does (global 4 7) ∷ does (sub 4 2 1) ∷ does (global 5 7) ∷ does (mul 5 1 2)
    ∷ does (global 6 7) ∷ does (div 6 1 2) ∷ does (global 7 7) ∷ does (less 7 1 2) ∷ does (global 8 7) ∷ does (add 8 2 2) ∷ [])
    (address 3 6 0 1024 1 0 ∷ number 4 18446744073709551610 ∷ number 5 16 ∷ number 6 4 ∷ number 7 0 ∷ number 8 4 ∷ [])

-- from a 0, jzero leads over; else the run comes on, makes it 0 and goes back
abbrev pub zero_or_not : List Step
zero_or_not = program (jzero 1 3 ∷ put 1 0 ∷ jzero 1 0 ∷ out 2 ∷ [])

abbrev pub jump_over : List Step
jump_over = program (jump 2 ∷ stop ∷ out 2 ∷ [])

abbrev pub jumping : Row
jumping = on_stack highest
    (does (put 2 4) ∷ starts zero_or_not 0 ∷ runs zero_or_not 9 2 0 (Out 4) ∷ does (put 1 6) ∷ starts zero_or_not 0 ∷ runs zero_or_not 9 5 0 (Out 4)
    ∷ starts jump_over 0 ∷ runs jump_over 9 2 0 (Out 4) ∷ [])
    (number 1 0 ∷ [])

abbrev pub counting : List Row
counting = wrapping ∷ by_zero ∷ beside ∷ jumping ∷ []
