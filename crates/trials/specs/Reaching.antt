-- Worked trials of loads and stores: their checks, and what is read back. Assumes nothing.
use Rattle.std.specs.Prelude.{List, [], ◌∷◌}
use Rattle.faults.specs.declared.cause.Cause.TheVariants.{NoSidecar, Ended, OutOfBounds, Uneven}
use Rattle.trials.specs.Rows.{Row}
use Rattle.trials.specs.Exchanges.{does, fails, number, address, highest, on_stack}
use Rattle.trials.specs.Steps.{negative, put, add, addi, load, store, loadb, storeb, global, grab, release}

-- of 16 bytes a word at 8 can be loaded, at 9 it ends outside (22), at 4 it is uneven (23); a word that is both gives 22;
-- a byte at 15 can be loaded, at 16 and at -1 it is outside
abbrev pub sixteen_loaded : Row
sixteen_loaded = on_stack highest
    (does (put 1 16) ∷ does (grab 2 1) ∷ does (load 3 2 8) ∷ fails (load 3 2 9) OutOfBounds ∷ fails (load 3 2 4) Uneven ∷ fails (load 3 2 12) OutOfBounds
    ∷ does (loadb 3 2 15) ∷ fails (loadb 3 2 16) OutOfBounds ∷ fails (negative (loadb 3 2 1)) OutOfBounds ∷ [])
    (address 2 1024 1024 1040 2 1 ∷ number 3 0 ∷ [])

-- the same of stores; what is refused is not written. The byte at 7 is the highest of the word at 0, which is 77 * 2 ^ 56
abbrev pub sixteen_stored : Row
sixteen_stored = on_stack highest
    (does (put 1 16) ∷ does (grab 2 1) ∷ does (put 3 77) ∷ does (store 2 3 8) ∷ fails (store 2 1 9) OutOfBounds ∷ fails (store 2 1 4) Uneven
    ∷ does (storeb 2 3 7) ∷ fails (storeb 2 3 16) OutOfBounds ∷ fails (negative (storeb 2 3 1)) OutOfBounds
    ∷ does (load 4 2 8) ∷ does (load 5 2 0) ∷ [])
    (number 4 77 ∷ number 5 5548434740920451072 ∷ [])

-- a grant ends after the bytes asked for, not after those held: 13 of 16
abbrev pub thirteen : Row
thirteen = on_stack highest
    (does (put 1 13) ∷ does (grab 2 1) ∷ does (loadb 3 2 12) ∷ fails (loadb 3 2 13) OutOfBounds ∷ does (load 3 2 0) ∷ fails (load 3 2 8) OutOfBounds
    ∷ does (grab 4 1) ∷ [])
    (address 2 1024 1024 1037 2 1 ∷ address 4 1040 1040 1053 3 2 ∷ [])

-- a plain number gives 20, whatever it is; an ended grant gives 21, be the byte inside or not
abbrev pub first_checks : Row
first_checks = on_stack highest
    (does (put 1 16) ∷ does (grab 2 1) ∷ does (put 3 1024) ∷ fails (load 4 3 0) NoSidecar ∷ fails (loadb 4 3 5) NoSidecar ∷ fails (store 3 1 0) NoSidecar
    ∷ does (release 2) ∷ fails (load 4 2 4) Ended ∷ fails (loadb 4 2 99) Ended ∷ fails (storeb 2 1 99) Ended ∷ [])
    (number 4 0 ∷ [])

-- the sum of an address and n wraps
abbrev pub round_the_end : Row
round_the_end = on_stack highest
    (does (put 1 16) ∷ does (grab 2 1) ∷ does (store 2 1 8) ∷ does (negative (addi 3 2 1032)) ∷ fails (load 4 3 0) OutOfBounds ∷ does (load 4 3 1040) ∷ [])
    (address 3 18446744073709551608 1024 1040 2 1 ∷ number 4 16 ∷ [])

-- the sum of an address whose grant has ended and a living one keeps the first one's sidecar, so it gives 21, though it points into the living grant;
-- the other way round it can be loaded from, and so can the sum of a plain number and a living one
abbrev pub ended_sum : Row
ended_sum = on_stack highest
    (does (put 1 16) ∷ does (grab 2 1) ∷ does (grab 3 1) ∷ does (release 2) ∷ does (negative (addi 4 2 1024))
    ∷ does (add 5 4 3) ∷ fails (loadb 6 5 0) Ended ∷ does (add 7 3 4) ∷ does (loadb 6 7 0)
    ∷ does (put 8 8) ∷ does (add 9 8 3) ∷ does (load 6 9 0) ∷ [])
    (address 4 0 1024 1040 2 1 ∷ address 5 1040 1024 1040 2 1 ∷ address 7 1040 1040 1056 3 2 ∷ address 9 1048 1040 1056 3 2 ∷ [])

-- a byte written over the third byte of a stored address changes the word and leaves the sidecar; a byte loaded has none.
-- The word is 1040 + 255 * 65536, and points outside
abbrev pub mixed_word : Row
mixed_word = on_stack highest
    (does (put 1 16) ∷ does (grab 2 1) ∷ does (grab 3 1) ∷ does (store 2 3 8) ∷ does (put 4 511) ∷ does (storeb 2 4 10)
    ∷ does (load 5 2 8) ∷ fails (loadb 6 5 0) OutOfBounds ∷ does (loadb 7 2 8) ∷ does (loadb 8 2 9) ∷ does (loadb 9 2 10) ∷ [])
    (address 5 16712720 1040 1056 3 2 ∷ number 6 0 ∷ number 7 16 ∷ number 8 4 ∷ number 9 255 ∷ [])

-- an address that was stored comes back with its sidecar and serves; a number stored over it comes back without
abbrev pub address_kept : Row
address_kept = on_stack highest
    (does (put 1 16) ∷ does (grab 2 1) ∷ does (grab 3 1) ∷ does (store 2 3 0) ∷ does (put 3 77) ∷ does (load 4 2 0) ∷ does (store 4 3 8)
    ∷ does (load 5 4 8) ∷ does (store 2 3 0) ∷ does (load 6 2 0) ∷ [])
    (address 4 1040 1040 1056 3 2 ∷ number 5 77 ∷ number 6 77 ∷ [])

-- a stored address whose grant has ended comes back with its sidecar, and gives 21
abbrev pub ended_kept : Row
ended_kept = on_stack highest
    (does (put 1 16) ∷ does (grab 2 1) ∷ does (grab 3 1) ∷ does (store 2 3 0) ∷ does (release 3) ∷ does (grab 3 1) ∷ does (load 4 2 0)
    ∷ fails (loadb 5 4 0) Ended ∷ does (loadb 5 3 0) ∷ [])
    (address 3 1040 1040 1056 4 2 ∷ address 4 1040 1040 1056 3 2 ∷ [])

-- a grab of bytes that were written and released reads zero, without sidecars
abbrev pub zero_again : Row
zero_again = on_stack highest
    (does (put 1 16) ∷ does (grab 2 1) ∷ does (negative (put 3 1)) ∷ does (store 2 3 0) ∷ does (store 2 2 8) ∷ does (release 2) ∷ does (grab 4 1)
    ∷ does (global 5 7) ∷ does (global 6 7) ∷ does (load 5 4 0) ∷ does (load 6 4 8) ∷ [])
    (number 3 18446744073709551615 ∷ address 4 1024 1024 1040 3 1 ∷ number 5 0 ∷ number 6 0 ∷ [])

-- the globals are 1,024 bytes, zero and without sidecars at first
abbrev pub global_bytes : Row
global_bytes = on_stack highest
    (does (global 1 1016) ∷ does (global 2 7) ∷ does (load 2 1 0) ∷ does (store 1 1 0) ∷ does (load 3 1 0) ∷ does (loadb 4 1 1) ∷ does (loadb 5 1 7)
    ∷ fails (loadb 5 1 8) OutOfBounds ∷ fails (load 5 1 8) OutOfBounds ∷ [])
    (address 1 1016 0 1024 1 0 ∷ number 2 0 ∷ address 3 1016 0 1024 1 0 ∷ number 4 3 ∷ number 5 0 ∷ [])

abbrev pub reaching : List Row
reaching = sixteen_loaded ∷ sixteen_stored ∷ thirteen ∷ first_checks ∷ round_the_end ∷ ended_sum ∷ mixed_word ∷ address_kept ∷ ended_kept ∷ zero_again ∷ global_bytes ∷ []
