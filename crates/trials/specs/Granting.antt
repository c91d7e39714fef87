-- Worked trials of grab and release: addresses, lock places and keys. Assumes nothing.
use Rattle.std.specs.Prelude.{List, [], ◌∷◌}
use Rattle.faults.specs.declared.cause.Cause.TheVariants.{NoSidecar, Ended, OutOfBounds, NotFromHeap, NoKey, NotGoing}
use Rattle.operations.specs.declared.step.Step.{Step}
use Rattle.model.specs.declared.outcome.Outcome.TheVariants.{Spent, Out}
use Rattle.trials.specs.Rows.{Row}
use Rattle.trials.specs.Exchanges.{does, fails, starts, runs, halts, number, address, highest, on_stack, on_ring, on_slots, on_quarantine}
use Rattle.trials.specs.Steps.{program, put, copy, addi, loadb, jump, call, frame, global, grab, release, out}

-- 16 bytes are grabbed, released and grabbed again: address and place come again, under the next key,
-- and the old address, kept in another register, is refused with 21
abbrev pub grabbed_again : Row
grabbed_again = on_stack highest
    (does (put 1 16) ∷ does (grab 2 1) ∷ does (copy 3 2) ∷ does (release 2) ∷ does (grab 4 1)
    ∷ fails (loadb 5 3 0) Ended ∷ does (loadb 5 4 0) ∷ [])
    (address 2 1024 1024 1040 2 1 ∷ address 3 1024 1024 1040 2 1 ∷ address 4 1024 1024 1040 3 1 ∷ [])

-- the stack rack draws the place that came back last, the heap the lowest of equal gaps: here they part
abbrev pub last_back_first : Row
last_back_first = on_stack highest
    (does (put 1 16) ∷ does (grab 2 1) ∷ does (grab 3 1) ∷ does (release 2) ∷ does (release 3) ∷ does (grab 4 1) ∷ does (grab 5 1) ∷ [])
    (address 2 1024 1024 1040 2 1 ∷ address 3 1040 1040 1056 3 2 ∷ address 4 1024 1024 1040 4 2 ∷ address 5 1040 1040 1056 5 1 ∷ [])

-- the ring rack draws the next place, though the address comes again
abbrev pub longest_back_first : Row
longest_back_first = on_ring highest
    (does (put 1 16) ∷ does (grab 2 1) ∷ does (release 2) ∷ does (grab 3 1) ∷ fails (loadb 4 2 0) Ended ∷ does (loadb 4 3 0) ∷ [])
    (address 2 1024 1024 1040 2 1 ∷ address 3 1024 1024 1040 3 2 ∷ [])

-- a grab of 0 bytes leaves 0 without a sidecar, counts as done with its extra, and uses up no key or place
abbrev pub nothing : List Step
nothing = program (global 2 7 ∷ grab 2 1 ∷ out 2 ∷ [])

abbrev pub nothing_asked : Row
nothing_asked = on_stack highest
    (starts nothing 0 ∷ runs nothing 9 3 1 (Out 0) ∷ does (put 1 16) ∷ does (grab 3 1) ∷ [])
    (number 2 0 ∷ address 3 1024 1024 1040 2 1 ∷ [])

-- a fresh best-fit heap grants all 4,096 bytes, and then no byte more
abbrev pub whole_heap : Row
whole_heap = on_stack highest
    (does (put 1 4096) ∷ does (grab 2 1) ∷ does (put 1 1) ∷ does (global 3 7) ∷ does (grab 3 1) ∷ [])
    (address 2 1024 1024 5120 2 1 ∷ number 3 0 ∷ [])

-- it does not grant 4,097, and that refusal leaves all of it
abbrev pub over_whole_heap : Row
over_whole_heap = on_stack highest
    (does (put 1 4097) ∷ does (global 2 7) ∷ does (grab 2 1) ∷ does (put 1 4096) ∷ does (grab 3 1) ∷ [])
    (number 2 0 ∷ address 3 1024 1024 5120 2 1 ∷ [])

-- slots grant 256 bytes and not 257; a grant of one byte ends after it, though its slot goes on;
-- a slot that is given is not the next one tried
abbrev pub slot_by_slot : Row
slot_by_slot = on_slots highest
    (does (put 1 257) ∷ does (global 2 7) ∷ does (grab 2 1) ∷ does (put 1 256) ∷ does (grab 3 1)
    ∷ does (put 1 1) ∷ does (grab 4 1) ∷ does (loadb 6 4 0) ∷ fails (loadb 6 4 1) OutOfBounds
    ∷ does (release 3) ∷ does (grab 5 1) ∷ [])
    (number 2 0 ∷ address 3 1024 1024 1280 2 1 ∷ address 4 1280 1280 1281 3 2 ∷ address 5 1536 1536 1537 4 1 ∷ [])

-- under ceiling 3 there are two grants, then 25, which leaves the register; a release brings no key back
abbrev pub last_key : Row
last_key = on_stack 3
    (does (put 1 8) ∷ does (grab 2 1) ∷ does (grab 3 1) ∷ does (global 4 40) ∷ fails (grab 4 1) NoKey ∷ does (release 2) ∷ fails (grab 4 1) NoKey ∷ [])
    (address 2 1024 1024 1032 2 1 ∷ address 3 1032 1032 1040 3 2 ∷ address 4 40 0 1024 1 0 ∷ [])

-- the same in a run, which says how far it came and then is halted
abbrev pub grab_on : List Step
grab_on = program (put 1 8 ∷ grab 2 1 ∷ jump 1 ∷ [])

abbrev pub last_key_in_run : Row
last_key_in_run = on_stack 3
    (starts grab_on 0 ∷ halts grab_on 9 5 2 NoKey 3 ∷ halts grab_on 9 0 0 NotGoing 0 ∷ [])
    (address 2 1032 1032 1040 3 2 ∷ [])

-- under ceiling 1 no key is ever issued, and the key is looked for before the heap is asked
abbrev pub no_key_at_all : Row
no_key_at_all = on_stack 1
    (fails (grab 2 1) NoKey ∷ does (put 1 8) ∷ fails (grab 2 1) NoKey ∷ [])
    (number 2 0 ∷ [])

-- any address of the grant serves for its release; a second release gives 21
abbrev pub released_twice : Row
released_twice = on_stack highest
    (does (put 1 16) ∷ does (grab 2 1) ∷ does (addi 3 2 5) ∷ does (release 3) ∷ fails (release 3) Ended ∷ fails (release 2) Ended ∷ [])
    (address 2 1024 1024 1040 2 1 ∷ address 3 1029 1024 1040 2 1 ∷ [])

-- a frame and the globals cannot be released (24), nor can a plain number (20), were it a block's address
abbrev pub into_frame : List Step
into_frame = program (call 1 ∷ frame 3 8 ∷ out 3 ∷ [])

abbrev pub not_released : Row
not_released = on_stack highest
    (does (put 1 16) ∷ does (grab 2 1) ∷ starts into_frame 0 ∷ runs into_frame 9 3 4 (Out 5128)
    ∷ fails (release 3) NotFromHeap ∷ does (global 4 40) ∷ fails (release 4) NotFromHeap
    ∷ does (put 5 1024) ∷ fails (release 5) NoSidecar ∷ does (loadb 6 2 0) ∷ [])
    (address 3 5128 5120 5168 3 256 ∷ address 4 40 0 1024 1 0 ∷ number 5 1024 ∷ [])

-- over a quarantine a released block waits, so the next grab has another address, with the same place;
-- a take that is refused below sends it there, and the next one finds it
abbrev pub waits_first : Row
waits_first = on_quarantine highest
    (does (put 1 16) ∷ does (grab 2 1) ∷ does (release 2) ∷ does (grab 3 1) ∷ fails (loadb 4 2 0) Ended
    ∷ does (put 1 4096) ∷ does (global 5 7) ∷ does (grab 5 1) ∷ does (put 1 16) ∷ does (grab 6 1) ∷ [])
    (address 2 1024 1024 1040 2 1 ∷ address 3 1040 1040 1056 3 1 ∷ number 5 0 ∷ address 6 1024 1024 1040 4 2 ∷ [])

-- with all 255 places out a block is taken, at 3,064, and handed back, so that it waits and not lives;
-- the sixteenth release after it sends it below, and the next grab finds it
abbrev pub turn_over : List Step
turn_over = program (release 2 ∷ grab 2 1 ∷ jump 0 ∷ [])

abbrev pub every_place : Row
every_place = on_quarantine highest
    (starts grab_on 0 ∷ runs grab_on 511 511 255 Spent ∷ does (global 3 7) ∷ does (grab 3 1)
    ∷ starts turn_over 0 ∷ runs turn_over 48 48 32 Spent ∷ [])
    (address 2 3064 3064 3072 272 255 ∷ number 3 0 ∷ [])

abbrev pub granting : List Row
granting = grabbed_again ∷ last_back_first ∷ longest_back_first ∷ nothing_asked ∷ whole_heap ∷ over_whole_heap ∷ slot_by_slot
    ∷ last_key ∷ last_key_in_run ∷ no_key_at_all ∷ released_twice ∷ not_released ∷ waits_first ∷ every_place ∷ []
