-- Worked trials of call, ret and frame. Assumes nothing.
use Rattle.std.specs.Prelude.{◌-◌, ◌^◌, List, [], ◌∷◌}
use Rattle.faults.specs.declared.cause.Cause.TheVariants.{Ended, OutOfBounds, NoKey, FrameLimit, NoFrame, NotGoing}
use Rattle.operations.specs.declared.step.Step.{Step}
use Rattle.model.specs.declared.outcome.Outcome.TheVariants.{Spent, Out, End}
use Rattle.trials.specs.Rows.{Row}
use Rattle.trials.specs.Exchanges.{does, fails, starts, runs, halts, number, address, highest, on_stack}
use Rattle.trials.specs.Steps.{program, stop, copy, load, store, loadb, storeb, call, ret, frame, global, release, out, negative}

abbrev pub call_on : List Step
call_on = program (call 0 ∷ [])

-- 64 nested calls pass, the next gives 26, and 64 are still open;
-- the last key went to the last of them, so the frames are counted before a key is looked for
abbrev pub too_deep : Row
too_deep = on_stack 65
    (starts call_on 0 ∷ halts call_on 65 64 256 FrameLimit 2 ∷ does (frame 1 0) ∷ does (storeb 1 1 47) ∷ fails (storeb 1 1 48) OutOfBounds ∷ [])
    (address 1 8144 8144 8192 65 319 ∷ [])

-- a call takes a key: under ceiling 3 two pass, and the next gives 25
abbrev pub call_keys : Row
call_keys = on_stack 3
    (starts call_on 0 ∷ halts call_on 9 2 8 NoKey 2 ∷ does (frame 1 8) ∷ [])
    (address 1 5176 5168 5216 3 257 ∷ [])

-- a start closes the open frames: their addresses give 21, in a release too, also when a frame opens at the same place again, under the next key
abbrev pub two_deep : List Step
two_deep = program (call 1 ∷ frame 3 0 ∷ call 3 ∷ frame 4 0 ∷ out 4 ∷ [])

abbrev pub start_closes : Row
start_closes = on_stack highest
    (starts two_deep 0 ∷ runs two_deep 9 5 8 (Out 5168) ∷ does (copy 5 3) ∷ does (loadb 6 3 0) ∷ does (loadb 6 4 0)
    ∷ starts two_deep 0 ∷ fails (loadb 6 3 0) Ended ∷ fails (loadb 6 4 0) Ended ∷ fails (release 3) Ended ∷ fails (frame 7 0) NoFrame
    ∷ runs two_deep 2 2 4 Spent ∷ does (loadb 6 3 0) ∷ fails (loadb 6 5 0) Ended ∷ fails (loadb 6 4 0) Ended ∷ [])
    (address 3 5120 5120 5168 4 256 ∷ address 4 5168 5168 5216 3 257 ∷ address 5 5120 5120 5168 2 256 ∷ number 7 0 ∷ [])

-- a called part is run twice; each time its frame reads zero before it writes, and after its return its addresses give 21
abbrev pub twice : List Step
twice = program (call 4 ∷ copy 5 3 ∷ call 4 ∷ stop ∷ frame 2 0 ∷ load 3 2 40 ∷ store 2 2 40 ∷ load 4 2 40 ∷ ret ∷ [])

abbrev pub called_twice : Row
called_twice = on_stack highest
    (does (global 3 7) ∷ does (global 5 7) ∷ starts twice 0 ∷ runs twice 99 14 28 End ∷ fails (loadb 6 4 0) Ended ∷ [])
    (number 3 0 ∷ address 4 5120 5120 5168 3 256 ∷ number 5 0 ∷ [])

-- of nested calls the youngest returns first: the older frame is still open then
abbrev pub nested : List Step
nested = program (call 2 ∷ out 5 ∷ call 5 ∷ frame 5 0 ∷ ret ∷ ret ∷ [])

abbrev pub nested_returns : Row
nested_returns = on_stack highest
    (starts nested 0 ∷ runs nested 9 6 16 (Out 5120) ∷ fails (loadb 6 5 0) Ended ∷ [])
    (address 5 5120 5120 5168 2 256 ∷ [])

-- a frame has 48 bytes; it stays open while the state is idle; an address before it wraps
abbrev pub one : List Step
one = program (call 1 ∷ stop ∷ [])

abbrev pub frame_bytes : Row
frame_bytes = on_stack highest
    (starts one 0 ∷ runs one 9 2 4 End ∷ does (frame 1 0) ∷ does (loadb 2 1 47) ∷ fails (loadb 2 1 48) OutOfBounds ∷ does (load 2 1 40)
    ∷ does (frame 3 56) ∷ fails (loadb 2 3 0) OutOfBounds ∷ does (negative (frame 4 5128)) ∷ [])
    (address 1 5120 5120 5168 2 256 ∷ address 3 5176 5120 5168 2 256 ∷ address 4 (2 ^ 64 - 8) 5120 5168 2 256 ∷ [])

-- with no frame open, frame and ret give 27
abbrev pub back : List Step
back = program (stop ∷ ret ∷ [])

abbrev pub no_frame_open : Row
no_frame_open = on_stack highest
    (does (global 1 7) ∷ fails (frame 1 0) NoFrame ∷ starts back 1 ∷ halts back 9 0 0 NoFrame 3 ∷ halts back 9 0 0 NotGoing 0 ∷ [])
    (address 1 7 0 1024 1 0 ∷ [])

abbrev pub framing : List Row
framing = too_deep ∷ call_keys ∷ start_closes ∷ called_twice ∷ nested_returns ∷ frame_bytes ∷ no_frame_open ∷ []
