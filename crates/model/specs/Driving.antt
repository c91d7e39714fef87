-- Start, run and press, said once for any player. Assumes nothing.
-- A player is the machine, or the history book.
use Rattle.std.specs.Prelude.{ℕ, zero, suc, ◌+◌, Bool, true, false, List, [], ◌∷◌, length, Some, None, Option, Ok, Err, Result, nat_lt, slice_index_or}
use Rattle.faults.specs.declared.cause.Cause.{Cause}
use Rattle.faults.specs.declared.cause.Cause.TheVariants.{OffProgram, NotGoing, NotForPress, BadPress, BadEntry}
use Rattle.faults.specs.declared.fault.Fault.{Fault}
use Rattle.faults.specs.Faults.{fault_at, whole_fault}
use Rattle.operations.specs.declared.code.Code.{Code}
use Rattle.operations.specs.declared.code.Code.TheVariants.{Stop, Jump, Jzero, Call, Ret}
use Rattle.operations.specs.declared.operation.Operation.{Operation}
use Rattle.operations.specs.declared.step.Step.{Step}
use Rattle.operations.specs.Records.{step_of}
use Rattle.operations.specs.Sound.{stop}
use Rattle.operations.specs.Table.{row}
use Rattle.model.specs.Sheet.{Player}
use Rattle.model.specs.declared.way.Way.{Way}
use Rattle.model.specs.declared.way.Way.TheVariants.{Next, Jumped, Stopped, Answered}
use Rattle.model.specs.declared.phase.Phase.{Phase}
use Rattle.model.specs.declared.phase.Phase.TheVariants.{Idle, Going, Halted}
use Rattle.model.specs.declared.outcome.Outcome.TheVariants.{Spent, Out as OutValue, End}
use Rattle.model.specs.declared.answer.Answer.{Answer}
use Rattle.model.specs.declared.answer.Answer.TheVariants.{Started, Ran, Pressed}
use Rattle.model.specs.declared.refusal.Refusal.{Refusal}
use Rattle.model.specs.declared.refusal.Refusal.TheVariants.{Plain, InRun}

-- a player with the position of its next step, and whether a run may go on
pub record Driven (M : Type 0) : Type 0 where
  pub counter : ℕ
  pub phase : Phase
  pub player : M

-- what a host is answered: an answer, or why the call was refused
abbrev pub Reply : Type 0
Reply = Result Answer Refusal

-- what a call comes to
pub record Turn (M : Type 0) : Type 0 where
  pub answer : Reply
  pub after : Driven M

-- the calls of a host: start and run bring a program, press a record of plain numbers
pub data HostCall : Type 0 where
  start : List Step → ℕ → HostCall
  run : List Step → ℕ → HostCall
  press : Operation → HostCall

-- how many micro-operations a step is counted as putting in
abbrev pub extra : Code → ℕ
extra c = (row c).extra

-- what the host may not press
abbrev pub barred : Code → Bool
barred Stop = true
barred Jump = true
barred Jzero = true
barred Call = true
barred Ret = true
barred _ = false

-- a run's refusal or fault, with the steps done before it and their extra
abbrev pub run_fault : Cause → ℕ → ℕ → ℕ → Reply
run_fault f line n e = Err (InRun (record { fault = fault_at f line; done = n; extra = e }))

module _ {M : Type 0} (X : Player M) where
  abbrev pub turn : Reply → ℕ → Phase → M → Turn M
  turn r c p m = record { answer = r; after = record { counter = c; phase = p; player = m } }

  -- a run after a step at c that went some way: n steps with extra e were done before it, and rest is how it goes on
  abbrev pub after_way : Result Way Cause → Step → ℕ → ℕ → ℕ → M → (ℕ → M → Turn M) → Turn M
  after_way (Ok Next) o c n e m rest = rest (c + 1) m
  after_way (Ok (Jumped p)) o c n e m rest = rest p m
  after_way (Ok Stopped) o c n e m rest = turn (Ok (Ran (n + 1) (e + extra o.code) End)) (c + 1) Idle m
  after_way (Ok (Answered v)) o c n e m rest = turn (Ok (Ran (n + 1) (e + extra o.code) (OutValue v))) (c + 1) Going m
  after_way (Err f) o c n e m rest = turn (run_fault f o.line n e) c Halted m

  -- the step at c, if c lies inside the program
  abbrev pub tried : Bool → Step → ℕ → ℕ → ℕ → M → (ℕ → M → Turn M) → Turn M
  tried false o c n e m rest = turn (run_fault OffProgram 0 n e) c Halted m
  tried true o c n e m rest = after_way (X.act c o m).way o c n e (X.act c o m).after rest

  -- a run from c with k steps of its budget left, of which n with extra e are done
  abbrev pub runs : ℕ → List Step → ℕ → ℕ → ℕ → M → Turn M
  runs zero os c n e m = turn (Ok (Ran n e Spent)) c Going m
  runs (suc k) os c n e m =
      tried (nat_lt c (length os)) (slice_index_or os c stop) c n e m (λ c' m'. runs k os c' (n + 1) (e + extra (slice_index_or os c stop).code) m')

  -- a start or a press that is refused leaves all as it was
  abbrev pub refused : Fault → Driven M → Turn M
  refused f s = record { answer = Err (Plain f); after = s }

  -- a start at an entry inside the program closes all frames
  abbrev pub begun : Bool → ℕ → Driven M → Turn M
  begun false x s = refused (whole_fault BadEntry) s
  begun true x s = turn (Ok Started) x Going (X.close s.player)

  abbrev pub run_in : Phase → List Step → ℕ → ℕ → M → Turn M
  run_in Idle os k c m = turn (run_fault NotGoing 0 0 0) c Idle m
  run_in Halted os k c m = turn (run_fault NotGoing 0 0 0) c Halted m
  run_in Going os k c m = runs k os c 0 0 m

  -- what a press is answered, by the way that its step went
  abbrev pub said : Result Way Cause → Step → Reply
  said (Ok (Answered v)) o = Ok (Pressed (Some v))
  said (Ok w) o = Ok (Pressed None)
  said (Err f) o = Err (Plain (fault_at f o.line))

  -- a press moves neither counter nor phase
  abbrev pub pressing : Bool → Step → Driven M → Turn M
  pressing true o s = refused (fault_at NotForPress o.line) s
  pressing false o s = turn (said (X.act s.counter o s.player).way o) s.counter s.phase (X.act s.counter o s.player).after

  abbrev pub pressed : Option Step → Operation → Driven M → Turn M
  pressed None r s = refused (fault_at BadPress r.line) s
  pressed (Some o) r s = pressing (barred o.code) o s

  abbrev pub handle : HostCall → Driven M → Turn M
  handle (start os x) s = begun (nat_lt x (length os)) x s
  handle (run os k) s = run_in s.phase os k s.counter s.player
  handle (press r) s = pressed (step_of r) r s

  -- the answers of a history, and where it leads
  abbrev pub answers : List HostCall → Driven M → List Reply
  answers [] s = []
  answers (q ∷ qs) s = (handle q s).answer ∷ answers qs (handle q s).after

  abbrev pub leads_to : List HostCall → Driven M → Driven M
  leads_to [] s = s
  leads_to (q ∷ qs) s = leads_to qs (handle q s).after
