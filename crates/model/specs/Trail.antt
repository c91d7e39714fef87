-- The trail of a history: every step attempted in it, in order, with the player that it met and what came of it. Assumes nothing.
use Rattle.std.specs.Prelude.{ℕ, zero, suc, ◌+◌, Bool, true, false, List, [], ◌∷◌, ◌++◌, map, length, Some, None, Option, Ok, Result, nat_lt, slice_index_or}
use Rattle.std.proofs.Common.{of_z}
use Rattle.std.specs.Int.{w64}
use Rattle.operations.specs.declared.step.Step.{Step}
use Rattle.faults.specs.declared.cause.Cause.{Cause}
use Rattle.model.specs.declared.way.Way.{Way}
use Rattle.model.specs.declared.way.Way.TheVariants.{Next, Jumped}
use Rattle.model.specs.declared.phase.Phase.{Phase}
use Rattle.model.specs.declared.phase.Phase.TheVariants.{Idle, Going, Halted}
use Rattle.model.specs.Sheet.{Did, State, address, Player}
use Rattle.operations.specs.Records.{step_of}
use Rattle.operations.specs.Sound.{stop}
use Rattle.model.specs.Driving.{HostCall, start, run, press, Driven, handle, barred}

-- one step attempted
pub record Met (M : Type 0) : Type 0 where
  pub counter : ℕ
  pub step : Step
  pub before : M
  pub did : Did M

-- an entry of a trail: a step attempted, or a start, which closes all frames
pub data Entry (M : Type 0) : Type 0 where
  acted : Met M → Entry M
  began : Entry M

module _ {M : Type 0} (X : Player M) where
  abbrev pub met : ℕ → Step → M → Met M
  met c o m = record { counter = c; step = o; before = m; did = X.act c o m }

  -- what follows an operation of a run
  abbrev pub follows : Result Way Cause → ℕ → (ℕ → List (Met M)) → List (Met M)
  follows (Ok Next) c rest = rest (c + 1)
  follows (Ok (Jumped p)) c rest = rest p
  follows _ c rest = []

  abbrev pub attempts : Bool → ℕ → Step → M → (ℕ → M → List (Met M)) → List (Met M)
  attempts false c o m rest = []
  attempts true c o m rest = met c o m ∷ follows (X.act c o m).way c (λ c'. rest c' (X.act c o m).after)

  -- of a run from counter c with k operations of the budget left
  abbrev pub trail_of_run : ℕ → List Step → ℕ → M → List (Met M)
  trail_of_run zero os c m = []
  trail_of_run (suc k) os c m = attempts (nat_lt c (length os)) c (slice_index_or os c stop) m (λ c' m'. trail_of_run k os c' m')

  abbrev pub trail_in : Phase → List Step → ℕ → ℕ → M → List (Met M)
  trail_in Idle os k c m = []
  trail_in Halted os k c m = []
  trail_in Going os k c m = trail_of_run k os c m

  abbrev pub trail_of_press : Bool → ℕ → Step → M → List (Met M)
  trail_of_press true c o m = []
  trail_of_press false c o m = met c o m ∷ []

  abbrev pub trail_of_record : Option Step → ℕ → M → List (Met M)
  trail_of_record None c m = []
  trail_of_record (Some o) c m = trail_of_press (barred o.code) c o m

  -- of one call
  abbrev pub trail_of : HostCall → Driven M → List (Met M)
  trail_of (start os x) s = []
  trail_of (run os k) s = trail_in s.phase os k s.counter s.player
  trail_of (press r) s = trail_of_record (step_of r) s.counter s.player

  -- the entries of one call: a start that begins, and the steps attempted
  abbrev pub begins_at : Bool → List (Entry M)
  begins_at false = []
  begins_at true = began ∷ []

  abbrev pub entries_of : HostCall → Driven M → List (Entry M)
  entries_of (start os x) s = begins_at (nat_lt x (length os))
  entries_of (run os k) s = map acted (trail_of (run os k) s)
  entries_of (press r) s = map acted (trail_of (press r) s)

  -- of a history
  abbrev pub trail : List HostCall → Driven M → List (Entry M)
  trail [] s = []
  trail (q ∷ qs) s = entries_of q s ++ trail qs (handle X q s).after

-- the address of an access
abbrev pub target : {T H : Type 0} → State T H → Step → ℕ
target m o = address m o.a (of_z w64 o.n)
