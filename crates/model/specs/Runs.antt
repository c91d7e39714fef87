-- The laws of runs, for any player: what a run's answer says of its trail, what it leaves, and how runs join. Assumes nothing.
use Rattle.std.specs.Prelude.{◌≡◌, ℕ, ◌+◌, ◌<◌, Bool, true, false, cond, ◌&&◌, ◌⊎◌, List, [], ◌∷◌, length, Ok, Err, Result, is_ok, slice_index_or}
use Rattle.faults.specs.declared.cause.Cause.{Cause}
use Rattle.faults.specs.declared.cause.Cause.TheVariants.{OffProgram}
use Rattle.faults.specs.declared.fault.Fault.{Fault}
use Rattle.faults.specs.Faults.{fault_at}
use Rattle.operations.specs.Sound.{stop}
use Rattle.operations.specs.declared.step.Step.{Step}
use Rattle.model.specs.declared.way.Way.{Way}
use Rattle.model.specs.declared.way.Way.TheVariants.{Next, Jumped, Stopped, Answered}
use Rattle.model.specs.declared.phase.Phase.TheVariants.{Going}
use Rattle.model.specs.declared.outcome.Outcome.TheVariants.{Spent, Out as OutValue, End}
use Rattle.model.specs.declared.answer.Answer.TheVariants.{Ran}
use Rattle.model.specs.declared.refusal.Refusal.TheVariants.{InRun}
use Rattle.model.specs.Sheet.{Did, Player}
use Rattle.model.specs.Driving.{Driven, Reply, run, handle, extra}
use Rattle.model.specs.Trail.{Met, trail_of}

-- the steps done and their extra, as an answer says them
abbrev pub done_of : Reply → ℕ
done_of (Ok (Ran n e o)) = n
done_of (Err (InRun f)) = f.done
done_of _ = 0

abbrev pub extra_of : Reply → ℕ
extra_of (Ok (Ran n e o)) = e
extra_of (Err (InRun f)) = f.extra
extra_of _ = 0

-- an answer with counts added
abbrev pub plus : ℕ → ℕ → Reply → Reply
plus n e (Ok (Ran n' e' o)) = Ok (Ran (n + n') (e + e') o)
plus n e (Err (InRun f)) = Err (InRun (record f { done = n + f.done; extra = e + f.extra }))
plus n e r = r

abbrev pub says_spent : Reply → Bool
says_spent (Ok (Ran n e Spent)) = true
says_spent _ = false

-- after this way a run goes on
abbrev pub on : Result Way Cause → Bool
on (Ok Next) = true
on (Ok (Jumped p)) = true
on _ = false

-- the position after a step that a run goes on with
abbrev pub next_of : Result Way Cause → ℕ → ℕ
next_of (Ok (Jumped p)) c = p
next_of (Ok w) c = c + 1
next_of (Err f) c = c

module _ {M : Type 0} where
  -- how many of a trail pass, the sum of their extra, whether a run goes on after each, and the way of the last
  abbrev pub passed : List (Met M) → ℕ
  passed [] = 0
  passed (e ∷ es) = cond (is_ok e.did.way) 1 0 + passed es

  abbrev pub extra_sum : List (Met M) → ℕ
  extra_sum [] = 0
  extra_sum (e ∷ es) = cond (is_ok e.did.way) (extra e.step.code) 0 + extra_sum es

  abbrev pub all_on : List (Met M) → Bool
  all_on [] = true
  all_on (e ∷ es) = on e.did.way && all_on es

  -- a run goes on after each of the trail but the last, which is as P says
  abbrev pub EndsWith : (Met M → Type 0) → List (Met M) → Type 0
  EndsWith P [] = ⊥
  EndsWith P (e ∷ []) = P e
  EndsWith P (e ∷ f ∷ es) = (on e.did.way ≡ true) × EndsWith P (f ∷ es)

  -- a step went this way, or faulted and is told by its line
  abbrev pub Went : Way → Met M → Type 0
  Went w e = e.did.way ≡ Ok w

  abbrev pub Told : Fault → Met M → Type 0
  Told f e = (c : Cause) × (e.did.way ≡ Err c) × (f ≡ fault_at c e.step.line)

  -- how the trail of a run with a budget ended, by its answer
  abbrev pub Came : List (Met M) → ℕ → Reply → Type 0
  Came t k (Ok (Ran n e Spent)) = (length t ≡ k) × (all_on t ≡ true)
  Came t k (Ok (Ran n e (OutValue v))) = EndsWith (Went (Answered v)) t
  Came t k (Ok (Ran n e End)) = EndsWith (Went Stopped) t
  Came t k (Err (InRun f)) = EndsWith (Told f.fault) t ⊎ ((f.fault ≡ fault_at OffProgram 0) × (length t < k) × (all_on t ≡ true))
  Came t k _ = ⊥

  -- each step of the trail is the program's at its position, acts on what the one before left, and stands where that led
  abbrev pub Linked : (ℕ → Step → M → Did M) → List Step → ℕ → M → List (Met M) → Type 0
  Linked act os c m [] = Unit {0}
  Linked act os c m (e ∷ es) =
      (e.counter ≡ c) × (c < length os) × (e.step ≡ slice_index_or os c stop) × (e.before ≡ m) × (e.did ≡ act c (slice_index_or os c stop) m)
      × Linked act os (next_of e.did.way c) e.did.after es

  -- the position where a trail that began at one stands: a fault stays where it is
  abbrev pub stands : ℕ → List (Met M) → ℕ
  stands c [] = c
  stands c (e ∷ es) = stands (next_of e.did.way c) es

  -- what the last step of a trail left
  abbrev pub left : M → List (Met M) → M
  left m [] = m
  left m (e ∷ es) = left e.did.after es

  module _ (X : Player M) where
    pub record Drives (s : Driven M) (os : List Step) : Type 0 where
      -- a run of x + y is a run of x and, if that is spent, a run of y, the counts added
      pub splits : (x y : ℕ) → says_spent (handle X (run os x) s).answer ≡ true → handle X (run os (x + y)) s ≡
          record {
            answer = plus (done_of (handle X (run os x) s).answer) (extra_of (handle X (run os x) s).answer) (handle X (run os y) (handle X (run os x) s).after).answer;
            after = (handle X (run os y) (handle X (run os x) s).after).after;
          }
      pub stays : (x y : ℕ) → says_spent (handle X (run os x) s).answer ≡ false → handle X (run os (x + y)) s ≡ handle X (run os x) s
      -- done counts the passing steps of the trail, extra is the sum of theirs
      pub counts : (k : ℕ) → done_of (handle X (run os k) s).answer ≡ passed (trail_of X (run os k) s)
      pub sums : (k : ℕ) → extra_of (handle X (run os k) s).answer ≡ extra_sum (trail_of X (run os k) s)
      -- the answer says how the trail ended; spent exactly when it is as long as the budget, and none of it ended the run
      pub came : (k : ℕ) → s.phase ≡ Going → Came (trail_of X (run os k) s) k (handle X (run os k) s).answer
      pub spent : (k : ℕ) → s.phase ≡ Going → length (trail_of X (run os k) s) ≡ k → all_on (trail_of X (run os k) s) ≡ true → says_spent (handle X (run os k) s).answer ≡ true
      -- the trail is the program's, step by step, and the run leaves what its last step left, and the counter where that led
      pub linked : (k : ℕ) → Linked X.act os s.counter s.player (trail_of X (run os k) s)
      pub leaves : (k : ℕ) → (handle X (run os k) s).after.player ≡ left s.player (trail_of X (run os k) s)
      pub counters : (k : ℕ) → (handle X (run os k) s).after.counter ≡ stands s.counter (trail_of X (run os k) s)
