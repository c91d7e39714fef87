-- What calls that are refused answer and leave. Assumes nothing.
use Rattle.std.proofs.Common.{◌≡◌, ℕ, zero, suc, ◌+◌, Bool, true, false, ltb, List, length, get_or, Some, None, Option, Ok, Result, refl}
use Rattle.std.proofs.lemmas.Bool.{lt-ltb, le-ltb}
use Rattle.faults.specs.declared.cause.Cause.{Cause}
use Rattle.operations.specs.declared.operation.Operation.{Operation}
use Rattle.operations.specs.declared.step.Step.{Step}
use Rattle.operations.specs.Records.{step_of}
use Rattle.operations.specs.Sound.{stop}
use Rattle.model.specs.declared.way.Way.{Way}
use Rattle.model.specs.declared.way.Way.TheVariants.{Next, Jumped}
use Rattle.model.specs.Sheet.{Player}
use Rattle.model.specs.Driving.{Driven, Turn, after_way, tried, runs, pressing, pressed, barred, extra}
use Rattle.model.specs.Refusals.{phase_after, Refuses}

module _ {M : Type 0} (X : Player M) where
  abbrev InPhase : Turn M → Type 0
  InPhase t = t.after.phase ≡ phase_after t.answer

  way_phase : (w : Result Way Cause) (o : Step) (c n e : ℕ) (m : M) (f : ℕ → M → Turn M) → ((c' : ℕ) (m' : M) → InPhase (f c' m')) → InPhase (after_way X w o c n e m f)
  way_phase (Ok Next) o c n e m f h = h (c + 1) m
  way_phase (Ok (Jumped p)) o c n e m f h = h p m
  way_phase _ o c n e m f h = refl

  tried_phase : (b : Bool) (o : Step) (c n e : ℕ) (m : M) (f : ℕ → M → Turn M) → ((c' : ℕ) (m' : M) → InPhase (f c' m')) → InPhase (tried X b o c n e m f)
  tried_phase false o c n e m f h = refl
  tried_phase true o c n e m f h = way_phase (X.act c o m).way o c n e (X.act c o m).after f h

  runs_phase : (k : ℕ) (os : List Step) (c n e : ℕ) (m : M) → InPhase (runs X k os c n e m)
  runs_phase zero os c n e m = refl
  runs_phase (suc k) os c n e m = tried_phase (ltb c (length os)) (get_or os c stop) c n e m _ (λ c' m'. runs_phase k os c' (n + 1) (e + extra (get_or os c stop).code) m')

  module _ (s : Driven M) where
    barred_keeps : (b : Bool) (o : Step) → ((pressing X b o s).after.counter ≡ s.counter) × ((pressing X b o s).after.phase ≡ s.phase)
    barred_keeps true o = (refl, refl)
    barred_keeps false o = (refl, refl)

    press_keeps : (t : Option Step) (r : Operation) → ((pressed X t r s).after.counter ≡ s.counter) × ((pressed X t r s).after.phase ≡ s.phase)
    press_keeps None r = (refl, refl)
    press_keeps (Some o) r = barred_keeps (barred o.code) o

    pub refuses : Refuses X s
    refuses = record {
      entry = λ os x h. rw (le-ltb x (length os) h) (refl, refl);
      begins = λ os x h. rw (lt-ltb x (length os) h);
      idle = λ os k h. rw h (refl, refl);
      halted = λ os k h. rw h (refl, refl);
      phases = λ os k h. rw h (runs_phase k os s.counter 0 0 s.player);
      records = λ r e. rw e (refl, refl);
      bars = λ r o e b. rw (e, b) (refl, refl);
      counter = λ r. (press_keeps (step_of r) r).0;
      phase = λ r. (press_keeps (step_of r) r).1;
      presses = λ r o e b. rw (e, b);
      faults = λ r o c e b w. rw (e, b, w);
    }
