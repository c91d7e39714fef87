-- What holds of any rack that keeps the points, over every history of its calls. Assumes nothing.
use Rattle.std.specs.Prelude.{◌≡◌, ℕ, Bool, true, false, List, [], ◌∷◌, Some, None, Option}
use Rattle.racks.specs.Rule.{RackRule}
use Rattle.racks.specs.Points.{Keeps, empty, plus, minus}

pub data Call : Type 0 where
  draw : Call
  put : ℕ → Call
  clear : Call

-- a call with its answer
pub data Event : Type 0 where
  drawn : Option ℕ → Event
  returned : ℕ → Bool → Event
  cleared : Event

-- the places that are out after some events, by what was answered alone: those drawn and not put back since
abbrev pub out : (ℕ → Bool) → List Event → ℕ → Bool
out m [] = m
out m (drawn (Some p) ∷ rest) = out (plus m p) rest
out m (drawn None ∷ rest) = out m rest
out m (returned p true ∷ rest) = out (minus m p) rest
out m (returned p false ∷ rest) = out m rest
out m (cleared ∷ rest) = out empty rest

module _ (R : RackRule) where
  abbrev pub step : R.State → Call → R.State
  step s draw = (R.draw s).after
  step s (put p) = (R.put s p).after
  step s clear = R.clear s

  abbrev pub event : R.State → Call → Event
  event s draw = drawn (R.draw s).answer
  event s (put p) = returned p (R.put s p).answer
  event s clear = cleared

  -- the state after some calls, and the calls with their answers
  abbrev pub after : R.State → List Call → R.State
  after s [] = s
  after s (c ∷ rest) = after (step s c) rest

  abbrev pub events : R.State → List Call → List Event
  events s [] = []
  events s (c ∷ rest) = event s c ∷ events (step s c) rest

  -- from a clear on, whatever is called: the points hold, and out are the places drawn and not put back since
  pub record History (s : R.State) (calls : List Call) : Type 0 where
    pub keeps : Keeps R (after (R.clear s) calls)
    pub outs : (p : ℕ) → R.out (after (R.clear s) calls) p ≡ out empty (events (R.clear s) calls) p

  abbrev pub EveryHistory : Type 0
  EveryHistory = (s : R.State) (calls : List Call) → History s calls
