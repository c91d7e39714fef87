-- What holds of any heap that keeps the points, over every history of its calls. Assumes nothing.
use Rattle.std.specs.Prelude.{◌≡◌, ℕ, Bool, true, false, List, [], ◌∷◌, Some, None, Option}
use Rattle.heaps.specs.Rule.{HeapRule, Block}
use Rattle.heaps.specs.Points.{Keeps, empty, plus, minus}

pub data Call : Type 0 where
  take : ℕ → Call
  give : ℕ → Call
  clear : Call

-- a call with its answer
pub data Event : Type 0 where
  taken : ℕ → Option Block → Event
  given : ℕ → Bool → Event
  cleared : Event

-- the blocks that are living after some events, by what was answered alone: those granted and not given since
abbrev pub living : (ℕ → Option ℕ) → List Event → ℕ → Option ℕ
living m [] = m
living m (taken n (Some b) ∷ rest) = living (plus m b) rest
living m (taken n None ∷ rest) = living m rest
living m (given x true ∷ rest) = living (minus m x) rest
living m (given x false ∷ rest) = living m rest
living m (cleared ∷ rest) = living empty rest

module _ (R : HeapRule) where
  abbrev pub step : R.State → Call → R.State
  step s (take n) = (R.take s n).after
  step s (give x) = (R.give s x).after
  step s clear = R.clear s

  abbrev pub event : R.State → Call → Event
  event s (take n) = taken n (R.take s n).answer
  event s (give x) = given x (R.give s x).answer
  event s clear = cleared

  -- the state after some calls, and the calls with their answers
  abbrev pub after : R.State → List Call → R.State
  after s [] = s
  after s (c ∷ rest) = after (step s c) rest

  abbrev pub events : R.State → List Call → List Event
  events s [] = []
  events s (c ∷ rest) = event s c ∷ events (step s c) rest

  -- from a clear on, whatever is called: the points hold, and living are the blocks granted and not given since
  pub record History (s : R.State) (calls : List Call) : Type 0 where
    pub keeps : Keeps R (after (R.clear s) calls)
    pub lives : (x : ℕ) → R.held (after (R.clear s) calls) x ≡ living empty (events (R.clear s) calls) x

  abbrev pub EveryHistory : Type 0
  EveryHistory = (s : R.State) (calls : List Call) → History s calls
