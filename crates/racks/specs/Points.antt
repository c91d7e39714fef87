-- The points that every rack keeps, from its first clear on. Assumes nothing.
-- A set of places out is a test m: m p says whether p is out.
use Rattle.std.specs.Prelude.{◌≡◌, ℕ, ◌≤◌, Bool, true, false, cond, Some, None, Option, ◌==◌}
use Rattle.racks.specs.Rule.{RackRule}

-- no place out; one place more; one place less
abbrev pub empty : ℕ → Bool
empty x = false

abbrev pub plus : (ℕ → Bool) → ℕ → ℕ → Bool
plus m p x = cond (x == p) true (m x)

abbrev pub minus : (ℕ → Bool) → ℕ → ℕ → Bool
minus m p x = cond (x == p) false (m x)

-- p is one of the places
pub record Place (p : ℕ) : Type 0 where
  pub low : 1 ≤ p
  pub high : p ≤ 255

abbrev pub AllOut : (ℕ → Bool) → Type 0
AllOut m = (p : ℕ) → Place p → m p ≡ true

-- the place p goes out: it was not out, and no other changes
pub record Leaves (m : ℕ → Bool) (p : ℕ) (m' : ℕ → Bool) : Type 0 where
  pub place : Place p
  pub new : m p ≡ false
  pub adds : (x : ℕ) → m' x ≡ plus m p x

-- a draw, from the set m to the set m': refused exactly when all places are out
pub record Draws (m : ℕ → Bool) (answer : Option ℕ) (m' : ℕ → Bool) : Type 0 where
  pub leaves : (p : ℕ) → answer ≡ Some p → Leaves m p m'
  pub refused : answer ≡ None → AllOut m
  pub refuses : AllOut m → answer ≡ None
  -- a refusal keeps the set
  pub keeps : answer ≡ None → (x : ℕ) → m' x ≡ m x

-- a put of the place p: refused exactly where it is not out, and then nothing is removed
pub record Puts (m : ℕ → Bool) (p : ℕ) (answer : Bool) (m' : ℕ → Bool) : Type 0 where
  pub answers : answer ≡ m p
  pub removes : (x : ℕ) → m' x ≡ minus m p x

-- the points at one state
pub record Keeps (R : RackRule) (s : R.State) : Type 0 where
  pub within : (p : ℕ) → R.out s p ≡ true → Place p
  pub draws : Draws (R.out s) (R.draw s).answer (R.out (R.draw s).after)
  pub puts : (p : ℕ) → Puts (R.out s) p (R.put s p).answer (R.out (R.put s p).after)

-- the states that a rack can be in from its first clear on
pub data Reached (R : RackRule) : R.State → Type 0 where
  cleared : (s : R.State) → Reached R (R.clear s)
  after_draw : (s : R.State) → Reached R s → Reached R (R.draw s).after
  after_put : (s : R.State) (p : ℕ) → Reached R s → Reached R (R.put s p).after

-- what a rack owes; a clear empties the set in any state, since the first one may meet any
pub record RackPoints (R : RackRule) : Type 0 where
  pub clears : (s : R.State) (p : ℕ) → R.out (R.clear s) p ≡ false
  pub keeps : (s : R.State) → Reached R s → Keeps R s
