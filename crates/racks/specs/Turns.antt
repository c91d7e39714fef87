-- Which place a draw gives, said by how long each place has been back. Assumes nothing.
use Rattle.std.specs.Prelude.{◌≡◌, ℕ, ◌+◌, ◌<◌, true, false, cond, ◌⊎◌, List, [], ◌∷◌, Some, ◌==◌, ◌≢◌}
use Rattle.racks.specs.Rule.{RackRule}
use Rattle.racks.specs.Points.{Place, empty}
use Rattle.racks.specs.Histories.{Call, Event, drawn, returned, cleared, out, after, events}

-- how many puts were done since the last clear, and of each place the number of its last one, or 0
pub record Backs : Type 0 where
  pub puts : ℕ
  pub since : ℕ → ℕ

abbrev pub all_fresh : Backs
all_fresh = record { puts = 0; since = λ _. 0 }

-- the number n for the place p, and for the others as before
abbrev pub marked : (ℕ → ℕ) → ℕ → ℕ → ℕ → ℕ
marked since p n x = cond (x == p) n (since x)

abbrev pub noted : Backs → Event → Backs
noted b (drawn o) = b
noted b (returned p true) = record { puts = b.puts + 1; since = marked b.since p (b.puts + 1) }
noted b (returned p false) = b
noted b cleared = all_fresh

abbrev pub backs : Backs → List Event → Backs
backs b [] = b
backs b (e ∷ rest) = backs (noted b e) rest

-- since when a place has been back, by the events alone: the number, counted from 1, of its last done put since the last clear; 0 for a fresh place
abbrev pub back_since : List Event → ℕ → ℕ
back_since es = (backs all_fresh es).since

-- both places are fresh, and p is the lower
abbrev pub FreshBefore : (ℕ → ℕ) → ℕ → ℕ → Type 0
FreshBefore since p q = (since p ≡ 0) × (since q ≡ 0) × (p < q)

-- p has come back later than q, or both are fresh and p is the lower
abbrev pub LaterBack : (ℕ → ℕ) → ℕ → ℕ → Type 0
LaterBack since p q = (since q < since p) ⊎ FreshBefore since p q

-- p has been back longer than q, or both are fresh and p is the lower
abbrev pub LongerBack : (ℕ → ℕ) → ℕ → ℕ → Type 0
LongerBack since p q = (since p < since q) ⊎ FreshBefore since p q

-- p is a place that is not out after some events, and goes before every other such place
pub record First (Before : (ℕ → ℕ) → ℕ → ℕ → Type 0) (es : List Event) (p : ℕ) : Type 0 where
  pub place : Place p
  pub back : out empty es p ≡ false
  pub before : (q : ℕ) → Place q → out empty es q ≡ false → (q ≢ p) → Before (back_since es) p q

-- after every history from a clear on, a place that is drawn is the first
abbrev pub DrawsFirst : ((ℕ → ℕ) → ℕ → ℕ → Type 0) → RackRule → Type 0
DrawsFirst Before R = (s : R.State) (calls : List Call) (p : ℕ) → (R.draw (after R (R.clear s) calls)).answer ≡ Some p → First Before (events R (R.clear s) calls) p
