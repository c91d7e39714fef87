-- What a heap is: a state of its own, and a rule, which is a plain function on that state. Assumes nothing.
-- A heap serves the offsets 0 to 4,095. Which blocks are living is read from the state.
use Rattle.std.specs.Prelude.{ℕ, Bool, Option}

-- a block that is granted: where it starts, and how many bytes it holds
pub record Block : Type 0 where
  pub start : ℕ
  pub held : ℕ

-- what a take comes to: the block granted, or none where it is refused; and the state after it
pub record Taken (S : Type 0) : Type 0 where
  pub answer : Option Block
  pub after : S

-- what a give comes to: whether it is done, or else refused; and the state after it
pub record Given (S : Type 0) : Type 0 where
  pub answer : Bool
  pub after : S

pub record HeapRule : Type 1 where
  pub State : Type 0
  -- the set of living blocks, as a map: the held size of the block that starts at an offset
  pub held : State → ℕ → Option ℕ
  pub take : State → ℕ → Taken State
  pub give : State → ℕ → Given State
  pub clear : State → State
