-- What a rack of lock places is: a state of its own, and a rule, which is a plain function on that state. Assumes nothing.
-- The places are 1 to 255. Which of them are out is read from the state.
use Rattle.std.specs.Prelude.{ℕ, Bool, Option}

-- what a draw comes to: the place drawn, or none where it is refused; and the state after it
pub record Drawn (S : Type 0) : Type 0 where
  pub answer : Option ℕ
  pub after : S

-- what a put comes to: whether it is done, or else refused; and the state after it
pub record Put (S : Type 0) : Type 0 where
  pub answer : Bool
  pub after : S

pub record RackRule : Type 1 where
  pub State : Type 0
  -- the set of places out, as a test
  pub out : State → ℕ → Bool
  pub draw : State → Drawn State
  pub put : State → ℕ → Put State
  pub clear : State → State
