-- The rule of one of two heaps: each call is a call of the heap that is there. Assumes nothing.
use Rattle.std.specs.Prelude.{ℕ, ◌⊎◌}
use Rattle.std.proofs.Common.{inl, inr}
use Rattle.heaps.specs.Rule.{HeapRule, Taken, Given}
use Rattle.choices.specs.Choice.{either_step, either_of}

-- what a call comes to, when its heap is the first or the second
abbrev pub taken_in : {S T : Type 0} → (S → T) → Taken S → Taken T
taken_in f t = record { answer = t.answer; after = f t.after }

abbrev pub given_in : {S T : Type 0} → (S → T) → Given S → Given T
given_in f g = record { answer = g.answer; after = f g.after }

module _ (R Q : HeapRule) where
  abbrev pub either_take : R.State ⊎ Q.State → ℕ → Taken (R.State ⊎ Q.State)
  either_take (inl s) n = taken_in inl (R.take s n)
  either_take (inr s) n = taken_in inr (Q.take s n)

  abbrev pub either_give : R.State ⊎ Q.State → ℕ → Given (R.State ⊎ Q.State)
  either_give (inl s) x = given_in inl (R.give s x)
  either_give (inr s) x = given_in inr (Q.give s x)

  abbrev pub either_rule : HeapRule
  either_rule = record {
    State = R.State ⊎ Q.State;
    held = either_of R.held Q.held;
    take = either_take;
    give = either_give;
    clear = either_step R.clear Q.clear;
  }
