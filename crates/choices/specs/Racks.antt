-- The rule of one of two racks: each call is a call of the rack that is there. Assumes nothing.
use Rattle.std.specs.Prelude.{ℕ, ◌⊎◌}
use Rattle.std.proofs.Common.{inl, inr}
use Rattle.racks.specs.Rule.{RackRule, Drawn, Put}
use Rattle.choices.specs.Choice.{either_step, either_of}

-- what a call comes to, when its rack is the first or the second
abbrev pub drawn_in : {S T : Type 0} → (S → T) → Drawn S → Drawn T
drawn_in f d = record { answer = d.answer; after = f d.after }

abbrev pub put_in : {S T : Type 0} → (S → T) → Put S → Put T
put_in f p = record { answer = p.answer; after = f p.after }

module _ (R Q : RackRule) where
  abbrev pub either_draw : R.State ⊎ Q.State → Drawn (R.State ⊎ Q.State)
  either_draw (inl s) = drawn_in inl (R.draw s)
  either_draw (inr s) = drawn_in inr (Q.draw s)

  abbrev pub either_put : R.State ⊎ Q.State → ℕ → Put (R.State ⊎ Q.State)
  either_put (inl s) p = put_in inl (R.put s p)
  either_put (inr s) p = put_in inr (Q.put s p)

  abbrev pub either_rule : RackRule
  either_rule = record {
    State = R.State ⊎ Q.State;
    out = either_of R.out Q.out;
    draw = either_draw;
    put = either_put;
    clear = either_step R.clear Q.clear;
  }
