-- The state of one of two: that of the one that is there. Assumes nothing.
use Rattle.std.specs.Prelude.{◌⊎◌}
use Rattle.std.proofs.Common.{inl, inr}
use Rattle.choices.specs.declared.choice.Choice.{Choice}
use Rattle.choices.specs.declared.choice.Choice.TheVariants.{First, Second}

abbrev pub either_state : {A B S T : Type 0} → (A → S) → (B → T) → Choice A B → S ⊎ T
either_state f g (First a) = inl (f a)
either_state f g (Second b) = inr (g b)

-- a call that has no answer, such as a clear
abbrev pub either_step : {S T : Type 0} → (S → S) → (T → T) → S ⊎ T → S ⊎ T
either_step f g (inl s) = inl (f s)
either_step f g (inr t) = inr (g t)

-- what is read of the state
abbrev pub either_of : {S T V : Type 0} → (S → V) → (T → V) → S ⊎ T → V
either_of f g (inl s) = f s
either_of f g (inr t) = g t
