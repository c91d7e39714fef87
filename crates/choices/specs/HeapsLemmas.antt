-- One of two heaps keeps the points, where each of the two does. Assumes nothing.
use Rattle.std.specs.Prelude.{◌≡◌, ℕ, ◌⊎◌, None}
use Rattle.std.proofs.Common.{inl, inr}
use Rattle.heaps.specs.Rule.{HeapRule}
use Rattle.heaps.specs.Points.{Points, Keeps, Reached, cleared, after_take, after_give}
use Rattle.heaps.proofs.Keeping.{Kept, points_by}
use Rattle.choices.specs.Choice.{either_step}
use Rattle.choices.specs.Heaps.{either_rule, either_take, either_give}

module _ (R Q : HeapRule) (p : Points R) (q : Points Q) where
  -- the heap that is there is in a state that it can be in
  abbrev Sound : R.State ⊎ Q.State → Type 0
  Sound (inl s) = Reached R s
  Sound (inr s) = Reached Q s

  clear_sound : (s : R.State ⊎ Q.State) → Sound (either_step R.clear Q.clear s)
  clear_sound (inl s) = cleared s
  clear_sound (inr s) = cleared s

  take_sound : (s : R.State ⊎ Q.State) (n : ℕ) → Sound s → Sound (either_take R Q s n).after
  take_sound (inl s) n r = after_take s n r
  take_sound (inr s) n r = after_take s n r

  give_sound : (s : R.State ⊎ Q.State) (x : ℕ) → Sound s → Sound (either_give R Q s x).after
  give_sound (inl s) x r = after_give s x r
  give_sound (inr s) x r = after_give s x r

  kept : Kept (either_rule R Q) Sound
  kept = record { clear_sound = clear_sound; take_sound = take_sound; give_sound = give_sound }

  clears : (s : R.State ⊎ Q.State) (x : ℕ) → (either_rule R Q).held (either_step R.clear Q.clear s) x ≡ None
  clears (inl s) x = p.clears s x
  clears (inr s) x = q.clears s x

  keeps : (s : R.State ⊎ Q.State) → Sound s → Keeps (either_rule R Q) s
  keeps (inl s) r = let k = p.keeps s r in record { laid = k.laid; takes = k.takes; gives = k.gives }
  keeps (inr s) r = let k = q.keeps s r in record { laid = k.laid; takes = k.takes; gives = k.gives }

  pub either_points : Points (either_rule R Q)
  either_points = points_by (either_rule R Q) Sound kept clears keeps
