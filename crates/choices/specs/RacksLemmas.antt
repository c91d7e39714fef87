-- One of two racks keeps the points, where each of the two does. Assumes nothing.
use Rattle.std.specs.Prelude.{◌≡◌, ℕ, false, ◌⊎◌}
use Rattle.std.proofs.Common.{inl, inr}
use Rattle.racks.specs.Rule.{RackRule}
use Rattle.racks.specs.Points.{RackPoints, Keeps, Reached, cleared, after_draw, after_put}
use Rattle.racks.specs.Keeping.{Kept, points_by}
use Rattle.choices.specs.Choice.{either_step}
use Rattle.choices.specs.Racks.{either_rule, either_draw, either_put}

module _ (R Q : RackRule) (p : RackPoints R) (q : RackPoints Q) where
  -- the rack that is there is in a state that it can be in
  abbrev Sound : R.State ⊎ Q.State → Type 0
  Sound (inl s) = Reached R s
  Sound (inr s) = Reached Q s

  clear_sound : (s : R.State ⊎ Q.State) → Sound (either_step R.clear Q.clear s)
  clear_sound (inl s) = cleared s
  clear_sound (inr s) = cleared s

  draw_sound : (s : R.State ⊎ Q.State) → Sound s → Sound (either_draw R Q s).after
  draw_sound (inl s) r = after_draw s r
  draw_sound (inr s) r = after_draw s r

  put_sound : (s : R.State ⊎ Q.State) (x : ℕ) → Sound s → Sound (either_put R Q s x).after
  put_sound (inl s) x r = after_put s x r
  put_sound (inr s) x r = after_put s x r

  kept : Kept (either_rule R Q) Sound
  kept = record { clear_sound = clear_sound; draw_sound = draw_sound; put_sound = put_sound }

  clears : (s : R.State ⊎ Q.State) (x : ℕ) → (either_rule R Q).out (either_step R.clear Q.clear s) x ≡ false
  clears (inl s) x = p.clears s x
  clears (inr s) x = q.clears s x

  keeps : (s : R.State ⊎ Q.State) → Sound s → Keeps (either_rule R Q) s
  keeps (inl s) r = let k = p.keeps s r in record { within = k.within; draws = k.draws; puts = k.puts }
  keeps (inr s) r = let k = q.keeps s r in record { within = k.within; draws = k.draws; puts = k.puts }

  pub either_points : RackPoints (either_rule R Q)
  either_points = points_by (either_rule R Q) Sound kept clears keeps
