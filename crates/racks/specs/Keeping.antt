-- How a rack shows its points: by a fact that every call keeps. Assumes nothing.
use Rattle.std.specs.Prelude.{◌≡◌, ℕ, false}
use Rattle.racks.specs.Rule.{RackRule}
use Rattle.racks.specs.Points.{Reached, cleared, after_draw, after_put, Keeps, RackPoints}

pub record Kept (R : RackRule) (Sound : R.State → Type 0) : Type 0 where
  pub clear_sound : (s : R.State) → Sound (R.clear s)
  pub draw_sound : (s : R.State) → Sound s → Sound (R.draw s).after
  pub put_sound : (s : R.State) (p : ℕ) → Sound s → Sound (R.put s p).after

pub reached_sound : (R : RackRule) (Sound : R.State → Type 0) → Kept R Sound → (s : R.State) → Reached R s → Sound s
reached_sound R Sound k s (cleared u) = k.clear_sound u
reached_sound R Sound k s (after_draw u r) = k.draw_sound u (reached_sound R Sound k u r)
reached_sound R Sound k s (after_put u p r) = k.put_sound u p (reached_sound R Sound k u r)

pub points_by : (R : RackRule) (Sound : R.State → Type 0) → Kept R Sound → ((s : R.State) (p : ℕ) → R.out (R.clear s) p ≡ false) → ((s : R.State) → Sound s → Keeps R s) → RackPoints R
points_by R Sound k e f = record { clears = e; keeps = λ s r. f s (reached_sound R Sound k s r) }
