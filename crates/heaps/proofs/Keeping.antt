-- How a heap shows its points: by a fact that every call keeps. Assumes nothing.
use Rattle.std.proofs.Common.{◌≡◌, ℕ, None}
use Rattle.heaps.specs.Rule.{HeapRule}
use Rattle.heaps.specs.Points.{Reached, cleared, after_take, after_give, Keeps, Points}

pub record Kept (R : HeapRule) (Sound : R.State → Type 0) : Type 0 where
  pub clear_sound : (s : R.State) → Sound (R.clear s)
  pub take_sound : (s : R.State) (n : ℕ) → Sound s → Sound (R.take s n).after
  pub give_sound : (s : R.State) (x : ℕ) → Sound s → Sound (R.give s x).after

pub reached_sound : (R : HeapRule) (Sound : R.State → Type 0) → Kept R Sound → (s : R.State) → Reached R s → Sound s
reached_sound R Sound k s (cleared u) = k.clear_sound u
reached_sound R Sound k s (after_take u n r) = k.take_sound u n (reached_sound R Sound k u r)
reached_sound R Sound k s (after_give u x r) = k.give_sound u x (reached_sound R Sound k u r)

pub points_by : (R : HeapRule) (Sound : R.State → Type 0) → Kept R Sound → ((s : R.State) (x : ℕ) → R.held (R.clear s) x ≡ None) → ((s : R.State) → Sound s → Keeps R s) → Points R
points_by R Sound k e f = record { clears = e; keeps = λ s r. f s (reached_sound R Sound k s r) }
