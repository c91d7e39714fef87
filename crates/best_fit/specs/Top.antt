-- Where a heap's search may stop. Assumes nothing.
use Rattle.std.specs.Prelude.{◌≡◌, ℕ, ◌≤◌, List, slice_index}

-- no block starts at the cell top or above
pub record IsTop (top : ℕ) (cells : List ℕ) : Type 0 where
  pub within : top ≤ 512
  pub above : (k : ℕ) → top ≤ k → slice_index cells k ≡ 0
