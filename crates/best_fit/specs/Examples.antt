-- Worked examples of the best-fit heap. Assumes nothing.
use Rattle.std.specs.Prelude.{◌≡◌, ℕ, List, Some, None}
use Rattle.best_fit.specs.Rule.{best_fit_take, best_fit_give, cleared}

-- with a block more for n bytes, and with the block at x given
abbrev pub with_block : ℕ → List ℕ → List ℕ
with_block n s = (best_fit_take s n).after

abbrev pub without : ℕ → List ℕ → List ℕ
without x s = (best_fit_give s x).after

-- blocks of 16 bytes at 16 and 48, and two gaps of 16 bytes below them, at 0 and 32
abbrev pub two_gaps : List ℕ
two_gaps = without 32 (without 0 (with_block 16 (with_block 16 (with_block 16 (with_block 16 cleared)))))

pub record Examples : Type 0 where
  pub all : (best_fit_take cleared 4096).answer ≡ Some (record { start = 0; held = 4096 })
  pub too_large : (best_fit_take cleared 4097).answer ≡ None
  pub none : (best_fit_take cleared 0).answer ≡ None
  pub full : (best_fit_take (with_block 4096 cleared) 1).answer ≡ None
  pub equal_gaps : (best_fit_take two_gaps 9).answer ≡ Some (record { start = 0; held = 16 })
  pub larger : (best_fit_take two_gaps 17).answer ≡ Some (record { start = 64; held = 24 })
