-- The best-fit heap's rule in plain words, over the set of living blocks alone. Assumes nothing.
use Rattle.std.specs.Prelude.{◌≡◌, ℕ, ◌+◌, ◌*◌, ◌/◌, ◌<◌, ◌≤◌, List, Some, None, Option}
use Rattle.heaps.specs.Rule.{Block}
use Rattle.heaps.specs.Points.{Free, Reached}
use Rattle.best_fit.specs.Rule.{best_fit_held, best_fit_take, best_fit_rule}

-- a gap: a free stretch that no longer free stretch includes
pub record IsGap (m : ℕ → Option ℕ) (a n : ℕ) : Type 0 where
  pub some : 1 ≤ n
  pub inside : a + n ≤ 4096
  pub free : Free m a n
  pub whole : (b k : ℕ) → b + k ≤ 4096 → Free m b k → b ≤ a → a + n ≤ b + k → (b ≡ a) × (k ≡ n)

-- n rounded up to eight
abbrev pub rounded : ℕ → ℕ
rounded n = (n + 7) / 8 * 8

-- the block b is the best fit for n bytes
pub record BestFit (m : ℕ → Option ℕ) (n : ℕ) (b : Block) : Type 0 where
  pub held : b.held ≡ rounded n
  -- the block lies at the low end of a gap of this size
  pub size : ℕ
  pub gap : IsGap m b.start size
  pub suffices : rounded n ≤ size
  -- no smaller gap suffices, and no equal one lies lower
  pub smallest : (a k : ℕ) → IsGap m a k → rounded n ≤ k → size ≤ k
  pub lowest : (a : ℕ) → IsGap m a size → b.start ≤ a

pub record FitsBest (m : ℕ → Option ℕ) (n : ℕ) (answer : Option Block) : Type 0 where
  pub grants : (b : Block) → answer ≡ Some b → BestFit m n b
  -- a refusal of 1 to 4,096 says that every gap is too small
  pub refuses : 1 ≤ n → n ≤ 4096 → answer ≡ None → (a k : ℕ) → IsGap m a k → k < rounded n

-- in every state from the first clear on
abbrev pub AlwaysBest : Type 0
AlwaysBest = (s : List ℕ) → Reached best_fit_rule s → (n : ℕ) → FitsBest (best_fit_held s) n (best_fit_take s n).answer
