-- The points that every heap keeps, from its first clear on. Assumes nothing.
-- A set of living blocks is a map m: m x is the held size of the block that starts at x, if one does.
use Rattle.std.specs.Prelude.{◌≡◌, ℕ, ◌+◌, ◌*◌, ◌%◌, ◌<◌, ◌≤◌, max, Bool, true, cond, ◌⊎◌, is_some, Some, None, Option, ◌==◌, ◌≢◌}
use Rattle.heaps.specs.Rule.{HeapRule, Block}

-- no block at all; one block more; one block less
abbrev pub empty : ℕ → Option ℕ
empty x = None

abbrev pub plus : (ℕ → Option ℕ) → Block → ℕ → Option ℕ
plus m b x = cond (x == b.start) (Some b.held) (m x)

abbrev pub minus : (ℕ → Option ℕ) → ℕ → ℕ → Option ℕ
minus m s x = cond (x == s) None (m x)

-- start and held size are multiples of eight, at least 8 bytes are held, all inside the 4,096
pub record Fit (x h : ℕ) : Type 0 where
  pub even_start : x % 8 ≡ 0
  pub even_held : h % 8 ≡ 0
  pub some : 8 ≤ h
  pub inside : x + h ≤ 4096

-- h bytes from x on and k bytes from y on share none
abbrev pub Apart : ℕ → ℕ → ℕ → ℕ → Type 0
Apart x h y k = (x + h ≤ y) ⊎ (y + k ≤ x)

-- each block fits, and no two share a byte
pub record Laid (m : ℕ → Option ℕ) : Type 0 where
  pub fit : (x h : ℕ) → m x ≡ Some h → Fit x h
  pub apart : (x h y k : ℕ) → m x ≡ Some h → m y ≡ Some k → (x ≢ y) → Apart x h y k

-- n bytes from a on lie in no living block
abbrev pub Free : (ℕ → Option ℕ) → ℕ → ℕ → Type 0
Free m a n = (x h : ℕ) → m x ≡ Some h → Apart x h a n

-- the block b is added for n bytes: it is new, holds at least n and at most the larger of 256 and twice n
pub record Grants (m : ℕ → Option ℕ) (n : ℕ) (b : Block) (m' : ℕ → Option ℕ) : Type 0 where
  pub new : m b.start ≡ None
  pub adds : (x : ℕ) → m' x ≡ plus m b x
  pub enough : n ≤ b.held
  pub not_more : b.held ≤ max 256 (2 * n)

-- a take of n bytes, from the set m to the set m'
pub record Takes (m : ℕ → Option ℕ) (n : ℕ) (answer : Option Block) (m' : ℕ → Option ℕ) : Type 0 where
  pub grants : (b : Block) → answer ≡ Some b → Grants m n b m'
  -- a refusal keeps the set
  pub keeps : answer ≡ None → (x : ℕ) → m' x ≡ m x
  -- 0 and above 4,096 are always refused
  pub none : n ≡ 0 → answer ≡ None
  pub large : 4096 < n → answer ≡ None
  -- 1 to 256 are never refused while 512 neighbouring bytes are free
  pub must : 1 ≤ n → n ≤ 256 → (a : ℕ) → a + 512 ≤ 4096 → Free m a 512 → is_some answer ≡ true

-- a give of the block that starts at x: refused exactly where none does
pub record Gives (m : ℕ → Option ℕ) (x : ℕ) (answer : Bool) (m' : ℕ → Option ℕ) : Type 0 where
  pub answers : answer ≡ is_some (m x)
  pub removes : (y : ℕ) → m' y ≡ minus m x y

-- the points at one state
pub record Keeps (R : HeapRule) (s : R.State) : Type 0 where
  pub laid : Laid (R.held s)
  pub takes : (n : ℕ) → Takes (R.held s) n (R.take s n).answer (R.held (R.take s n).after)
  pub gives : (x : ℕ) → Gives (R.held s) x (R.give s x).answer (R.held (R.give s x).after)

-- the states that a heap can be in from its first clear on
pub data Reached (R : HeapRule) : R.State → Type 0 where
  cleared : (s : R.State) → Reached R (R.clear s)
  after_take : (s : R.State) (n : ℕ) → Reached R s → Reached R (R.take s n).after
  after_give : (s : R.State) (x : ℕ) → Reached R s → Reached R (R.give s x).after

-- what a heap owes; a clear empties the set in any state, since the first one may meet any
pub record Points (R : HeapRule) : Type 0 where
  pub clears : (s : R.State) (x : ℕ) → R.held (R.clear s) x ≡ None
  pub keeps : (s : R.State) → Reached R s → Keeps R s
