-- What is told of a grant (a run of memory that was handed out): its kind, where it starts, the bytes asked for and held, and whether it is living. Assumes nothing.
use Rattle.std.specs.Prelude.{ℕ, zero, suc, ◌+◌, Bool, true, false, cond, ◌&&◌}

pub data Kind : Type 0 where
  globals : Kind
  block : Kind
  frame : Kind

abbrev pub is_block : Kind → Bool
is_block block = true
is_block _ = false

abbrev pub is_frame : Kind → Bool
is_frame frame = true
is_frame _ = false

pub record Outline : Type 0 where
  pub kind : Kind
  pub start : ℕ
  pub asked : ℕ
  pub held : ℕ
  pub living : Bool

-- living from the birth on, and ended
abbrev pub alive : Kind → ℕ → ℕ → ℕ → Outline
alive k x n h = record { kind = k; start = x; asked = n; held = h; living = true }

abbrev pub over : Outline → Outline
over o = record o { living = false }

-- what a number names that no grant has
abbrev pub blank : Outline
blank = over (alive globals 0 0 0)

-- how many of the numbers below n pass
abbrev pub bit : Bool → ℕ
bit true = 1
bit false = 0

-- shut, since at a numeral it would compute to a long sum
unfoldable pub count : (ℕ → Bool) → ℕ → ℕ
count f zero = 0
count f (suc n) = bit (f n) + count f n

-- the largest number below n that passes, or 0
abbrev pub latest : (ℕ → Bool) → ℕ → ℕ
latest f zero = 0
latest f (suc n) = cond (f n) n (latest f n)

abbrev pub living_block : Outline → Bool
living_block o = o.living && is_block o.kind

abbrev pub living_frame : Outline → Bool
living_frame o = o.living && is_frame o.kind
