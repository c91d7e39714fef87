-- Which cells of a ring hold its items. Assumes nothing.
use Rattle.std.specs.Prelude.{ℕ, ◌+◌, ◌-◌, nat_lt, cond, List, ◌++◌, take, drop}

-- of n cells the one that comes so many steps after the cell k, round the end
abbrev pub cell : ℕ → ℕ → ℕ → ℕ
cell n k steps = cond (nat_lt steps (n - k)) (k + steps) (steps - (n - k))

-- so many items from the cell k on, and round the end
abbrev pub window : {T : Type 0} → ℕ → ℕ → List T → List T
window k count cells = take count (drop k cells ++ take k cells)
