-- The fact that a row keeps: each place stands in it once, or else is out. Assumes nothing.
use Rattle.std.specs.Prelude.{◌≡◌, ℕ, ◌≤◌, Bool, true, false, cond, not, ◌&&◌, List, [], ◌∷◌, length, ◌==◌, nat_le}
use Rattle.racks.specs.Row.{Row, row_out}

abbrev pub is_in : ℕ → List ℕ → Bool
is_in x [] = false
is_in x (y ∷ ys) = cond (x == y) true (is_in x ys)

-- whether no number stands twice
abbrev pub once : List ℕ → Bool
once [] = true
once (x ∷ xs) = not (is_in x xs) && once xs

-- whether x is a place, and not in the row
abbrev pub away : List ℕ → ℕ → Bool
away row x = nat_le 1 x && (nat_le x 255 && not (is_in x row))

-- there is a mark for each number below 256; no place is back twice; only places are back; and out are the others
abbrev pub Accounted : Row → Type 0
Accounted s = (length s.out ≡ 256) × (once s.back ≡ true) × ((x : ℕ) → is_in x s.back ≡ true → (1 ≤ x) × (x ≤ 255)) × ((x : ℕ) → row_out s x ≡ away s.back x)
