-- Reads and writes of parts of lists, and numbers as bytes, the lowest first. Assumes nothing.
use Rattle.std.specs.Prelude.{ℕ, zero, suc, ◌+◌, ◌*◌, ◌/◌, ◌%◌, List, [], ◌∷◌, slice_index_or, slice_set}

-- xs written over what stands from place i on
abbrev pub put : {X : Type 0} → List X → ℕ → List X → List X
put m i [] = m
put m i (x ∷ xs) = put (slice_set m i x) (suc i) xs

-- the k elements from place i on
abbrev pub part : {X : Type 0} → X → ℕ → List X → ℕ → List X
part z zero m i = []
part z (suc k) m i = slice_index_or m i z ∷ part z k m (suc i)

-- the number that bytes say, lowest first, and its bytes
abbrev pub value : List ℕ → ℕ
value [] = 0
value (x ∷ xs) = x + 256 * value xs

abbrev pub bytes : ℕ → ℕ → List ℕ
bytes zero v = []
bytes (suc k) v = (v % 256) ∷ bytes k (v / 256)
