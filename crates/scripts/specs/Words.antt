-- Lines compared with words. Assumes nothing.
use Rattle.std.specs.Prelude.{ℕ, cond, List, [], ◌∷◌, Some, None, Option, ◌==◌}

-- what follows some words, where a line begins with them
abbrev pub after : List ℕ → List ℕ → Option (List ℕ)
after [] line = Some line
after (w ∷ ws) [] = None
after (w ∷ ws) (b ∷ line) = cond (b == w) (after ws line) None

-- where a line goes on after some words, what f makes of the rest; else the other answer
abbrev pub past : {A : Type 0} → Option (List ℕ) → (List ℕ → Option A) → Option A → Option A
past (Some rest) f other = f rest
past None f other = other
