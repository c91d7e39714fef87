-- A search for a name among the values of a line. Assumes nothing.
use Rattle.std.proofs.Common.{◌≡◌, ℕ, List, [], ◌∷◌, length, get_or, Some, None, Option, option_map, refl, arith}
use Rattle.std.specs.Str.{bytes_eq}
use Rattle.std.specs.List.{find}
use Rattle.form.specs.Columns.{stands_from}

-- the five places one after another, and the five values
pub places_of_five : (w : List ℕ) (vs : List (List ℕ)) → length vs ≡ 5 → find (λ k. bytes_eq w (get_or vs k [])) (0 ∷ 1 ∷ 2 ∷ 3 ∷ 4 ∷ []) ≡ stands_from 0 w vs
places_of_five w [] e = absurd (omega arith)
places_of_five w (a ∷ []) e = absurd (omega arith)
places_of_five w (a ∷ b ∷ []) e = absurd (omega arith)
places_of_five w (a ∷ b ∷ c ∷ []) e = absurd (omega arith)
places_of_five w (a ∷ b ∷ c ∷ d ∷ []) e = absurd (omega arith)
places_of_five w (a ∷ b ∷ c ∷ d ∷ f ∷ []) e = refl
places_of_five w (a ∷ b ∷ c ∷ d ∷ f ∷ g ∷ vs) e = absurd (omega arith)

pub as_found : (r o : Option ℕ) → option_map (λ (k : ℕ). k) r ≡ o → r ≡ o
as_found (Some k) o e = e
as_found None o e = e
