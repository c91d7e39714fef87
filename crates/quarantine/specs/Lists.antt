-- Lists of starts: what stands in one, and that none stands in it twice. Assumes nothing.
use Rattle.std.specs.Prelude.{◌≡◌, ℕ, Bool, true, false, cond, ◌||◌, List, [], ◌∷◌, ◌++◌, ◌==◌, nat_eq, refl}
use Rattle.std.specs.List.{list_any}
use Rattle.std.proofs.Common.{arith}
use Rattle.std.proofs.lemmas.Bool.Decides.{nat_tests}

abbrev pub is_in : ℕ → List ℕ → Bool
is_in x [] = false
is_in x (y ∷ ys) = cond (x == y) true (is_in x ys)

-- no number stands twice
abbrev pub Once : List ℕ → Type 0
Once [] = Unit {0}
Once (x ∷ xs) = (is_in x xs ≡ false) × Once xs

pub is_in_append : (x : ℕ) (a b : List ℕ) → is_in x (a ++ b) ≡ (is_in x a || is_in x b)
is_in_append x [] b = refl
is_in_append x (y ∷ a) b = let h = is_in_append x a b in grind (arith, nat_tests)

-- as a search sees it
pub list_any_is_in : (x : ℕ) (xs : List ℕ) → list_any (λ y. nat_eq y x) xs ≡ is_in x xs
list_any_is_in x [] = refl
list_any_is_in x (y ∷ ys) = let h = list_any_is_in x ys in grind (arith, nat_tests)
