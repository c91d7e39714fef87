-- Distinct numbers from 1 to k are at most k. Assumes nothing.
use Rattle.std.specs.Prelude.{◌≡◌, ℕ, zero, suc, ◌≤◌, Bool, true, false, cond, not, ◌&&◌, List, [], ◌∷◌, length, ◌==◌, nat_eq, refl}
use Rattle.std.proofs.Common.{ap, subst, arith}
use Rattle.std.proofs.lemmas.Bool.Decides.{nat_tests}
use Rattle.racks.specs.Accounted.{is_in, once}

abbrev without : ℕ → List ℕ → List ℕ
without a [] = []
without a (y ∷ ys) = cond (y == a) (without a ys) (y ∷ without a ys)

is_in_without : (a x : ℕ) (ys : List ℕ) → is_in x (without a ys) ≡ (is_in x ys && not (x == a))
is_in_without a x [] = refl
is_in_without a x (y ∷ ys) = let h = is_in_without a x ys in go (y == a) refl h
  where
    go : (b : Bool) → (y == a) ≡ b → is_in x (without a ys) ≡ (is_in x ys && not (x == a)) → is_in x (cond b (without a ys) (y ∷ without a ys)) ≡ (is_in x (y ∷ ys) && not (x == a))
    go true e h = grind (arith, nat_tests)
    go false e h = grind (arith, nat_tests)

once_without : (a : ℕ) (ys : List ℕ) → once ys ≡ true → once (without a ys) ≡ true
once_without a [] o = refl
once_without a (y ∷ ys) o = go (y == a) (once_without a ys (grind (arith, nat_tests)))
  where
    go : (b : Bool) → once (without a ys) ≡ true → once (cond b (without a ys) (y ∷ without a ys)) ≡ true
    go true r = r
    go false r = let h = is_in_without a y ys in grind (arith, nat_tests)

length_same : (a : ℕ) (ys : List ℕ) → is_in a ys ≡ false → length (without a ys) ≡ length ys
length_same a [] f = refl
length_same a (y ∷ ys) f =
    let ne : nat_eq y a ≡ false = grind (arith, nat_tests) in
    let r : is_in a ys ≡ false = grind (arith, nat_tests) in
    rw ne (ap suc (length_same a ys r))

length_without : (a : ℕ) (ys : List ℕ) → once ys ≡ true → length ys ≤ suc (length (without a ys))
length_without a [] o = omega arith
length_without a (y ∷ ys) o = go (y == a) refl (length_without a ys (grind (arith, nat_tests)))
  where
    go : (b : Bool) → (y == a) ≡ b → length ys ≤ suc (length (without a ys)) → length (y ∷ ys) ≤ suc (length (cond b (without a ys) (y ∷ without a ys)))
    go true e h =
        let same : y ≡ a = grind (arith, nat_tests) in
        let off : is_in y ys ≡ false = grind (arith, nat_tests) in
        let out : is_in a ys ≡ false = subst (λ (z : ℕ). is_in z ys ≡ false) same off in
        let l = length_same a ys out in
        omega arith
    go false e h = omega arith

pub at_most : (k : ℕ) (xs : List ℕ) → once xs ≡ true → ((x : ℕ) → is_in x xs ≡ true → (1 ≤ x) × (x ≤ k)) → length xs ≤ k
at_most zero [] o h = omega arith
at_most zero (x ∷ xs) o h = let b = h x (grind (arith, nat_tests)) in absurd (omega arith)
at_most (suc k) xs o h =
    let l = length_without (suc k) xs o in
    let r : length (without (suc k) xs) ≤ k = at_most k (without (suc k) xs) (once_without (suc k) xs o) (λ x i. let q = is_in_without (suc k) x xs in let b = h x (grind (arith, nat_tests)) in let ne : nat_eq x (suc k) ≡ false = grind (arith, nat_tests) in (b.0, grind (arith, nat_tests))) in
    omega arith
