-- How counts change with the function that is counted, and what the latest number that passes is. Assumes nothing.
use Rattle.std.proofs.Common.{◌≡◌, ℕ, zero, suc, ◌+◌, ◌<◌, ◌≤◌, Bool, true, false, cond, ◌⊎◌, refl, ap, ◌∙◌, inl, inr, arith}
use Rattle.std.proofs.lemmas.Bool.{cases_eq}
use Rattle.model.specs.Grants.{count, bit, latest}
use Rattle.model.proofs.Views.{upd, upd_same, upd_other}

pub count_suc : (f : ℕ → Bool) (n : ℕ) → count f (suc n) ≡ bit (f n) + count f n
unfolding count
count_suc f n = refl

pub count_ext : (f g : ℕ → Bool) (n : ℕ) → ((i : ℕ) → i < n → f i ≡ g i) → count f n ≡ count g n
unfolding count
count_ext f g zero h = refl
count_ext f g (suc n) h = rw (h n (omega arith), count_ext f g n (λ i l. h i (omega arith)))

pub count_le : (f : ℕ → Bool) (n : ℕ) → count f n ≤ n
unfolding count
count_le f zero = omega arith
count_le f (suc n) = go (f n) (count_le f n)
  where
    go : (b : Bool) → count f n ≤ n → bit b + count f n ≤ suc n
    go true h = omega arith
    go false h = omega arith

-- one more, or one less
pub count_upd : (f : ℕ → Bool) (n p : ℕ) (b : Bool) → p < n → count (upd f p b) n + bit (f p) ≡ count f n + bit b
unfolding count
count_upd f zero p b h = absurd (omega arith)
count_upd f (suc n) p b h = go (λ l. count_upd f n p b l) (cases_eq n p)
  where
    go : (p < n → count (upd f p b) n + bit (f p) ≡ count f n + bit b) → (n ≡ p) ⊎ (n ≡ p → ⊥) → bit (upd f p b n) + count (upd f p b) n + bit (f p) ≡ bit (f n) + count f n + bit b
    go r (inl e) =
        let a : count (upd f p b) n ≡ count f n = count_ext (upd f p b) f n (λ i l. upd_other f p b i (omega arith)) in
        let c : upd f p b n ≡ b = upd_same f p b n e in
        let g : f n ≡ f p = ap f e in
        rw (c, a, g) (omega arith)
    go r (inr e) =
        let a : count (upd f p b) n + bit (f p) ≡ count f n + bit b = r (omega arith) in
        let c : upd f p b n ≡ f n = upd_other f p b n e in
        rw c (omega arith)

-- where 0 does not pass
pub count_most : (f : ℕ → Bool) (n : ℕ) → f 0 ≡ false → count f (suc n) ≤ n
unfolding count
count_most f zero h = rw h (omega arith)
count_most f (suc n) h = go (f (suc n)) (count_most f n h)
  where
    go : (b : Bool) → count f (suc n) ≤ n → bit b + count f (suc n) ≤ suc n
    go true k = omega arith
    go false k = omega arith

pub count_full : (f : ℕ → Bool) (n : ℕ) → f 0 ≡ false → ((p : ℕ) → 1 ≤ p → p ≤ n → f p ≡ true) → count f (suc n) ≡ n
unfolding count
count_full f zero h k = rw h (omega arith)
count_full f (suc n) h k =
    let a : count f (suc n) ≡ n = count_full f n h (λ p l m. k p l (omega arith)) in
    rw (k (suc n) (omega arith) (omega arith)) (omega arith)

pub latest_is : (f : ℕ → Bool) (n y : ℕ) → y < n → f y ≡ true → ((i : ℕ) → y < i → i < n → f i ≡ false) → latest f n ≡ y
latest_is f zero y l h k = absurd (omega arith)
latest_is f (suc n) y l h k = go (λ m. latest_is f n y m h (λ i a b. k i a (omega arith))) (cases_eq n y)
  where
    go : (y < n → latest f n ≡ y) → (n ≡ y) ⊎ (n ≡ y → ⊥) → cond (f n) n (latest f n) ≡ y
    go r (inl e) = rw (e, h)
    go r (inr e) = rw (k n (omega arith) (omega arith)) (r (omega arith))

pub count_none : (f : ℕ → Bool) (n : ℕ) → ((i : ℕ) → i < n → f i ≡ false) → count f n ≡ 0
unfolding count
count_none f zero h = refl
count_none f (suc n) h = rw (h n (omega arith), count_none f n (λ i l. h i (omega arith))) (omega arith)

pub latest_ext : (f g : ℕ → Bool) (n : ℕ) → ((i : ℕ) → f i ≡ g i) → latest f n ≡ latest g n
latest_ext f g zero h = refl
latest_ext f g (suc n) h = rw (h n, latest_ext f g n h)

-- where some pass, the latest does, and is one of them
pub latest_passes : (f : ℕ → Bool) (n : ℕ) → 0 < count f n → (f (latest f n) ≡ true) × (latest f n < n)
unfolding count
latest_passes f zero h = absurd (omega arith)
latest_passes f (suc n) h = go (f n) refl (latest_passes f n)
  where
    go : (b : Bool) → f n ≡ b → (0 < count f n → (f (latest f n) ≡ true) × (latest f n < n)) → (f (cond (f n) n (latest f n)) ≡ true) × (cond (f n) n (latest f n) < suc n)
    go true e r = rw e (e, omega arith)
    go false e r =
        let some : 0 < bit (f n) + count f n = h in
        let less : 0 < 0 + count f n = rw e at some in
        let z = r (omega arith) in
        let low = z.1 in
        rw e (z.0, omega arith)

pub count_zero : (f : ℕ → Bool) (n : ℕ) → count f n ≡ 0 → (i : ℕ) → i < n → f i ≡ false
unfolding count
count_zero f zero h i l = absurd (omega arith)
count_zero f (suc n) h i l = go (cases_eq i n) (f n) refl (count_zero f n)
  where
    go : (i ≡ n) ⊎ (i ≡ n → ⊥) → (b : Bool) → f n ≡ b → (count f n ≡ 0 → (i : ℕ) → i < n → f i ≡ false) → f i ≡ false
    go c true e r = let z : bit (f n) + count f n ≡ 0 = h in let y : 1 + count f n ≡ 0 = rw e at z in absurd (omega arith)
    go (inl q) false e r = ap f q ∙ e
    go (inr q) false e r = let z : bit (f n) + count f n ≡ 0 = h in let y : 0 + count f n ≡ 0 = rw e at z in r (omega arith) i (omega arith)
