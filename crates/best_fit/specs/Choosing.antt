-- The walk over the cells ends with the gap that is used before all others that suffice. Assumes nothing.
use Rattle.std.specs.Prelude.{◌≡◌, ℕ, zero, suc, ◌+◌, ◌-◌, ◌*◌, ◌<◌, ◌≤◌, Bool, true, false, cond, ◌&&◌, List, [], ◌∷◌, length, Some, None, Option, IfSome, nat_le, refl}
use Rattle.std.proofs.Common.{subst, arith}
use Rattle.std.proofs.Math.Logic.{inl, inr, ⊎_elim}
use Rattle.std.proofs.lemmas.Bool.Decides.{nat_tests}
use Rattle.heaps.specs.Points.{Laid, Free}
use Rattle.best_fit.specs.Rule.{before, improves, gap, better, best_of}
use Rattle.best_fit.specs.Fits.{IsGap}
use Rattle.best_fit.specs.declared.gap.Gap.{Gap}
use Rattle.best_fit.specs.Seen.{Seen, Top, there, seen_free, seen_inside, seen_block, closed}

before_trans : (g h r : Gap) → before g h ≡ false → before h r ≡ false → before g r ≡ false
before_trans g h r p q = grind (arith, nat_tests)

before_self : (g : Gap) → before g g ≡ false
before_self g = grind (arith, nat_tests)

before_turned : (g h : Gap) → before g h ≡ true → before h g ≡ false
before_turned g h p = grind (arith, nat_tests)

-- a gap is chosen, and the gap g is not used before it
abbrev pub Yields : Gap → Option Gap → Type 0
Yields g None = ⊥
Yields g (Some h) = before g h ≡ false

-- neither the gap so far nor the new one is used before the better one
better_old : (need : ℕ) (best : Option Gap) (low at : ℕ) (g : Gap) → Yields g best → Yields g (better need best low at)
better_old need None low at g y = absurd y
better_old need (Some h) low at g y = go (nat_le need (at - low)) (before (gap low at) h) refl
  where
    go : (a b : Bool) → before (gap low at) h ≡ b → Yields g (cond (a && b) (Some (gap low at)) (Some h))
    go true true e = before_trans g h (gap low at) y (before_turned (gap low at) h e)
    go true false e = y
    go false b e = y

better_new : (need : ℕ) (best : Option Gap) (low at : ℕ) → need ≤ at - low → Yields (gap low at) (better need best low at)
better_new need best low at h = go best (nat_le need (at - low)) (grind (arith, nat_tests)) (improves (gap low at) best) refl
  where
    go : (o : Option Gap) (a : Bool) → a ≡ true → (b : Bool) → improves (gap low at) o ≡ b → Yields (gap low at) (cond (a && b) (Some (gap low at)) o)
    go o true t true e = before_self (gap low at)
    go (Some g) true t false e = e
    go None true t false e = absurd (let z : ◌≡◌ {A = ℕ} 0 1 = cc in omega arith)
    go o false t b e = absurd (let z : ◌≡◌ {A = ℕ} 0 1 = cc in omega arith)

-- the better one is the gap so far, or the new one
better_from : (P : Gap → Type 0) (need : ℕ) (best : Option Gap) (low at : ℕ) → IfSome best P → (need ≤ at - low → P (gap low at)) → IfSome (better need best low at) P
better_from P need best low at old new = go (nat_le need (at - low)) refl (improves (gap low at) best)
  where
    go : (a : Bool) → nat_le need (at - low) ≡ a → (b : Bool) → IfSome (cond (a && b) (Some (gap low at)) best) P
    go true t true = new (grind (arith, nat_tests))
    go true t false = old
    go false t b = old

-- what is chosen of so many cells leaves room for the cells that are needed
pub in_range : (need : ℕ) (best : Option Gap) (low at inner : ℕ) (cs : List ℕ) → 1 ≤ need → at + length cs ≤ 512 → IfSome best (λ g. g.start + need ≤ 512) → IfSome (best_of need best low at inner cs) (λ g. g.start + need ≤ 512)
unfolding best_of
in_range need best low at inner [] p e b = better_from (λ g. g.start + need ≤ 512) need best low 512 b (λ q. omega arith)
in_range need best low at (suc inner) (c ∷ cs) p e b = in_range need best low (at + 1) inner cs p (omega arith) b
in_range need best low at zero (zero ∷ cs) p e b = in_range need best low (at + 1) zero cs p (omega arith) b
in_range need best low at zero (suc c ∷ cs) p e b =
    in_range need (better need best low at) (at + suc c) (at + 1) c cs p (omega arith) (better_from (λ g. g.start + need ≤ 512) need best low at b (λ q. omega arith))

-- a gap gives way only to one that is used before it
pub stays : (need : ℕ) (best : Option Gap) (low at inner : ℕ) (cs : List ℕ) (g : Gap) → Yields g best → Yields g (best_of need best low at inner cs)
unfolding best_of
stays need best low at inner [] g y = better_old need best low 512 g y
stays need best low at (suc inner) (c ∷ cs) g y = stays need best low (at + 1) inner cs g y
stays need best low at zero (zero ∷ cs) g y = stays need best low (at + 1) zero cs g y
stays need best low at zero (suc c ∷ cs) g y = stays need (better need best low at) (at + suc c) (at + 1) c cs g (better_old need best low at g y)

-- a gap that may be used
pub record Usable (m : ℕ → Option ℕ) (need : ℕ) (g : Gap) : Type 0 where
  pub whole : IsGap m (8 * g.start) (8 * g.size)
  pub enough : need ≤ g.size

-- a free stretch lies in a gap, and that gap is not used before the one chosen
pub record Covered (m : ℕ → Option ℕ) (chosen : Option Gap) (a n : ℕ) : Type 0 where
  pub around : Gap
  pub whole : IsGap m (8 * around.start) (8 * around.size)
  pub low : 8 * around.start ≤ a
  pub high : a + n ≤ 8 * around.start + 8 * around.size
  pub first : Yields around chosen

-- the walk is inside the last block just as far as that block reaches
abbrev Inner : ℕ → ℕ → ℕ → Type 0
Inner low at inner = 0 < inner → low ≡ at + inner

module _ (m : ℕ → Option ℕ) (l : Laid m) (need : ℕ) (some : 1 ≤ need) where
  stretch : (best : Option Gap) (low at : ℕ) (cs : List ℕ) → Seen m low at cs → Top m at → IfSome best (Usable m need) → IfSome (better need best low at) (Usable m need)
  stretch best low at cs w top u = better_from (Usable m need) need best low at u (λ p. record { whole = closed m l low at cs w (omega (arith, p)) top; enough = p })

  pub found : (best : Option Gap) (low at inner : ℕ) (cs : List ℕ) → Seen m low at cs → Inner low at inner → IfSome best (Usable m need) → IfSome (best_of need best low at inner cs) (Usable m need)
  unfolding best_of
  found best low at inner [] w i u = let z : at ≡ 512 = (let e = w.end in omega arith) in stretch best low 512 [] (subst (λ (x : ℕ). Seen m low x []) z w) (inl refl) u
  found best low at (suc inner) (c ∷ cs) w i u = let e = i (omega arith) in found best low (at + 1) inner cs (seen_inside m l low at c cs w (omega arith)) (λ p. omega arith) u
  found best low at zero (zero ∷ cs) w i u = found best low (at + 1) zero cs (seen_free m l low at cs w) (λ p. absurd (omega arith)) u
  found best low at zero (suc c ∷ cs) w i u =
      found (better need best low at) (at + suc c) (at + 1) c cs (seen_block m l low at c cs w) (λ p. omega arith) (stretch best low at (suc c ∷ cs) w (inr (8 * suc c, there m l low at c cs w)) u)

  pub covered : (best : Option Gap) (low at inner : ℕ) (cs : List ℕ) (a n : ℕ) → Seen m low at cs → Inner low at inner → Free m a n → 8 * need ≤ n → 8 * low ≤ a → a + n ≤ 4096 → Covered m (best_of need best low at inner cs) a n
  unfolding best_of
  covered best low at inner [] a n w i f h lo hi =
      let z : at ≡ 512 = (let e = w.end in omega arith) in
      record { around = gap low 512; whole = closed m l low 512 [] (subst (λ (x : ℕ). Seen m low x []) z w) (omega arith) (inl refl); low = lo; high = omega arith; first = better_new need best low 512 (omega arith) }
  covered best low at (suc inner) (c ∷ cs) a n w i f h lo hi = let e = i (omega arith) in covered best low (at + 1) inner cs a n (seen_inside m l low at c cs w (omega arith)) (λ p. omega arith) f h lo hi
  covered best low at zero (zero ∷ cs) a n w i f h lo hi = covered best low (at + 1) zero cs a n (seen_free m l low at cs w) (λ p. absurd (omega arith)) f h lo hi
  covered best low at zero (suc c ∷ cs) a n w i f h lo hi =
      let q = there m l low at c cs w in
      ⊎_elim
      (λ o. covered (better need best low at) (at + suc c) (at + 1) c cs a n (seen_block m l low at c cs w) (λ p. omega arith) f h (omega arith) hi)
      (λ o. record {
        around = gap low at;
        whole = closed m l low at (suc c ∷ cs) w (omega arith) (inr (8 * suc c, q));
        low = lo;
        high = omega arith;
        first = stays need (better need best low at) (at + suc c) (at + 1) c cs (gap low at) (better_new need best low at (omega arith));
      })
      (f (8 * at) (8 * suc c) q)
