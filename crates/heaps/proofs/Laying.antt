-- Blocks that fit and lie apart stay so, with one less and with one more on free bytes. Assumes nothing.
use Rattle.std.proofs.Common.{◌≡◌, ℕ, ◌≤◌, Bool, true, false, cond, eqb, Some, None, Option, sym, refl, ap, ◌∙◌, arith}
use Rattle.std.proofs.lemmas.Bool.Decides.{nat_tests}
use Rattle.heaps.specs.Rule.{Block}
use Rattle.heaps.specs.Points.{Fit, Apart, Laid, Free, plus, minus}

pub some_none : {P : Type 0} {A : Type 0} {a : A} → Some a ≡ None → P
some_none {P} {A} {a} e = absurd (let z : ◌≡◌ {A = ℕ} 0 1 = cc in omega arith)

pub laid_empty : (k : ℕ → Option ℕ) → ((x : ℕ) → k x ≡ None) → Laid k
laid_empty k e = record { fit = λ x h p. some_none (sym p ∙ e x); apart = λ x h y j p. some_none (sym p ∙ e x) }

pub laid_same : (m k : ℕ → Option ℕ) → Laid m → ((x : ℕ) → k x ≡ m x) → Laid k
laid_same m k l e = record {
  fit = λ x h p. l.fit x h (sym (e x) ∙ p);
  apart = λ x h y j p q. l.apart x h y j (sym (e x) ∙ p) (sym (e y) ∙ q);
}

pub laid_minus : (m k : ℕ → Option ℕ) (s : ℕ) → Laid m → ((x : ℕ) → k x ≡ minus m s x) → Laid k
laid_minus m k s l e = record {
  fit = λ x h p. let q = e x in l.fit x h (grind (arith, nat_tests));
  apart = λ x h y j p q. let d = e x in let f = e y in l.apart x h y j (grind (arith, nat_tests)) (grind (arith, nat_tests));
}

pub laid_plus : (m k : ℕ → Option ℕ) (b : Block) → Laid m → Fit b.start b.held → Free m b.start b.held → ((x : ℕ) → k x ≡ plus m b x) → Laid k
laid_plus m k b l f r e = record {
  fit = λ x h p. go x h p (eqb x b.start) refl;
  apart = λ x h y j p q ne. apart x h y j p q ne (eqb x b.start) refl (eqb y b.start) refl;
}
  where
    old : (x h : ℕ) → k x ≡ Some h → eqb x b.start ≡ false → m x ≡ Some h
    old x h p t = let q = e x in grind (arith, nat_tests)

    new : (x h : ℕ) → k x ≡ Some h → eqb x b.start ≡ true → (x ≡ b.start) × (h ≡ b.held)
    new x h p t = let q = e x in let v : Some h ≡ Some b.held = sym p ∙ q ∙ ap (λ (c : Bool). cond c (Some b.held) (m x)) t in (grind (arith, nat_tests), cc)

    go : (x h : ℕ) → k x ≡ Some h → (t : Bool) → eqb x b.start ≡ t → Fit x h
    go x h p true t = let n = new x h p t in record { even_start = omega (arith, f.even_start); even_held = omega (arith, f.even_held); some = omega (arith, f.some); inside = omega (arith, f.inside) }
    go x h p false t = l.fit x h (old x h p t)

    apart : (x h y j : ℕ) → k x ≡ Some h → k y ≡ Some j → (x ≡ y → ⊥) → (t : Bool) → eqb x b.start ≡ t → (u : Bool) → eqb y b.start ≡ u → Apart x h y j
    apart x h y j p q ne true t true u = absurd (ne (grind (arith, nat_tests)))
    apart x h y j p q ne true t false u = let n = new x h p t in let o = r y j (old y j q u) in grind arith
    apart x h y j p q ne false t true u = let n = new y j q u in let o = r x h (old x h p t) in grind arith
    apart x h y j p q ne false t false u = l.apart x h y j (old x h p t) (old y j q u) ne

-- no block starts where bytes are free
pub vacant : (m : ℕ → Option ℕ) (a n : ℕ) → Laid m → 1 ≤ n → Free m a n → m a ≡ None
vacant m a n l p f = go (m a) refl
  where
    go : (o : Option ℕ) → m a ≡ o → m a ≡ None
    go None e = e
    go (Some k) e = let z = l.fit a k e in let d = f a k e in absurd (grind arith)
