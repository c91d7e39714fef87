-- What the walk over the cells has seen of the living blocks. Assumes nothing.
use Rattle.std.specs.Prelude.{◌≡◌, ℕ, suc, ◌+◌, ◌-◌, ◌*◌, ◌%◌, ◌<◌, ◌≤◌, cond, ◌⊎◌, List, ◌∷◌, length, Some, None, Option, ◌≢◌, nat_lt, slice_index}
use Rattle.std.proofs.Common.{sym, subst, ◌∙◌, inl, inr, ⊎_elim, arith}
use Rattle.std.proofs.lemmas.Bool.Decides.{nat_tests}
use Rattle.std.proofs.lemmas.Bool.{cases_eq}
use Rattle.heaps.specs.Points.{Laid, Free}
use Rattle.heaps.proofs.Laying.{some_none}
use Rattle.best_fit.specs.Fits.{IsGap}

-- a block that ends at the cell low and starts below the cell at
pub record Ends (m : ℕ → Option ℕ) (low at : ℕ) : Type 0 where
  pub start : ℕ
  pub held : ℕ
  pub lives : m start ≡ Some held
  pub end : start + held ≡ 8 * low
  pub below : start < 8 * at

-- the walk at the cell at: the cells from there on are cs, and the last block below ends at low
pub record Seen (m : ℕ → Option ℕ) (low at : ℕ) (cs : List ℕ) : Type 0 where
  pub end : at + length cs ≡ 512
  pub ahead : (k : ℕ) → m (8 * (at + k)) ≡ cond (nat_lt 0 (slice_index cs k)) (Some (8 * slice_index cs k)) None
  pub past : (x h : ℕ) → m x ≡ Some h → (x + h ≤ 8 * low) ⊎ (8 * at ≤ x)
  pub edge : (low ≡ 0) ⊎ Ends m low at

-- the next block, or the end
abbrev pub Top : (ℕ → Option ℕ) → ℕ → Type 0
Top m at = (at ≡ 512) ⊎ ((h : ℕ) × (m (8 * at) ≡ Some h))

module _ (m : ℕ → Option ℕ) (l : Laid m) where
  here : (low at c : ℕ) (cs : List ℕ) → Seen m low at (c ∷ cs) → m (8 * at) ≡ cond (nat_lt 0 c) (Some (8 * c)) None
  here low at c cs w = let e : at + 0 ≡ at = omega arith in let a = w.ahead 0 in rw e at a

  pub there : (low at c : ℕ) (cs : List ℕ) → Seen m low at (suc c ∷ cs) → m (8 * at) ≡ Some (8 * suc c)
  there low at c cs w = let h = here low at (suc c) cs w in grind (arith, nat_tests)

  next : (low at c : ℕ) (cs : List ℕ) → Seen m low at (c ∷ cs) → (k : ℕ) → m (8 * (at + 1 + k)) ≡ cond (nat_lt 0 (slice_index cs k)) (Some (8 * slice_index cs k)) None
  next low at c cs w k = let e : at + suc k ≡ at + 1 + k = omega arith in let a = w.ahead (suc k) in rw e at a

  edge_on : (low at : ℕ) → (low ≡ 0) ⊎ Ends m low at → (low ≡ 0) ⊎ Ends m low (at + 1)
  edge_on low at (inl z) = inl z
  edge_on low at (inr b) = inr (record { start = b.start; held = b.held; lives = b.lives; end = b.end; below = let q = b.below in omega arith })

  -- past a cell at which no block starts
  pass : (low at c : ℕ) (cs : List ℕ) → Seen m low at (c ∷ cs) → ((h : ℕ) → m (8 * at) ≢ Some h) → Seen m low (at + 1) cs
  pass low at c cs w none = record {
    end = let e = w.end in omega arith;
    ahead = next low at c cs w;
    past = λ x h p. ⊎_elim inl (λ o. inr (later x h p o)) (w.past x h p);
    edge = edge_on low at w.edge;
  }
    where
      later : (x h : ℕ) → m x ≡ Some h → 8 * at ≤ x → 8 * (at + 1) ≤ x
      later x h p o =
          let f = l.fit x h p in
          let ne : x ≡ 8 * at → ⊥ = λ z. none h (subst (λ (y : ℕ). m y ≡ Some h) z p) in
          grind arith

  pub seen_free : (low at : ℕ) (cs : List ℕ) → Seen m low at (0 ∷ cs) → Seen m low (at + 1) cs
  seen_free low at cs w = pass low at 0 cs w (λ h p. some_none (sym p ∙ here low at 0 cs w))

  -- past a cell inside the last block
  pub seen_inside : (low at c : ℕ) (cs : List ℕ) → Seen m low at (c ∷ cs) → at < low → Seen m low (at + 1) cs
  seen_inside low at c cs w lt = pass low at c cs w (λ h p. clash h p w.edge)
    where
      clash : (h : ℕ) → m (8 * at) ≡ Some h → (low ≡ 0) ⊎ Ends m low at → ⊥
      clash h p (inl z) = omega arith
      clash h p (inr b) =
          let e = b.end in
          let q = b.below in
          let o = l.apart b.start b.held (8 * at) h b.lives p (λ (z : b.start ≡ 8 * at). omega arith) in
          grind arith

  -- past the first cell of a block
  pub seen_block : (low at c : ℕ) (cs : List ℕ) → Seen m low at (suc c ∷ cs) → Seen m (at + suc c) (at + 1) cs
  seen_block low at c cs w = record {
    end = let e = w.end in omega arith;
    ahead = next low at (suc c) cs w;
    past = λ x h p. ⊎_elim (λ z. inl (same x h p z)) (λ ne. let f = l.fit x h p in let g = l.fit (8 * at) (8 * suc c) q in let o = l.apart x h (8 * at) (8 * suc c) p q ne in let r = w.past x h p in other x h f.even_start o r) (cases_eq x (8 * at));
    edge = inr (record { start = 8 * at; held = 8 * suc c; lives = q; end = omega arith; below = omega arith });
  }
    where
      q : m (8 * at) ≡ Some (8 * suc c)
      q = there low at c cs w

      same : (x h : ℕ) → m x ≡ Some h → x ≡ 8 * at → x + h ≤ 8 * (at + suc c)
      same x h p z = let e : h ≡ 8 * suc c = (let r : m (8 * at) ≡ Some h = subst (λ (y : ℕ). m y ≡ Some h) z p in let t = q in cc) in omega arith

      other : (x h : ℕ) → x % 8 ≡ 0 → (x + h ≤ 8 * at) ⊎ (8 * at + 8 * suc c ≤ x) → (x + h ≤ 8 * low) ⊎ (8 * at ≤ x) → (x + h ≤ 8 * (at + suc c)) ⊎ (8 * (at + 1) ≤ x)
      other x h e o r = grind arith

  -- what lies between the last block and the next one, or the end, is a gap
  pub closed : (low at : ℕ) (cs : List ℕ) → Seen m low at cs → low < at → Top m at → IsGap m (8 * low) (8 * (at - low))
  closed low at cs w lt top = record {
    some = omega arith;
    inside = let e = w.end in omega arith;
    free = λ x h p. let o = w.past x h p in grind arith;
    whole = λ b k i f p q. let d = down b k f q w.edge in let u = up b k i f p top in (omega arith, omega arith);
  }
    where
      down : (b k : ℕ) → Free m b k → 8 * low + 8 * (at - low) ≤ b + k → (low ≡ 0) ⊎ Ends m low at → 8 * low ≤ b
      down b k f q (inl z) = omega arith
      down b k f q (inr e) = let o = f e.start e.held e.lives in let z = e.end in let y = (l.fit e.start e.held e.lives).some in grind arith

      up : (b k : ℕ) → b + k ≤ 4096 → Free m b k → b ≤ 8 * low → Top m at → b + k ≤ 8 * at
      up b k i f p (inl z) = omega arith
      up b k i f p (inr (h, e)) = let o = f (8 * at) h e in grind arith
