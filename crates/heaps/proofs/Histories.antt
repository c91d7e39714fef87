-- Over every history a heap keeps its points, and its living blocks are those granted and not given since. Assumes nothing.
use Rattle.std.proofs.Common.{◌≡◌, ℕ, Bool, true, false, cond, eqb, List, [], ◌∷◌, is_some, Some, None, Option, sym, refl, ap, ◌∙◌, arith}
use Rattle.std.proofs.lemmas.Bool.Decides.{nat_tests}
use Rattle.heaps.specs.Rule.{HeapRule, Block}
use Rattle.heaps.specs.Points.{Points, Reached, cleared, after_take, after_give, empty, plus, minus}
use Rattle.heaps.specs.Histories.{Call, take, give, clear, Event, taken, given, cleared as emptied, living, step, event, after, events, EveryHistory}

-- equal sets give equal sets
living_same : (m k : ℕ → Option ℕ) → ((x : ℕ) → m x ≡ k x) → (es : List Event) (x : ℕ) → living m es x ≡ living k es x
living_same m k e [] x = e x
living_same m k e (taken n (Some b) ∷ es) x = living_same (plus m b) (plus k b) (λ y. ap (cond (eqb y b.start) (Some b.held)) (e y)) es x
living_same m k e (taken n None ∷ es) x = living_same m k e es x
living_same m k e (given s true ∷ es) x = living_same (minus m s) (minus k s) (λ y. ap (cond (eqb y s) None) (e y)) es x
living_same m k e (given s false ∷ es) x = living_same m k e es x
living_same m k e (emptied ∷ es) x = refl

-- a set without a block there stays as it is
absent : (m : ℕ → Option ℕ) (s x : ℕ) → is_some (m s) ≡ false → minus m s x ≡ m x
absent m s x f = go (m s) refl
  where
    go : (o : Option ℕ) → m s ≡ o → minus m s x ≡ m x
    go None e = grind (arith, nat_tests)
    go (Some h) e = absurd (let z : ◌≡◌ {A = ℕ} 0 1 = cc in omega arith)

module _ (R : HeapRule) where
  stepped : (s : R.State) (c : Call) → Reached R s → Reached R (step R s c)
  stepped s (take n) r = after_take s n r
  stepped s (give x) r = after_give s x r
  stepped s clear r = cleared s

  pub reached : (s : R.State) (calls : List Call) → Reached R s → Reached R (after R s calls)
  reached s [] r = r
  reached s (c ∷ rest) r = reached (step R s c) rest (stepped s c r)

module _ (R : HeapRule) (p : Points R) where
  -- one event, as the set sees it
  one : (s : R.State) (c : Call) → Reached R s → (m : ℕ → Option ℕ) → ((x : ℕ) → R.held s x ≡ m x) → (rest : List Event) (x : ℕ) → living (R.held (step R s c)) rest x ≡ living m (event R s c ∷ rest) x
  one s (take n) r m e rest x = go (R.take s n).answer refl
    where
      go : (o : Option Block) → (R.take s n).answer ≡ o → living (R.held (R.take s n).after) rest x ≡ living m (taken n o ∷ rest) x
      go (Some b) q = living_same _ _ (λ y. (((p.keeps s r).takes n).grants b q).adds y ∙ ap (cond (eqb y b.start) (Some b.held)) (e y)) rest x
      go None q = living_same _ _ (λ y. ((p.keeps s r).takes n).keeps q y ∙ e y) rest x
  one s (give x) r m e rest y = go (R.give s x).answer refl
    where
      go : (o : Bool) → (R.give s x).answer ≡ o → living (R.held (R.give s x).after) rest y ≡ living m (given x o ∷ rest) y
      go true q = living_same _ _ (λ z. ((p.keeps s r).gives x).removes z ∙ ap (cond (eqb z x) None) (e z)) rest y
      go false q = let g = (p.keeps s r).gives x in living_same _ _ (λ z. g.removes z ∙ absent (R.held s) x z (sym g.answers ∙ q) ∙ e z) rest y
  one s clear r m e rest x = living_same _ _ (p.clears s) rest x

  lives : (s : R.State) (calls : List Call) → Reached R s → (m : ℕ → Option ℕ) → ((x : ℕ) → R.held s x ≡ m x) → (x : ℕ) → R.held (after R s calls) x ≡ living m (events R s calls) x
  lives s [] r m e x = e x
  lives s (c ∷ rest) r m e x =
      lives (step R s c) rest (stepped R s c r) (R.held (step R s c)) (λ y. refl) x
      ∙ one s c r m e (events R (step R s c) rest) x

  pub every_history : EveryHistory R
  every_history s calls = record {
    keeps = p.keeps (after R (R.clear s) calls) (reached R (R.clear s) calls (cleared s));
    lives = lives (R.clear s) calls (cleared s) empty (p.clears s);
  }
