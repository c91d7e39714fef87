-- Over every history a rack keeps its points, and its places out are those drawn and not put back since. Assumes nothing.
use Rattle.std.proofs.Common.{◌≡◌, ℕ, Bool, true, false, cond, eqb, List, [], ◌∷◌, Some, None, Option, sym, refl, ap, ◌∙◌, arith}
use Rattle.std.proofs.lemmas.Bool.Decides.{nat_tests}
use Rattle.racks.specs.Rule.{RackRule}
use Rattle.racks.specs.Points.{RackPoints, Reached, cleared, after_draw, after_put, empty, plus, minus}
use Rattle.racks.specs.Histories.{Call, draw, put, clear, Event, drawn, returned, cleared as emptied, out, step, event, after, events, EveryHistory}

-- equal sets give equal sets
out_same : (m k : ℕ → Bool) → ((x : ℕ) → m x ≡ k x) → (es : List Event) (x : ℕ) → out m es x ≡ out k es x
out_same m k e [] x = e x
out_same m k e (drawn (Some p) ∷ es) x = out_same (plus m p) (plus k p) (λ y. ap (cond (eqb y p) true) (e y)) es x
out_same m k e (drawn None ∷ es) x = out_same m k e es x
out_same m k e (returned p true ∷ es) x = out_same (minus m p) (minus k p) (λ y. ap (cond (eqb y p) false) (e y)) es x
out_same m k e (returned p false ∷ es) x = out_same m k e es x
out_same m k e (emptied ∷ es) x = refl

-- a set without a place stays as it is
absent : (m : ℕ → Bool) (p x : ℕ) → m p ≡ false → minus m p x ≡ m x
absent m p x f = go (eqb x p) refl
  where
    go : (b : Bool) → eqb x p ≡ b → minus m p x ≡ m x
    go true e = let same : x ≡ p = grind (arith, nat_tests) in rw (e, same) (sym f)
    go false e = rw e

module _ (R : RackRule) (p : RackPoints R) where
  stepped : (s : R.State) (c : Call) → Reached R s → Reached R (step R s c)
  stepped s draw r = after_draw s r
  stepped s (put x) r = after_put s x r
  stepped s clear r = cleared s

  reached : (s : R.State) (calls : List Call) → Reached R s → Reached R (after R s calls)
  reached s [] r = r
  reached s (c ∷ rest) r = reached (step R s c) rest (stepped s c r)

  -- one event, as the set sees it
  one : (s : R.State) (c : Call) → Reached R s → (m : ℕ → Bool) → ((x : ℕ) → R.out s x ≡ m x) → (rest : List Event) (x : ℕ) → out (R.out (step R s c)) rest x ≡ out m (event R s c ∷ rest) x
  one s draw r m e rest x = go (R.draw s).answer refl
    where
      go : (o : Option ℕ) → (R.draw s).answer ≡ o → out (R.out (R.draw s).after) rest x ≡ out m (drawn o ∷ rest) x
      go (Some y) q = out_same _ _ (λ z. ((p.keeps s r).draws.leaves y q).adds z ∙ ap (cond (eqb z y) true) (e z)) rest x
      go None q = out_same _ _ (λ z. (p.keeps s r).draws.keeps q z ∙ e z) rest x
  one s (put y) r m e rest x = go (R.put s y).answer refl
    where
      go : (o : Bool) → (R.put s y).answer ≡ o → out (R.out (R.put s y).after) rest x ≡ out m (returned y o ∷ rest) x
      go true q = out_same _ _ (λ z. ((p.keeps s r).puts y).removes z ∙ ap (cond (eqb z y) false) (e z)) rest x
      go false q = let g = (p.keeps s r).puts y in out_same _ _ (λ z. g.removes z ∙ absent (R.out s) y z (sym g.answers ∙ q) ∙ e z) rest x
  one s clear r m e rest x = out_same _ _ (p.clears s) rest x

  outs : (s : R.State) (calls : List Call) → Reached R s → (m : ℕ → Bool) → ((x : ℕ) → R.out s x ≡ m x) → (x : ℕ) → R.out (after R s calls) x ≡ out m (events R s calls) x
  outs s [] r m e x = e x
  outs s (c ∷ rest) r m e x =
      outs (step R s c) rest (stepped s c r) (R.out (step R s c)) (λ y. refl) x
      ∙ one s c r m e (events R (step R s c) rest) x

  pub every_history : EveryHistory R
  every_history s calls = record {
    keeps = p.keeps (after R (R.clear s) calls) (reached (R.clear s) calls (cleared s));
    outs = outs (R.clear s) calls (cleared s) empty (p.clears s);
  }
