-- Lines and words: what follows words that a line begins with. Assumes nothing.
use Rattle.std.proofs.Common.{◌≡◌, ℕ, Bool, true, false, eqb, List, [], ◌∷◌, ◌++◌, Some, None, Option, sym, refl, ap, ◌∙◌, arith, Bor, MatchOption}
use Rattle.std.proofs.lemmas.Bool.{eqb-true, eq-eqb, cond-true, cond-false}
use Rattle.std.specs.Option.{ok_or, option_copied, option_map, IsSomeAnd}
use Rattle.std.specs.Result.{result_ok}
use Rattle.scripts.specs.Words.{after}

-- a line that begins with words goes on after them
pub after_tells : (ws rest : List ℕ) → after ws (ws ++ rest) ≡ Some rest
after_tells [] rest = refl
after_tells (w ∷ ws) rest = cond-true _ (after ws (ws ++ rest)) None (eq-eqb w w refl) ∙ after_tells ws rest

-- and the other way round
pub after_told : (ws line rest : List ℕ) → after ws line ≡ Some rest → line ≡ ws ++ rest
after_told [] line rest h = cc
after_told (w ∷ ws) [] rest h = let z : ◌≡◌ {A = ℕ} 0 1 = cc in absurd (omega arith)
after_told (w ∷ ws) (b ∷ line) rest h = go (λ e. after_told ws line rest e) (eqb b w) refl
  where
    go : (after ws line ≡ Some rest → line ≡ ws ++ rest) → (t : Bool) → eqb b w ≡ t → b ∷ line ≡ (w ∷ ws) ++ rest
    go ih true e =
        let tail = ih (sym (cond-true _ (after ws line) None e) ∙ h) in
        let same = eqb-true b w e in
        cc
    go ih false e = let n = cond-false _ (after ws line) None e in let z : ◌≡◌ {A = ℕ} 0 1 = cc in absurd (omega arith)

after_none : (ws line : List ℕ) → ((rest : List ℕ) → line ≡ ws ++ rest → ⊥) → None ≡ after ws line
after_none ws line f = go (after ws line) refl
  where
    go : (o : Option (List ℕ)) → after ws line ≡ o → None ≡ after ws line
    go None e = sym e
    go (Some rest) e = absurd (f rest (after_told ws line rest e))

-- what a call of strip_prefix says
pub after_by : (ws line : List ℕ) (r : Option (Bor (List ℕ))) → MatchOption r ((rest : List ℕ) → line ≡ ws ++ rest → ⊥) (λ x. line ≡ ws ++ x.now) → option_copied r ≡ after ws line
after_by ws line None h = after_none ws line h
after_by ws line (Some x) h = sym (ap (after ws) h ∙ after_tells ws x.now)

-- what a call of map says, where the function is a variant
pub mapped_by : {A B : Type 0} (f : A → B) (o : Option A) (r : Option B) → MatchOption o (r ≡ None) (λ x. IsSomeAnd r (λ y. y ≡ f x)) → r ≡ option_map f o
mapped_by f None r h = h
mapped_by f (Some x) (Some y) h = ap Some h
mapped_by f (Some x) None h = absurd h

-- an answer that was made an error's absence
pub ok_of : {A E : Type 0} (o : Option A) (e : E) → result_ok (ok_or o e) ≡ o
ok_of (Some a) e = refl
ok_of None e = refl
