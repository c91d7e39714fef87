-- The steps of a quarantine's rule, as its code takes them. Assumes nothing.
use Rattle.std.specs.Prelude.{◌≡◌, ℕ, ◌<◌, ◌≤◌, true, false, ◌⊎◌, List, [], ◌∷◌, Some, None, Ok, Err, Option}
use Rattle.std.proofs.Math.Path.{refl}
use Rattle.std.proofs.Common.{arith}
use Rattle.std.proofs.lemmas.Bool.Decides.{nat_tests}
use Rattle.faults.specs.declared.fault.Fault.{Fault}
use Rattle.heaps.specs.Answers.{taken}
use Rattle.heaps.specs.Rule.{HeapRule, Block}
use Rattle.quarantine.specs.Rule.{Quarantined, quarantined, retriable, once, gone_below, retried, take_of}

pub taken_ok : (a : Option Block) (b : Block) → Ok b ≡ taken a → a ≡ Some b
taken_ok (Some c) b e = cc
taken_ok None b e = absurd (let z : ◌≡◌ {A = ℕ} 0 1 = cc in omega arith)

pub taken_err : (a : Option Block) (f : Fault) → Err f ≡ taken a → a ≡ None
taken_err (Some c) f e = absurd (let z : ◌≡◌ {A = ℕ} 0 1 = cc in omega arith)
taken_err None f e = refl

module _ (R : HeapRule) where
  pub in_range : (s : Quarantined R.State) (n : ℕ) → 1 ≤ n → n ≤ 4096 → take_of R s n ≡ retried R n s.waiting s.below
  in_range s n l h = let e : retriable n ≡ true = grind (arith, nat_tests) in rw e

  pub out_of_range : (s : Quarantined R.State) (n : ℕ) → (n ≡ 0) ⊎ (4096 < n) → take_of R s n ≡ once R n s
  out_of_range s n o = let e : retriable n ≡ false = grind (arith, nat_tests) in rw e

  pub retried_granted : (n : ℕ) (w : List ℕ) (s : R.State) (b : Block) → (R.take s n).answer ≡ Some b → retried R n w s ≡ once R n (quarantined s w)
  unfolding retried
  retried_granted n [] s b e = refl
  retried_granted n (x ∷ w) s b e = rw e

  pub retried_on : (n : ℕ) (w : List ℕ) (s : R.State) (x : ℕ) → (R.take s n).answer ≡ None → retried R n (x ∷ w) s ≡ retried R n w (gone_below R n x s)
  unfolding retried
  retried_on n w s x e = rw e

  pub retried_end : (n : ℕ) (s : R.State) → retried R n [] s ≡ once R n (quarantined s [])
  unfolding retried
  retried_end n s = refl
