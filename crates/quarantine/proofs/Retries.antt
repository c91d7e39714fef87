-- A take that is tried again: how many were sent below, and what they met. Assumes nothing.
use Rattle.std.proofs.Common.{◌≡◌, ℕ, zero, suc, ◌<◌, true, false, cond, List, [], ◌∷◌, is_some, Some, None, Option, sym, refl, ap, ◌∙◌, arith}
use Rattle.heaps.specs.Rule.{HeapRule, Taken, Block}
use Rattle.heaps.proofs.Laying.{some_none}
use Rattle.quarantine.specs.Rule.{Quarantined, quarantined, once, gone_below, retried}
use Rattle.quarantine.specs.Laws.{Retries, after_sent}

module _ (R : HeapRule) where
  -- none is sent where the first take is granted, or none waits
  none_sent : (n : ℕ) (s : Quarantined R.State) → ((R.take s.below n).answer ≡ None → s.waiting ≡ []) → Retries R n s (once R n s)
  none_sent n s f = record {
    sent = 0;
    some = omega arith;
    waits = refl;
    refused = λ k l. absurd (omega arith);
    answer = refl;
    below = refl;
    all = λ e. rw (f e);
  }

  -- one more is sent, before those
  one_more : (n x : ℕ) (w : List ℕ) (s : R.State) (t : Taken (Quarantined R.State)) → (R.take s n).answer ≡ None → Retries R n (quarantined (gone_below R n x s) w) t → Retries R n (quarantined s (x ∷ w)) t
  one_more n x w s t e r = record {
    sent = suc r.sent;
    some = let l = r.some in omega arith;
    waits = r.waits;
    refused = refused;
    answer = r.answer;
    below = r.below;
    all = λ f. ap suc (r.all f);
  }
    where
      refused : (k : ℕ) → k < suc r.sent → (R.take (after_sent R n k (quarantined s (x ∷ w))) n).answer ≡ None
      refused zero l = e
      refused (suc k) l = r.refused k (omega arith)

  pub retried_retries : (n : ℕ) (w : List ℕ) (s : R.State) → Retries R n (quarantined s w) (retried R n w s)
  unfolding retried
  retried_retries n [] s = none_sent n (quarantined s []) (λ e. refl)
  retried_retries n (x ∷ w) s = go (R.take s n).answer refl (retried_retries n w (gone_below R n x s))
    where
      go : (o : Option Block) → (R.take s n).answer ≡ o → Retries R n (quarantined (gone_below R n x s) w) (retried R n w (gone_below R n x s)) → Retries R n (quarantined s (x ∷ w)) (cond (is_some (R.take s n).answer) (once R n (quarantined s (x ∷ w))) (retried R n w (gone_below R n x s)))
      go (Some b) e more = let f : is_some (R.take s n).answer ≡ true = ap is_some e in rw f (none_sent n (quarantined s (x ∷ w)) (λ g. some_none (sym e ∙ g)))
      go None e more = let f : is_some (R.take s n).answer ≡ false = ap is_some e in rw f (one_more n x w s _ e more)
