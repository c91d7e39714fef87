-- What a quarantine does, in words above its rule. Assumes nothing.
use Rattle.std.proofs.Common.{◌≡◌, ℕ, ◌<◌, ◌≤◌, Bool, true, false, cond, leb, ◌⊎◌, List, [], ◌∷◌, ◌++◌, length, is_some, Some, None, Option, sym, refl, ap, ◌∙◌, subst, inl, inr, arith}
use Rattle.std.proofs.lemmas.Bool.Decides.{nat_tests}
use Rattle.heaps.specs.Rule.{HeapRule, Block}
use Rattle.heaps.specs.Points.{Points, after_take}
use Rattle.heaps.proofs.Keeping.{reached_sound}
use Rattle.quarantine.specs.Lists.{is_in}
use Rattle.quarantine.specs.Rule.{Quarantined, quarantined, once, gone_below, retried, held_of, retriable, take_of, joined, given_of, give_of, quarantine_rule}
use Rattle.quarantine.specs.Laws.{Lives, Retries, Passes, OffWaiting, Joins, QuarantineRules}
use Rattle.quarantine.specs.Steps.{in_range, out_of_range}
use Rattle.quarantine.specs.Sound.{Sound, gone_sound, granted_fresh, held_below, kept}
use Rattle.quarantine.proofs.Retries.{retried_retries}

module _ (R : HeapRule) (p : Points R) where
  lives : (s : Quarantined R.State) → Lives R s
  lives s = record {
    below = held_below R p s;
    free = λ x h e. grind (arith, nat_tests);
    here = λ x h e f. grind (arith, nat_tests);
  }

  retries : (s : Quarantined R.State) (n : ℕ) → 1 ≤ n → n ≤ 4096 → Retries R n s (take_of R s n)
  retries s n l h = subst (Retries R n s) (sym (in_range R s n l h)) (retried_retries R n s.waiting s.below)

  passes : (s : Quarantined R.State) (n : ℕ) → (n ≡ 0) ⊎ (4096 < n) → Passes R n s (take_of R s n)
  passes s n o = subst (Passes R n s) (sym (out_of_range R s n o)) (record { waits = refl; answer = refl; below = refl })

  -- a block granted below lies apart from all that wait
  once_off : (n : ℕ) (s : Quarantined R.State) → Sound R p s → OffWaiting R (once R n s)
  once_off n s h b e x k i f =
      let g = ((p.keeps s.below h.reached).takes n).grants b e in
      let new = granted_fresh R p n s.waiting s.below b h e in
      let own = g.adds b.start in
      let own_is : R.held (R.take s.below n).after b.start ≡ Some b.held = grind (arith, nat_tests) in
      (p.keeps (R.take s.below n).after (after_take s.below n h.reached)).laid.apart x k b.start b.held f own_is (λ same. let j : is_in b.start s.waiting ≡ true = ap (λ y. is_in y s.waiting) (sym same) ∙ i in let z : ◌≡◌ {A = ℕ} 0 1 = cc in omega arith)

  retried_off : (n : ℕ) (w : List ℕ) (s : R.State) → Sound R p (quarantined s w) → OffWaiting R (retried R n w s)
  unfolding retried
  retried_off n [] s h = once_off n (quarantined s []) h
  retried_off n (x ∷ w) s h = go (R.take s n).answer refl (retried_off n w (gone_below R n x s))
    where
      go : (o : Option Block) → (R.take s n).answer ≡ o → (Sound R p (quarantined (gone_below R n x s) w) → OffWaiting R (retried R n w (gone_below R n x s))) → OffWaiting R (cond (is_some (R.take s n).answer) (once R n (quarantined s (x ∷ w))) (retried R n w (gone_below R n x s)))
      go (Some b) e more = let f : is_some (R.take s n).answer ≡ true = ap is_some e in rw f (once_off n (quarantined s (x ∷ w)) h)
      go None e more = let f : is_some (R.take s n).answer ≡ false = ap is_some e in rw f (more (gone_sound R p n x w s h e))

  off_waiting : (s : Quarantined R.State) (n : ℕ) → Sound R p s → OffWaiting R (take_of R s n)
  off_waiting s n h =
      elim (retriable n) as (λ b. OffWaiting R (cond b (retried R n s.waiting s.below) (once R n s)))
      [ true ↦ retried_off n s.waiting s.below h | false ↦ once_off n s h ]

  room_joins : (x : ℕ) (w : List ℕ) (s : R.State) → length w < 16 → joined R x w s ≡ quarantined s (w ++ (x ∷ []))
  room_joins x [] s l = refl
  room_joins x (y ∷ w) s l = let e : leb 16 (length (y ∷ w)) ≡ false = grind (arith, nat_tests) in rw e

  full_joins : (x y : ℕ) (w v : List ℕ) (s : R.State) → v ≡ y ∷ w → length v ≡ 16 → joined R x v s ≡ quarantined (R.give s y).after (w ++ (x ∷ []))
  full_joins x y w v s e l =
      let n : length (y ∷ w) ≡ 16 = ap length (sym e) ∙ l in
      let f : leb 16 (length (y ∷ w)) ≡ true = grind (arith, nat_tests) in
      rw (e, f)

  done : (s : Quarantined R.State) (x : ℕ) → (give_of R s x).answer ≡ true → (give_of R s x).after ≡ joined R x s.waiting s.below
  done s x = go (is_some (held_of R s x))
    where
      go : (b : Bool) → (given_of R s x b).answer ≡ true → (given_of R s x b).after ≡ joined R x s.waiting s.below
      go true e = refl
      go false e = absurd (let z : ◌≡◌ {A = ℕ} 0 1 = cc in omega arith)

  refused : (s : Quarantined R.State) (x : ℕ) → (give_of R s x).answer ≡ false → (give_of R s x).after ≡ s
  refused s x = go (is_some (held_of R s x))
    where
      go : (b : Bool) → (given_of R s x b).answer ≡ false → (given_of R s x b).after ≡ s
      go true e = absurd (let z : ◌≡◌ {A = ℕ} 0 1 = cc in omega arith)
      go false e = refl

  joins : (s : Quarantined R.State) (x : ℕ) → Sound R p s → Joins R x s (give_of R s x)
  joins s x h = record {
    refused = refused s x;
    waits = λ d l. ap (λ q. q.waiting) (done s x d ∙ room_joins x s.waiting s.below l);
    below = λ d l. ap (λ q. q.below) (done s x d ∙ room_joins x s.waiting s.below l);
    full_waits = λ d y w e l. ap (λ q. q.waiting) (done s x d ∙ full_joins x y w s.waiting s.below e l);
    full_below = λ d y w e l.
        let is = ap (λ q. q.below) (done s x d ∙ full_joins x y w s.waiting s.below e l) in
        record {
          goes = is;
          alone = λ z. ap (λ t. R.held t z) is ∙ ((p.keeps s.below h.reached).gives y).removes z;
        };
  }

  pub quarantine_rules : QuarantineRules R
  quarantine_rules s r =
      let h = reached_sound (quarantine_rule R) (Sound R p) (kept R p) s r in
      record {
        waits = h.waits;
        lives = lives s;
        retries = retries s;
        none = passes s 0 (inl refl);
        large = λ n l. passes s n (inr l);
        off_waiting = λ n. off_waiting s n h;
        joins = λ x. joins s x h;
        clears = record { below = refl; waits = refl };
      }
