-- A quarantine keeps the points of a heap, where the heap below does. Assumes nothing.
use Rattle.std.specs.Prelude.{◌≡◌, ℕ, ◌+◌, ◌<◌, ◌≤◌, Bool, true, false, cond, ◌⊎◌, List, [], ◌∷◌, ◌++◌, length, is_some, Some, None, Option, ◌==◌, nat_eq, nat_le}
use Rattle.std.proofs.Math.Path.{refl, ap}
use Rattle.std.proofs.Common.{sym, ◌∙◌, inl, inr, arith, length-append}
use Rattle.std.proofs.lemmas.Bool.Decides.{nat_tests}
use Rattle.heaps.specs.Rule.{HeapRule, Taken, Block}
use Rattle.heaps.specs.Points.{Points, Keeps, Grants, Free, Reached, cleared, after_take, after_give, minus}
use Rattle.heaps.proofs.Keeping.{Kept, points_by}
use Rattle.heaps.proofs.Laying.{some_none}
use Rattle.quarantine.specs.Lists.{is_in, is_in_append, Once}
use Rattle.quarantine.specs.Rule.{Quarantined, quarantined, once, gone_below, retried, held_of, retriable, take_of, joined, given_of, give_of, quarantine_rule}
use Rattle.quarantine.specs.Laws.{Waits}
use Rattle.quarantine.specs.Steps.{in_range, out_of_range}

is_none : {A : Type 0} (o : Option A) → is_some o ≡ false → o ≡ None
is_none (Some a) e = absurd (let z : ◌≡◌ {A = ℕ} 0 1 = cc in omega arith)
is_none None e = refl

-- a grant seen from an equal set
from_same : (m k : ℕ → Option ℕ) (n : ℕ) (b : Block) (after : ℕ → Option ℕ) → ((x : ℕ) → m x ≡ k x) → Grants m n b after → Grants k n b after
from_same m k n b after e g = record {
  new = sym (e b.start) ∙ g.new;
  adds = λ x. g.adds x ∙ ap (cond (x == b.start) (Some b.held)) (e x);
  enough = g.enough;
  not_more = g.not_more;
}

once_push : (w : List ℕ) (x : ℕ) → Once w → is_in x w ≡ false → Once (w ++ (x ∷ []))
once_push [] x o f = (refl, tt)
once_push (y ∷ w) x o f =
    let q = is_in_append y w (x ∷ []) in
    let a = o.0 in
    let ne : is_in y (w ++ (x ∷ [])) ≡ false = grind (arith, nat_tests) in
    let rest : is_in x w ≡ false = grind (arith, nat_tests) in
    (ne, once_push w x o.1 rest)

module _ (R : HeapRule) (p : Points R) where
  -- what every call of a quarantine keeps
  pub record Sound (s : Quarantined R.State) : Type 0 where
    pub reached : Reached R s.below
    pub waits : Waits R s

  -- the longest waiting goes below after a refused take
  gone_held : (n x : ℕ) (s : R.State) → Reached R s → (R.take s n).answer ≡ None → (y : ℕ) → R.held (gone_below R n x s) y ≡ minus (R.held s) x y
  gone_held n x s r e y = ((p.keeps (R.take s n).after (after_take s n r)).gives x).removes y ∙ ap (cond (y == x) None) (((p.keeps s r).takes n).keeps e y)

  gone_same : (n x : ℕ) (w : List ℕ) (s : R.State) → Sound (quarantined s (x ∷ w)) → (R.take s n).answer ≡ None → (y : ℕ) → held_of R (quarantined (gone_below R n x s) w) y ≡ held_of R (quarantined s (x ∷ w)) y
  gone_same n x w s h e y =
      let q = gone_held n x s h.reached e y in
      let a = h.waits.once.0 in
      grind (arith, nat_tests)

  pub gone_sound : (n x : ℕ) (w : List ℕ) (s : R.State) → Sound (quarantined s (x ∷ w)) → (R.take s n).answer ≡ None → Sound (quarantined (gone_below R n x s) w)
  gone_sound n x w s h e = record {
    reached = after_give (R.take s n).after x (after_take s n h.reached);
    waits = record {
      few = let f = h.waits.few in omega arith;
      once = h.waits.once.1;
      lives = λ y i.
          let q = gone_held n x s h.reached e y in
          let a = h.waits.once.0 in
          let l = h.waits.lives y in
          grind (arith, nat_tests);
    };
  }

  pub granted_fresh : (n : ℕ) (w : List ℕ) (s : R.State) (b : Block) → Sound (quarantined s w) → (R.take s n).answer ≡ Some b → is_in b.start w ≡ false
  granted_fresh n w s b h e =
      let g = (((p.keeps s h.reached).takes n).grants b e).new in
      let l = h.waits.lives b.start in
      grind (arith, nat_tests)

  granted : (n : ℕ) (w : List ℕ) (s : R.State) (b : Block) → Sound (quarantined s w) → (R.take s n).answer ≡ Some b → Grants (held_of R (quarantined s w)) n b (held_of R (quarantined (R.take s n).after w))
  granted n w s b h e =
      let g = ((p.keeps s h.reached).takes n).grants b e in
      let f = granted_fresh n w s b h e in
      record {
        new = let z = g.new in grind (arith, nat_tests);
        adds = λ x. let q = g.adds x in grind (arith, nat_tests);
        enough = g.enough;
        not_more = g.not_more;
      }

  granted_sound : (n : ℕ) (w : List ℕ) (s : R.State) (b : Block) → Sound (quarantined s w) → (R.take s n).answer ≡ Some b → Sound (quarantined (R.take s n).after w)
  granted_sound n w s b h e = record {
    reached = after_take s n h.reached;
    waits = record {
      few = h.waits.few;
      once = h.waits.once;
      lives = λ y i.
          let q = (((p.keeps s h.reached).takes n).grants b e).adds y in
          let l = h.waits.lives y i in
          grind (arith, nat_tests);
    };
  }

  refused_sound : (n : ℕ) (w : List ℕ) (s : R.State) → Sound (quarantined s w) → (R.take s n).answer ≡ None → Sound (quarantined (R.take s n).after w)
  refused_sound n w s h e = record {
    reached = after_take s n h.reached;
    waits = record {
      few = h.waits.few;
      once = h.waits.once;
      lives = λ y i. ap is_some (((p.keeps s h.reached).takes n).keeps e y) ∙ h.waits.lives y i;
    };
  }

  refused_same : (n : ℕ) (w : List ℕ) (s : R.State) → Sound (quarantined s w) → (R.take s n).answer ≡ None → (y : ℕ) → held_of R (quarantined (R.take s n).after w) y ≡ held_of R (quarantined s w) y
  refused_same n w s h e y = ap (cond (is_in y w) None) (((p.keeps s h.reached).takes n).keeps e y)

  -- what a take comes to
  record Outcome (n : ℕ) (before : Quarantined R.State) (t : Taken (Quarantined R.State)) : Type 0 where
    sound : Sound t.after
    grants : (b : Block) → t.answer ≡ Some b → Grants (held_of R before) n b (held_of R t.after)
    keeps : t.answer ≡ None → (x : ℕ) → held_of R t.after x ≡ held_of R before x

  once_outcome : (n : ℕ) (s : Quarantined R.State) → Sound s → Outcome n s (once R n s)
  once_outcome n s h = go (R.take s.below n).answer refl
    where
      go : (o : Option Block) → (R.take s.below n).answer ≡ o → Outcome n s (once R n s)
      go (Some b) e = record {
        sound = granted_sound n s.waiting s.below b h e;
        grants = λ c f. granted n s.waiting s.below c h f;
        keeps = λ f. some_none (sym e ∙ f);
      }
      go None e = record {
        sound = refused_sound n s.waiting s.below h e;
        grants = λ c f. some_none (sym f ∙ e);
        keeps = λ f. refused_same n s.waiting s.below h e;
      }

  retried_outcome : (n : ℕ) (w : List ℕ) (s : R.State) → Sound (quarantined s w) → Outcome n (quarantined s w) (retried R n w s)
  unfolding retried
  retried_outcome n [] s h = once_outcome n (quarantined s []) h
  retried_outcome n (x ∷ w) s h = go (R.take s n).answer refl (retried_outcome n w (gone_below R n x s))
    where
      go : (o : Option Block) → (R.take s n).answer ≡ o → (Sound (quarantined (gone_below R n x s) w) → Outcome n (quarantined (gone_below R n x s) w) (retried R n w (gone_below R n x s))) → Outcome n (quarantined s (x ∷ w)) (cond (is_some (R.take s n).answer) (once R n (quarantined s (x ∷ w))) (retried R n w (gone_below R n x s)))
      go (Some b) e more = let f : is_some (R.take s n).answer ≡ true = ap is_some e in rw f (once_outcome n (quarantined s (x ∷ w)) h)
      go None e more =
          let f : is_some (R.take s n).answer ≡ false = ap is_some e in
          let same = gone_same n x w s h e in
          let o = more (gone_sound n x w s h e) in
          rw f (record {
            sound = o.sound;
            grants = λ b g. from_same _ _ n b _ same (o.grants b g);
            keeps = λ g y. o.keeps g y ∙ same y;
          })

  retried_must : (n : ℕ) (w : List ℕ) (s : R.State) (a : ℕ) → Sound (quarantined s w) → 1 ≤ n → n ≤ 256 → a + 512 ≤ 4096 → Free (held_of R (quarantined s w)) a 512 → is_some (retried R n w s).answer ≡ true
  unfolding retried
  retried_must n [] s a h l m r free = ((p.keeps s h.reached).takes n).must l m a r free
  retried_must n (x ∷ w) s a h l m r free = go (R.take s n).answer refl (retried_must n w (gone_below R n x s) a)
    where
      go : (o : Option Block) → (R.take s n).answer ≡ o → (Sound (quarantined (gone_below R n x s) w) → 1 ≤ n → n ≤ 256 → a + 512 ≤ 4096 → Free (held_of R (quarantined (gone_below R n x s) w)) a 512 → is_some (retried R n w (gone_below R n x s)).answer ≡ true) → is_some (cond {A = Taken (Quarantined R.State)} (is_some (R.take s n).answer) (once R n (quarantined s (x ∷ w))) (retried R n w (gone_below R n x s))).answer ≡ true
      go (Some b) e more = let f : is_some (R.take s n).answer ≡ true = ap is_some e in rw f f
      go None e more =
          let f : is_some (R.take s n).answer ≡ false = ap is_some e in
          rw f (more (gone_sound n x w s h e) l m r (λ y k g. free y k (sym (gone_same n x w s h e y) ∙ g)))

  take_outcome : (s : Quarantined R.State) (n : ℕ) → Sound s → Outcome n s (take_of R s n)
  take_outcome s n h =
      elim (retriable n) as (λ b. Outcome n s (cond b (retried R n s.waiting s.below) (once R n s)))
      [ true ↦ retried_outcome n s.waiting s.below h | false ↦ once_outcome n s h ]

  -- x has joined those that wait, the first of them having gone below or not
  record Joined (x : ℕ) (before : Quarantined R.State) (t : Quarantined R.State) : Type 0 where
    sound : Sound t
    removes : (y : ℕ) → held_of R t y ≡ minus (held_of R before) x y

  room_joined : (x : ℕ) (w : List ℕ) (s : R.State) → length w < 16 → Sound (quarantined s w) → is_some (held_of R (quarantined s w) x) ≡ true → Joined x (quarantined s w) (quarantined s (w ++ (x ∷ [])))
  room_joined x w s room h e =
      let out : is_in x w ≡ false = grind (arith, nat_tests) in
      let alive : is_some (R.held s x) ≡ true = grind (arith, nat_tests) in
      record {
        sound = record {
          reached = h.reached;
          waits = record {
            few = simp length-append (omega arith);
            once = once_push w x h.waits.once out;
            lives = λ y i.
                let q = is_in_append y w (x ∷ []) in
                let l = h.waits.lives y in
                grind (arith, nat_tests);
          };
        };
        removes = λ y. let q = is_in_append y w (x ∷ []) in grind (arith, nat_tests);
      }

  full_joined : (x z : ℕ) (w : List ℕ) (s : R.State) → Sound (quarantined s (z ∷ w)) → is_some (held_of R (quarantined s (z ∷ w)) x) ≡ true → Joined x (quarantined s (z ∷ w)) (quarantined (R.give s z).after (w ++ (x ∷ [])))
  full_joined x z w s h e =
      let out : is_in x w ≡ false = grind (arith, nat_tests) in
      let ne : nat_eq x z ≡ false = grind (arith, nat_tests) in
      let alive : is_some (R.held s x) ≡ true = grind (arith, nat_tests) in
      let a = h.waits.once.0 in
      record {
        sound = record {
          reached = after_give s z h.reached;
          waits = record {
            few = let f = h.waits.few in simp length-append (omega arith);
            once = once_push w x h.waits.once.1 out;
            lives = λ y i.
                let q = is_in_append y w (x ∷ []) in
                let m = ((p.keeps s h.reached).gives z).removes y in
                let l = h.waits.lives y in
                grind (arith, nat_tests);
          };
        };
        removes = λ y.
            let q = is_in_append y w (x ∷ []) in
            let m = ((p.keeps s h.reached).gives z).removes y in
            grind (arith, nat_tests);
      }

  join_joined : (x : ℕ) (w : List ℕ) (s : R.State) → Sound (quarantined s w) → is_some (held_of R (quarantined s w) x) ≡ true → Joined x (quarantined s w) (joined R x w s)
  join_joined x [] s h e = room_joined x [] s (omega arith) h e
  join_joined x (z ∷ w) s h e = go (nat_le 16 (length (z ∷ w))) refl
    where
      go : (b : Bool) → nat_le 16 (length (z ∷ w)) ≡ b → Joined x (quarantined s (z ∷ w)) (cond b (quarantined (R.give s z).after (w ++ (x ∷ []))) (quarantined s ((z ∷ w) ++ (x ∷ []))))
      go true f = full_joined x z w s h e
      go false f = room_joined x (z ∷ w) s (grind (arith, nat_tests)) h e

  give_joined : (s : Quarantined R.State) (x : ℕ) → Sound s → Joined x s (give_of R s x).after
  give_joined s x h = go (is_some (held_of R s x)) refl
    where
      go : (b : Bool) → is_some (held_of R s x) ≡ b → Joined x s (given_of R s x b).after
      go true e = join_joined x s.waiting s.below h e
      go false e = record {
        sound = h;
        removes = λ y. let none = is_none (held_of R s x) e in grind (arith, nat_tests);
      }

  pub held_below : (s : Quarantined R.State) (x h : ℕ) → held_of R s x ≡ Some h → R.held s.below x ≡ Some h
  held_below s x h e = grind (arith, nat_tests)

  outside : (s : Quarantined R.State) (n : ℕ) → (n ≡ 0) ⊎ (4096 < n) → (R.take s.below n).answer ≡ None → (take_of R s n).answer ≡ None
  outside s n o e = ap (λ t. t.answer) (out_of_range R s n o) ∙ e

  pub kept : Kept (quarantine_rule R) Sound
  kept = record {
    clear_sound = λ s. record { reached = cleared s.below; waits = record { few = omega arith; once = tt; lives = λ x i. absurd (let z : ◌≡◌ {A = ℕ} 0 1 = cc in omega arith) } };
    take_sound = λ s n h. (take_outcome s n h).sound;
    give_sound = λ s x h. (give_joined s x h).sound;
  }

  keeps : (s : Quarantined R.State) → Sound s → Keeps (quarantine_rule R) s
  keeps s h =
      let k = p.keeps s.below h.reached in
      record {
        laid = record {
          fit = λ x m e. k.laid.fit x m (held_below s x m e);
          apart = λ x m y j e f. k.laid.apart x m y j (held_below s x m e) (held_below s y j f);
        };
        takes = λ n. record {
          grants = (take_outcome s n h).grants;
          keeps = (take_outcome s n h).keeps;
          none = λ z. outside s n (inl z) ((k.takes n).none z);
          large = λ l. outside s n (inr l) ((k.takes n).large l);
          must = λ l m a r free. ap (λ t. is_some t.answer) (in_range R s n l (omega arith)) ∙ retried_must n s.waiting s.below a h l m r free;
        };
        gives = λ x. record {
          answers = grind (arith, nat_tests);
          removes = (give_joined s x h).removes;
        };
      }

  pub quarantine_points : Points (quarantine_rule R)
  quarantine_points = points_by (quarantine_rule R) Sound kept (λ s x. p.clears s.below x) keeps
