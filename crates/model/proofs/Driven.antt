-- The laws of runs. Assumes nothing.
use Rattle.std.proofs.Common.{◌≡◌, ℕ, zero, suc, ◌+◌, ◌<◌, Bool, true, false, cond, ◌&&◌, ltb, List, [], ◌∷◌, ◌++◌, length, get_or, sym, refl, ap, ◌∙◌, inl, inr, append_assoc, append-nil, Ok, Err, Result, is_ok, arith}
use Rattle.std.proofs.Math.Nat.{add_assoc}
use Rattle.std.proofs.lemmas.Bool.{true≢false, ltb-true}
use Rattle.faults.specs.declared.cause.Cause.{Cause}
use Rattle.operations.specs.declared.step.Step.{Step}
use Rattle.model.specs.declared.way.Way.{Way}
use Rattle.model.specs.declared.way.Way.TheVariants.{Next, Jumped, Stopped, Answered}
use Rattle.model.specs.declared.phase.Phase.{Phase}
use Rattle.model.specs.declared.phase.Phase.TheVariants.{Idle, Going, Halted}
use Rattle.model.specs.declared.outcome.Outcome.TheVariants.{Spent, Out as OutValue, End}
use Rattle.model.specs.declared.answer.Answer.TheVariants.{Ran}
use Rattle.model.specs.declared.refusal.Refusal.TheVariants.{InRun}
use Rattle.operations.specs.Sound.{stop}
use Rattle.model.specs.Sheet.{Player}
use Rattle.model.specs.Driving.{HostCall, run, Driven, Reply, Turn, after_way, tried, runs, run_in, handle, leads_to, extra}
use Rattle.model.specs.Trail.{Met, met, follows, attempts, trail_of_run, trail_in, entries_of, trail}
use Rattle.model.specs.Runs.{done_of, extra_of, plus, says_spent, on, passed, extra_sum, all_on, Came, Linked, stands, left, Drives}

module _ {M : Type 0} (X : Player M) where
  -- counts that are there before a run are added to its answer
  abbrev shift : ℕ → ℕ → Turn M → Turn M
  shift n e t = record { answer = plus n e t.answer; after = t.after }

  way_shift : (w : Result Way Cause) (o : Step) (c n e n' e' : ℕ) (m : M) (f g : ℕ → M → Turn M) → ((c' : ℕ) (m' : M) → f c' m' ≡ shift n e (g c' m')) → after_way X w o c (n + n') (e + e') m f ≡ shift n e (after_way X w o c n' e' m g)
  way_shift (Ok Next) o c n e n' e' m f g h = h (c + 1) m
  way_shift (Ok (Jumped p)) o c n e n' e' m f g h = h p m
  way_shift (Ok Stopped) o c n e n' e' m f g h = rw (add_assoc n n' 1, add_assoc e e' (extra o.code))
  way_shift (Ok (Answered v)) o c n e n' e' m f g h = rw (add_assoc n n' 1, add_assoc e e' (extra o.code))
  way_shift (Err x) o c n e n' e' m f g h = refl

  tried_shift : (b : Bool) (o : Step) (c n e n' e' : ℕ) (m : M) (f g : ℕ → M → Turn M) → ((c' : ℕ) (m' : M) → f c' m' ≡ shift n e (g c' m')) → tried X b o c (n + n') (e + e') m f ≡ shift n e (tried X b o c n' e' m g)
  tried_shift false o c n e n' e' m f g h = refl
  tried_shift true o c n e n' e' m f g h = way_shift (X.act c o m).way o c n e n' e' (X.act c o m).after f g h

  runs_shift : (k : ℕ) (os : List Step) (c n e n' e' : ℕ) (m : M) → runs X k os c (n + n') (e + e') m ≡ shift n e (runs X k os c n' e' m)
  runs_shift zero os c n e n' e' m = refl
  runs_shift (suc k) os c n e n' e' m = tried_shift (ltb c (length os)) (get_or os c stop) c n e n' e' m _ _ (λ c' m'. rw (add_assoc n n' 1, add_assoc e e' (extra (get_or os c stop).code)) (runs_shift k os c' n e (n' + 1) (e' + extra (get_or os c stop).code) m'))

  -- what a run joined to another is
  abbrev joined : ℕ → List Step → Turn M → Turn M
  joined y os t = runs X y os t.after.counter (done_of t.answer) (extra_of t.answer) t.after.player

  abbrev Joins : ℕ → List Step → Turn M → Turn M → Type 0
  Joins y os t u = (says_spent t.answer ≡ true → (u ≡ joined y os t) × (t.after.phase ≡ Going)) × (says_spent t.answer ≡ false → u ≡ t)

  way_joins : (y : ℕ) (os : List Step) (w : Result Way Cause) (o : Step) (c n e : ℕ) (m : M) (f g : ℕ → M → Turn M) → ((c' : ℕ) (m' : M) → Joins y os (f c' m') (g c' m')) → Joins y os (after_way X w o c n e m f) (after_way X w o c n e m g)
  way_joins y os (Ok Next) o c n e m f g h = h (c + 1) m
  way_joins y os (Ok (Jumped p)) o c n e m f g h = h p m
  way_joins y os _ o c n e m f g h = (λ q. cc, λ q. refl)

  tried_joins : (y : ℕ) (os : List Step) (b : Bool) (o : Step) (c n e : ℕ) (m : M) (f g : ℕ → M → Turn M) → ((c' : ℕ) (m' : M) → Joins y os (f c' m') (g c' m')) → Joins y os (tried X b o c n e m f) (tried X b o c n e m g)
  tried_joins y os false o c n e m f g h = (λ q. cc, λ q. refl)
  tried_joins y os true o c n e m f g h = way_joins y os (X.act c o m).way o c n e (X.act c o m).after f g h

  runs_joins : (x y : ℕ) (os : List Step) (c n e : ℕ) (m : M) → Joins y os (runs X x os c n e m) (runs X (x + y) os c n e m)
  runs_joins zero y os c n e m = let z : 0 + y ≡ y = omega arith in (λ q. (rw z refl, refl), λ q. cc)
  runs_joins (suc x) y os c n e m =
      let z : suc x + y ≡ suc (x + y) = omega arith in
      rw z (tried_joins y os (ltb c (length os)) (get_or os c stop) c n e m _ _ (λ c' m'. runs_joins x y os c' (n + 1) (e + extra (get_or os c stop).code) m'))

  -- the answer against the trail
  pub record Says (k n e : ℕ) (t : List (Met M)) (r : Reply) : Type 0 where
    pub done : done_of r ≡ n + passed t
    pub extra : extra_of r ≡ e + extra_sum t
    pub came : Came t k r
    pub spent : length t ≡ k → all_on t ≡ true → says_spent r ≡ true

  -- one more before a trail that a run goes on with
  came_more : (k : ℕ) (x : Met M) (t : List (Met M)) (r : Reply) → on x.did.way ≡ true → Came t k r → Came (x ∷ t) (suc k) r
  came_more k x t (Ok (Ran n e Spent)) h c = (ap suc c.0, rw h c.1)
  came_more k x [] (Ok (Ran n e (OutValue v))) h c = absurd c
  came_more k x (y ∷ t) (Ok (Ran n e (OutValue v))) h c = (h, c)
  came_more k x [] (Ok (Ran n e End)) h c = absurd c
  came_more k x (y ∷ t) (Ok (Ran n e End)) h c = (h, c)
  came_more k x [] (Err (InRun f)) h (inl c) = absurd c
  came_more k x (y ∷ t) (Err (InRun f)) h (inl c) = inl (h, c)
  came_more k x t (Err (InRun f)) h (inr c) = let a = c.1 in inr (c.0, omega arith, rw h c.2)
  came_more k x t _ h c = c

  says_more : (k n e : ℕ) (x : Met M) (t : List (Met M)) (r : Reply) → is_ok x.did.way ≡ true → on x.did.way ≡ true → Says k (n + 1) (e + extra x.step.code) t r → Says (suc k) n e (x ∷ t) r
  says_more k n e x t r p q h =
      let a = h.done in
      let b = h.extra in
      record {
        done = rw p (omega arith);
        extra = rw p (omega arith);
        came = came_more k x t r q h.came;
        spent = λ u v. h.spent (omega arith) (rw q at v);
      }

  says_last : (k n e : ℕ) (x : Met M) (w : Result Way Cause) (r : Reply) → x.did.way ≡ w → on w ≡ false → done_of r ≡ n + cond (is_ok w) 1 0 → extra_of r ≡ e + cond (is_ok w) (extra x.step.code) 0 → Came (x ∷ []) (suc k) r → Says (suc k) n e (x ∷ []) r
  says_last k n e x w r q o a b c = record {
    done = rw q (omega arith);
    extra = rw q (omega arith);
    came = c;
    spent = λ u v. absurd (true≢false (let z : (false && true) ≡ true = rw (q, o) at v in sym z));
  }

  way_says : (k : ℕ) (x : Met M) (w : Result Way Cause) (c n e : ℕ) (m : M) (f : ℕ → M → List (Met M)) (g : ℕ → M → Turn M) → x.did.way ≡ w → ((c' : ℕ) (m' : M) → Says k (n + 1) (e + extra x.step.code) (f c' m') (g c' m').answer) →
      Says (suc k) n e (x ∷ follows X w c (λ c'. f c' m)) (after_way X w x.step c n e m g).answer
  way_says k x (Ok Next) c n e m f g q h = says_more k n e x (f (c + 1) m) _ (ap is_ok q) (ap on q) (h (c + 1) m)
  way_says k x (Ok (Jumped p)) c n e m f g q h = says_more k n e x (f p m) _ (ap is_ok q) (ap on q) (h p m)
  way_says k x (Ok Stopped) c n e m f g q h = says_last k n e x (Ok Stopped) _ q refl refl refl q
  way_says k x (Ok (Answered v)) c n e m f g q h = says_last k n e x (Ok (Answered v)) _ q refl refl refl q
  way_says k x (Err z) c n e m f g q h = says_last k n e x (Err z) _ q refl (omega arith) (omega arith) (inl (z, q, refl))

  tried_says : (k : ℕ) (b : Bool) (o : Step) (c n e : ℕ) (m : M) (f : ℕ → M → List (Met M)) (g : ℕ → M → Turn M) → ((c' : ℕ) (m' : M) → Says k (n + 1) (e + extra o.code) (f c' m') (g c' m').answer) →
      Says (suc k) n e (attempts X b c o m f) (tried X b o c n e m g).answer
  tried_says k false o c n e m f g h = record { done = omega arith; extra = omega arith; came = inr (refl, omega arith, refl); spent = λ u v. absurd (omega arith) }
  tried_says k true o c n e m f g h = way_says k (met X c o m) (X.act c o m).way c n e (X.act c o m).after f g refl h

  runs_says : (k : ℕ) (os : List Step) (c n e : ℕ) (m : M) → Says k n e (trail_of_run X k os c m) (runs X k os c n e m).answer
  runs_says zero os c n e m = record { done = omega arith; extra = omega arith; came = (refl, refl); spent = λ u v. refl }
  runs_says (suc k) os c n e m = tried_says k (ltb c (length os)) (get_or os c stop) c n e m _ _ (λ c' m'. runs_says k os c' (n + 1) (e + extra (get_or os c stop).code) m')

  -- the links of a run's trail, and what it leaves
  record Links (os : List Step) (c : ℕ) (m : M) (t : List (Met M)) (u : Turn M) : Type 0 where
    linked : Linked X.act os c m t
    leaves : u.after.player ≡ left m t
    counter : u.after.counter ≡ stands c t

  way_links : (os : List Step) (c n e : ℕ) (m : M) (w : Result Way Cause) → (X.act c (get_or os c stop) m).way ≡ w → c < length os → (f : ℕ → M → List (Met M)) (g : ℕ → M → Turn M) → ((c' : ℕ) (m' : M) → Links os c' m' (f c' m') (g c' m')) →
      Links os c m (met X c (get_or os c stop) m ∷ follows X w c (λ c'. f c' (X.act c (get_or os c stop) m).after)) (after_way X w (get_or os c stop) c n e (X.act c (get_or os c stop) m).after g)
  way_links os c n e m (Ok Next) q l f g h = let r = h (c + 1) (X.act c (get_or os c stop) m).after in record { linked = (refl, l, refl, refl, refl, rw q r.linked); leaves = r.leaves; counter = rw q r.counter }
  way_links os c n e m (Ok (Jumped p)) q l f g h = let r = h p (X.act c (get_or os c stop) m).after in record { linked = (refl, l, refl, refl, refl, rw q r.linked); leaves = r.leaves; counter = rw q r.counter }
  way_links os c n e m _ q l f g h = record { linked = (refl, l, refl, refl, refl, tt); leaves = refl; counter = rw q }

  tried_links : (os : List Step) (c n e : ℕ) (m : M) (b : Bool) → ltb c (length os) ≡ b → (f : ℕ → M → List (Met M)) (g : ℕ → M → Turn M) → ((c' : ℕ) (m' : M) → Links os c' m' (f c' m') (g c' m')) →
      Links os c m (attempts X b c (get_or os c stop) m f) (tried X b (get_or os c stop) c n e m g)
  tried_links os c n e m false q f g h = record { linked = tt; leaves = refl; counter = refl }
  tried_links os c n e m true q f g h = way_links os c n e m (X.act c (get_or os c stop) m).way refl (ltb-true _ _ q) f g h

  runs_links : (k : ℕ) (os : List Step) (c n e : ℕ) (m : M) → Links os c m (trail_of_run X k os c m) (runs X k os c n e m)
  runs_links zero os c n e m = record { linked = tt; leaves = refl; counter = refl }
  runs_links (suc k) os c n e m = tried_links os c n e m (ltb c (length os)) refl _ _ (λ c' m'. runs_links k os c' (n + 1) (e + extra (get_or os c stop).code) m')

  in_links : (os : List Step) (c : ℕ) (m : M) (p : Phase) (k : ℕ) → Links os c m (trail_in X p os k c m) (run_in X p os k c m)
  in_links os c m Idle k = record { linked = tt; leaves = refl; counter = refl }
  in_links os c m Halted k = record { linked = tt; leaves = refl; counter = refl }
  in_links os c m Going k = runs_links k os c 0 0 m

  -- in each phase
  module _ (os : List Step) (c : ℕ) (m : M) where
    in_splits : (p : Phase) (x y : ℕ) → says_spent (run_in X p os x c m).answer ≡ true → run_in X p os (x + y) c m ≡
        shift (done_of (run_in X p os x c m).answer) (extra_of (run_in X p os x c m).answer) (handle X (run os y) (run_in X p os x c m).after)
    in_splits Idle x y h = cc
    in_splits Halted x y h = cc
    in_splits Going x y h =
        let t : Turn M = runs X x os c 0 0 m in
        let j = (runs_joins x y os c 0 0 m).0 h in
        let n : ℕ = done_of t.answer in
        let e : ℕ = extra_of t.answer in
        let a : n + 0 ≡ n = omega arith in
        let b : e + 0 ≡ e = omega arith in
        let z = runs_shift y os t.after.counter n e 0 0 t.after.player in
        let z' : joined y os t ≡ shift n e (runs X y os t.after.counter 0 0 t.after.player) = rw (a, b) at z in
        j.0 ∙ (z' ∙ ap (λ p. shift n e (run_in X p os y t.after.counter t.after.player)) (sym j.1))

    in_stays : (p : Phase) (x y : ℕ) → says_spent (run_in X p os x c m).answer ≡ false → run_in X p os (x + y) c m ≡ run_in X p os x c m
    in_stays Idle x y h = refl
    in_stays Halted x y h = refl
    in_stays Going x y h = (runs_joins x y os c 0 0 m).1 h

    in_counts : (p : Phase) (k : ℕ) → done_of (run_in X p os k c m).answer ≡ passed (trail_in X p os k c m)
    in_counts Idle k = refl
    in_counts Halted k = refl
    in_counts Going k = let a = (runs_says k os c 0 0 m).done in omega arith

    in_sums : (p : Phase) (k : ℕ) → extra_of (run_in X p os k c m).answer ≡ extra_sum (trail_in X p os k c m)
    in_sums Idle k = refl
    in_sums Halted k = refl
    in_sums Going k = let a = (runs_says k os c 0 0 m).extra in omega arith

  pub drives : (s : Driven M) (os : List Step) → Drives X s os
  drives s os = record {
    splits = λ x y h. in_splits os s.counter s.player s.phase x y h;
    stays = λ x y h. in_stays os s.counter s.player s.phase x y h;
    counts = λ k. in_counts os s.counter s.player s.phase k;
    sums = λ k. in_sums os s.counter s.player s.phase k;
    came = λ k p. rw p (runs_says k os s.counter 0 0 s.player).came;
    spent = λ k p. rw p (runs_says k os s.counter 0 0 s.player).spent;
    linked = λ k. (in_links os s.counter s.player s.phase k).linked;
    leaves = λ k. (in_links os s.counter s.player s.phase k).leaves;
    counters = λ k. (in_links os s.counter s.player s.phase k).counter;
  }

  -- a call more goes on from where the others lead
  pub leads_push : (qs : List HostCall) (q : HostCall) (s : Driven M) → leads_to X (qs ++ (q ∷ [])) s ≡ (handle X q (leads_to X qs s)).after
  leads_push [] q s = refl
  leads_push (x ∷ qs) q s = leads_push qs q (handle X x s).after

  -- a call more adds its own trail
  pub trail_push : (qs : List HostCall) (q : HostCall) (s : Driven M) → trail X (qs ++ (q ∷ [])) s ≡ trail X qs s ++ entries_of X q (leads_to X qs s)
  trail_push [] q s = append-nil (entries_of X q s)
  trail_push (x ∷ qs) q s =
      ap (λ t. entries_of X x s ++ t) (trail_push qs q (handle X x s).after)
      ∙ sym (append_assoc (entries_of X x s) (trail X qs (handle X x s).after) (entries_of X q (leads_to X qs (handle X x s).after)))
