-- Two players whose acts lead the same way give the same answers to every history and leave trails that match place by place,
-- and what they keep holds at each place. Assumes nothing.
-- Q says what they keep, by what was attempted before, the newest first.
use Rattle.std.proofs.Common.{◌≡◌, ℕ, zero, suc, ◌+◌, Bool, true, false, ltb, List, [], ◌∷◌, ◌++◌, map, length, reverse, take, slice_get, get_or, Some, None, Option, Ok, Result, sym, refl, ap, ◌∙◌, subst}
use Rattle.faults.specs.declared.cause.Cause.{Cause}
use Rattle.operations.specs.declared.step.Step.{Step}
use mathlib.Core.List.{reverse_aux}
use Rattle.std.proofs.lemmas.List.{take-map, reverse-append}
use Rattle.operations.specs.declared.operation.Operation.{Operation}
use Rattle.operations.specs.Records.{step_of}
use Rattle.operations.specs.Sound.{stop}
use Rattle.model.specs.Sheet.{Player}
use Rattle.model.specs.declared.way.Way.{Way}
use Rattle.model.specs.declared.way.Way.TheVariants.{Next, Jumped}
use Rattle.model.specs.declared.phase.Phase.{Phase}
use Rattle.model.specs.declared.phase.Phase.TheVariants.{Idle, Going, Halted}
use Rattle.model.specs.Driving.{Driven, Reply, Turn, HostCall, start, run, press, turn, after_way, tried, runs, begun, run_in, pressing, handle, answers, leads_to, extra, barred, pressed}
use Rattle.model.specs.Trail.{Met, met, Entry, acted, began, follows, attempts, trail_of_run, trail_in, trail_of_press, trail_of_record, begins_at, entries_of, trail}
use Rattle.model.proofs.Driving.{Paired, Level, Matches}

onto_map : {X Y : Type 0} (f : X → Y) (xs ys : List X) → map f (reverse_aux xs ys) ≡ reverse_aux (map f xs) (map f ys)
onto_map f [] ys = refl
onto_map f (x ∷ xs) ys = onto_map f xs (x ∷ ys)

-- what is seen of the first i entries, by what is seen of all
pub seen_before : {X Y : Type 0} (f : X → Y) (i : ℕ) (xs : List X) → map f (reverse (take i xs)) ≡ reverse (take i (map f xs))
seen_before f i xs = onto_map f (take i xs) [] ∙ ap reverse (sym (take-map f i xs))

-- one entry more, at the end
pub reverse_push : {X : Type 0} (xs : List X) (e : X) → reverse (xs ++ (e ∷ [])) ≡ e ∷ reverse xs
reverse_push xs e = reverse-append xs (e ∷ [])

module _ {M₁ M₂ : Type 0} (X₁ : Player M₁) (X₂ : Player M₂) (Q : List (Entry M₂) → M₁ → M₂ → Type 0) where
  pub record Place (p : List (Entry M₂)) (e₁ : Met M₁) (e₂ : Met M₂) : Type 0 where
    pub counter : ℕ
    pub step : Step
    pub first : e₁ ≡ met X₁ counter step e₁.before
    pub second : e₂ ≡ met X₂ counter step e₂.before
    pub kept : Q p e₁.before e₂.before

  abbrev pub Tracks : List (Entry M₂) → List (Entry M₁) → List (Entry M₂) → Type 0
  Tracks p [] [] = Unit {0}
  Tracks p [] (e₂ ∷ t₂) = ⊥
  Tracks p (e₁ ∷ t₁) [] = ⊥
  Tracks p (acted e₁ ∷ t₁) (acted e₂ ∷ t₂) = Place p e₁ e₂ × Tracks (acted e₂ ∷ p) t₁ t₂
  Tracks p (acted e₁ ∷ t₁) (began ∷ t₂) = ⊥
  Tracks p (began ∷ t₁) (acted e₂ ∷ t₂) = ⊥
  Tracks p (began ∷ t₁) (began ∷ t₂) = Tracks (began ∷ p) t₁ t₂

  pub tracks_append : (p : List (Entry M₂)) (a₁ b₁ : List (Entry M₁)) (a₂ b₂ : List (Entry M₂)) → Tracks p a₁ a₂ → Tracks (reverse_aux a₂ p) b₁ b₂ → Tracks p (a₁ ++ b₁) (a₂ ++ b₂)
  tracks_append p [] b₁ [] b₂ h k = k
  tracks_append p [] b₁ (e₂ ∷ a₂) b₂ h k = absurd h
  tracks_append p (e₁ ∷ a₁) b₁ [] b₂ h k = absurd h
  tracks_append p (acted e₁ ∷ a₁) b₁ (acted e₂ ∷ a₂) b₂ h k = (h.0, tracks_append (acted e₂ ∷ p) a₁ b₁ a₂ b₂ h.1 k)
  tracks_append p (acted e₁ ∷ a₁) b₁ (began ∷ a₂) b₂ h k = absurd h
  tracks_append p (began ∷ a₁) b₁ (acted e₂ ∷ a₂) b₂ h k = absurd h
  tracks_append p (began ∷ a₁) b₁ (began ∷ a₂) b₂ h k = tracks_append (began ∷ p) a₁ b₁ a₂ b₂ h k

  pub tracks_at : (i : ℕ) (p : List (Entry M₂)) (t₁ : List (Entry M₁)) (t₂ : List (Entry M₂)) (e₁ : Met M₁) → Tracks p t₁ t₂ → slice_get t₁ i ≡ Some (acted e₁) → (e₂ : Met M₂) × Place (reverse_aux (take i t₂) p) e₁ e₂
  tracks_at i p [] t₂ e₁ h k = cc
  tracks_at i p (x₁ ∷ t₁) [] e₁ h k = absurd h
  tracks_at zero p (acted x₁ ∷ t₁) (acted x₂ ∷ t₂) e₁ h k = let a : x₁ ≡ e₁ = cc in (x₂, subst (λ y. Place p y x₂) a h.0)
  tracks_at zero p (acted x₁ ∷ t₁) (began ∷ t₂) e₁ h k = absurd h
  tracks_at zero p (began ∷ t₁) (acted x₂ ∷ t₂) e₁ h k = absurd h
  tracks_at zero p (began ∷ t₁) (began ∷ t₂) e₁ h k = cc
  tracks_at (suc i) p (acted x₁ ∷ t₁) (acted x₂ ∷ t₂) e₁ h k = tracks_at i (acted x₂ ∷ p) t₁ t₂ e₁ h.1 k
  tracks_at (suc i) p (acted x₁ ∷ t₁) (began ∷ t₂) e₁ h k = absurd h
  tracks_at (suc i) p (began ∷ t₁) (acted x₂ ∷ t₂) e₁ h k = absurd h
  tracks_at (suc i) p (began ∷ t₁) (began ∷ t₂) e₁ h k = tracks_at i (began ∷ p) t₁ t₂ e₁ h k

  -- what is seen of both is the same, where it is of each place
  pub tracks_same : {X : Type 0} (f₁ : Entry M₁ → X) (f₂ : Entry M₂ → X) → f₁ began ≡ f₂ began → ((p : List (Entry M₂)) (e₁ : Met M₁) (e₂ : Met M₂) → Place p e₁ e₂ → f₁ (acted e₁) ≡ f₂ (acted e₂)) →
      (p : List (Entry M₂)) (t₁ : List (Entry M₁)) (t₂ : List (Entry M₂)) → Tracks p t₁ t₂ → map f₁ t₁ ≡ map f₂ t₂
  tracks_same f₁ f₂ b f p [] [] h = refl
  tracks_same f₁ f₂ b f p [] (e₂ ∷ t₂) h = absurd h
  tracks_same f₁ f₂ b f p (e₁ ∷ t₁) [] h = absurd h
  tracks_same f₁ f₂ b f p (acted e₁ ∷ t₁) (acted e₂ ∷ t₂) h = rw (f p e₁ e₂ h.0, tracks_same f₁ f₂ b f (acted e₂ ∷ p) t₁ t₂ h.1)
  tracks_same f₁ f₂ b f p (acted e₁ ∷ t₁) (began ∷ t₂) h = absurd h
  tracks_same f₁ f₂ b f p (began ∷ t₁) (acted e₂ ∷ t₂) h = absurd h
  tracks_same f₁ f₂ b f p (began ∷ t₁) (began ∷ t₂) h = rw (b, tracks_same f₁ f₂ b f (began ∷ p) t₁ t₂ h)

  -- a call: its two trails, and its two turns
  pub record Called (p : List (Entry M₂)) (t₁ : List (Entry M₁)) (t₂ : List (Entry M₂)) (u₁ : Turn M₁) (u₂ : Turn M₂) : Type 0 where
    pub tracks : Tracks p t₁ t₂
    pub level : Level (Q (reverse_aux t₂ p)) u₁ u₂

  module _ (acts : (p : List (Entry M₂)) (c : ℕ) (o : Step) (m₁ : M₁) (m₂ : M₂) → Q p m₁ m₂ → Matches (Q (acted (met X₂ c o m₂) ∷ p)) (X₁.act c o m₁) (X₂.act c o m₂))
      (closes : (p : List (Entry M₂)) (m₁ : M₁) (m₂ : M₂) → Q p m₁ m₂ → Q (began ∷ p) (X₁.close m₁) (X₂.close m₂)) where
    ends : (p : List (Entry M₂)) (r : Reply) (c : ℕ) (f : Phase) (m₁ : M₁) (m₂ : M₂) → Q p m₁ m₂ → Called p [] [] (turn X₁ r c f m₁) (turn X₂ r c f m₂)
    ends p r c f m₁ m₂ h = record { tracks = tt; level = record { answer = refl; after = record { counter = refl; phase = refl; player = h } } }

    Rests : List (Entry M₂) → (ℕ → M₁ → List (Met M₁)) → (ℕ → M₂ → List (Met M₂)) → (ℕ → M₁ → Turn M₁) → (ℕ → M₂ → Turn M₂) → Type 0
    Rests p t₁ t₂ f₁ f₂ = (c : ℕ) (m₁ : M₁) (m₂ : M₂) → Q p m₁ m₂ → Called p (map acted (t₁ c m₁)) (map acted (t₂ c m₂)) (f₁ c m₁) (f₂ c m₂)

    way_tracks : (p : List (Entry M₂)) (w : Result Way Cause) (o : Step) (c n e : ℕ) (m₁ : M₁) (m₂ : M₂) (t₁ : ℕ → M₁ → List (Met M₁)) (t₂ : ℕ → M₂ → List (Met M₂)) (f₁ : ℕ → M₁ → Turn M₁) (f₂ : ℕ → M₂ → Turn M₂) → Q p m₁ m₂ → Rests p t₁ t₂ f₁ f₂ →
        Called p (map acted (follows X₁ w c (λ c'. t₁ c' m₁))) (map acted (follows X₂ w c (λ c'. t₂ c' m₂))) (after_way X₁ w o c n e m₁ f₁) (after_way X₂ w o c n e m₂ f₂)
    unfolding Rests
    way_tracks p (Ok Next) o c n e m₁ m₂ t₁ t₂ f₁ f₂ h k = k (c + 1) m₁ m₂ h
    way_tracks p (Ok (Jumped x)) o c n e m₁ m₂ t₁ t₂ f₁ f₂ h k = k x m₁ m₂ h
    way_tracks p _ o c n e m₁ m₂ t₁ t₂ f₁ f₂ h k = ends p _ _ _ m₁ m₂ h

    steps : (p : List (Entry M₂)) (c : ℕ) (o : Step) (m₁ : M₁) (m₂ : M₂) → Q p m₁ m₂ → Place p (met X₁ c o m₁) (met X₂ c o m₂)
    steps p c o m₁ m₂ h = record { counter = c; step = o; first = refl; second = refl; kept = h }

    tried_tracks : (p : List (Entry M₂)) (b : Bool) (o : Step) (c n e : ℕ) (m₁ : M₁) (m₂ : M₂) (t₁ : ℕ → M₁ → List (Met M₁)) (t₂ : ℕ → M₂ → List (Met M₂)) (f₁ : ℕ → M₁ → Turn M₁) (f₂ : ℕ → M₂ → Turn M₂) → Q p m₁ m₂ →
        Rests (acted (met X₂ c o m₂) ∷ p) t₁ t₂ f₁ f₂ →
        Called p (map acted (attempts X₁ b c o m₁ t₁)) (map acted (attempts X₂ b c o m₂ t₂)) (tried X₁ b o c n e m₁ f₁) (tried X₂ b o c n e m₂ f₂)
    tried_tracks p false o c n e m₁ m₂ t₁ t₂ f₁ f₂ h k = ends p _ _ _ m₁ m₂ h
    tried_tracks p true o c n e m₁ m₂ t₁ t₂ f₁ f₂ h k =
        let d = acts p c o m₁ m₂ h in
        let r = way_tracks (acted (met X₂ c o m₂) ∷ p) (X₂.act c o m₂).way o c n e (X₁.act c o m₁).after (X₂.act c o m₂).after t₁ t₂ f₁ f₂ d.after k in
        let P : Result Way Cause → Type 0 = λ w. Called (acted (met X₂ c o m₂) ∷ p) (map acted (follows X₁ w c (λ c'. t₁ c' (X₁.act c o m₁).after))) (map acted (follows X₂ (X₂.act c o m₂).way c (λ c'. t₂ c' (X₂.act c o m₂).after)))
        (after_way X₁ w o c n e (X₁.act c o m₁).after f₁) (after_way X₂ (X₂.act c o m₂).way o c n e (X₂.act c o m₂).after f₂) in
        let z = subst P (sym d.way) r in
        record { tracks = (steps p c o m₁ m₂ h, z.tracks); level = z.level }

    runs_tracks : (k : ℕ) (p : List (Entry M₂)) (os : List Step) (c n e : ℕ) (m₁ : M₁) (m₂ : M₂) → Q p m₁ m₂ →
        Called p (map acted (trail_of_run X₁ k os c m₁)) (map acted (trail_of_run X₂ k os c m₂)) (runs X₁ k os c n e m₁) (runs X₂ k os c n e m₂)
    unfolding Rests
    runs_tracks zero p os c n e m₁ m₂ h = ends p _ _ _ m₁ m₂ h
    runs_tracks (suc k) p os c n e m₁ m₂ h =
        tried_tracks p (ltb c (length os)) (get_or os c stop) c n e m₁ m₂ _ _ _ _ h
        (λ c' x₁ x₂ r. runs_tracks k (acted (met X₂ c (get_or os c stop) m₂) ∷ p) os c' (n + 1) (e + extra (get_or os c stop).code) x₁ x₂ r)

    begun_tracks : (p : List (Entry M₂)) (b : Bool) (x : ℕ) (s₁ : Driven M₁) (s₂ : Driven M₂) → Paired (Q p) s₁ s₂ → Called p (begins_at X₁ b) (begins_at X₂ b) (begun X₁ b x s₁) (begun X₂ b x s₂)
    begun_tracks p false x s₁ s₂ h = record { tracks = tt; level = record { answer = refl; after = h } }
    begun_tracks p true x s₁ s₂ h = record { tracks = tt; level = record { answer = refl; after = record { counter = refl; phase = refl; player = closes p s₁.player s₂.player h.player } } }

    ran_tracks : (p : List (Entry M₂)) (f : Phase) (os : List Step) (k c : ℕ) (m₁ : M₁) (m₂ : M₂) → Q p m₁ m₂ →
        Called p (map acted (trail_in X₁ f os k c m₁)) (map acted (trail_in X₂ f os k c m₂)) (run_in X₁ f os k c m₁) (run_in X₂ f os k c m₂)
    ran_tracks p Idle os k c m₁ m₂ h = ends p _ _ _ m₁ m₂ h
    ran_tracks p Halted os k c m₁ m₂ h = ends p _ _ _ m₁ m₂ h
    ran_tracks p Going os k c m₁ m₂ h = runs_tracks k p os c 0 0 m₁ m₂ h

    pressing_tracks : (p : List (Entry M₂)) (b : Bool) (o : Step) (s₁ : Driven M₁) (s₂ : Driven M₂) → Paired (Q p) s₁ s₂ →
        Called p (map acted (trail_of_press X₁ b s₁.counter o s₁.player)) (map acted (trail_of_press X₂ b s₂.counter o s₂.player)) (pressing X₁ b o s₁) (pressing X₂ b o s₂)
    pressing_tracks p true o s₁ s₂ h = record { tracks = tt; level = record { answer = refl; after = h } }
    pressing_tracks p false o s₁ s₂ h =
        let d : Matches (Q (acted (met X₂ s₂.counter o s₂.player) ∷ p)) (X₁.act s₁.counter o s₁.player) (X₂.act s₂.counter o s₂.player) =
        rw h.counter (acts p s₂.counter o s₁.player s₂.player h.player) in
        let t : Place p (met X₁ s₁.counter o s₁.player) (met X₂ s₂.counter o s₂.player) = rw h.counter (steps p s₂.counter o s₁.player s₂.player h.player) in
        record { tracks = (t, tt); level = record { answer = rw d.way; after = record { counter = h.counter; phase = h.phase; player = d.after } } }

    pressed_tracks : (p : List (Entry M₂)) (t : Option Step) (r : Operation) (s₁ : Driven M₁) (s₂ : Driven M₂) → Paired (Q p) s₁ s₂ →
        Called p (map acted (trail_of_record X₁ t s₁.counter s₁.player)) (map acted (trail_of_record X₂ t s₂.counter s₂.player)) (pressed X₁ t r s₁) (pressed X₂ t r s₂)
    pressed_tracks p None r s₁ s₂ h = record { tracks = tt; level = record { answer = refl; after = h } }
    pressed_tracks p (Some o) r s₁ s₂ h = pressing_tracks p (barred o.code) o s₁ s₂ h

    handle_tracks : (p : List (Entry M₂)) (q : HostCall) (s₁ : Driven M₁) (s₂ : Driven M₂) → Paired (Q p) s₁ s₂ → Called p (entries_of X₁ q s₁) (entries_of X₂ q s₂) (handle X₁ q s₁) (handle X₂ q s₂)
    handle_tracks p (start os x) s₁ s₂ h = begun_tracks p (ltb x (length os)) x s₁ s₂ h
    handle_tracks p (run os k) s₁ s₂ h = rw (h.phase, h.counter) (ran_tracks p s₂.phase os k s₂.counter s₁.player s₂.player h.player)
    handle_tracks p (press r) s₁ s₂ h = pressed_tracks p (step_of r) r s₁ s₂ h

    pub trails_track : (p : List (Entry M₂)) (qs : List HostCall) (s₁ : Driven M₁) (s₂ : Driven M₂) → Paired (Q p) s₁ s₂ → Tracks p (trail X₁ qs s₁) (trail X₂ qs s₂)
    trails_track p [] s₁ s₂ h = tt
    trails_track p (q ∷ qs) s₁ s₂ h =
        let t = handle_tracks p q s₁ s₂ h in
        tracks_append p (entries_of X₁ q s₁) _ (entries_of X₂ q s₂) _ t.tracks (trails_track (reverse_aux (entries_of X₂ q s₂) p) qs (handle X₁ q s₁).after (handle X₂ q s₂).after t.level.after)

    -- so both answer the same, and stay paired
    pub answers_level : (p : List (Entry M₂)) (qs : List HostCall) (s₁ : Driven M₁) (s₂ : Driven M₂) → Paired (Q p) s₁ s₂ → answers X₁ qs s₁ ≡ answers X₂ qs s₂
    answers_level p [] s₁ s₂ h = refl
    answers_level p (q ∷ qs) s₁ s₂ h =
        let t = (handle_tracks p q s₁ s₂ h).level in
        rw (t.answer, answers_level (reverse_aux (entries_of X₂ q s₂) p) qs (handle X₁ q s₁).after (handle X₂ q s₂).after t.after)

    pub leads_level : (p : List (Entry M₂)) (qs : List HostCall) (s₁ : Driven M₁) (s₂ : Driven M₂) → Paired (Q p) s₁ s₂ → (p' : List (Entry M₂)) × Paired (Q p') (leads_to X₁ qs s₁) (leads_to X₂ qs s₂)
    leads_level p [] s₁ s₂ h = (p, h)
    leads_level p (q ∷ qs) s₁ s₂ h = leads_level (reverse_aux (entries_of X₂ q s₂) p) qs (handle X₁ q s₁).after (handle X₂ q s₂).after (handle_tracks p q s₁ s₂ h).level.after
