-- Every history keeps the promise. Assumes nothing.
use Rattle.std.proofs.Common.{◌≡◌, ◌↔◌, ℕ, zero, suc, ◌+◌, ◌-◌, ◌<◌, ◌≤◌, Bool, true, false, cond, ltb, ◌⊎◌, List, [], ◌∷◌, ◌++◌, map, length, reverse, take, slice_get, get_or, set, replicate, Some, None, Option, is_ok, sym, refl, ap, ◌∙◌, subst, inl, inr, arith, w64, of_z}
use Rattle.std.proofs.lemmas.Bool.{lt-ltb, ne_eqb, true≢false, cases_lt}
use Rattle.std.proofs.lemmas.List.{get_or-replicate, length-replicate, get_or_past}
use Rattle.heaps.specs.Rule.{HeapRule}
use Rattle.operations.specs.declared.code.Code.{Code}
use Rattle.operations.specs.declared.code.Code.TheVariants.{Add, Load, Loadb, Grab, Release}
use Rattle.operations.specs.declared.step.Step.{Step}
use Rattle.heaps.specs.Points.{Points, cleared}
use Rattle.racks.specs.Rule.{RackRule}
use Rattle.racks.specs.Points.{RackPoints}
use Rattle.model.specs.Sheet.{Did, Common, Named, wrap, word, tag, got, grabbed, sheet, act, close, player}
use Rattle.std.specs.Option.{option_or}
use Rattle.model.specs.Parts.{value, bytes}
use Rattle.model.specs.declared.sidecar.Sidecar.{Sidecar}
use Rattle.model.specs.Machine.{machine, made, OfMachine}
use Rattle.model.specs.Grants.{Outline, is_frame, over, living_frame}
use Rattle.model.specs.History.{nth, outline, book, opened, OfBook}
use Rattle.model.specs.Driving.{HostCall, Driven, start, handle}
use Rattle.model.specs.Agreement.{idle, descent, machine_after}
use Rattle.model.specs.Trail.{Met, met, Entry, acted, began, target, entries_of, trail}
use Rattle.model.specs.Sights.{Sight, seen, stores, log, newest, sight_by, sight, sights}
use Rattle.model.specs.Lives.{lives}
use Rattle.model.specs.Promise.{Access, load, store, loadb, storeb, Reaches, Endable, Clear, living_blocks, last_stored, Granted, Keeps, Promise}
use Rattle.model.proofs.Sheeting.{Both, rows_get, SameBlock, acts_like, closes_like}
use Rattle.model.proofs.Driving.{Matches}
use Rattle.model.proofs.Driven.{drives, leads_push, trail_push}
use Rattle.model.proofs.Relation.{World, Alike, Rel}
use Rattle.model.proofs.Whole.{steps, begin, same_descent, agrees}
use Rattle.model.proofs.Tracking.{Tracks, seen_before, reverse_push, tracks_at, tracks_same, trails_track}
use Rattle.model.proofs.Recording.{Tells, act_tells, close_tells}
use Rattle.model.proofs.Living.{Same}
use Rattle.model.proofs.Lived.{act_lives}
use Rattle.model.proofs.Closing.{close_lives}
use Rattle.model.proofs.Ending.{and_false}
use Rattle.model.proofs.Leaving.{act_leaves}
use Rattle.model.proofs.Refusing.{refuses}
use Rattle.model.proofs.Counts.{count_none}
use Rattle.model.proofs.Allies.{Ally}
use Rattle.model.proofs.Wording.{access_iff, release_iff, loaded, loadedb, named, book_grabs, both_some}

module _ (H : HeapRule) (R : RackRule) (P : Points H) (Q : RackPoints R) where
  module _ (σ : List Sight) (c : ℕ) (o : Step) (m₁ : OfMachine H R) (m₂ : OfBook H) (h : Ally H R m₁ m₂) (T : Tells H P (log σ) m₂.store) (A : Same (lives σ) m₂.store (length m₂.common.returns)) where
    abbrev first : Met (OfMachine H R)
    first = met (player (machine H R)) c o m₁

    like : Matches (Ally H R) (act (machine H R) c o m₁) (act (book H) c o m₂)
    like = acts_like (machine H R) (book H) World Alike (Rel H R) (steps H R P Q) c o m₁ m₂ h

    came : descent (tag m₁ o.a) ≡ tag m₂ o.a
    came = same_descent H R P Q 0 m₂.store.heap m₁.store.rack h.ghost _ _ _ h.store _ _ (rows_get (Both (Alike h.ghost)) m₁.tags m₂.tags o.a None None tt h.tags)

    by_access : (k : Code) (n : ℕ) → Access k n → (is_ok (sheet (book H) k c o.d o.a o.b (of_z w64 o.n) m₂).way ≡ true) ↔ ((g : ℕ) × (tag m₂ o.a ≡ Some g) × Reaches (outline m₂.store g) (target m₂ o) n)
    by_access k n load = access_iff H R P Q m₂ (tag m₂ o.a) (target m₂ o) 8 (inl refl) _
    by_access k n store = access_iff H R P Q m₂ (tag m₂ o.a) (target m₂ o) 8 (inl refl) _
    by_access k n loadb = access_iff H R P Q m₂ (tag m₂ o.a) (target m₂ o) 1 (inr refl) _
    by_access k n storeb = access_iff H R P Q m₂ (tag m₂ o.a) (target m₂ o) 1 (inr refl) _

    by_release : (k : Code) → k ≡ Release → (is_ok (sheet (book H) k c o.d o.a o.b (of_z w64 o.n) m₂).way ≡ true) ↔ ((g : ℕ) × (tag m₂ o.a ≡ Some g) × Endable (outline m₂.store g))
    by_release k e = rw e (release_iff H R P Q m₂ (tag m₂ o.a) (word m₂ o.a))

    -- in the machine's words: the way, the descent, the address and the lives
    machines : (F : Outline → ℕ → Type 0) → (is_ok (act (book H) c o m₂).way ≡ true) ↔ ((g : ℕ) × (tag m₂ o.a ≡ Some g) × F (outline m₂.store g) (target m₂ o)) →
        (is_ok (act (machine H R) c o m₁).way ≡ true) ↔ ((g : ℕ) × (descent (tag m₁ o.a) ≡ Some g) × F ((lives σ).of g) (target m₁ o))
    machines F i =
        let x : target m₁ o ≡ target m₂ o = ap (λ (k : Common). wrap (get_or k.words o.a 0 + of_z w64 o.n)) h.common in (
          λ p. let z = i.0 (subst (λ w. is_ok w ≡ true) like.way p) in
              (z.0, came ∙ z.1, subst (λ (q : Outline). F q (target m₁ o)) (sym (A.of z.0)) (subst (F (outline m₂.store z.0)) (sym x) z.2)),
          λ z. let g = z.0 in
              subst (λ w. is_ok w ≡ true) (sym like.way) (i.1 (g, sym came ∙ z.1, subst (λ (q : Outline). F q (target m₂ o)) (A.of g) (subst (F ((lives σ).of g)) x z.2))),
        )

    by_load : (k : Code) → k ≡ Load → is_ok (sheet (book H) k c o.d o.a o.b (of_z w64 o.n) m₂).way ≡ true → (g : ℕ) → tag m₂ o.a ≡ Some g →
        (sheet (book H) k c o.d o.a o.b (of_z w64 o.n) m₂).after.common.words ≡ set m₂.common.words o.d (value (last_stored (log σ) g 8 (target m₂ o)))
    by_load k e p g t = rw e (loaded H R P Q (log σ) m₂ T o.d (target m₂ o) g (tag m₂ o.a) _ t (rw e at p))

    by_loadb : (k : Code) → k ≡ Loadb → is_ok (sheet (book H) k c o.d o.a o.b (of_z w64 o.n) m₂).way ≡ true → (g : ℕ) → tag m₂ o.a ≡ Some g →
        (sheet (book H) k c o.d o.a o.b (of_z w64 o.n) m₂).after.common.words ≡ set m₂.common.words o.d (newest (log σ) g (target m₂ o))
    by_loadb k e p g t = rw e (loadedb H R P Q (log σ) m₂ T o.d (target m₂ o) g (tag m₂ o.a) t (rw e at p))

    -- in the machine's words
    move : (F : ℕ → ℕ) → (act (book H) c o m₂).after.common.words ≡ set m₂.common.words o.d (F (target m₂ o)) → (act (machine H R) c o m₁).after.common.words ≡ set m₁.common.words o.d (F (target m₁ o))
    move F e =
        ap (λ (k : Common). k.words) like.after.common ∙ (e ∙ ap (λ (k : Common). set k.words o.d (F (wrap (get_or k.words o.a 0 + of_z w64 o.n)))) (sym h.common))

    grabs : o.code ≡ Grab → m₁.store.issued < m₁.store.ceiling → 1 ≤ word m₁ o.a → word m₁ o.a ≤ 256 → living_blocks (lives σ) < 255 → (y : ℕ) → Clear (lives σ) y → Granted H R first σ
    grabs e left lo hi few y C =
        let z = book_grabs H R P Q (log σ) (lives σ) m₂.store _ T A (word m₁ o.a) y lo hi few C in
        let g = (steps H R P Q).grab h.ghost _ m₁.store m₂.store (word m₁ o.a) h.store in
        let b : Both (SameBlock (Alike g.now)) ((machine H R).grab m₁.store (word m₁ o.a)).block (Some z.0) = subst (λ y. Both (SameBlock (Alike g.now)) ((machine H R).grab m₁.store (word m₁ o.a)).block y) z.1 g.block in
        let x = both_some H R P Q (SameBlock (Alike g.now)) _ z.0 b in
        let p = named H R P Q m₁.store (word m₁ o.a) x.0 x.1 in
        let d : act (machine H R) c o m₁ ≡ got (Some x.0) m₁ o.d ((machine H R).grab m₁.store (word m₁ o.a)).after =
        by_code o.code e x.0 x.1 (lt-ltb m₁.store.issued m₁.store.ceiling left) in
        let key : x.0.tag.key ≡ m₁.store.issued + 1 = p.2 in
        let issued = h.store.issued in
        let many = A.many in
        let born : x.0.tag.key - 1 ≡ (lives σ).many = omega arith in
        record {
          sidecar = x.0.tag;
          number = ap Some born;
          way = ap (λ (u : Did (OfMachine H R)). u.way) d;
          size = p.1;
          words = ap (λ (u : Did (OfMachine H R)). u.after.common.words) d ∙ ap (λ v. set m₁.common.words o.d v) p.0;
          sidecars = ap (λ (u : Did (OfMachine H R)). u.after.tags) d;
        }
      where
        by_keys : (k : Bool) (r : Option (Named Sidecar)) (x : Named Sidecar) → r ≡ Some x → k ≡ true →
            grabbed (machine H R) m₁ k o.d (word m₁ o.a) ≡ got ((machine H R).grab m₁.store (word m₁ o.a)).block m₁ o.d ((machine H R).grab m₁.store (word m₁ o.a)).after
        by_keys k r x e f = rw f

        by_code : (k : Code) → k ≡ Grab → (x : Named Sidecar) → ((machine H R).grab m₁.store (word m₁ o.a)).block ≡ Some x → ltb m₁.store.issued m₁.store.ceiling ≡ true →
            sheet (machine H R) k c o.d o.a o.b (of_z w64 o.n) m₁ ≡ got (Some x) m₁ o.d ((machine H R).grab m₁.store (word m₁ o.a)).after
        by_code k e x v f = rw e (by_keys ((machine H R).keys m₁.store) _ x v f ∙ ap (λ r. got r m₁ o.d ((machine H R).grab m₁.store (word m₁ o.a)).after) v)

    by_sum : (k : Code) → k ≡ Add → (sheet (machine H R) k c o.d o.a o.b (of_z w64 o.n) m₁).after.tags ≡ set m₁.tags o.d (option_or (tag m₁ o.a) (tag m₁ o.b))
    by_sum k e = rw e

    keeps : Keeps H R first σ
    keeps = record {
      accesses = λ n a. machines (λ q x. Reaches q x n) (by_access o.code n a);
      releases = λ e. machines (λ q _. Endable q) (by_release o.code e);
      loads = λ e p g t. move (λ x. value (last_stored (log σ) g 8 x)) (by_load o.code e (subst (λ w. is_ok w ≡ true) like.way p) g (sym came ∙ t));
      byte_loads = λ e p g t. move (λ x. newest (log σ) g x) (by_loadb o.code e (subst (λ w. is_ok w ≡ true) like.way p) g (sym came ∙ t));
      grabs = grabs;
      sums = by_sum o.code;
      faults = act_leaves (machine H R) m₁ c o;
    }

  -- what is seen of a step is the same on both sides
  abbrev book_sight : Entry (OfBook H) → Sight
  book_sight = sight_by (λ t. t) (λ b. length b.grants) (λ b n. (H.take b.heap n).answer)

  sight_same : (c : ℕ) (o : Step) (m₁ : OfMachine H R) (m₂ : OfBook H) → Ally H R m₁ m₂ → sight H R (acted (met (player (machine H R)) c o m₁)) ≡ book_sight (acted (met (player (book H)) c o m₂))
  sight_same c o m₁ m₂ h =
      let d = acts_like (machine H R) (book H) World Alike (Rel H R) (steps H R P Q) c o m₁ m₂ h in
      let from : descent (tag m₁ o.a) ≡ tag m₂ o.a = same_descent H R P Q 0 m₂.store.heap m₁.store.rack h.ghost _ _ _ h.store _ _ (rows_get (Both (Alike h.ghost)) m₁.tags m₂.tags o.a None None tt h.tags) in
      λ i. seen (record {
        code = o.code;
        passed = is_ok (d.way i);
        from = from i;
        asked = get_or (h.common i).words o.a 0;
        address = wrap (get_or (h.common i).words o.a 0 + of_z w64 o.n);
        stored = bytes (stores o.code) (get_or (h.common i).words o.b 0);
        keyed = ltb (h.store.issued i) (d.after.store.issued i);
        answer = (H.take (h.store.heap i) (get_or (h.common i).words o.a 0)).answer;
      })

  module _ (top : ℕ) (s : H.State) (r : R.State) where
    -- what both keep, by the trail before
    abbrev BothKeep : List (Entry (OfBook H)) → (OfMachine H R) → (OfBook H) → Type 0
    BothKeep p m₁ m₂ = (Ally H R) m₁ m₂ × Tells H P (log (map book_sight p)) m₂.store × Same (lives (map book_sight p)) m₂.store (length m₂.common.returns)

    acts_keep : (p : List (Entry (OfBook H))) (c : ℕ) (o : Step) (m₁ : OfMachine H R) (m₂ : OfBook H) → BothKeep p m₁ m₂ → Matches (BothKeep (acted (met (player (book H)) c o m₂) ∷ p)) (act (machine H R) c o m₁) (act (book H) c o m₂)
    acts_keep p c o m₁ m₂ h =
        let d = acts_like (machine H R) (book H) World Alike (Rel H R) (steps H R P Q) c o m₁ m₂ h.0 in
        record { way = d.way; after = (d.after, act_tells H P (log (map book_sight p)) m₂ h.1 c o, act_lives H (lives (map book_sight p)) m₂ h.2 c o) }

    closes_keep : (p : List (Entry (OfBook H))) (m₁ : OfMachine H R) (m₂ : OfBook H) → BothKeep p m₁ m₂ → BothKeep (began ∷ p) (close (machine H R) m₁) (close (book H) m₂)
    closes_keep p m₁ m₂ h =
        (closes_like (machine H R) (book H) World Alike (Rel H R) (steps H R P Q) m₁ m₂ h.0, close_tells H P (log (map book_sight p)) m₂ h.1, close_lives H (lives (map book_sight p)) m₂ h.2)

    first_tells : Tells H P [] (opened H top s).store
    first_tells = record {
      some = omega arith;
      first = refl;
      sized = sized;
      tells = tells;
      sound = cleared s;
      owned = λ x h e. absurd (true≢false (let v = P.clears s x in cc));
    }
      where
        sized : (g : ℕ) → length (nth (opened H top s).store g).bytes ≡ (outline (opened H top s).store g).asked
        sized zero = length-replicate {A = ℕ} 1024 0
        sized (suc g) = refl

        zeros : (i : ℕ) → (i < 1024) ⊎ (1024 ≤ i) → get_or {A = ℕ} (replicate 1024 0) i 0 ≡ 0
        zeros i (inl q) = get_or-replicate {A = ℕ} 1024 i 0 0 q
        zeros i (inr q) = get_or_past {X = ℕ} (replicate 1024 0) i 0 (rw (length-replicate {A = ℕ} 1024 0) q)

        tells : (g i : ℕ) → get_or (nth (opened H top s).store g).bytes i 0 ≡ 0
        tells zero i = zeros i (cases_lt i 1024)
        tells (suc g) i = refl

    first_lives : Same (lives []) (opened H top s).store 0
    first_lives = record { many = refl; of = of; opened = count_none (λ g. living_frame ((lives []).of g)) 1 (λ i l. let e : i ≡ 0 = omega arith in rw e) }
      where
        of : (g : ℕ) → (lives []).of g ≡ outline (opened H top s).store g
        of zero = refl
        of (suc g) = rw (ne_eqb (suc g) 0 (λ (q : suc g ≡ 0). omega arith))

    module _ (qs : List HostCall) where
      abbrev machines_trail : List (Entry (OfMachine H R))
      machines_trail = trail (player (machine H R)) qs (idle (made H R top s r))

      abbrev books_trail : List (Entry (OfBook H))
      books_trail = trail (player (book H)) qs (idle (opened H top s))

      tracked : Tracks (player (machine H R)) (player (book H)) BothKeep [] machines_trail books_trail
      tracked =
          let b = begin H R P Q top s r in
          trails_track (player (machine H R)) (player (book H)) BothKeep acts_keep closes_keep [] qs _ _
          (record { counter = b.counter; phase = b.phase; player = (b.player, first_tells, first_lives) })

      seen_same : map (sight H R) machines_trail ≡ map book_sight books_trail
      seen_same = tracks_same (player (machine H R)) (player (book H)) BothKeep (sight H R) book_sight refl
          (λ p e₁ e₂ t. ap (λ (e : Met (OfMachine H R)). sight H R (acted e)) t.first ∙ (sight_same t.counter t.step e₁.before e₂.before t.kept.0 ∙ sym (ap (λ (e : Met (OfBook H)). book_sight (acted e)) t.second))) [] machines_trail books_trail tracked

      places : (i : ℕ) (e : Met (OfMachine H R)) → slice_get machines_trail i ≡ Some (acted e) → Keeps H R e (sights H R (reverse (take i machines_trail)))
      places i e u =
          let z = tracks_at (player (machine H R)) (player (book H)) BothKeep i [] machines_trail books_trail e tracked u in
          let t = z.1 in
          let σ : List Sight = map book_sight (reverse (take i books_trail)) in
          let k = keeps σ t.counter t.step e.before z.0.before t.kept.0 t.kept.1 t.kept.2 in
          let same : σ ≡ sights H R (reverse (take i machines_trail)) = seen_before book_sight i books_trail ∙ (ap (λ x. reverse (take i x)) (sym seen_same) ∙ sym (seen_before (sight H R) i machines_trail)) in
          subst (Keeps H R e) same (subst (λ y. Keeps H R y σ) (sym t.first) k)

      -- a start begins, and adds its mark last
      started : (os : List Step) (x : ℕ) → x < length os → reverse (trail (player (machine H R)) (qs ++ (start os x ∷ [])) (idle (made H R top s r))) ≡ began ∷ reverse machines_trail
      started os x lt =
          let push = trail_push (player (machine H R)) qs (start os x) (idle (made H R top s r)) in
          let mark : machines_trail ++ entries_of (player (machine H R)) (start os x) (machine_after H R top s r qs) ≡ machines_trail ++ (began ∷ []) = rw (lt-ltb x (length os) lt) in
          ap reverse (push ∙ mark) ∙ reverse_push machines_trail began

      no_frame : (os : List Step) (x : ℕ) → x < length os → (g : ℕ) → living_frame ((lives (sights H R (reverse (trail (player (machine H R)) (qs ++ (start os x ∷ [])) (idle (made H R top s r)))))).of g) ≡ false
      no_frame os x lt g = ap (λ t. living_frame ((lives (sights H R t)).of g)) (started os x lt) ∙ ended ((lives (sights H R (reverse machines_trail))).of g)
        where
          ended : (o : Outline) → living_frame (cond (is_frame o.kind) (over o) o) ≡ false
          ended o = go (is_frame o.kind) refl
            where
              go : (f : Bool) → is_frame o.kind ≡ f → living_frame (cond f (over o) o) ≡ false
              go true e = refl
              go false e = rw e (and_false o.living)

      closes : (os : List Step) (x : ℕ) → x < length os → (machine_after H R top s r (qs ++ (start os x ∷ []))).player.common.returns ≡ []
      closes os x lt =
          let m = machine_after H R top s r qs in
          let closed : (handle (player (machine H R)) (start os x) m).after.player.common.returns ≡ [] = rw (lt-ltb x (length os) lt) in
          ap (λ (d : Driven (OfMachine H R)). d.player.common.returns) (leads_push (player (machine H R)) qs (start os x) (idle (made H R top s r))) ∙ closed

      pub promised : Promise H R top s r qs
      promised = record {
        agree = agrees H R P Q top s r qs;
        places = places;
        grows = λ q. trail_push (player (machine H R)) qs q (idle (made H R top s r));
        starts = no_frame;
        closes = closes;
        drives = λ os. drives (player (machine H R)) (machine_after H R top s r qs) os;
        refuses = refuses (player (machine H R)) (machine_after H R top s r qs);
      }
