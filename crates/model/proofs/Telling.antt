-- What the book holds by itself: its grants' bytes are those last stored, and the heap's blocks are its living grants. Assumes nothing.
use Rattle.std.proofs.Common.{◌≡◌, ℕ, zero, suc, ◌+◌, ◌-◌, ◌<◌, ◌≤◌, Bool, true, false, cond, ◌⊎◌, List, [], ◌∷◌, length, get_or, set, replicate, Some, Option, sym, refl, ap, ◌∙◌, inl, inr, add-suc, arith}
use Rattle.std.proofs.lemmas.List.{length-set, length-replicate, get_or-replicate, get_or_past, get_or-set_same, get_or-set_other}
use Rattle.std.proofs.lemmas.Bool.{and_parts, eq-eqb, ne_eqb, cases_eq, cases_lt, true≢false}
use Rattle.heaps.specs.Rule.{HeapRule}
use Rattle.heaps.specs.Points.{Reached}
use Rattle.model.specs.Parts.{put}
use Rattle.model.specs.Grants.{Kind, is_block, living_block, latest}
use Rattle.model.specs.History.{Book, Grant, outline, none, born, ended}
use Rattle.model.specs.Sights.{Wrote, newest, adds}
use Rattle.model.proofs.Views.{upd, upd_same, upd_other, upd_by, length_put}
use Rattle.model.proofs.Access.{Passed, written}

-- the log against one list of bytes
pub put_tells : (g s : ℕ) (vs m : List ℕ) (o : ℕ) (l : List Wrote) → o + length vs ≤ length m → ((i : ℕ) → get_or m i 0 ≡ newest l g (s + i)) → (i : ℕ) → get_or (put m o vs) i 0 ≡ newest (adds g (s + o) vs l) g (s + i)
put_tells g s [] m o l h k i = k i
put_tells g s (v ∷ vs) m o l h k i =
    let w : Wrote = record { grant = g; address = s + o; byte = v } in
    let one : (j : ℕ) → get_or (set m o v) j 0 ≡ newest (w ∷ l) g (s + j) = λ j. go j (cases_eq j o) in
    let a : suc o + length vs ≤ length (set m o v) = rw (length-set m o v) (omega arith) in
    let z = put_tells g s vs (set m o v) (suc o) (w ∷ l) a one i in
    rw (add-suc s o) at z
  where
    go : (j : ℕ) → (j ≡ o) ⊎ (j ≡ o → ⊥) → get_or (set m o v) j 0 ≡ newest (record { grant = g; address = s + o; byte = v } ∷ l) g (s + j)
    go j (inl e) = rw (e, eq-eqb g g refl, eq-eqb (s + o) (s + o) refl) (get_or-set_same m o v 0 (omega arith))
    go j (inr e) = rw (eq-eqb g g refl, ne_eqb (s + j) (s + o) (λ q. e (omega arith))) (get_or-set_other m o j v 0 e ∙ k j)

pub adds_other : (g x : ℕ) (vs : List ℕ) (l : List Wrote) (h y : ℕ) → (h ≡ g → ⊥) → newest (adds g x vs l) h y ≡ newest l h y
adds_other g x [] l h y n = refl
adds_other g x (v ∷ vs) l h y n = adds_other g (suc x) vs (record { grant = g; address = x; byte = v } ∷ l) h y n ∙ go
  where
    go : newest (record { grant = g; address = x; byte = v } ∷ l) h y ≡ newest l h y
    go = rw (ne_eqb h g n)

pub listed : {S : Type 0} (b : Book S) (g : ℕ) → (outline b g).living ≡ true → g < length b.grants
listed b g h = go (cases_lt g (length b.grants))
  where
    go : (g < length b.grants) ⊎ (length b.grants ≤ g) → g < length b.grants
    go (inl l) = l
    go (inr l) = absurd (true≢false (sym h ∙ ap (λ (x : Grant). x.outline.living) (get_or_past b.grants g none l)))

pub latest_low : (f : ℕ → Bool) (n : ℕ) → 0 < n → latest f n < n
latest_low f zero h = h
latest_low f (suc n) h = go (f n) (cases_eq n 0) (λ l. latest_low f n l)
  where
    go : (b : Bool) → (n ≡ 0) ⊎ (n ≡ 0 → ⊥) → (0 < n → latest f n < n) → cond b n (latest f n) < suc n
    go true c r = omega arith
    go false (inl e) r = rw e (omega arith)
    go false (inr e) r = let q = r (omega arith) in omega arith

pub latest_which : (f : ℕ → Bool) (n : ℕ) → (latest f n ≡ 0) ⊎ (f (latest f n) ≡ true)
latest_which f zero = inl refl
latest_which f (suc n) = go (f n) refl (latest_which f n)
  where
    go : (b : Bool) → f n ≡ b → (latest f n ≡ 0) ⊎ (f (latest f n) ≡ true) → (cond b n (latest f n) ≡ 0) ⊎ (f (cond b n (latest f n)) ≡ true)
    go true e r = inr e
    go false e r = r

module _ (H : HeapRule) where
  -- the living grant that is the heap's block at x of h bytes
  abbrev pub Owner : (ℕ → Grant) → ℕ → ℕ → Type 0
  Owner G x h = (g : ℕ) × (living_block (G g).outline ≡ true) × ((G g).outline.start ≡ 1024 + x) × ((G g).outline.held ≡ h)

  pub record Sure (l : List Wrote) (G : ℕ → Grant) (n : ℕ) (s : H.State) : Type 0 where
    pub some : 0 < n
    pub first : is_block (G 0).outline.kind ≡ false
    pub sized : (g : ℕ) → length (G g).bytes ≡ (G g).outline.asked
    pub tells : (g i : ℕ) → get_or (G g).bytes i 0 ≡ newest l g ((G g).outline.start + i)
    pub sound : Reached H s
    pub owned : (x h : ℕ) → H.held s x ≡ Some h → Owner G x h

  -- one grant changes, and the field F of it does not
  same_field : {X : Type 0} (F : Grant → X) (G : ℕ → Grant) (g : ℕ) (y : Grant) → F y ≡ F (G g) → (h : ℕ) → F (upd G g y h) ≡ F (G h)
  same_field F G g y e h = upd_by (λ z. F z ≡ F (G h)) G g y h (λ q. e ∙ ap (λ i. F (G i)) (sym q)) (λ _. refl)

  module _ (l : List Wrote) (G : ℕ → Grant) (n : ℕ) (s : H.State) (S : Sure l G n s) where
    pub sure_heap : (s' : H.State) → Reached H s' → ((x h : ℕ) → H.held s' x ≡ Some h → H.held s x ≡ Some h) → Sure l G n s'
    sure_heap s' z k = record { some = S.some; first = S.first; sized = S.sized; tells = S.tells; sound = z; owned = λ x h e. S.owned x h (k x h e) }

    pub sure_end : (g : ℕ) (s' : H.State) → Reached H s' → ((x h : ℕ) → H.held s' x ≡ Some h → (H.held s x ≡ Some h) × (is_block (G g).outline.kind ≡ true → (G g).outline.start ≡ 1024 + x → ⊥)) → Sure l (upd G g (ended (G g))) n s'
    sure_end g s' z k = record {
      some = S.some;
      first = same_field (λ y. is_block y.outline.kind) G g y refl 0 ∙ S.first;
      sized = λ h. same_field (λ y. length y.bytes) G g y refl h ∙ (S.sized h ∙ sym (same_field (λ y. y.outline.asked) G g y refl h));
      tells = λ h i. same_field (λ y. get_or y.bytes i 0) G g y refl h ∙ (S.tells h i ∙ sym (same_field (λ y. newest l h (y.outline.start + i)) G g y refl h));
      sound = z;
      owned = owned;
    }
      where
        y : Grant
        y = ended (G g)

        owned : (x h : ℕ) → H.held s' x ≡ Some h → Owner (upd G g y) x h
        owned x h e =
            let p = k x h e in
            let o = S.owned x h p.0 in
            let ne : o.0 ≡ g → ⊥ = λ q. p.1 (ap (λ i. is_block (G i).outline.kind) (sym q) ∙ (and_parts (G o.0).outline.living (is_block (G o.0).outline.kind) o.1).1) (ap (λ i. (G i).outline.start) (sym q) ∙ o.2) in
            let same : upd G g y o.0 ≡ G o.0 = upd_other G g y o.0 ne in
            (o.0, ap (λ (u : Grant). living_block u.outline) same ∙ o.1, ap (λ (u : Grant). u.outline.start) same ∙ o.2, ap (λ (u : Grant). u.outline.held) same ∙ o.3)

    pub sure_write : (g x : ℕ) (vs : List ℕ) (ds : List (Option ℕ)) → Passed (G g).outline x (length vs) → Sure (adds g x vs l) (upd G g (written (G g) x vs ds)) n s
    sure_write g x vs ds p = record {
      some = S.some;
      first = same_field (λ y. is_block y.outline.kind) G g (written (G g) x vs ds) refl 0 ∙ S.first;
      sized = λ h. upd_by (λ y. length y.bytes ≡ y.outline.asked) G g (written (G g) x vs ds) h (λ _. length_put (G g).bytes (x - (G g).outline.start) vs ∙ S.sized g) (λ _. S.sized h);
      tells = λ h i. upd_by (λ y. get_or y.bytes i 0 ≡ newest (adds g x vs l) h (y.outline.start + i)) G g (written (G g) x vs ds) h (λ q. rw q (there i)) (λ q. rw (adds_other g x vs l h ((G h).outline.start + i) q) (S.tells h i));
      sound = S.sound;
      owned = λ y h e. let o = S.owned y h e in (
        o.0,
        same_field (λ u. living_block u.outline) G g (written (G g) x vs ds) refl o.0 ∙ o.1,
        same_field (λ u. u.outline.start) G g (written (G g) x vs ds) refl o.0 ∙ o.2,
        same_field (λ u. u.outline.held) G g (written (G g) x vs ds) refl o.0 ∙ o.3,
      );
    }
      where
        there : (i : ℕ) → get_or (put (G g).bytes (x - (G g).outline.start) vs) i 0 ≡ newest (adds g x vs l) g ((G g).outline.start + i)
        there i =
            let low = p.low in
            let high = p.high in
            let z = S.sized g in
            let e : (G g).outline.start + (x - (G g).outline.start) ≡ x = omega arith in
            let t = put_tells g (G g).outline.start vs (G g).bytes (x - (G g).outline.start) l (omega arith) (λ j. S.tells g j) i in
            rw e at t

    pub sure_born : (k : Kind) (x a z : ℕ) (s' : H.State) → G n ≡ none → Reached H s' → ((y h : ℕ) → H.held s' y ≡ Some h → (H.held s y ≡ Some h) ⊎ ((is_block k ≡ true) × (x ≡ 1024 + y) × (z ≡ h))) →
        Sure l (upd G n (born k x a z)) (suc n) s'
    sure_born k x a z s' e sound was = record {
      some = omega arith;
      first = let q = S.some in ap (λ (u : Grant). is_block u.outline.kind) (upd_other G n (born k x a z) 0 (λ v. omega arith)) ∙ S.first;
      sized = λ h. upd_by (λ y. length y.bytes ≡ y.outline.asked) G n (born k x a z) h (λ _. length-replicate a 0) (λ _. S.sized h);
      tells = λ h i. upd_by (λ y. get_or y.bytes i 0 ≡ newest l h (y.outline.start + i)) G n (born k x a z) h (λ q. rw q (fresh i)) (λ _. S.tells h i);
      sound = sound;
      owned = λ y h v. owned y h (was y h v);
    }
      where
        zeros : (i : ℕ) → (i < a) ⊎ (a ≤ i) → get_or {A = ℕ} (replicate a 0) i 0 ≡ 0
        zeros i (inl q) = get_or-replicate a i 0 0 q
        zeros i (inr q) = get_or_past (replicate a 0) i 0 (rw (length-replicate {A = ℕ} a 0) q)

        fresh : (i : ℕ) → get_or (replicate a 0) i 0 ≡ newest l n (x + i)
        fresh i =
            let t = S.tells n (x + i) in
            let z0 : 0 + (x + i) ≡ x + i = omega arith in
            let t₁ : 0 ≡ newest l n (0 + (x + i)) = rw e at t in
            let t' : 0 ≡ newest l n (x + i) = rw z0 at t₁ in
            zeros i (cases_lt i a) ∙ t'

        owned : (y h : ℕ) → (H.held s y ≡ Some h) ⊎ ((is_block k ≡ true) × (x ≡ 1024 + y) × (z ≡ h)) → Owner (upd G n (born k x a z)) y h
        owned y h (inr v) =
            let same = upd_same G n (born k x a z) n refl in
            (n, ap (λ (u : Grant). living_block u.outline) same ∙ v.0, ap (λ (u : Grant). u.outline.start) same ∙ v.1, ap (λ (u : Grant). u.outline.held) same ∙ v.2)
        owned y h (inl v) =
            let o = S.owned y h v in
            let ne : o.0 ≡ n → ⊥ = λ q. true≢false (sym o.1 ∙ (ap (λ i. living_block (G i).outline) q ∙ ap (λ (u : Grant). living_block u.outline) e)) in
            let same : upd G n (born k x a z) o.0 ≡ G o.0 = upd_other G n (born k x a z) o.0 ne in
            (o.0, ap (λ (u : Grant). living_block u.outline) same ∙ o.1, ap (λ (u : Grant). u.outline.start) same ∙ o.2, ap (λ (u : Grant). u.outline.held) same ∙ o.3)
