-- With every step, the book keeps what it holds by itself. Assumes nothing.
use Rattle.std.proofs.Common.{◌≡◌, ℕ, zero, suc, ◌+◌, ◌-◌, ◌*◌, ◌%◌, ◌<◌, Bool, true, false, cond, eqb, ltb, ◌⊎◌, List, [], ◌∷◌, ◌++◌, length, Some, None, Option, is_ok, sym, refl, ap, ◌∙◌, subst, inl, inr, arith, w64, of_z}
use mathlib.Core.Path.{fun_ext}
use Rattle.std.proofs.lemmas.List.{length-set, length_push, get_or_past}
use Rattle.std.proofs.lemmas.Bool.{and_parts, eq-eqb, ne_eqb, cases_eq, true≢false}
use Rattle.heaps.specs.Rule.{Block, HeapRule}
use Rattle.operations.specs.declared.code.Code.{Code}
use Rattle.operations.specs.declared.code.Code.TheVariants.{Div, Load, Store, Loadb, Storeb, Call, Ret, Frame, Grab, Release}
use Rattle.operations.specs.declared.step.Step.{Step}
use Rattle.heaps.specs.Points.{Points, Reached, after_take, after_give}
use Rattle.model.specs.Sheet.{State, Named, wrap, word, tag, access, got, grabbed, called, returned, released, framed, divided, sheet, act, close, leaves, depth}
use Rattle.model.specs.Parts.{bytes}
use Rattle.model.specs.Grants.{Kind, block, frame, is_block, is_frame, living_frame}
use Rattle.model.specs.History.{Book, Grant, ends, nth, outline, book, none, born, ended, enters, change, serve, youngest, room, taken, blocks, OfBook}
use Rattle.model.specs.History
use Rattle.model.specs.Sheet
use Rattle.model.specs.Trail.{target}
use Rattle.model.specs.Sights.{Wrote, adds, logs, stores}
use Rattle.model.proofs.Views.{upd, get_push}
use Rattle.model.proofs.Checked.{accessed, freed}
use Rattle.model.proofs.Access.{Passed, passed, written, nth_change}
use Rattle.model.proofs.Telling.{listed, latest_low, latest_which, Sure, sure_heap, sure_end, sure_write, sure_born}
use Rattle.model.proofs.OneKind.{frame_not_block}

-- the book's own steps
module _ (H : HeapRule) (P : Points H) where
  abbrev pub Tells : List Wrote → Book H.State → Type 0
  Tells l b = Sure H l (λ g. nth b g) (length b.grants) b.heap

  module _ (l : List Wrote) (b : Book H.State) (S : Tells l b) where
    tells_change : (g : ℕ) (y : Grant) (l' : List Wrote) (s : H.State) → g < length b.grants → Sure H l' (upd (λ h. nth b h) g y) (length b.grants) s → Tells l' (serve (change b g y) s)
    tells_change g y l' s m z =
        subst (λ k. Sure H l' (λ h. nth (change b g y) h) k s) (sym (length-set b.grants g y)) (subst (λ (f : ℕ → Grant). Sure H l' f (length b.grants) s) (sym (nth_change b g m y)) z)

    tells_write : (g x : ℕ) (vs : List ℕ) (ds : List (Option ℕ)) → Passed (outline b g) x (length vs) → Tells (adds g x vs l) (History.write b g x vs ds)
    tells_write g x vs ds p = tells_change g (written (nth b g) x vs ds) (adds g x vs l) b.heap (listed b g p.living) (sure_write H l (λ h. nth b h) _ _ S g x vs ds p)

    tells_born : (k : Kind) (x a z : ℕ) (s' : H.State) → Reached H s' → ((y h : ℕ) → H.held s' y ≡ Some h → (H.held b.heap y ≡ Some h) ⊎ ((is_block k ≡ true) × (x ≡ 1024 + y) × (z ≡ h))) → Tells l (enters (serve b s') (born k x a z))
    tells_born k x a z s' sound was =
        let e : (λ h. nth (enters (serve b s') (born k x a z)) h) ≡ upd (λ h. nth b h) (length b.grants) (born k x a z) = fun_ext (λ h. get_push b.grants (born k x a z) none h) in
        let q : suc (length b.grants) ≡ length (b.grants ++ (born k x a z ∷ [])) = sym (length_push b.grants (born k x a z) ∙ omega arith) in
        let t = sure_born H l (λ h. nth b h) (length b.grants) b.heap S k x a z s' (get_or_past b.grants (length b.grants) none (omega arith)) sound was in
        subst (λ n. Sure H l (λ h. nth (enters (serve b s') (born k x a z)) h) n s') q (subst (λ (f : ℕ → Grant). Sure H l f (suc (length b.grants)) s') (sym e) t)

    tells_leave : (k : ℕ) → Tells l ((book H).leave b k)
    tells_leave k = tells_change (youngest b) (ended (nth b (youngest b))) l b.heap (latest_low _ _ S.some)
        (sure_end H l (λ h. nth b h) _ _ S (youngest b) b.heap S.sound (λ x h e. (e, λ q _. true≢false (sym q ∙ no (latest_which (λ g. living_frame (outline b g)) (length b.grants))))))
      where
        no : (youngest b ≡ 0) ⊎ (living_frame (outline b (youngest b)) ≡ true) → is_block (outline b (youngest b)).kind ≡ false
        no (inl q) = ap (λ i. is_block (outline b i).kind) q ∙ S.first
        no (inr q) = frame_not_block (outline b (youngest b)).kind (and_parts (outline b (youngest b)).living (is_frame (outline b (youngest b)).kind) q).1

    tells_enter : (k : ℕ) → Tells l ((book H).enter b k)
    tells_enter k = tells_born frame (5120 + 48 * k) 48 48 b.heap S.sound (λ y h e. inl e)

    gives : (s : H.State) (x y h : ℕ) → Reached H s → H.held (H.give s x).after y ≡ Some h → (H.held s y ≡ Some h) × (y ≡ x → ⊥)
    gives s x y h z e = go (cases_eq y x)
      where
        was : cond (eqb y x) None (H.held s y) ≡ Some h
        was = sym (((P.keeps s z).gives x).removes y) ∙ e

        go : (y ≡ x) ⊎ (y ≡ x → ⊥) → (H.held s y ≡ Some h) × (y ≡ x → ⊥)
        go (inl q) = absurd (true≢false (let v : None ≡ Some h = rw (eq-eqb y x q) at was in cc))
        go (inr q) = ((let v : H.held s y ≡ Some h = rw (ne_eqb y x q) at was in v), q)

    tells_release : (g : ℕ) → (outline b g).living ≡ true → Tells l (ends H b g)
    tells_release g v = tells_change g (ended (nth b g)) l _ (listed b g v)
        (sure_end H l (λ h. nth b h) _ _ S g _ (after_give b.heap ((outline b g).start - 1024) S.sound)
        (λ y h e. let p = gives b.heap ((outline b g).start - 1024) y h S.sound e in (p.0, λ _ q. p.1 (omega arith))))

    tells_grab : (n : ℕ) → Tells l ((book H).grab b n).after
    tells_grab n = go (H.take b.heap n).answer refl
      where
        s' : H.State
        s' = (H.take b.heap n).after

        sound : Reached H s'
        sound = after_take b.heap n S.sound

        fits : (x : Block) → (H.take b.heap n).answer ≡ Some x → (y h : ℕ) → H.held s' y ≡ Some h → ((H.held b.heap y ≡ Some h) × (y ≡ x.start → ⊥)) ⊎ ((true ≡ true) × (1024 + x.start ≡ 1024 + y) × (x.held ≡ h))
        fits x e y h v = by (cases_eq y x.start)
          where
            was : cond (eqb y x.start) (Some x.held) (H.held b.heap y) ≡ Some h
            was = sym ((((P.keeps b.heap S.sound).takes n).grants x e).adds y) ∙ v

            by : (y ≡ x.start) ⊎ (y ≡ x.start → ⊥) → ((H.held b.heap y ≡ Some h) × (y ≡ x.start → ⊥)) ⊎ ((true ≡ true) × (1024 + x.start ≡ 1024 + y) × (x.held ≡ h))
            by (inl q) = inr (refl, omega arith, (let w : Some x.held ≡ Some h = rw (eq-eqb y x.start q) at was in cc))
            by (inr q) = inl ((let w : H.held b.heap y ≡ Some h = rw (ne_eqb y x.start q) at was in w), q)

        by_room : (x : Block) → (H.take b.heap n).answer ≡ Some x → (r : Bool) → Tells l (room H b n x s' r).after
        by_room x e true = tells_born block (1024 + x.start) n x.held s' sound (λ y h v. weaker (fits x e y h v))
          where
            weaker : {y h : ℕ} → ((H.held b.heap y ≡ Some h) × (y ≡ x.start → ⊥)) ⊎ ((true ≡ true) × (1024 + x.start ≡ 1024 + y) × (x.held ≡ h)) → (H.held b.heap y ≡ Some h) ⊎ ((true ≡ true) × (1024 + x.start ≡ 1024 + y) × (x.held ≡ h))
            weaker (inl q) = inl q.0
            weaker (inr q) = inr q
        by_room x e false = sure_heap H l (λ h. nth b h) _ _ S _ (after_give s' x.start sound) (λ y h v. let p = gives s' x.start y h sound v in old y h p.1 (fits x e y h p.0))
          where
            old : (y h : ℕ) → (y ≡ x.start → ⊥) → ((H.held b.heap y ≡ Some h) × (y ≡ x.start → ⊥)) ⊎ ((true ≡ true) × (1024 + x.start ≡ 1024 + y) × (x.held ≡ h)) → H.held b.heap y ≡ Some h
            old y h ne (inl q) = q.0
            old y h ne (inr q) = let u = q.1 in absurd (ne (omega arith))

        go : (r : Option Block) → (H.take b.heap n).answer ≡ r → Tells l (taken H b n r s').after
        go None e = sure_heap H l (λ h. nth b h) _ _ S s' sound (λ x h v. sym (((P.keeps b.heap S.sound).takes n).keeps e x) ∙ v)
        go (Some x) e = by_room x e (ltb (blocks b) 255)

  -- every operation
  module _ (l : List Wrote) (m : OfBook H) (S : Tells l m.store) where
    store_tells : (t : Option ℕ) (x v : ℕ) (u : Option ℕ) →
        Tells (logs (bytes 8 v) (is_ok (access (book H) m t x 8 (λ g. Sheet.keep m ((book H).store m.store g x v u))).way) t x l) (access (book H) m t x 8 (λ g. Sheet.keep m ((book H).store m.store g x v u))).after.store
    store_tells t x v u =
        accessed (book H) m (λ t d. Tells (logs (bytes 8 v) (is_ok d.way) t x l) d.after.store) (λ _ _. S) t x 8 _ (λ g e. tells_write l m.store S g x (bytes 8 v) (u ∷ []) (passed (outline m.store g) x 8 e))

    storeb_tells : (t : Option ℕ) (x v : ℕ) →
        Tells (logs (bytes 1 v) (is_ok (access (book H) m t x 1 (λ g. Sheet.keep m ((book H).storeb m.store g x v))).way) t x l) (access (book H) m t x 1 (λ g. Sheet.keep m ((book H).storeb m.store g x v))).after.store
    storeb_tells t x v =
        accessed (book H) m (λ t d. Tells (logs (bytes 1 v) (is_ok d.way) t x l) d.after.store) (λ _ _. S) t x 1 _ (λ g e. tells_write l m.store S g x ((v % 256) ∷ []) [] (passed (outline m.store g) x 1 e))

    -- a load changes no store
    load_tells : (t : Option ℕ) (x n : ℕ) (f : ℕ → OfBook H) → ((g : ℕ) → Tells l (f g).store) → Tells l (access (book H) m t x n f).after.store
    load_tells t x n f k = accessed (book H) m (λ _ d. Tells l d.after.store) (λ _ _. S) t x n f (λ g _. k g)

    divided_tells : (x y : ℕ) (z : Bool) (d : ℕ) → Tells l (divided m x y z d).after.store
    divided_tells x y true d = S
    divided_tells x y false d = S

    called_tells : (r k : Bool) (c n : ℕ) → Tells l (called (book H) m r k c n).after.store
    called_tells false k c n = S
    called_tells true false c n = S
    called_tells true true c n = tells_enter l m.store S (depth m)

    returned_tells : (rs : List ℕ) → Tells l (returned (book H) m rs).after.store
    returned_tells [] = S
    returned_tells (r ∷ rs) = tells_leave l m.store S (length rs)

    framed_tells : (rs : List ℕ) (d n : ℕ) → Tells l (framed (book H) m rs d n).after.store
    framed_tells [] d n = S
    framed_tells (r ∷ rs) d n = S

    grabbed_tells : (k : Bool) (d n : ℕ) → Tells l (grabbed (book H) m k d n).after.store
    grabbed_tells false d n = S
    grabbed_tells true d n = go ((book H).grab m.store n).block (tells_grab l m.store S n)
      where
        go : (x : Option (Named ℕ)) → Tells l ((book H).grab m.store n).after → Tells l (got x m d ((book H).grab m.store n).after).after.store
        go None t = t
        go (Some y) t = t

    released_tells : (t : Option ℕ) (x : ℕ) → Tells l (released (book H) m t x).after.store
    released_tells t x = freed H m (λ _ d. Tells l d.after.store) (λ _ _. S) t x (λ g e _. tells_release l m.store S g e)

    sheet_tells : (o : Code) (c d a b n : ℕ) → Tells (logs (bytes (stores o) (word m b)) (is_ok (sheet (book H) o c d a b n m).way) (tag m a) (wrap (word m a + n)) l) (sheet (book H) o c d a b n m).after.store
    sheet_tells Div c d a b n = divided_tells (word m a) (word m b) (eqb (word m b) 0) d
    sheet_tells Load c d a b n = load_tells (tag m a) (wrap (word m a + n)) 8 _ (λ g. S)
    sheet_tells Store c d a b n = store_tells (tag m a) (wrap (word m a + n)) (word m b) (tag m b)
    sheet_tells Loadb c d a b n = load_tells (tag m a) (wrap (word m a + n)) 1 _ (λ g. S)
    sheet_tells Storeb c d a b n = storeb_tells (tag m a) (wrap (word m a + n)) (word m b)
    sheet_tells Call c d a b n = called_tells (ltb (depth m) 64) ((book H).keys m.store) c n
    sheet_tells Ret c d a b n = returned_tells m.common.returns
    sheet_tells Frame c d a b n = framed_tells m.common.returns d n
    sheet_tells Grab c d a b n = grabbed_tells ((book H).keys m.store) d (word m a)
    sheet_tells Release c d a b n = released_tells (tag m a) (word m a)
    sheet_tells _ c d a b n = S

    pub act_tells : (c : ℕ) (o : Step) → Tells (logs (bytes (stores o.code) (word m o.b)) (is_ok (act (book H) c o m).way) (tag m o.a) (target m o) l) (act (book H) c o m).after.store
    act_tells c o = sheet_tells o.code c o.d o.a o.b (of_z w64 o.n)

  leaves_tell : (l : List Wrote) (k : ℕ) (b : Book H.State) → Tells l b → Tells l (leaves (book H) k b)
  leaves_tell l zero b S = S
  leaves_tell l (suc k) b S = leaves_tell l k ((book H).leave b k) (tells_leave l b S k)

  pub close_tells : (l : List Wrote) (m : OfBook H) → Tells l m.store → Tells l (close (book H) m).store
  close_tells l m S = leaves_tell l (depth m) m.store S
