-- Grab and call: both sides grant alike. Assumes nothing.
use Rattle.std.proofs.Common.{◌≡◌, ℕ, suc, ◌+◌, ◌-◌, ◌*◌, ◌/◌, ◌<◌, ◌≤◌, true, false, ltb, ◌⊎◌, [], ◌∷◌, ◌++◌, length, set, replicate, Some, None, Option, sym, refl, ap, ◌∙◌, subst, inl, inr, arith}
use mathlib.Core.Path.{fun_ext}
use Rattle.std.proofs.lemmas.List.{length_push}
use Rattle.std.proofs.lemmas.Bool.{and_from, cases_eq, true≢false, cases_Bool, lt-ltb, le-ltb}
use Rattle.heaps.specs.Rule.{Block, HeapRule}
use Rattle.heaps.specs.Points.{Apart, Points, Grants, Reached, after_take, after_give}
use Rattle.racks.specs.Rule.{RackRule}
use Rattle.racks.specs.Points.{RackPoints, Leaves, Reached as RackReached, after_draw}
use Rattle.model.specs.Sheet.{Grabbed}
use Rattle.model.specs.Parts.{put}
use Rattle.model.specs.declared.sidecar.Sidecar.{Sidecar}
use Rattle.model.specs.Machine.{Core, side, machine, covers, grant, drawn}
use Rattle.model.specs.Machine
use Rattle.model.specs.Grants.{Outline, Kind, globals, block, frame, is_block, is_frame, living_block, count}
use Rattle.model.specs.History.{Book, Grant, nth, outline, book, none, born, enters, blocks, room}
use Rattle.model.specs.History
use Rattle.model.proofs.Sheeting.{Grabs, Enters}
use Rattle.model.proofs.Views.{upd, upd_same, upd_other, upd_map, get_push}
use Rattle.model.proofs.Counts.{count_ext, count_upd, count_most, count_full}
use Rattle.model.proofs.Relation.{World, Alike, Zone, Fits, Stored, Live, Ties, Rel}
use Rattle.model.proofs.Birth.{more, more_new, more_grows, stored_born, ties_enter, ties_grab}

module _ {S : Type 0} (b : Book S) (x : Grant) where
  pub nth_push : (λ h. nth (enters b x) h) ≡ upd (λ h. nth b h) (length b.grants) x
  nth_push = fun_ext (λ h. get_push b.grants x none h)

  pub outline_push : (λ h. outline (enters b x) h) ≡ upd (λ h. outline b h) (length b.grants) x.outline
  outline_push = fun_ext (λ h. ap (λ (y : Grant). y.outline) (get_push b.grants x none h) ∙ upd_map (λ (y : Grant). y.outline) (λ i. nth b i) (length b.grants) x h)

module _ (H : HeapRule) (R : RackRule) (P : Points H) (Q : RackPoints R) (w : World) (k : ℕ) (c : Core H.State R.State) (b : Book H.State) (r : Rel H R w k c b) where
  abbrev O : ℕ → Outline
  O g = outline b g

  -- a heap and a rack of the same meaning
  ties_serve : (s' : H.State) (r' : R.State) → ((x : ℕ) → H.held s' x ≡ H.held c.heap x) → ((p : ℕ) → R.out r' p ≡ R.out c.rack p) → Reached H s' → RackReached R r' → Ties H R w k O c.locks s' r'
  ties_serve s' r' e f hs rs =
      let T = r.ties in
      record {
        places = T.places;
        first = T.first;
        fits = T.fits;
        locked = T.locked;
        apart = T.apart;
        blocks = λ g l t. let z = T.blocks g l t in (e _ ∙ z.0, f _ ∙ z.1);
        counted = count_ext (R.out r') (R.out c.rack) 256 (λ i _. f i) ∙ T.counted;
        deep = T.deep;
        frames = T.frames;
        ranks = T.ranks;
        opens = T.opens;
        heap_sound = hs;
        rack_sound = rs;
      }

  rel_serve : (s' : H.State) (r' : R.State) → ((x : ℕ) → H.held s' x ≡ H.held c.heap x) → ((p : ℕ) → R.out r' p ≡ R.out c.rack p) → Reached H s' → RackReached R r' →
      Rel H R w k (Machine.serve c s' r') (History.serve b s')
  rel_serve s' r' e f hs rs = record { many = r.many; issued = r.issued; ceiling = r.ceiling; heap = refl; ties = ties_serve s' r' e f hs rs; stored = r.stored }

  -- a birth in both
  module _ (s₁ s₂ : H.State) (r' : R.State) (heaps : s₁ ≡ s₂) (k' : ℕ) (p : ℕ) (kd : Kind) (start asked held : ℕ) where
    abbrev tag : Sidecar
    tag = side start asked (c.issued + 1) p

    abbrev y : Grant
    y = born kd start asked held

    rel_born : Fits w.many tag y.outline → ((g : ℕ) → Live w O g → Apart (O g).start (O g).held start held) →
        Ties H R (more w tag) k' (upd O w.many y.outline) (set c.locks p (w.many + 1)) s₁ r' →
        Rel H R (more w tag) k' (grant (Machine.serve c s₁ r') p start asked) (enters (History.serve b s₂) y)
    rel_born fit far T =
        let lp : length (b.grants ++ (y ∷ [])) ≡ length b.grants + 1 = length_push b.grants y in
        let m = r.many in
        let i = r.issued in
        let im : c.issued ≡ w.many = omega arith in
        record {
          many = omega arith;
          issued = omega arith;
          ceiling = r.ceiling;
          heap = heaps;
          ties = rw im (subst (λ (o : ℕ → Outline). Ties H R (more w (side start asked (w.many + 1) p)) k' o (set c.locks p (w.many + 1)) s₁ r')
              (ap (λ n. upd O n y.outline) m ∙ sym (outline_push b y)) (rw im at T));
          stored = subst (λ (o : ℕ → Grant). Stored (more w tag) o (put c.memory start (replicate (8 * covers asked) 0)) (put c.shadow (start / 8) (replicate (covers asked) None)))
              (ap (λ n. upd (λ h. nth b h) n y) m ∙ sym (nth_push b y))
              (stored_born w (λ h. nth b h) c.memory c.shadow r.stored tag kd start asked held fit.even fit.whole fit.roomy fit.inside r.ties.fits far);
        }

    tag_born : Alike (more w tag) tag (length b.grants)
    tag_born = let m = r.many in (omega arith, rw (← m) (sym (more_new w tag)))

  pub enter_like : k < 64 → Enters (machine H R) (book H) World Alike (Rel H R) w (suc k) ((machine H R).enter c k) ((book H).enter b k)
  enter_like deep = record {
    now = more w x;
    grows = more_grows w x;
    after = rel_born c.heap b.heap c.rack r.heap (suc k) (256 + k) frame start 48 48 fit far
        (ties_enter H R w k O c.locks c.heap c.rack r.ties x (born frame start 48 48).outline fit refl free far refl refl deep);
  }
    where
      start : ℕ
      start = 5120 + 48 * k

      x : Sidecar
      x = side start 48 (c.issued + 1) (256 + k)

      fit : Fits w.many x (born frame start 48 48).outline
      fit = let m = r.many in let i = r.issued in
          record { key = omega arith; base = refl; bound = refl; even = omega arith; whole = refl; roomy = omega arith; inside = omega arith; zone = (omega arith, omega arith, omega arith, refl, refl) }

      free : (g : ℕ) → Live w O g → (w.of g).place ≡ 256 + k → ⊥
      free g l e = go (O g).kind refl (r.ties.fits g l.0).zone
        where
          go : (kd : Kind) → (O g).kind ≡ kd → Zone kd (w.of g).place (O g).start (O g).asked (O g).held → ⊥
          go globals q z = omega arith
          go block q z = omega arith
          go frame q z = let v = r.ties.frames g l.0 (and_from _ _ l.1 (ap is_frame q)) in omega arith

      far : (g : ℕ) → Live w O g → Apart (O g).start (O g).held start 48
      far g l = go (O g).kind refl (r.ties.fits g l.0).zone
        where
          go : (kd : Kind) → (O g).kind ≡ kd → Zone kd (w.of g).place (O g).start (O g).asked (O g).held → Apart (O g).start (O g).held start 48
          go globals q z = inl (omega arith)
          go block q z = inl (omega arith)
          go frame q z = let v = r.ties.frames g l.0 (and_from _ _ l.1 (ap is_frame q)) in inl (omega arith)

  module _ (n : ℕ) where
    abbrev s' : H.State
    s' = (H.take c.heap n).after

    abbrev r' : R.State
    r' = (R.draw c.rack).after

    abbrev Result : Grabbed Sidecar (Core H.State R.State) → Grabbed ℕ (Book H.State) → Type 0
    Result = Grabs (machine H R) (book H) World Alike (Rel H R) w k

    no_zero : R.out c.rack 0 ≡ false
    no_zero = go (cases_Bool (R.out c.rack 0))
      where
        go : (R.out c.rack 0 ≡ true) ⊎ (R.out c.rack 0 ≡ false) → R.out c.rack 0 ≡ false
        go (inr e) = e
        go (inl e) = let z = (Q.keeps c.rack r.ties.rack_sound).within 0 e in absurd (omega arith)

    living_blocks_lem : blocks b ≡ count (R.out c.rack) 256
    living_blocks_lem = ap (λ m. count (λ g. living_block (O g)) m) (sym r.many) ∙ sym r.ties.counted

    drawn_like : (x : Block) → (H.take c.heap n).answer ≡ Some x → (o : Option ℕ) → (R.draw c.rack).answer ≡ o → Result (drawn H R c n x s' o r') (room H b n x s' (ltb (blocks b) 255))
    drawn_like x ta None da = rw full record {
      now = w;
      grows = λ t u a. a;
      block = tt;
      after = rel_serve (H.give s' x.start).after r' same ((Q.keeps c.rack r.ties.rack_sound).draws.keeps da)
          (after_give s' x.start (after_take c.heap n r.ties.heap_sound)) (after_draw c.rack r.ties.rack_sound);
    }
      where
        full : ltb (blocks b) 255 ≡ false
        full = let z = count_full (R.out c.rack) 255 no_zero (λ q lo hi. (Q.keeps c.rack r.ties.rack_sound).draws.refused da q (record { low = lo; high = hi })) in le-ltb (blocks b) 255 (omega (arith, living_blocks_lem, z))

        gr : Grants (H.held c.heap) n x (H.held s')
        gr = ((P.keeps c.heap r.ties.heap_sound).takes n).grants x ta

        same : (v : ℕ) → H.held (H.give s' x.start).after v ≡ H.held c.heap v
        same v = ((P.keeps s' (after_take c.heap n r.ties.heap_sound)).gives x.start).removes v ∙ go (cases_eq v x.start)
          where
            go : (v ≡ x.start) ⊎ (v ≡ x.start → ⊥) → upd (H.held s') x.start None v ≡ H.held c.heap v
            go (inl e) = upd_same (H.held s') x.start None v e ∙ (sym gr.new ∙ ap (H.held c.heap) (sym e))
            go (inr e) = upd_other (H.held s') x.start None v e ∙ (gr.adds v ∙ upd_other (H.held c.heap) x.start (Some x.held) v e)
    drawn_like x ta (Some p) da = rw room_left record {
      now = more w t;
      grows = more_grows w t;
      block = (refl, tag_born s' s' r' refl k p block start n x.held);
      after = rel_born s' s' r' refl k p block start n x.held fit far
          (ties_grab H R w k O c.locks c.heap c.rack r.ties t (born block start n x.held).outline fit refl free far P Q n x refl refl refl ta da);
    }
      where
        start : ℕ
        start = 1024 + x.start

        t : Sidecar
        t = side start n (c.issued + 1) p

        gr : Grants (H.held c.heap) n x (H.held s')
        gr = ((P.keeps c.heap r.ties.heap_sound).takes n).grants x ta

        dr : Leaves (R.out c.rack) p (R.out r')
        dr = (Q.keeps c.rack r.ties.rack_sound).draws.leaves p da

        sound : Reached H s'
        sound = after_take c.heap n r.ties.heap_sound

        has : H.held s' x.start ≡ Some x.held
        has = gr.adds x.start ∙ upd_same (H.held c.heap) x.start (Some x.held) x.start refl

        room_left : ltb (blocks b) 255 ≡ true
        room_left =
            let z = count_most (upd (R.out c.rack) p true) 255 (upd_other (R.out c.rack) p true 0 (λ e. low e) ∙ no_zero) in
            let u = count_upd (R.out c.rack) 256 p true (omega (arith, dr.place.high)) in
            let v : count (upd (R.out c.rack) p true) 256 + 0 ≡ count (R.out c.rack) 256 + 1 = rw dr.new at u in
            lt-ltb (blocks b) 255 (omega (arith, living_blocks_lem))
          where
            low : 0 ≡ p → ⊥
            low e = omega (arith, dr.place.low)

        fit : Fits w.many t (born block start n x.held).outline
        fit =
            let m = r.many in let i = r.issued in
            let f = (P.keeps s' sound).laid.fit x.start x.held has in
            let lo = dr.place.low in
            record { key = omega arith; base = refl; bound = refl; even = omega arith; whole = f.even_held; roomy = gr.enough; inside = omega arith; zone = (dr.place.low, dr.place.high, omega arith, omega arith) }

        free : (g : ℕ) → Live w O g → (w.of g).place ≡ p → ⊥
        free g l e = go (O g).kind refl (r.ties.fits g l.0).zone
          where
            go : (kd : Kind) → (O g).kind ≡ kd → Zone kd (w.of g).place (O g).start (O g).asked (O g).held → ⊥
            go globals q z = omega (arith, dr.place.low)
            go block q z = true≢false (sym (r.ties.blocks g l.0 (and_from _ _ l.1 (ap is_block q))).1 ∙ (ap (R.out c.rack) e ∙ dr.new))
            go frame q z = omega (arith, dr.place.high)

        far : (g : ℕ) → Live w O g → Apart (O g).start (O g).held start x.held
        far g l = go (O g).kind refl (r.ties.fits g l.0).zone
          where
            shift : (a h u v : ℕ) → 1024 ≤ a → Apart (a - 1024) h u v → Apart a h (1024 + u) v
            shift a h u v p (inl q) = inl (omega arith)
            shift a h u v p (inr q) = inr (omega arith)

            go : (kd : Kind) → (O g).kind ≡ kd → Zone kd (w.of g).place (O g).start (O g).asked (O g).held → Apart (O g).start (O g).held start x.held
            go globals q z = inl (omega arith)
            go frame q z = inr (omega (arith, ((P.keeps s' sound).laid.fit x.start x.held has).inside))
            go block q z =
                let old = (r.ties.blocks g l.0 (and_from _ _ l.1 (ap is_block q))).0 in
                let ne : (O g).start - 1024 ≡ x.start → ⊥ = λ e. let v = sym old ∙ (ap (H.held c.heap) e ∙ gr.new) in cc in
                let now = gr.adds ((O g).start - 1024) ∙ (upd_other (H.held c.heap) x.start (Some x.held) ((O g).start - 1024) ne ∙ old) in
                shift _ _ _ _ z.2 ((P.keeps s' sound).laid.apart ((O g).start - 1024) (O g).held x.start x.held now has ne)

    taken_like : (a : Option Block) → (H.take c.heap n).answer ≡ a → Result (Machine.taken H R c n a s') (History.taken H b n a s')
    taken_like None e = record {
      now = w;
      grows = λ t u a. a;
      block = tt;
      after = rel_serve s' c.rack (((P.keeps c.heap r.ties.heap_sound).takes n).keeps e) (λ _. refl) (after_take c.heap n r.ties.heap_sound) r.ties.rack_sound;
    }
    taken_like (Some x) e = drawn_like x e (R.draw c.rack).answer refl

    pub grab_like : Result ((machine H R).grab c n) ((book H).grab b n)
    grab_like = subst (λ (st : H.State). Result ((machine H R).grab c n) (History.taken H b n (H.take st n).answer (H.take st n).after)) r.heap (taken_like (H.take c.heap n).answer refl)
