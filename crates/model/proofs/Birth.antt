-- What a new grant does to the ties between machine and book. Assumes nothing.
use Rattle.std.proofs.Common.{◌≡◌, ℕ, suc, ◌+◌, ◌-◌, ◌*◌, ◌/◌, ◌%◌, ◌<◌, ◌≤◌, Bool, true, false, ◌&&◌, eqb, ◌⊎◌, List, length, get_or, set, replicate, Some, None, Option, sym, refl, ap, ◌∙◌, inl, inr, arith}
use Rattle.std.proofs.lemmas.List.{length-set, length-replicate}
use Rattle.std.proofs.lemmas.Bool.{and_parts, eq-eqb, ne_eqb, cases_eq, true≢false, cases_Bool}
use Rattle.heaps.specs.Rule.{Block, HeapRule}
use Rattle.heaps.specs.Points.{Apart, Points, Grants, after_take}
use Rattle.racks.specs.Rule.{RackRule}
use Rattle.racks.specs.Points.{RackPoints, Leaves, after_draw}
use Rattle.model.specs.Parts.{put}
use Rattle.model.specs.declared.sidecar.Sidecar.{Sidecar}
use Rattle.model.specs.Machine.{side, covers}
use Rattle.model.specs.Grants.{Outline, Kind, block, frame, is_block, is_frame, living_block, living_frame, count, bit}
use Rattle.model.specs.History.{Grant, born}
use Rattle.model.proofs.Sheeting.{Both, both_map}
use Rattle.model.proofs.Views.{upd, upd_same, upd_other, upd_by, get_set, length_put, window_out, window_new}
use Rattle.model.proofs.Counts.{count_suc, count_ext, count_upd}
use Rattle.model.proofs.Relation.{World, Alike, Fits, Kept, Stored, Live, Ties}
use Rattle.model.proofs.Ending.{zone_place}

-- the ghost with one more grant
abbrev pub more : World → Sidecar → World
more w x = record { many = suc w.many; of = upd w.of w.many x }

pub more_old : (w : World) (x : Sidecar) (g : ℕ) → g < w.many → (more w x).of g ≡ w.of g
more_old w x g l = upd_other w.of w.many x g (omega arith)

pub more_new : (w : World) (x : Sidecar) → (more w x).of w.many ≡ x
more_new w x = upd_same w.of w.many x w.many refl

pub more_grows : (w : World) (x : Sidecar) (s : Sidecar) (g : ℕ) → Alike w s g → Alike (more w x) s g
more_grows w x s g a = let l = a.0 in (omega arith, a.1 ∙ sym (more_old w x g l))

-- memory and shadow after the birth
module _ (w : World) (G : ℕ → Grant) (memory : List ℕ) (shadow : List (Option Sidecar)) (st : Stored w G memory shadow) (x : Sidecar) (kd : Kind) (start asked held : ℕ)
    (even : start % 8 ≡ 0) (whole : held % 8 ≡ 0) (roomy : asked ≤ held) (inside : start + held ≤ 8192)
    (fits : (g : ℕ) → g < w.many → Fits g (w.of g) (G g).outline)
    (far : (g : ℕ) → Live w (λ i. (G i).outline) g → Apart (G g).outline.start (G g).outline.held start held) where
  abbrev zeros : List ℕ
  zeros = replicate (8 * covers asked) 0

  abbrev nones : List (Option Sidecar)
  nones = replicate (covers asked) None

  new_kept : Kept (more w x) (born kd start asked held) (put memory start zeros) (put shadow (start / 8) nones)
  new_kept = record {
    size = length-replicate asked 0;
    marks = length-replicate (asked / 8) None;
    bytes = window_new ◌≡◌ 0 0 memory start (8 * covers asked) asked 0 0 refl (omega arith) (omega (arith, st.room));
    tags = window_new (Both (Alike (more w x))) None None shadow (start / 8) (covers asked) (asked / 8) None None tt (omega arith) (omega (arith, st.words));
  }

  old_kept : (h : ℕ) → Live w (λ i. (G i).outline) h → Kept (more w x) (G h) (put memory start zeros) (put shadow (start / 8) nones)
  old_kept h live =
      let f = fits h live.0 in
      let z = st.kept h live.0 live.1 in
      let ap = far h live in
      let n₀ : length zeros ≡ 8 * covers asked = length-replicate (8 * covers asked) 0 in
      let n₁ : length nones ≡ covers asked = length-replicate (covers asked) None in
      let off : (start + length zeros ≤ (G h).outline.start) ⊎ ((G h).outline.start + (G h).outline.asked ≤ start) =
      rw n₀ (beside (G h).outline.start (G h).outline.held (G h).outline.asked start held asked ap whole f.roomy roomy) in
      let off' : (start / 8 + length nones ≤ (G h).outline.start / 8) ⊎ ((G h).outline.start / 8 + (G h).outline.asked / 8 ≤ start / 8) =
      rw n₁ (beside' (G h).outline.start (G h).outline.held (G h).outline.asked start held asked ap whole f.roomy roomy even f.even) in
      record {
        size = z.size;
        marks = z.marks;
        bytes = window_out ◌≡◌ 0 0 zeros memory (G h).bytes start (G h).outline.start (G h).outline.asked off z.bytes;
        tags = window_out (Both (Alike (more w x))) None None nones shadow (G h).descents (start / 8) ((G h).outline.start / 8) ((G h).outline.asked / 8) off'
            (λ i q. both_map (Alike w) (Alike (more w x)) (more_grows w x) (get_or shadow ((G h).outline.start / 8 + i) None) (get_or (G h).descents i None) (z.tags i q));
      }
    where
      beside : (a b c d e n : ℕ) → Apart a b d e → e % 8 ≡ 0 → c ≤ b → n ≤ e → (d + 8 * covers n ≤ a) ⊎ (a + c ≤ d)
      beside a b c d e n (inl p) q r s = inr (omega arith)
      beside a b c d e n (inr p) q r s = inl (omega arith)

      beside' : (a b c d e n : ℕ) → Apart a b d e → e % 8 ≡ 0 → c ≤ b → n ≤ e → d % 8 ≡ 0 → a % 8 ≡ 0 → (d / 8 + covers n ≤ a / 8) ⊎ (a / 8 + c / 8 ≤ d / 8)
      beside' a b c d e n (inl p) q r s t u = inr (omega arith)
      beside' a b c d e n (inr p) q r s t u = inl (omega arith)

  pub stored_born : Stored (more w x) (upd G w.many (born kd start asked held)) (put memory start zeros) (put shadow (start / 8) nones)
  stored_born = record {
    room = length_put memory start zeros ∙ st.room;
    words = length_put shadow (start / 8) nones ∙ st.words;
    kept = λ h m. upd_by (λ y. y.outline.living ≡ true → Kept (more w x) y (put memory start zeros) (put shadow (start / 8) nones)) G w.many (born kd start asked held) h
        (λ _ _. new_kept) (λ e live. old_kept h (omega arith, live));
  }

-- the ties that every birth keeps
module _ (H : HeapRule) (R : RackRule) (w : World) (k : ℕ) (O : ℕ → Outline) (locks : List ℕ) (s : H.State) (r : R.State) (T : Ties H R w k O locks s r)
    (x : Sidecar) (o : Outline) (fit : Fits w.many x o) (living : o.living ≡ true)
    (free : (g : ℕ) → Live w O g → (w.of g).place ≡ x.place → ⊥)
    (far : (g : ℕ) → Live w O g → Apart (O g).start (O g).held o.start o.held) where
  abbrev pub O' : ℕ → Outline
  O' = upd O w.many o

  pub newest : (h : ℕ) → h ≡ w.many → O' h ≡ o
  newest h e = upd_same O w.many o h e

  pub older : (h : ℕ) → (h ≡ w.many → ⊥) → O' h ≡ O h
  older h e = upd_other O w.many o h e

  pub first_born : (0 < suc w.many) × ((more w x).of 0 ≡ side 0 1024 1 0)
  first_born = let f = T.first in (omega arith, more_old w x 0 f.0 ∙ f.1)

  pub fits_born : (h : ℕ) → h < suc w.many → Fits h ((more w x).of h) (O' h)
  fits_born h m = go (cases_eq h w.many)
    where
      go : (h ≡ w.many) ⊎ (h ≡ w.many → ⊥) → Fits h ((more w x).of h) (O' h)
      go (inl e) = rw (e, more_new w x, newest w.many refl) fit
      go (inr e) = rw (more_old w x h (omega arith), older h e) (T.fits h (omega arith))

  pub locked_born : (h : ℕ) → h < suc w.many → eqb (get_or (set locks x.place (w.many + 1)) ((more w x).of h).place 0) (h + 1) ≡ (O' h).living
  locked_born h m = go (cases_eq h w.many) (cases_eq (w.of h).place x.place) (cases_Bool (O h).living)
    where
      low : x.place < length locks
      low = let z = zone_place _ _ _ _ _ fit.zone in omega (arith, T.places)

      lock : (p : ℕ) → get_or (set locks x.place (w.many + 1)) p 0 ≡ upd (λ q. get_or locks q 0) x.place (w.many + 1) p
      lock p = get_set locks x.place (w.many + 1) 0 p low

      go : (h ≡ w.many) ⊎ (h ≡ w.many → ⊥) → ((w.of h).place ≡ x.place) ⊎ ((w.of h).place ≡ x.place → ⊥) → ((O h).living ≡ true) ⊎ ((O h).living ≡ false) →
          eqb (get_or (set locks x.place (w.many + 1)) ((more w x).of h).place 0) (h + 1) ≡ (O' h).living
      go (inl e) q v =
          rw (e, more_new w x, newest w.many refl, living, lock x.place, upd_same (λ q. get_or locks q 0) x.place (w.many + 1) x.place refl) (eq-eqb _ _ refl)
      go (inr e) (inr q) v = rw (more_old w x h (omega arith), older h e, lock (w.of h).place, upd_other (λ q. get_or locks q 0) x.place (w.many + 1) (w.of h).place q) (T.locked h (omega arith))
      go (inr e) (inl q) (inl v) = absurd (free h (omega arith, v) q)
      go (inr e) (inl q) (inr v) =
          rw (more_old w x h (omega arith), older h e, lock (w.of h).place, upd_same (λ q. get_or locks q 0) x.place (w.many + 1) (w.of h).place q, v) (ne_eqb (w.many + 1) (h + 1) (omega arith))

  pub old_live : (h : ℕ) → Live (more w x) O' h → (h ≡ w.many → ⊥) → Live w O h
  old_live h l e = let m = l.0 in (omega arith, ap (λ (z : Outline). z.living) (sym (older h e)) ∙ l.1)

  pub turned : (a b c d : ℕ) → Apart a b c d → Apart c d a b
  turned a b c d (inl p) = inr p
  turned a b c d (inr p) = inl p

  pub apart_born : (i j : ℕ) → Live (more w x) O' i → Live (more w x) O' j → (i ≡ j → ⊥) → Apart (O' i).start (O' i).held (O' j).start (O' j).held
  apart_born i j a b ne = go (cases_eq i w.many) (cases_eq j w.many)
    where
      go : (i ≡ w.many) ⊎ (i ≡ w.many → ⊥) → (j ≡ w.many) ⊎ (j ≡ w.many → ⊥) → Apart (O' i).start (O' i).held (O' j).start (O' j).held
      go (inl p) (inl q) = absurd (ne (p ∙ sym q))
      go (inl p) (inr q) = rw (newest i p, older j q) (turned _ _ _ _ (far j (old_live j b q)))
      go (inr p) (inl q) = rw (older i p, newest j q) (far i (old_live i a p))
      go (inr p) (inr q) = rw (older i p, older j q) (T.apart i j (old_live i a p) (old_live j b q) ne)

  -- a test that asks for a living grant
  module _ (f : Kind → Bool) where
    abbrev test : Outline → Bool
    test z = z.living && f z.kind

    pub test_old : f o.kind ≡ false → (h : ℕ) → h < suc w.many → test (O' h) ≡ true → (h < w.many) × (h ≡ w.many → ⊥) × (test (O h) ≡ true)
    test_old e h m = upd_by (λ y. test y ≡ true → (h < w.many) × (h ≡ w.many → ⊥) × (test (O h) ≡ true)) O w.many o h
        (λ q t. absurd (true≢false (sym (and_parts o.living (f o.kind) t).1 ∙ e))) (λ q t. (omega arith, q, t))

    pub count_born : count (λ h. test (O' h)) (suc w.many) ≡ bit (f o.kind) + count (λ h. test (O h)) w.many
    count_born = count_suc (λ h. test (O' h)) w.many ∙ rw (count_ext (λ h. test (O' h)) (λ h. test (O h)) w.many (λ i l. ap test (older i (omega arith))), newest w.many refl, living)

  abbrev pub L' : List ℕ
  L' = set locks x.place (w.many + 1)

  pub ties_enter : o.kind ≡ frame → x.place ≡ 256 + k → k < 64 → Ties H R (more w x) (suc k) O' L' s r
  ties_enter kd pl deep = record {
    places = length-set locks x.place (w.many + 1) ∙ T.places;
    first = first_born;
    fits = fits_born;
    locked = locked_born;
    apart = apart_born;
    blocks = λ h m t. let z = test_old is_block (ap is_block kd) h m t in rw (older h z.1, more_old w x h z.0) (T.blocks h z.0 z.2);
    counted = T.counted ∙ sym (count_born is_block ∙ rw kd (omega arith));
    deep = deep;
    frames = λ h m t. frames h m t (cases_eq h w.many);
    ranks = λ i j a b t u. ranks i j a b t u (cases_eq j w.many);
    opens = λ j a. opens j a (cases_eq j k);
    heap_sound = T.heap_sound;
    rack_sound = T.rack_sound;
  }
    where
      frames : (h : ℕ) → h < suc w.many → living_frame (O' h) ≡ true → (h ≡ w.many) ⊎ (h ≡ w.many → ⊥) → ((more w x).of h).place < 256 + suc k
      frames h m t (inl e) = rw (e, more_new w x) (omega arith)
      frames h m t (inr e) =
          let z = T.frames h (omega arith) (ap living_frame (sym (older h e)) ∙ t) in
          rw (more_old w x h (omega arith)) (omega arith)

      ranks : (i j : ℕ) → i < j → j < suc w.many → living_frame (O' i) ≡ true → living_frame (O' j) ≡ true → (j ≡ w.many) ⊎ (j ≡ w.many → ⊥) → ((more w x).of i).place < ((more w x).of j).place
      ranks i j a b t u (inl e) =
          let z = T.frames i (omega arith) (ap living_frame (sym (older i (omega arith))) ∙ t) in
          rw (e, more_new w x, more_old w x i (omega arith)) (omega arith)
      ranks i j a b t u (inr e) =
          rw (more_old w x i (omega arith), more_old w x j (omega arith)) (T.ranks i j a (omega arith) (ap living_frame (sym (older i (omega arith))) ∙ t) (ap living_frame (sym (older j e)) ∙ u))

      opens : (j : ℕ) → j < suc k → (j ≡ k) ⊎ (j ≡ k → ⊥) → (g : ℕ) × (g < suc w.many) × (living_frame (O' g) ≡ true) × (((more w x).of g).place ≡ 256 + j)
      opens j a (inl e) = (w.many, omega arith, rw (newest w.many refl, living, kd), rw (more_new w x) (omega arith))
      opens j a (inr e) =
          let z = T.opens j (omega arith) in
          let l : z.0 < w.many = z.1 in
          (z.0, omega arith, rw (older z.0 (omega arith)) z.2, rw (more_old w x z.0 l) z.3)

  pub ties_grab : (P : Points H) (Q : RackPoints R) (n : ℕ) (b : Block) → o.kind ≡ block → o.start ≡ 1024 + b.start → o.held ≡ b.held →
      (H.take s n).answer ≡ Some b → (R.draw r).answer ≡ Some x.place → Ties H R (more w x) k O' L' (H.take s n).after (R.draw r).after
  ties_grab P Q n b kd st hd ta da = record {
    places = length-set locks x.place (w.many + 1) ∙ T.places;
    first = first_born;
    fits = fits_born;
    locked = locked_born;
    apart = apart_born;
    blocks = λ h m t. blocks h m t (cases_eq h w.many);
    counted = counted;
    deep = T.deep;
    frames = λ h m t. let z = no_frame h m t in rw (more_old w x h z.0) (T.frames h z.0 z.2);
    ranks = λ i j a l t u. let y = no_frame i (omega arith) t in let z = no_frame j l u in rw (more_old w x i y.0, more_old w x j z.0) (T.ranks i j a z.0 y.2 z.2);
    opens = λ j a. let z = T.opens j a in let l : z.0 < w.many = z.1 in (z.0, omega arith, rw (older z.0 (omega arith)) z.2, rw (more_old w x z.0 l) z.3);
    heap_sound = after_take s n T.heap_sound;
    rack_sound = after_draw r T.rack_sound;
  }
    where
      gr : Grants (H.held s) n b (H.held (H.take s n).after)
      gr = ((P.keeps s T.heap_sound).takes n).grants b ta

      dr : Leaves (R.out r) x.place (R.out (R.draw r).after)
      dr = (Q.keeps r T.rack_sound).draws.leaves x.place da

      no_frame : (h : ℕ) → h < suc w.many → living_frame (O' h) ≡ true → (h < w.many) × (h ≡ w.many → ⊥) × (living_frame (O h) ≡ true)
      no_frame = test_old is_frame (ap is_frame kd)

      blocks : (h : ℕ) → h < suc w.many → living_block (O' h) ≡ true → (h ≡ w.many) ⊎ (h ≡ w.many → ⊥) →
          (H.held (H.take s n).after ((O' h).start - 1024) ≡ Some (O' h).held) × (R.out (R.draw r).after ((more w x).of h).place ≡ true)
      blocks h m t (inl e) =
          let q : 1024 + b.start - 1024 ≡ b.start = omega arith in
          rw (e, newest w.many refl, more_new w x, st, hd, q) (
            gr.adds b.start ∙ upd_same (H.held s) b.start (Some b.held) b.start refl,
            dr.adds x.place ∙ upd_same (R.out r) x.place true x.place refl,
          )
      blocks h m t (inr e) =
          let l : h < w.many = omega arith in
          let old = T.blocks h l (ap living_block (sym (older h e)) ∙ t) in
          let ne : (O h).start - 1024 ≡ b.start → ⊥ = λ q. let v = sym old.0 ∙ (ap (H.held s) q ∙ gr.new) in cc in
          let np : (w.of h).place ≡ x.place → ⊥ = λ q. true≢false (sym old.1 ∙ (ap (R.out r) q ∙ dr.new)) in
          rw (older h e, more_old w x h l) (
            gr.adds ((O h).start - 1024) ∙ (upd_other (H.held s) b.start (Some b.held) ((O h).start - 1024) ne ∙ old.0),
            dr.adds (w.of h).place ∙ (upd_other (R.out r) x.place true (w.of h).place np ∙ old.1),
          )

      up : (a u y z v c : ℕ) → a ≡ u → u + 0 ≡ y + 1 → y ≡ z → v ≡ 1 + z → a ≡ v
      up a u y z v c p q t j = omega arith

      counted : count (R.out (R.draw r).after) 256 ≡ count (λ h. living_block (O' h)) (suc w.many)
      counted =
          let a = count_ext (R.out (R.draw r).after) (upd (R.out r) x.place true) 256 (λ i _. dr.adds i) in
          let hi = dr.place.high in
          let c = count_upd (R.out r) 256 x.place true (omega (arith, dr.place.high)) in
          let d : count (upd (R.out r) x.place true) 256 + 0 ≡ count (R.out r) 256 + 1 = rw dr.new at c in
          let e : count (λ h. living_block (O' h)) (suc w.many) ≡ 1 + count (λ h. living_block (O h)) w.many = count_born is_block ∙ rw kd in
          up _ _ _ _ _ 0 a d T.counted e
