-- Release, ret and start: both sides end a grant alike. Assumes nothing.
use Rattle.std.proofs.Common.{◌≡◌, ℕ, suc, ◌+◌, ◌-◌, ◌*◌, ◌<◌, Bool, true, false, ◌⊎◌, List, length, get_or, set, Some, None, Option, sym, refl, ap, ◌∙◌, subst, inl, inr, arith, Ok, Err, Result, leb, ◌&&◌}
use Rattle.std.proofs.lemmas.List.{length-set}
use Rattle.std.proofs.lemmas.Bool.{and_parts, and_from, cases_Bool}
use Rattle.heaps.specs.Rule.{HeapRule}
use Rattle.heaps.specs.Points.{Points, after_give}
use Rattle.racks.specs.Rule.{RackRule}
use Rattle.racks.specs.Points.{RackPoints, after_put}
use Rattle.model.specs.declared.sidecar.Sidecar.{Sidecar}
use Rattle.model.specs.Machine.{Core, side, machine, refuses, holds}
use Rattle.model.specs.Machine
use Rattle.model.specs.History
use Rattle.faults.specs.declared.cause.Cause.{Cause}
use Rattle.std.specs.Result.{result_and}
use Rattle.model.proofs.Sheeting.{Outcomes}
use Rattle.model.specs.Grants.{over, Outline, block, is_block, is_frame, living_block, living_frame, count, latest}
use Rattle.model.specs.History.{Book, Grant, nth, outline, book, change, ended, youngest}
use Rattle.model.proofs.Views.{upd, upd_other, upd_by}
use Rattle.model.proofs.Counts.{count_ext, count_upd, latest_is}
use Rattle.model.proofs.Relation.{World, Alike, Zone, Kept, Stored, Live, Ties, Rel}
use Rattle.model.proofs.Access.{nth_change, outline_change}
use Rattle.model.proofs.Ending.{zone_block, holds_key, place_own, same, fits_end, locked_end, apart_end, test_was, test_still, test_same, count_less, zone_of_block, zone_of_frame, apart_starts, side_path, down}
use Rattle.model.proofs.OneKind.{block_not_frame, frame_not_block}

-- what an ended grant leaves of memory is of no concern
stored_end : (w : World) (G : ℕ → Grant) (memory : List ℕ) (shadow : List (Option Sidecar)) (g : ℕ) → Stored w G memory shadow → Stored w (upd G g (ended (G g))) memory shadow
stored_end w G memory shadow g st = record {
  room = st.room;
  words = st.words;
  kept = λ h m. upd_by (λ y. y.outline.living ≡ true → Kept w y memory shadow) G g (ended (G g)) h (λ _ live. cc) (λ _ live. st.kept h m live);
}

module _ (H : HeapRule) (R : RackRule) (P : Points H) (Q : RackPoints R) (w : World) (k : ℕ) (O : ℕ → Outline) (locks : List ℕ) (s : H.State) (r : R.State) where
  ties_release : (T : Ties H R w k O locks s r) (g : ℕ) → Live w O g → is_block (O g).kind ≡ true →
      Ties H R w k (upd O g (over (O g))) (set locks (w.of g).place 0) (H.give s ((O g).start - 1024)).after (R.put r (w.of g).place).after
  ties_release T g l kd = record {
    places = length-set locks (w.of g).place 0 ∙ T.places;
    first = T.first;
    fits = fits_end H R w k O locks s r T g l;
    locked = locked_end H R w k O locks s r T g l;
    apart = apart_end H R w k O locks s r T g l;
    blocks = blocks;
    counted = counted;
    deep = T.deep;
    frames = λ h m t. T.frames h m (sym (no_frame h) ∙ t);
    ranks = λ i j a b t u. T.ranks i j a b (sym (no_frame i) ∙ t) (sym (no_frame j) ∙ u);
    opens = λ j a. let z = T.opens j a in (z.0, z.1, no_frame z.0 ∙ z.2, z.3);
    heap_sound = after_give s ((O g).start - 1024) T.heap_sound;
    rack_sound = after_put r (w.of g).place T.rack_sound;
  }
    where
      zone : Zone block (w.of g).place (O g).start (O g).asked (O g).held
      zone = zone_of_block (O g).kind _ _ _ _ kd (T.fits g l.0).zone

      no_frame : (h : ℕ) → living_frame (upd O g (over (O g)) h) ≡ living_frame (O h)
      no_frame = test_same H R w k O locks s r T g l is_frame (block_not_frame (O g).kind kd)

      blocks : (h : ℕ) → h < w.many → living_block (upd O g (over (O g)) h) ≡ true →
          (H.held (H.give s ((O g).start - 1024)).after ((upd O g (over (O g)) h).start - 1024) ≡ Some (upd O g (over (O g)) h).held) × (R.out (R.put r (w.of g).place).after (w.of h).place ≡ true)
      blocks h m t =
          let was = test_was H R w k O locks s r T g l is_block h m t in
          let old = T.blocks h m was.0 in
          let kh : is_block (O h).kind ≡ true = (and_parts (O h).living (is_block (O h).kind) was.0).1 in
          let z = zone_of_block (O h).kind _ _ _ _ kh (T.fits h m).zone in
          let zg = zone in
          let far = T.apart h g was.2 l was.1 in
          let big = ((P.keeps s T.heap_sound).laid.fit ((O h).start - 1024) (O h).held old.0).some in
          let own = T.blocks g l.0 (and_from _ _ l.1 kd) in
          let big' = ((P.keeps s T.heap_sound).laid.fit ((O g).start - 1024) (O g).held own.0).some in
          let ne = apart_starts (O h).start (O h).held (O g).start (O g).held far big big' z.2 zg.2 in
          let np : (w.of h).place ≡ (w.of g).place → ⊥ = λ e. was.1 (place_own H R w k O locks s r T h g was.2 l e) in
          rw (same H R w k O locks s r T g l h was.1) (
            ((P.keeps s T.heap_sound).gives ((O g).start - 1024)).removes ((O h).start - 1024) ∙ (upd_other (H.held s) ((O g).start - 1024) None ((O h).start - 1024) ne ∙ old.0),
            ((Q.keeps r T.rack_sound).puts (w.of g).place).removes (w.of h).place ∙ (upd_other (R.out r) (w.of g).place false (w.of h).place np ∙ old.1),
          )

      counted : count (R.out (R.put r (w.of g).place).after) 256 ≡ count (λ h. living_block (upd O g (over (O g)) h)) w.many
      counted =
          let zg = zone in
          let own = T.blocks g l.0 (and_from _ _ l.1 kd) in
          let a = count_ext (R.out (R.put r (w.of g).place).after) (upd (R.out r) (w.of g).place false) 256 (λ i _. ((Q.keeps r T.rack_sound).puts (w.of g).place).removes i) in
          let c = count_upd (R.out r) 256 (w.of g).place false (omega arith) in
          let d : count (upd (R.out r) (w.of g).place false) 256 + 1 ≡ count (R.out r) 256 + 0 = rw own.1 at c in
          let e = count_less H R w k O locks s r T g l is_block kd in
          down _ _ _ _ _ a d e T.counted

  -- the frame at depth k is the youngest that lives
  pub young : (T : Ties H R w (suc k) O locks s r) (g : ℕ) → g < w.many → living_frame (O g) ≡ true → (w.of g).place ≡ 256 + k → latest (λ h. living_frame (O h)) w.many ≡ g
  young T g l f e = latest_is (λ h. living_frame (O h)) w.many g l f (λ i a b. go i a b (cases_Bool (living_frame (O i))))
    where
      go : (i : ℕ) → g < i → i < w.many → (living_frame (O i) ≡ true) ⊎ (living_frame (O i) ≡ false) → living_frame (O i) ≡ false
      go i a b (inr q) = q
      go i a b (inl q) =
          let x = T.ranks g i a b f q in
          let y = T.frames i b q in
          absurd (omega arith)

  ties_leave : (T : Ties H R w (suc k) O locks s r) (g : ℕ) → g < w.many → living_frame (O g) ≡ true → (w.of g).place ≡ 256 + k →
      Ties H R w k (upd O g (over (O g))) (set locks (w.of g).place 0) s r
  ties_leave T g lt lf pl = record {
    places = length-set locks (w.of g).place 0 ∙ T.places;
    first = T.first;
    fits = fits_end H R w (suc k) O locks s r T g l;
    locked = locked_end H R w (suc k) O locks s r T g l;
    apart = apart_end H R w (suc k) O locks s r T g l;
    blocks = λ h m t. rw (same H R w (suc k) O locks s r T g l h (is_other h m t)) (T.blocks h m (sym (no_block h) ∙ t));
    counted = T.counted ∙ sym (count_ext (λ h. living_block (upd O g (over (O g)) h)) (λ h. living_block (O h)) w.many (λ i _. no_block i));
    deep = let d = T.deep in omega arith;
    frames = frames;
    ranks = λ i j a b t u. T.ranks i j a b (test_was H R w (suc k) O locks s r T g l is_frame i (omega arith) t).0 (test_was H R w (suc k) O locks s r T g l is_frame j b u).0;
    opens = opens;
    heap_sound = T.heap_sound;
    rack_sound = T.rack_sound;
  }
    where
      parts : ((O g).living ≡ true) × (is_frame (O g).kind ≡ true)
      parts = and_parts (O g).living (is_frame (O g).kind) lf

      l : Live w O g
      l = (lt, parts.0)

      no_block : (h : ℕ) → living_block (upd O g (over (O g)) h) ≡ living_block (O h)
      no_block = test_same H R w (suc k) O locks s r T g l is_block (frame_not_block (O g).kind parts.1)

      is_other : (h : ℕ) → h < w.many → living_block (upd O g (over (O g)) h) ≡ true → h ≡ g → ⊥
      is_other h m t = (test_was H R w (suc k) O locks s r T g l is_block h m t).1

      frames : (h : ℕ) → h < w.many → living_frame (upd O g (over (O g)) h) ≡ true → (w.of h).place < 256 + k
      frames h m t =
          let was = test_was H R w (suc k) O locks s r T g l is_frame h m t in
          let a = T.frames h m was.0 in
          let b : (w.of h).place ≡ 256 + k → ⊥ = λ e. was.1 (place_own H R w (suc k) O locks s r T h g was.2 l (e ∙ sym pl)) in
          omega arith

      opens : (j : ℕ) → j < k → (h : ℕ) × (h < w.many) × (living_frame (upd O g (over (O g)) h) ≡ true) × ((w.of h).place ≡ 256 + j)
      opens j a =
          let z = T.opens j (omega arith) in
          let e : (w.of z.0).place ≡ 256 + j = z.3 in
          let ne : z.0 ≡ g → ⊥ = λ q. let v : (w.of z.0).place ≡ (w.of g).place = ap (λ i. (w.of i).place) q in omega arith in
          (z.0, z.1, test_still H R w (suc k) O locks s r T g l is_frame z.0 ne z.2, z.3)

two : (x y : Bool) → refuses x y ≡ Ok tt → (x ≡ true) × (y ≡ true)
two false y h = (cc, cc)
two true false h = (cc, cc)
two true true h = (refl, refl)

module _ (H : HeapRule) (R : RackRule) (P : Points H) (Q : RackPoints R) (w : World) (k : ℕ) (c : Core H.State R.State) (b : Book H.State) where
  release_same : Rel H R w k c b → (s : Sidecar) (g : ℕ) → Alike w s g → refuses (holds c s) (leb 1 s.place && leb s.place 255) ≡ refuses (outline b g).living (is_block (outline b g).kind)
  release_same r s g a =
      let f = r.ties.fits g a.0 in
      rw (a.1, f.key, r.ties.locked g a.0, zone_block (outline b g).kind (w.of g).place _ _ _ f.zone)

  ends_like : Rel H R w k c b → (s : Sidecar) (g : ℕ) → Alike w s g → refuses (outline b g).living (is_block (outline b g).kind) ≡ Ok tt → Rel H R w k (Machine.ends H R c s) (History.ends H b g)
  ends_like r s g a e =
      let f = r.ties.fits g a.0 in
      let t = two (outline b g).living (is_block (outline b g).kind) e in
      let l : g < length b.grants = omega (arith, a.0, r.many) in
      let y : Grant = ended (nth b g) in
      let base : s.base ≡ (outline b g).start = ap (λ (z : Sidecar). z.base) a.1 ∙ f.base in
      let T = ties_release H R P Q w k (λ h. outline b h) c.locks c.heap c.rack r.ties g (a.0, t.0) t.1 in
      record {
        many = r.many ∙ sym (length-set b.grants g y);
        issued = r.issued ∙ sym (length-set b.grants g y);
        ceiling = r.ceiling;
        heap = rw (base, r.heap);
        ties = rw (base, a.1) (subst (λ (o : ℕ → Outline). Ties H R w k o (set c.locks (w.of g).place 0) (H.give c.heap ((outline b g).start - 1024)).after (R.put c.rack (w.of g).place).after) (sym (outline_change b g l y)) T);
        stored = subst (λ (o : ℕ → Grant). Stored w o c.memory c.shadow) (sym (nth_change b g l y)) (stored_end w (λ h. nth b h) c.memory c.shadow g r.stored);
      }

  pub release_like : Rel H R w k c b → (s : Sidecar) (g x : ℕ) → Alike w s g → Outcomes (Rel H R w k) ((machine H R).release c s x) ((book H).release b g x)
  release_like r s g x a = rw (release_same r s g a) (go (refuses (outline b g).living (is_block (outline b g).kind)) (ends_like r s g a))
    where
      go : (q : Result Unit Cause) → (q ≡ Ok tt → Rel H R w k (Machine.ends H R c s) (History.ends H b g)) → Outcomes (Rel H R w k) (result_and q (Ok (Machine.ends H R c s))) (result_and q (Ok (History.ends H b g)))
      go (Ok u) h = h refl
      go (Err f) h = refl

  module _ (r : Rel H R w (suc k) c b) where
    top : (g : ℕ) × (g < w.many) × (living_frame (outline b g) ≡ true) × ((w.of g).place ≡ 256 + k)
    top = r.ties.opens k (omega arith)

    found : youngest b ≡ top.0
    found = subst (λ n. latest (λ h. living_frame (outline b h)) n ≡ top.0) r.many (young H R P Q w k (λ h. outline b h) c.locks c.heap c.rack r.ties top.0 top.1 top.2 top.3)

    pub frame_like : Alike w ((machine H R).frame c k) ((book H).frame b k)
    frame_like = rw found (top.1, go top.0 top.1 top.2 top.3)
      where
        go : (g : ℕ) → g < w.many → living_frame (outline b g) ≡ true → (w.of g).place ≡ 256 + k → side (5120 + 48 * k) 48 (get_or c.locks (256 + k) 0) (256 + k) ≡ w.of g
        go g l t e =
            let v = and_parts (outline b g).living (is_frame (outline b g).kind) t in
            let f = r.ties.fits g l in
            let z = zone_of_frame (outline b g).kind _ _ _ _ v.1 f.zone in
            let key = holds_key H R w (suc k) (λ h. outline b h) c.locks c.heap c.rack r.ties g (l, v.0) in
            let lock : get_or c.locks (256 + k) 0 ≡ get_or c.locks (w.of g).place 0 = rw e in
            side_path (w.of g) (5120 + 48 * k) 48 (get_or c.locks (256 + k) 0) (256 + k) (omega arith) (omega arith) (omega arith) (sym e)

    pub leave_like : Rel H R w k ((machine H R).leave c k) ((book H).leave b k)
    leave_like = rw found (go top.0 top.1 top.2 top.3)
      where
        go : (g : ℕ) → g < w.many → living_frame (outline b g) ≡ true → (w.of g).place ≡ 256 + k → Rel H R w k ((machine H R).leave c k) (change b g (ended (nth b g)))
        go g m t e =
            let l : g < length b.grants = omega (arith, m, r.many) in
            let y : Grant = ended (nth b g) in
            let T = ties_leave H R P Q w k (λ h. outline b h) c.locks c.heap c.rack r.ties g m t e in
            record {
              many = r.many ∙ sym (length-set b.grants g y);
              issued = r.issued ∙ sym (length-set b.grants g y);
              ceiling = r.ceiling;
              heap = r.heap;
              ties = rw (← e) (subst (λ (o : ℕ → Outline). Ties H R w k o (set c.locks (w.of g).place 0) c.heap c.rack) (sym (outline_change b g l y)) T);
              stored = subst (λ (o : ℕ → Grant). Stored w o c.memory c.shadow) (sym (nth_change b g l y)) (stored_end w (λ h. nth b h) c.memory c.shadow g r.stored);
            }
