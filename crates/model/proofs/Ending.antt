-- What the end of a grant does to the ties between machine and book. Assumes nothing.
use Rattle.std.proofs.Common.{◌≡◌, ℕ, suc, ◌+◌, ◌-◌, ◌<◌, ◌≤◌, Bool, true, false, ◌&&◌, eqb, leb, ◌⊎◌, List, get_or, set, sym, refl, ap, ◌∙◌, inl, inr, arith}
use Rattle.std.proofs.lemmas.Bool.{and_parts, and_from, le-leb, lt-leb, eqb-true, ne_eqb, cases_eq, true≢false, cases_Bool}
use Rattle.heaps.specs.Rule.{HeapRule}
use Rattle.heaps.specs.Points.{Apart}
use Rattle.racks.specs.Rule.{RackRule}
use Rattle.model.specs.declared.sidecar.Sidecar.{Sidecar}
use Rattle.model.specs.Machine.{side}
use Rattle.model.specs.Grants.{over, Outline, Kind, globals, block, frame, is_block, is_frame, count}
use Rattle.model.proofs.Views.{upd, upd_same, upd_other, upd_by, upd_map, get_set}
use Rattle.model.proofs.Counts.{count_ext, count_upd}
use Rattle.model.proofs.Relation.{World, Zone, Fits, Live, Ties}

pub zone_place : (kd : Kind) (p x n h : ℕ) → Zone kd p x n h → p < 320
zone_place globals p x n h z = omega arith
zone_place block p x n h z = omega arith
zone_place frame p x n h z = omega arith

pub zone_block : (kd : Kind) (p x n h : ℕ) → Zone kd p x n h → (leb 1 p && leb p 255) ≡ is_block kd
zone_block globals p x n h z = rw (lt-leb 1 p (omega arith))
zone_block block p x n h z = rw (le-leb 1 p z.0, le-leb p 255 z.1)
zone_block frame p x n h z = rw (le-leb 1 p (omega arith), lt-leb p 255 (omega arith))

pub and_false : (b : Bool) → (b && false) ≡ false
and_false true = refl
and_false false = refl

-- a living grant's place is its own
module _ (H : HeapRule) (R : RackRule) (w : World) (k : ℕ) (O : ℕ → Outline) (locks : List ℕ) (s : H.State) (r : R.State) (T : Ties H R w k O locks s r) where
  pub holds_key : (g : ℕ) → Live w O g → get_or locks (w.of g).place 0 ≡ g + 1
  holds_key g l = eqb-true _ _ (T.locked g l.0 ∙ l.1)

  pub place_own : (g h : ℕ) → Live w O g → Live w O h → (w.of g).place ≡ (w.of h).place → g ≡ h
  place_own g h l m e =
      let a = holds_key g l in
      let b = holds_key h m in
      let c : get_or locks (w.of g).place 0 ≡ get_or locks (w.of h).place 0 = ap (λ p. get_or locks p 0) e in
      omega arith

  module _ (g : ℕ) (l : Live w O g) where
    abbrev pub O' : ℕ → Outline
    O' = upd O g (over (O g))

    abbrev pub at : ℕ
    at = (w.of g).place

    at_low : at < 320
    at_low = let z = zone_place _ _ _ _ _ (T.fits g l.0).zone in z

    pub dead : (h : ℕ) → h ≡ g → O' h ≡ over (O g)
    dead h e = upd_same O g (over (O g)) h e

    pub same : (h : ℕ) → (h ≡ g → ⊥) → O' h ≡ O h
    same h e = upd_other O g (over (O g)) h e

    pub was_live : (h : ℕ) → Live w O' h → (Live w O h) × (h ≡ g → ⊥)
    was_live h m =
        let ne : h ≡ g → ⊥ = λ e. true≢false (sym m.1 ∙ ap (λ (o : Outline). o.living) (dead h e)) in
        ((m.0, ap (λ (o : Outline). o.living) (sym (same h ne)) ∙ m.1), ne)

    pub fits_end : (h : ℕ) → h < w.many → Fits h (w.of h) (O' h)
    fits_end h m = upd_by (λ o. Fits h (w.of h) o) O g (over (O g)) h
        (λ e. let f : Fits h (w.of h) (O g) = rw (ap O (sym e)) (T.fits h m) in
        record { key = f.key; base = f.base; bound = f.bound; even = f.even; whole = f.whole; roomy = f.roomy; inside = f.inside; zone = f.zone })
        (λ _. T.fits h m)

    pub locked_end : (h : ℕ) → h < w.many → eqb (get_or (set locks at 0) (w.of h).place 0) (h + 1) ≡ (O' h).living
    locked_end h m = go (cases_eq h g) (cases_eq (w.of h).place at) (cases_Bool (O h).living)
      where
        n : get_or (set locks at 0) (w.of h).place 0 ≡ upd (λ p. get_or locks p 0) at 0 (w.of h).place
        n = get_set locks at 0 0 (w.of h).place (omega (arith, at_low, T.places))

        go : (h ≡ g) ⊎ (h ≡ g → ⊥) → ((w.of h).place ≡ at) ⊎ ((w.of h).place ≡ at → ⊥) → ((O h).living ≡ true) ⊎ ((O h).living ≡ false) → eqb (get_or (set locks at 0) (w.of h).place 0) (h + 1) ≡ (O' h).living
        go (inl e) (inl q) v = rw (n, upd_same (λ p. get_or locks p 0) at 0 (w.of h).place q, dead h e) (ne_eqb 0 (h + 1) (omega arith))
        go (inl e) (inr q) v = absurd (q (ap (λ i. (w.of i).place) e))
        go (inr e) (inr q) v = rw (n, upd_other (λ p. get_or locks p 0) at 0 (w.of h).place q, same h e) (T.locked h m)
        go (inr e) (inl q) (inl v) = absurd (e (place_own h g (m, v) l q))
        go (inr e) (inl q) (inr v) = rw (n, upd_same (λ p. get_or locks p 0) at 0 (w.of h).place q, same h e, v) (ne_eqb 0 (h + 1) (omega arith))

    pub apart_end : (i j : ℕ) → Live w O' i → Live w O' j → (i ≡ j → ⊥) → Apart (O' i).start (O' i).held (O' j).start (O' j).held
    apart_end i j a b ne =
        let x = was_live i a in
        let y = was_live j b in
        rw (same i x.1, same j y.1) (T.apart i j x.0 y.0 ne)

    -- a test that asks for a living grant
    module _ (f : Kind → Bool) where
      abbrev test : Outline → Bool
      test o = o.living && f o.kind

      pub test_was : (h : ℕ) → h < w.many → test (O' h) ≡ true → (test (O h) ≡ true) × (h ≡ g → ⊥) × Live w O h
      test_was h m t =
          let v = and_parts (O' h).living (f (O' h).kind) t in
          let z = was_live h (m, v.0) in
          (rw (same h z.1) at t, z.1, z.0)

      pub test_still : (h : ℕ) → (h ≡ g → ⊥) → test (O h) ≡ true → test (O' h) ≡ true
      test_still h e t = rw (same h e) t

      -- where the grant that ends was of another kind, no test changes
      pub test_same : f (O g).kind ≡ false → (h : ℕ) → test (O' h) ≡ test (O h)
      test_same e h = upd_by (λ o. test o ≡ test (O h)) O g (over (O g)) h (λ q. rw (q, e) (sym (and_false (O g).living))) (λ _. refl)

      pub count_less : f (O g).kind ≡ true → count (λ h. test (O h)) w.many ≡ suc (count (λ h. test (O' h)) w.many)
      count_less e =
          let a : count (λ h. test (O' h)) w.many ≡ count (upd (λ h. test (O h)) g false) w.many =
          count_ext (λ h. test (O' h)) (upd (λ h. test (O h)) g false) w.many (λ i m. upd_map test O g (over (O g)) i) in
          let t : test (O g) ≡ true = and_from _ _ l.1 e in
          let c = count_upd (λ h. test (O h)) w.many g false l.0 in
          let d : count (upd (λ h. test (O h)) g false) w.many + 1 ≡ count (λ h. test (O h)) w.many + 0 = rw t at c in
          omega arith

pub zone_of_block : (kd : Kind) (p x n h : ℕ) → is_block kd ≡ true → Zone kd p x n h → Zone block p x n h
zone_of_block globals p x n h e z = cc
zone_of_block block p x n h e z = z
zone_of_block frame p x n h e z = cc

pub zone_of_frame : (kd : Kind) (p x n h : ℕ) → is_frame kd ≡ true → Zone kd p x n h → Zone frame p x n h
zone_of_frame globals p x n h e z = cc
zone_of_frame block p x n h e z = cc
zone_of_frame frame p x n h e z = z

pub apart_starts : (x h y k : ℕ) → Apart x h y k → 8 ≤ h → 8 ≤ k → 1024 ≤ x → 1024 ≤ y → x - 1024 ≡ y - 1024 → ⊥
apart_starts x h y k a b c d e f = omega arith

pub side_path : (s : Sidecar) (x n k p : ℕ) → x ≡ s.base → x + n ≡ s.bound → k ≡ s.key → p ≡ s.place → side x n k p ≡ s
side_path s x n k p a b c d = λ i. record { base = a i; bound = b i; key = c i; place = d i }

pub down : (a x y z v : ℕ) → a ≡ x → x + 1 ≡ y + 0 → z ≡ suc v → y ≡ z → a ≡ v
down a x y z v p q r t = omega arith
