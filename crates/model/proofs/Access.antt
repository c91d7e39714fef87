-- Loads, stores and their checks: both sides do them alike. Assumes nothing.
use Rattle.std.proofs.Common.{◌≡◌, ℕ, ◌+◌, ◌-◌, ◌/◌, ◌%◌, ◌<◌, ◌≤◌, Bool, true, false, eqb, leb, ◌⊎◌, List, [], ◌∷◌, length, get_or, None, Option, sym, refl, ap, ◌∙◌, subst, arith, Ok}
use mathlib.Core.Path.{fun_ext}
use Rattle.std.proofs.lemmas.List.{length-set}
use Rattle.std.proofs.lemmas.Bool.{and_parts, leb-true}
use Rattle.model.specs.Parts.{put, part, value, bytes}
use Rattle.heaps.specs.Rule.{HeapRule}
use Rattle.heaps.specs.Points.{Apart}
use Rattle.racks.specs.Rule.{RackRule}
use Rattle.model.specs.declared.sidecar.Sidecar.{Sidecar}
use Rattle.model.specs.Machine.{Core, machine, faults, within}
use Rattle.model.specs.Grants.{Outline}
use Rattle.model.specs.History.{Book, Grant, nth, outline, book, none, change}
use Rattle.model.specs.Machine
use Rattle.model.specs.History
use Rattle.model.proofs.Sheeting.{Both, Rows}
use Rattle.model.proofs.Views.{upd, upd_by, get_set, length_put, window_put, window_out, part_same, upd_map}
use Rattle.model.proofs.Relation.{World, Alike, Fits, Kept, Stored, Live, Ties, Rel}

pub record Passed (o : Outline) (x n : ℕ) : Type 0 where
  pub living : o.living ≡ true
  pub low : o.start ≤ x
  pub high : x + n ≤ o.start + o.asked

three : (a b e : Bool) → faults a b e ≡ Ok tt → (a ≡ true) × (b ≡ true)
three false b e h = (cc, cc)
three true false e h = (cc, cc)
three true true e h = (refl, refl)

pub passed : (o : Outline) (x n : ℕ) → faults o.living (within o.start (o.start + o.asked) x n) (eqb (x % n) 0) ≡ Ok tt → Passed o x n
passed o x n h =
    let t = three o.living (within o.start (o.start + o.asked) x n) (eqb (x % n) 0) h in
    let p = and_parts (leb o.start x) (leb (x + n) (o.start + o.asked)) t.1 in
    record { living = t.0; low = leb-true _ _ p.0; high = leb-true _ _ p.1 }

module _ (H : HeapRule) (R : RackRule) (w : World) (k : ℕ) (c : Core H.State R.State) (b : Book H.State) (r : Rel H R w k c b) (s : Sidecar) (g : ℕ) (a : Alike w s g) where
  pub check_same : (x n : ℕ) → (machine H R).check c s x n ≡ (book H).check b g x n
  check_same x n =
      let f = r.ties.fits g a.0 in
      rw (a.1, f.key, f.base, f.bound, r.ties.locked g a.0)

  module _ (x n : ℕ) (p : Passed (outline b g) x n) where
    pub kept : Kept w (nth b g) c.memory c.shadow
    kept = r.stored.kept g a.0 p.living

    pub part_like : part 0 n c.memory x ≡ part 0 n (nth b g).bytes (x - (outline b g).start)
    part_like =
        let q = p in
        let e : (outline b g).start + (x - (outline b g).start) ≡ x = omega arith in
        let z = part_same 0 n c.memory (nth b g).bytes (outline b g).start (outline b g).asked (x - (outline b g).start) (omega arith) kept.bytes in
        rw e at z

    pub tag_like : n ≡ 8 → Both (Alike w) (get_or c.shadow (x / 8) None) (get_or (nth b g).descents ((x - (outline b g).start) / 8) None)
    tag_like m =
        let f = r.ties.fits g a.0 in
        let e : (outline b g).start / 8 + (x - (outline b g).start) / 8 ≡ x / 8 = omega arith in
        let z = kept.tags ((x - (outline b g).start) / 8) (omega arith) in
        rw e at z

-- a write into one living grant
abbrev pub written : Grant → ℕ → List ℕ → List (Option ℕ) → Grant
written g x bs ds = record { outline = g.outline; bytes = put g.bytes (x - g.outline.start) bs; descents = put g.descents ((x - g.outline.start) / 8) ds }

rows_refl : (xs : List ℕ) → Rows ◌≡◌ xs xs
rows_refl [] = tt
rows_refl (x ∷ xs) = (refl, rows_refl xs)

module _ (w : World) (G : ℕ → Grant) (memory : List ℕ) (shadow : List (Option Sidecar)) (st : Stored w G memory shadow)
    (fits : (g : ℕ) → g < w.many → Fits g (w.of g) (G g).outline)
    (apart : (g h : ℕ) → Live w (λ i. (G i).outline) g → Live w (λ i. (G i).outline) h → (g ≡ h → ⊥) → Apart (G g).outline.start (G g).outline.held (G h).outline.start (G h).outline.held)
    (g : ℕ) (l : g < w.many) (x : ℕ) (bs : List ℕ) (ts : List (Option Sidecar)) (ds : List (Option ℕ)) (p : Passed (G g).outline x (length bs))
    (rows : Rows (Both (Alike w)) ts ds) (short : (x - (G g).outline.start) / 8 + length ts ≤ (G g).outline.asked / 8) where
  same_grant : Kept w (written (G g) x bs ds) (put memory x bs) (put shadow (x / 8) ts)
  same_grant =
      let f = fits g l in
      let z = st.kept g l p.living in
      let off : ℕ = x - (G g).outline.start in
      let e : (G g).outline.start + off ≡ x = omega arith in
      let m : (G g).outline.start / 8 + off / 8 ≡ x / 8 = omega arith in
      let in_memory : (G g).outline.start + (G g).outline.asked ≤ length memory = omega (arith, st.room) in
      let in-shadow : (G g).outline.start / 8 + (G g).outline.asked / 8 ≤ length shadow = omega (arith, st.words) in
      let bytes = window_put ◌≡◌ 0 0 bs bs memory (G g).bytes (G g).outline.start (G g).outline.asked off (rows_refl bs) in_memory (omega (arith, z.size)) (omega arith) z.bytes in
      let tags = window_put (Both (Alike w)) None None ts ds shadow (G g).descents ((G g).outline.start / 8) ((G g).outline.asked / 8) (off / 8) rows in-shadow (omega (arith, z.marks)) short z.tags in
      record {
        size = length_put (G g).bytes off bs ∙ z.size;
        marks = length_put (G g).descents (off / 8) ds ∙ z.marks;
        bytes = rw e at bytes;
        tags = rw m at tags;
      }

  other_grant : (h : ℕ) → Live w (λ i. (G i).outline) h → (h ≡ g → ⊥) → Kept w (G h) (put memory x bs) (put shadow (x / 8) ts)
  other_grant h live ne =
      let f = fits g l in
      let f' = fits h live.0 in
      let z = st.kept h live.0 live.1 in
      let ap = apart h g live (l, p.living) ne in
      let far : (x + length bs ≤ (G h).outline.start) ⊎ ((G h).outline.start + (G h).outline.asked ≤ x) = grind arith in
      let far' : (x / 8 + length ts ≤ (G h).outline.start / 8) ⊎ ((G h).outline.start / 8 + (G h).outline.asked / 8 ≤ x / 8) = grind arith in
      record {
        size = z.size;
        marks = z.marks;
        bytes = window_out ◌≡◌ 0 0 bs memory (G h).bytes x (G h).outline.start (G h).outline.asked far z.bytes;
        tags = window_out (Both (Alike w)) None None ts shadow (G h).descents (x / 8) ((G h).outline.start / 8) ((G h).outline.asked / 8) far' z.tags;
      }

  pub stored_write : Stored w (upd G g (written (G g) x bs ds)) (put memory x bs) (put shadow (x / 8) ts)
  stored_write = record {
    room = length_put memory x bs ∙ st.room;
    words = length_put shadow (x / 8) ts ∙ st.words;
    kept = λ h m. upd_by (λ y. y.outline.living ≡ true → Kept w y (put memory x bs) (put shadow (x / 8) ts)) G g (written (G g) x bs ds) h (λ _ _. same_grant) (λ e live. other_grant h (m, live) e);
  }

module _ {S : Type 0} (b : Book S) (g : ℕ) (l : g < length b.grants) (x : Grant) where
  pub nth_change : (λ h. nth (change b g x) h) ≡ upd (λ h. nth b h) g x
  nth_change = fun_ext (λ h. get_set b.grants g x none h l)

  pub outline_change : (λ h. outline (change b g x) h) ≡ upd (λ h. outline b h) g x.outline
  outline_change = fun_ext (λ h. ap (λ (y : Grant). y.outline) (get_set b.grants g x none h l) ∙ upd_map (λ (y : Grant). y.outline) (λ i. nth b i) g x h)

upd_nothing : {X : Type 0} (f : ℕ → X) (g : ℕ) (x : X) → x ≡ f g → upd f g x ≡ f
upd_nothing f g x e = fun_ext (λ h. upd_by (λ y. y ≡ f h) f g x h (λ q. e ∙ ap f (sym q)) (λ _. refl))

module _ (H : HeapRule) (R : RackRule) (w : World) (k : ℕ) (c : Core H.State R.State) (b : Book H.State) (r : Rel H R w k c b) (s : Sidecar) (g : ℕ) (a : Alike w s g) where
  pub write_like : (x : ℕ) (bs : List ℕ) (ts : List (Option Sidecar)) (ds : List (Option ℕ)) → Passed (outline b g) x (length bs) → Rows (Both (Alike w)) ts ds →
      (x - (outline b g).start) / 8 + length ts ≤ (outline b g).asked / 8 → Rel H R w k (Machine.write c x bs ts) (History.write b g x bs ds)
  write_like x bs ts ds p rows short =
      let l : g < length b.grants = omega (arith, a.0, r.many) in
      let y : Grant = written (nth b g) x bs ds in
      let O : (λ h. outline (change b g y) h) ≡ (λ h. outline b h) = outline_change b g l y ∙ upd_nothing (λ h. outline b h) g y.outline refl in
      record {
        many = r.many ∙ sym (length-set b.grants g y);
        issued = r.issued ∙ sym (length-set b.grants g y);
        ceiling = r.ceiling;
        heap = r.heap;
        ties = subst (λ (f : ℕ → Outline). Ties H R w k f c.locks c.heap c.rack) (sym O) r.ties;
        stored = subst (λ (f : ℕ → Grant). Stored w f (put c.memory x bs) (put c.shadow (x / 8) ts)) (sym (nth_change b g l y))
            (stored_write w (λ h. nth b h) c.memory c.shadow r.stored r.ties.fits r.ties.apart g a.0 x bs ts ds p rows short);
      }

  pub store_like : (x v : ℕ) (u₁ : Option Sidecar) (u₂ : Option ℕ) → (book H).check b g x 8 ≡ Ok tt → Both (Alike w) u₁ u₂ → Rel H R w k ((machine H R).store c s x v u₁) ((book H).store b g x v u₂)
  store_like x v u₁ u₂ e t = let p = passed (outline b g) x 8 e in write_like x (bytes 8 v) (u₁ ∷ []) (u₂ ∷ []) p (t, tt) (omega arith)

  pub storeb_like : (x v : ℕ) → (book H).check b g x 1 ≡ Ok tt → Rel H R w k ((machine H R).storeb c s x v) ((book H).storeb b g x v)
  storeb_like x v e = let p = passed (outline b g) x 1 e in write_like x ((v % 256) ∷ []) [] [] p tt (omega arith)

  pub load_like : (x : ℕ) → (book H).check b g x 8 ≡ Ok tt → (machine H R).load c s x ≡ (book H).load b g x
  load_like x e = ap value (part_like H R w k c b r s g a x 8 (passed (outline b g) x 8 e))

  pub mark_like : (x : ℕ) → (book H).check b g x 8 ≡ Ok tt → Both (Alike w) ((machine H R).tag_at c s x) ((book H).tag_at b g x)
  mark_like x e = tag_like H R w k c b r s g a x 8 (passed (outline b g) x 8 e) refl

  pub loadb_like : (x : ℕ) → (book H).check b g x 1 ≡ Ok tt → (machine H R).loadb c s x ≡ (book H).loadb b g x
  loadb_like x e = ap (λ l. get_or l 0 0) (part_like H R w k c b r s g a x 1 (passed (outline b g) x 1 e))
