-- Lives that a book's grants have, and how they change with one birth, one end, and a write. Assumes nothing.
use Rattle.std.proofs.Common.{◌≡◌, ℕ, suc, ◌+◌, ◌<◌, true, false, cond, eqb, ◌⊎◌, length, sym, refl, ap, ◌∙◌, inl, inr, arith}
use Rattle.std.proofs.lemmas.List.{length-set, length_push}
use Rattle.std.proofs.lemmas.Bool.{eq-eqb, ne_eqb, cases_eq}
use Rattle.model.specs.Grants.{Outline, over, living_frame, latest, count, bit}
use Rattle.model.specs.History.{Book, Grant, nth, outline, none, ended, enters, change, youngest}
use Rattle.model.specs.Lives.{Lives, with_birth, with_end, open_frames, youngest_frame}
use Rattle.model.proofs.Views.{upd, upd_same, upd_other, upd_by, get_set, get_push}
use Rattle.model.proofs.Counts.{count_suc, count_ext, count_upd}
use Rattle.model.proofs.Counts.{latest_ext, latest_passes}

-- lives that are those of a book with so many frames open
pub record Same {S : Type 0} (l : Lives) (b : Book S) (k : ℕ) : Type 0 where
  pub many : l.many ≡ length b.grants
  pub of : (g : ℕ) → l.of g ≡ outline b g
  pub opened : open_frames l ≡ k

module _ {S : Type 0} (l : Lives) (b : Book S) (k : ℕ) (A : Same l b k) where
  pub youngest_same : youngest_frame l ≡ youngest b
  youngest_same = latest_ext _ _ l.many (λ i. ap living_frame (A.of i)) ∙ ap (latest (λ g. living_frame (outline b g))) A.many

  pub same_born : (x : Grant) (o : Outline) → x.outline ≡ o → (j : ℕ) → bit (living_frame o) + k ≡ j → Same (with_birth l o) (enters b x) j
  same_born x o e j more = record {
    many = let m = A.many in let z = length_push b.grants x in omega arith;
    of = λ g. upd_by (λ z. z ≡ outline (enters b x) g) l.of l.many o g
        (λ q. sym (ap (λ (y : Grant). y.outline) (get_push b.grants x none g ∙ upd_same (λ i. nth b i) (length b.grants) x g (q ∙ A.many)) ∙ e))
        (λ q. A.of g ∙ sym (ap (λ (y : Grant). y.outline) (get_push b.grants x none g ∙ upd_other (λ i. nth b i) (length b.grants) x g (λ z. q (z ∙ sym A.many)))));
    opened = counted ∙ more;
  }
    where
      counted : count (λ g. living_frame (cond (eqb g l.many) o (l.of g))) (l.many + 1) ≡ bit (living_frame o) + k
      counted =
          let one : l.many + 1 ≡ suc l.many = omega arith in
          let old = count_ext (λ g. living_frame (cond (eqb g l.many) o (l.of g))) (λ g. living_frame (l.of g)) l.many (λ i lt. rw (ne_eqb i l.many (omega arith))) in
          rw one (count_suc (λ g. living_frame (cond (eqb g l.many) o (l.of g))) l.many ∙ rw (eq-eqb l.many l.many refl, old, A.opened))

  pub same_end : (g : ℕ) → g < length b.grants → (j : ℕ) → bit (living_frame (outline b g)) + j ≡ k → Same (with_end l g) (change b g (ended (nth b g))) j
  same_end g lt j e = record {
    many = A.many ∙ sym (length-set b.grants g (ended (nth b g)));
    of = λ h. go h (cases_eq h g);
    opened = counted;
  }
    where
      go : (h : ℕ) → (h ≡ g) ⊎ (h ≡ g → ⊥) → cond (eqb h g) (over (l.of h)) (l.of h) ≡ outline (change b g (ended (nth b g))) h
      go h (inl q) = rw (eq-eqb h g q) (ap over (A.of h ∙ ap (outline b) q) ∙ sym (ap (λ (y : Grant). y.outline) (get_set b.grants g (ended (nth b g)) none h lt ∙ upd_same (λ i. nth b i) g (ended (nth b g)) h q)))
      go h (inr q) = rw (ne_eqb h g q) (A.of h ∙ sym (ap (λ (y : Grant). y.outline) (get_set b.grants g (ended (nth b g)) none h lt ∙ upd_other (λ i. nth b i) g (ended (nth b g)) h q)))

      each : (h : ℕ) → (h ≡ g) ⊎ (h ≡ g → ⊥) → living_frame (cond (eqb h g) (over (l.of h)) (l.of h)) ≡ upd (λ i. living_frame (l.of i)) g false h
      each h (inl q) = rw (eq-eqb h g q)
      each h (inr q) = rw (ne_eqb h g q)

      counted : count (λ h. living_frame (cond (eqb h g) (over (l.of h)) (l.of h))) l.many ≡ j
      counted =
          let same = count_ext (λ h. living_frame (cond (eqb h g) (over (l.of h)) (l.of h))) (upd (λ i. living_frame (l.of i)) g false) l.many (λ i _. each i (cases_eq i g)) in
          let c = count_upd (λ i. living_frame (l.of i)) l.many g false (omega (arith, A.many)) in
          let o = A.opened in
          let f : bit (living_frame (l.of g)) ≡ bit (living_frame (outline b g)) = ap (λ (y : Outline). bit (living_frame y)) (A.of g) in
          same ∙ omega arith

  -- a write changes no outline
  pub same_write : (g : ℕ) (y : Grant) → g < length b.grants → y.outline ≡ outline b g → Same l (change b g y) k
  same_write g y lt e = record {
    many = A.many ∙ sym (length-set b.grants g y);
    of = λ h. A.of h ∙ go h (cases_eq h g);
    opened = A.opened;
  }
    where
      go : (h : ℕ) → (h ≡ g) ⊎ (h ≡ g → ⊥) → outline b h ≡ outline (change b g y) h
      go h (inl q) = ap (outline b) q ∙ (sym e ∙ sym (ap (λ (z : Grant). z.outline) (get_set b.grants g y none h lt ∙ upd_same (λ i. nth b i) g y h q)))
      go h (inr q) = sym (ap (λ (z : Grant). z.outline) (get_set b.grants g y none h lt ∙ upd_other (λ i. nth b i) g y h q))

  -- the youngest frame is a living one, where some are open
  pub youngest_lives : (j : ℕ) → k ≡ suc j → (living_frame (outline b (youngest b)) ≡ true) × (youngest b < length b.grants)
  youngest_lives j e =
      let o = A.opened in
      let z = latest_passes (λ g. living_frame (l.of g)) l.many (omega arith) in
      let y = youngest_same in
      let lt : youngest_frame l < l.many = z.1 in
      let f : living_frame (l.of (youngest_frame l)) ≡ true = z.0 in
      let m = A.many in
      (sym (ap living_frame (A.of (youngest b))) ∙ (ap (λ (i : ℕ). living_frame (l.of i)) (sym y) ∙ f), omega arith)
