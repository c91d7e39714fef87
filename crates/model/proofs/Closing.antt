-- A start ends every living frame of a book, and nothing else. Assumes nothing.
use Rattle.std.proofs.Common.{◌≡◌, ℕ, zero, suc, ◌<◌, ◌≤◌, Bool, true, false, cond, ◌⊎◌, length, set, sym, refl, ap, ◌∙◌, inl, inr, arith}
use Rattle.std.proofs.lemmas.List.{length-set, get_or_past}
use Rattle.std.proofs.lemmas.Bool.{and_parts, and_from, cases_eq, cases_lt, true≢false}
use Rattle.heaps.specs.Rule.{HeapRule}
use Rattle.model.specs.Sheet.{close, leaves, depth}
use Rattle.model.specs.Grants.{is_frame, Outline, over, living_frame, count, bit}
use Rattle.model.specs.History.{Book, Grant, nth, outline, book, none, ended, change, youngest, OfBook}
use Rattle.model.specs.Lives.{Lives, without_frames}
use Rattle.model.proofs.Views.{upd, upd_same, upd_other, get_set}
use Rattle.model.proofs.Counts.{count_ext, count_upd}
use Rattle.model.proofs.Counts.{latest_passes, count_zero}
use Rattle.model.proofs.Living.{Same}

-- while frames close, each grant is as the lives have it, or ended and a frame
record Closing {S : Type 0} (l : Lives) (b : Book S) (k : ℕ) : Type 0 where
  many : l.many ≡ length b.grants
  of : (g : ℕ) → (outline b g ≡ l.of g) ⊎ ((outline b g ≡ over (l.of g)) × (is_frame (l.of g).kind ≡ true))
  counted : count (λ g. living_frame (outline b g)) (length b.grants) ≡ k

module _ {S : Type 0} (l : Lives) where
  -- the youngest living frame ends
  closing_more : (b : Book S) (k : ℕ) → Closing l b (suc k) → Closing l (change b (youngest b) (ended (nth b (youngest b)))) k
  closing_more b k C = record {
    many = C.many ∙ sym (length-set b.grants (youngest b) (ended (nth b (youngest b))));
    of = λ h. go h (cases_eq h (youngest b)) (C.of h);
    counted = less;
  }
    where
      young : (living_frame (outline b (youngest b)) ≡ true) × (youngest b < length b.grants)
      young = let c = C.counted in latest_passes (λ g. living_frame (outline b g)) (length b.grants) (omega arith)

      at : (h : ℕ) → nth (change b (youngest b) (ended (nth b (youngest b)))) h ≡ upd (λ i. nth b i) (youngest b) (ended (nth b (youngest b))) h
      at h = get_set b.grants (youngest b) (ended (nth b (youngest b))) none h young.1

      new : (h : ℕ) → h ≡ youngest b → outline (change b (youngest b) (ended (nth b (youngest b)))) h ≡ over (outline b (youngest b))
      new h q = ap (λ (y : Grant). y.outline) (at h ∙ upd_same (λ i. nth b i) (youngest b) (ended (nth b (youngest b))) h q)

      old : (h : ℕ) → (h ≡ youngest b → ⊥) → outline (change b (youngest b) (ended (nth b (youngest b)))) h ≡ outline b h
      old h q = ap (λ (y : Grant). y.outline) (at h ∙ upd_other (λ i. nth b i) (youngest b) (ended (nth b (youngest b))) h q)

      living : ((outline b (youngest b)).living ≡ true) × (is_frame (outline b (youngest b)).kind ≡ true)
      living = and_parts (outline b (youngest b)).living (is_frame (outline b (youngest b)).kind) young.0

      go : (h : ℕ) → (h ≡ youngest b) ⊎ (h ≡ youngest b → ⊥) → (outline b h ≡ l.of h) ⊎ ((outline b h ≡ over (l.of h)) × (is_frame (l.of h).kind ≡ true)) →
          (outline (change b (youngest b) (ended (nth b (youngest b)))) h ≡ l.of h) ⊎ ((outline (change b (youngest b) (ended (nth b (youngest b)))) h ≡ over (l.of h)) × (is_frame (l.of h).kind ≡ true))
      go h (inr q) (inl e) = inl (old h q ∙ e)
      go h (inr q) (inr e) = inr (old h q ∙ e.0, e.1)
      go h (inl q) (inl e) =
          let same : outline b (youngest b) ≡ l.of h = ap (outline b) (sym q) ∙ e in
          inr (new h q ∙ ap over same, ap (λ (o : Outline). is_frame o.kind) (sym same) ∙ living.1)
      go h (inl q) (inr e) = absurd (true≢false (sym living.0 ∙ (ap (λ (i : ℕ). (outline b i).living) (sym q) ∙ ap (λ (o : Outline). o.living) e.0)))

      each : (h : ℕ) → (h ≡ youngest b) ⊎ (h ≡ youngest b → ⊥) → living_frame (outline (change b (youngest b) (ended (nth b (youngest b)))) h) ≡ upd (λ i. living_frame (outline b i)) (youngest b) false h
      each h (inl q) = ap living_frame (new h q) ∙ sym (upd_same (λ i. living_frame (outline b i)) (youngest b) false h q)
      each h (inr q) = ap living_frame (old h q) ∙ sym (upd_other (λ i. living_frame (outline b i)) (youngest b) false h q)

      less : count (λ g. living_frame (outline (change b (youngest b) (ended (nth b (youngest b)))) g)) (length (set b.grants (youngest b) (ended (nth b (youngest b))))) ≡ k
      less =
          let long = length-set b.grants (youngest b) (ended (nth b (youngest b))) in
          let same = count_ext (λ g. living_frame (outline (change b (youngest b) (ended (nth b (youngest b)))) g)) (upd (λ i. living_frame (outline b i)) (youngest b) false) (length b.grants) (λ i _. each i (cases_eq i (youngest b))) in
          let c = count_upd (λ i. living_frame (outline b i)) (length b.grants) (youngest b) false young.1 in
          let f : bit (living_frame (outline b (youngest b))) ≡ 1 = ap bit young.0 in
          let d = C.counted in
          ap (count (λ g. living_frame (outline (change b (youngest b) (ended (nth b (youngest b)))) g))) long ∙ (same ∙ omega arith)

  -- where none is left open, every frame has ended
  closing_all : (b : Book S) → Closing l b 0 → Same (without_frames l) b 0
  closing_all b C = record { many = C.many; of = of; opened = none_open }
    where
      dead : (o : Outline) → o.living ≡ false → over o ≡ o
      dead o e = λ i. record { kind = o.kind; start = o.start; asked = o.asked; held = o.held; living = sym e i }

      idle : (g : ℕ) → living_frame (outline b g) ≡ false
      idle g = go (cases_lt g (length b.grants))
        where
          go : (g < length b.grants) ⊎ (length b.grants ≤ g) → living_frame (outline b g) ≡ false
          go (inl lt) = count_zero (λ i. living_frame (outline b i)) (length b.grants) C.counted g lt
          go (inr ge) = ap (λ (y : Grant). living_frame y.outline) (get_or_past b.grants g none ge)

      ended_frame : (o : Outline) → living_frame o ≡ false → is_frame o.kind ≡ true → o.living ≡ false
      ended_frame o e f = go o.living refl
        where
          go : (v : Bool) → o.living ≡ v → o.living ≡ false
          go false q = q
          go true q = absurd (true≢false (sym (and_from o.living (is_frame o.kind) q f) ∙ e))

      of : (g : ℕ) → cond (is_frame (l.of g).kind) (over (l.of g)) (l.of g) ≡ outline b g
      of g = go (C.of g) (is_frame (l.of g).kind) refl
        where
          go : (outline b g ≡ l.of g) ⊎ ((outline b g ≡ over (l.of g)) × (is_frame (l.of g).kind ≡ true)) → (f : Bool) → is_frame (l.of g).kind ≡ f → cond f (over (l.of g)) (l.of g) ≡ outline b g
          go (inr e) true f = sym e.0
          go (inr e) false f = absurd (true≢false (sym e.1 ∙ f))
          go (inl e) false f = sym e
          go (inl e) true f = dead (l.of g) (ended_frame (l.of g) (ap living_frame (sym e) ∙ idle g) f) ∙ sym e

      none_open : count (λ g. living_frame (cond (is_frame (l.of g).kind) (over (l.of g)) (l.of g))) l.many ≡ 0
      none_open =
          let same = count_ext (λ g. living_frame (cond (is_frame (l.of g).kind) (over (l.of g)) (l.of g))) (λ g. living_frame (outline b g)) l.many (λ i _. ap living_frame (of i)) in
          same ∙ (ap (count (λ g. living_frame (outline b g))) C.many ∙ C.counted)

module _ (H : HeapRule) where
  closes : (l : Lives) (k : ℕ) (b : Book H.State) → Closing l b k → Closing l (leaves (book H) k b) 0
  closes l zero b C = C
  closes l (suc k) b C = closes l k ((book H).leave b k) (closing_more l b k C)

  -- a start
  pub close_lives : (l : Lives) (m : OfBook H) → Same l m.store (depth m) → Same (without_frames l) (close (book H) m).store 0
  close_lives l m A = closing_all l _ (closes l (depth m) m.store (record {
    many = A.many;
    of = λ g. inl (sym (A.of g));
    counted = sym (count_ext (λ g. living_frame (l.of g)) (λ g. living_frame (outline m.store g)) (length m.store.grants) (λ i _. ap living_frame (A.of i))) ∙ (ap (count (λ g. living_frame (l.of g))) (sym A.many) ∙ A.opened);
  }))
