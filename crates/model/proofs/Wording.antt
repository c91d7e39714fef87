-- The book's checks, loads and grabs, in the words of the promise. Assumes nothing.
use Rattle.std.proofs.Common.{◌≡◌, ◌↔◌, ℕ, zero, suc, ◌+◌, ◌-◌, ◌%◌, ◌<◌, ◌≤◌, Bool, true, false, eqb, ◌⊎◌, List, length, get_or, set, is_some, Some, None, Option, sym, refl, ap, ◌∙◌, subst, inl, inr, is_ok, arith, Ok, Result}
use Rattle.faults.specs.declared.cause.Cause.{Cause}
use Rattle.std.proofs.lemmas.Bool.{and_parts, le-leb, lt-ltb, eq-eqb, eqb-true}
use Rattle.heaps.specs.Rule.{Block, HeapRule}
use Rattle.heaps.specs.Points.{Points, Apart}
use Rattle.racks.specs.Rule.{RackRule}
use Rattle.racks.specs.Points.{RackPoints}
use Rattle.model.specs.Sheet.{Named, name, access, released}
use Rattle.model.specs.Parts.{value, part}
use Rattle.model.specs.declared.sidecar.Sidecar.{Sidecar}
use Rattle.model.specs.Machine.{Core, machine, faults, within}
use Rattle.model.specs.Machine
use Rattle.model.specs.Grants.{Outline, is_block, living_block, count}
use Rattle.model.specs.History.{Book, nth, outline, book, blocks, OfBook}
use Rattle.model.specs.Sights.{Wrote, newest}
use Rattle.model.specs.Lives.{Lives}
use Rattle.model.specs.Promise.{Reaches, Endable, Clear, living_blocks, last_stored}
use Rattle.model.proofs.Sheeting.{Both}
use Rattle.model.proofs.Access.{passed}
use Rattle.model.proofs.Checked.{accessed, freed}
use Rattle.model.proofs.Recording.{Tells}
use Rattle.model.proofs.Living.{Same}
use Rattle.model.proofs.Counts.{count_ext}
use Rattle.model.proofs.OneKind.{block_is}

-- the book's checks in words
module _ {S : Type 0} (b : Book S) (g x n : ℕ) where
  abbrev tested : Result Unit Cause
  tested = faults (outline b g).living (within (outline b g).start ((outline b g).start + (outline b g).asked) x n) (eqb (x % n) 0)

  even_of : (u v w : Bool) → faults u v w ≡ Ok tt → w ≡ true
  even_of false v w h = cc
  even_of true false w h = cc
  even_of true true false h = cc
  even_of true true true h = refl

  reaches : tested ≡ Ok tt → Reaches (outline b g) x n
  reaches h =
      let p = passed (outline b g) x n h in
      record {
        living = p.living;
        low = p.low;
        high = p.high;
        even = λ e. let z = eqb-true (x % n) 0 (even_of (outline b g).living _ _ h) in rw e at z;
      }

  reached : (n ≡ 8) ⊎ (n ≡ 1) → Reaches (outline b g) x n → tested ≡ Ok tt
  reached k r =
      let low = r.low in
      let high = r.high in
      rw (r.living, le-leb (outline b g).start x low, le-leb (x + n) ((outline b g).start + (outline b g).asked) high, eq-eqb (x % n) 0 (go k))
    where
      go : (n ≡ 8) ⊎ (n ≡ 1) → x % n ≡ 0
      go (inl e) = let z = r.even e in rw e z
      go (inr e) = rw e (omega arith)

module _ (H : HeapRule) (R : RackRule) (P : Points H) (Q : RackPoints R) where
  pub access_iff : (m : OfBook H) (t : Option ℕ) (x n : ℕ) (k : (n ≡ 8) ⊎ (n ≡ 1)) (f : ℕ → (OfBook H)) → (is_ok (access (book H) m t x n f).way ≡ true) ↔ ((g : ℕ) × (t ≡ Some g) × Reaches (outline m.store g) x n)
  access_iff m t x n k f = (accessed (book H) m (λ t d. is_ok d.way ≡ true → (g : ℕ) × (t ≡ Some g) × Reaches (outline m.store g) x n) (λ _ _ h. cc) t x n f (λ g e _. (g, refl, reaches m.store g x n e)), back)
    where
      back : (g : ℕ) × (t ≡ Some g) × Reaches (outline m.store g) x n → is_ok (access (book H) m t x n f).way ≡ true
      back h = rw (h.1, reached m.store h.0 x n k h.2)

  pub release_iff : (m : OfBook H) (t : Option ℕ) (x : ℕ) → (is_ok (released (book H) m t x).way ≡ true) ↔ ((g : ℕ) × (t ≡ Some g) × Endable (outline m.store g))
  release_iff m t x = (freed H m (λ t d. is_ok d.way ≡ true → (g : ℕ) × (t ≡ Some g) × Endable (outline m.store g)) (λ _ _ h. cc) t x (λ g e f _. (g, refl, record { living = e; heaps = block_is _ f })), back)
    where
      back : (g : ℕ) × (t ≡ Some g) × Endable (outline m.store g) → is_ok (released (book H) m t x).way ≡ true
      back h = rw (h.1, h.2.living, h.2.heaps)

  -- what a load brings, in the book
  part_tells : (l : List Wrote) (g s : ℕ) (m : List ℕ) → ((i : ℕ) → get_or m i 0 ≡ newest l g (s + i)) → (k i x : ℕ) → s + i ≡ x → part 0 k m i ≡ last_stored l g k x
  part_tells l g s m h zero i x e = refl
  part_tells l g s m h (suc k) i x e = rw (h i, e, part_tells l g s m h k (suc i) (suc x) (omega arith))

  module _ (l : List Wrote) (m : OfBook H) (T : Tells H P l m.store) (d x g : ℕ) where
    pub loaded : (t : Option ℕ) (u : ℕ → Option ℕ) → t ≡ Some g → is_ok (access (book H) m t x 8 (λ i. name m d ((book H).load m.store i x) (u i))).way ≡ true →
        (access (book H) m t x 8 (λ i. name m d ((book H).load m.store i x) (u i))).after.common.words ≡ set m.common.words d (value (last_stored l g 8 x))
    loaded t u e h = accessed (book H) m (λ t o. t ≡ Some g → is_ok o.way ≡ true → o.after.common.words ≡ set m.common.words d (value (last_stored l g 8 x))) (λ _ _ _ h. cc) t x 8 _ go e h
      where
        go : (i : ℕ) → (book H).check m.store i x 8 ≡ Ok tt → Some i ≡ Some g → true ≡ true → set m.common.words d ((book H).load m.store i x) ≡ set m.common.words d (value (last_stored l g 8 x))
        go i q e h =
            let z : i ≡ g = cc in
            let low = (reaches m.store i x 8 q).low in
            rw (← z) (ap (λ v. set m.common.words d (value v)) (part_tells l i (outline m.store i).start (nth m.store i).bytes (λ y. T.tells i y) 8 (x - (outline m.store i).start) x (omega arith)))

    pub loadedb : (t : Option ℕ) → t ≡ Some g → is_ok (access (book H) m t x 1 (λ i. name m d ((book H).loadb m.store i x) None)).way ≡ true →
        (access (book H) m t x 1 (λ i. name m d ((book H).loadb m.store i x) None)).after.common.words ≡ set m.common.words d (newest l g x)
    loadedb t e h = accessed (book H) m (λ t o. t ≡ Some g → is_ok o.way ≡ true → o.after.common.words ≡ set m.common.words d (newest l g x)) (λ _ _ _ h. cc) t x 1 _ go e h
      where
        go : (i : ℕ) → (book H).check m.store i x 1 ≡ Ok tt → Some i ≡ Some g → true ≡ true → set m.common.words d ((book H).loadb m.store i x) ≡ set m.common.words d (newest l g x)
        go i q e h =
            let z : i ≡ g = cc in
            let low = (reaches m.store i x 1 q).low in
            let y : (outline m.store i).start + (x - (outline m.store i).start) ≡ x = omega arith in
            let v = T.tells i (x - (outline m.store i).start) in
            let v' : get_or (nth m.store i).bytes (x - (outline m.store i).start) 0 ≡ newest l i x = rw y at v in
            rw (← z, v')

  pub named : (c : Core H.State R.State) (n : ℕ) (z : Named Sidecar) → ((machine H R).grab c n).block ≡ Some z → (z.start ≡ z.tag.base) × (z.tag.bound ≡ z.tag.base + n) × (z.tag.key ≡ c.issued + 1)
  named c n z h = go (H.take c.heap n).answer h
    where
      by : (x : Block) (r : Option ℕ) → (Machine.drawn H R c n x (H.take c.heap n).after r (R.draw c.rack).after).block ≡ Some z → (z.start ≡ z.tag.base) × (z.tag.bound ≡ z.tag.base + n) × (z.tag.key ≡ c.issued + 1)
      by x None h = (cc, cc, cc)
      by x (Some p) h =
          let e : record { start = 1024 + x.start; tag = Machine.side (1024 + x.start) n (c.issued + 1) p } ≡ z = cc in
          subst (λ (y : Named Sidecar). (y.start ≡ y.tag.base) × (y.tag.bound ≡ y.tag.base + n) × (y.tag.key ≡ c.issued + 1)) e (refl, refl, refl)

      go : (r : Option Block) → (Machine.taken H R c n r (H.take c.heap n).after).block ≡ Some z → (z.start ≡ z.tag.base) × (z.tag.bound ≡ z.tag.base + n) × (z.tag.key ≡ c.issued + 1)
      go None h = (cc, cc, cc)
      go (Some x) h = by x (R.draw c.rack).answer h

  beyond : (x h y : ℕ) → 1024 ≤ y → Apart (1024 + x) h y 512 → Apart x h (y - 1024) 512
  beyond x h y l (inl a) = inl (omega arith)
  beyond x h y l (inr a) = inr (omega arith)

  some_of : {X : Type 0} (o : Option X) → is_some o ≡ true → (x : X) × (o ≡ Some x)
  some_of None h = cc
  some_of (Some x) h = (x, refl)

  roomy : (b : Book H.State) (n : ℕ) → blocks b < 255 → (x : Block) → (H.take b.heap n).answer ≡ Some x → ((book H).grab b n).block ≡ Some (record { start = 1024 + x.start; tag = length b.grants })
  roomy b n few x e = rw (e, lt-ltb (blocks b) 255 few)

  -- where the lives of a book leave 512 bytes clear, and fewer than 255 blocks live
  pub book_grabs : (w : List Wrote) (L : Lives) (b : Book H.State) (k : ℕ) → Tells H P w b → Same L b k → (n y : ℕ) → 1 ≤ n → n ≤ 256 → living_blocks L < 255 → Clear L y → (z : Named ℕ) × (((book H).grab b n).block ≡ Some z)
  book_grabs w L b k T A n y lo hi few C =
      let low = C.low in
      let high = C.high in
      let free : (x h : ℕ) → H.held b.heap x ≡ Some h → Apart x h (y - 1024) 512 = λ x h e.
      let o = T.owned x h e in
      let g = o.0 in
      let v = and_parts (outline b g).living (is_block (outline b g).kind) o.1 in
      let end : Endable (L.of g) = subst Endable (sym (A.of g)) (record { living = v.0; heaps = block_is _ v.1 }) in
      let a = C.clear g end in
      let a' : Apart (outline b g).start (outline b g).held y 512 = subst (λ (q : Outline). Apart q.start q.held y 512) (A.of g) a in
      beyond x h y low (subst (λ u. Apart (1024 + x) u y 512) o.3 (subst (λ u. Apart u (outline b g).held y 512) o.2 a')) in
      let must = ((P.keeps b.heap T.sound).takes n).must lo hi (y - 1024) (omega arith) free in
      let s = some_of (H.take b.heap n).answer must in
      let same : living_blocks L ≡ blocks b = count_ext (λ g. living_block (L.of g)) (λ g. living_block (outline b g)) L.many (λ i _. ap living_block (A.of i)) ∙ ap (count (λ g. living_block (outline b g))) A.many in
      (record { start = 1024 + s.0.start; tag = length b.grants }, roomy b n (omega arith) s.0 s.1)

  pub both_some : {X Y : Type 0} (A : X → Y → Type 0) (o : Option X) (y : Y) → Both A o (Some y) → (x : X) × (o ≡ Some x)
  both_some A None y h = absurd h
  both_some A (Some x) y h = (x, refl)
