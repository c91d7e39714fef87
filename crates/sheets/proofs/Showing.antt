-- The stretches lie one after another, and the blocks among them are the living ones. Assumes nothing.
use Rattle.std.proofs.Common.{◌≡◌, ℕ, zero, suc, ◌+◌, ◌-◌, ◌*◌, ◌%◌, ◌<◌, ◌≤◌, Bool, true, false, cond, eqb, ltb, List, [], ◌∷◌, ◌++◌, Some, None, Option, sym, refl, ap, ◌∙◌, ⊎_elim, append_assoc, append-nil, arith}
use Rattle.std.proofs.lemmas.Bool.{cond-true, cond-false, ltb-false, eq-eqb, ne_eqb, cases_lt}
use Rattle.std.proofs.lemmas.Bool.Decides.{nat_tests}
use Rattle.heaps.specs.Points.{Laid}
use Rattle.sheets.specs.declared.stretch.Kind.TheVariants.{Block, Gap}
use Rattle.sheets.specs.declared.stretch.Stretch.{Stretch}
use Rattle.sheets.specs.Sheets.{starts_at, gap_to, size_at, found_at, end_after, stretches_from, stretches_of, Tiles, block_at, Shows}
use Rattle.sheets.proofs.Walking.{size_fits}

-- the stretches lie one after another
gap_tiles : (from to : ℕ) (rest : List Stretch) → from ≤ to → Tiles to rest → Tiles from (gap_to from to ++ rest)
gap_tiles from to rest h t = go (ltb from to) refl
  where
    go : (b : Bool) → ltb from to ≡ b → Tiles from (cond b (record { start = from; size = to - from; kind = Gap } ∷ []) [] ++ rest)
    go true e = (refl, let s : to ≡ from + (to - from) = omega arith in rw (← s) t)
    go false e = let s : to ≡ from = let l = ltb-false from to e in omega arith in rw (← s) t

tiles_from : (m : ℕ → Option ℕ) (k a from : ℕ) → a + 8 * k ≡ 4096 → from ≤ 4096 → Tiles from (stretches_from m k a from)
unfolding stretches_from
tiles_from m zero a from e h = rw (← append-nil (gap_to from 4096)) (gap_tiles from 4096 [] h refl)
tiles_from m (suc k) a from e h = go (λ end. tiles_from m k (a + 8) end (omega arith)) (starts_at m a from) refl
  where
    go : ((end : ℕ) → end ≤ 4096 → Tiles end (stretches_from m k (a + 8) end)) → (o : Option ℕ) → starts_at m a from ≡ o → Tiles from (found_at o a from ++ stretches_from m k (a + 8) (end_after o a from))
    go ih None s = ih from h
    go ih (Some b) s =
        let low : from ≤ a = grind (arith, nat_tests) in
        rw (append_assoc (gap_to from a)) (gap_tiles from a _ low (refl, ih (a + size_at a b) (size_fits b a (omega arith))))

-- a gap lists no block
gap_lists : (from to x : ℕ) (rest : List Stretch) → block_at (gap_to from to ++ rest) x ≡ block_at rest x
gap_lists from to x rest = go (ltb from to)
  where
    go : (t : Bool) → block_at (cond t (record { start = from; size = to - from; kind = Gap } ∷ []) [] ++ rest) x ≡ block_at rest x
    go true = refl
    go false = refl

-- what is listed at an address where a block is found, or later
found_lists : (h a from x : ℕ) (rest : List Stretch) → block_at (found_at (Some h) a from ++ rest) x ≡ cond (eqb a x) (Some (size_at a h)) (block_at rest x)
found_lists h a from x rest = ap (λ l. block_at l x) (append_assoc (gap_to from a) (record { start = a; size = size_at a h; kind = Block } ∷ []) rest) ∙ gap_lists from a x (record { start = a; size = size_at a h; kind = Block } ∷ rest)

-- a block that is found is living, and where none is found and nothing reaches so far none is
starts_some : (m : ℕ → Option ℕ) (a from h : ℕ) → starts_at m a from ≡ Some h → m a ≡ Some h
starts_some m a from h e = grind (arith, nat_tests)

starts_none : (m : ℕ → Option ℕ) (a from : ℕ) → starts_at m a from ≡ None → from ≤ a → m a ≡ None
starts_none m a from e low = grind (arith, nat_tests)

-- nothing is listed below where a walk goes on
lists_below : (m : ℕ → Option ℕ) (k a from x : ℕ) → x < a → block_at (stretches_from m k a from) x ≡ None
unfolding stretches_from
lists_below m zero a from x low = ap (λ l. block_at l x) (sym (append-nil (gap_to from 4096))) ∙ gap_lists from 4096 x []
lists_below m (suc k) a from x low = go (λ end. lists_below m k (a + 8) end x (omega arith)) (starts_at m a from)
  where
    go : ((end : ℕ) → block_at (stretches_from m k (a + 8) end) x ≡ None) → (o : Option ℕ) → block_at (found_at o a from ++ stretches_from m k (a + 8) (end_after o a from)) x ≡ None
    go ih None = ih from
    go ih (Some h) = found_lists h a from x _ ∙ cond-false _ (Some (size_at a h)) _ (ne_eqb a x (λ e. omega arith)) ∙ ih (a + size_at a h)

module _ (m : ℕ → Option ℕ) (l : Laid m) where
  -- no block starts off the multiples of eight, at the end or beyond
  off : (a x : ℕ) → a % 8 ≡ 0 → a < x → x < a + 8 → m x ≡ None
  off a x e low high = go (m x) refl
    where
      go : (o : Option ℕ) → m x ≡ o → m x ≡ None
      go None q = q
      go (Some h) q = let f = (l.fit x h q).even_start in absurd (omega arith)

  beyond : (x : ℕ) → 4096 ≤ x → m x ≡ None
  beyond x high = go (m x) refl
    where
      go : (o : Option ℕ) → m x ≡ o → m x ≡ None
      go None q = q
      go (Some h) q = let f = (l.fit x h q).inside in let s = (l.fit x h q).some in absurd (omega arith)

  -- nor inside another block
  within : (a h y : ℕ) → m a ≡ Some h → a < y → y < a + h → m y ≡ None
  within a h y q low high = go (m y) refl
    where
      go : (o : Option ℕ) → m y ≡ o → m y ≡ None
      go None e = e
      go (Some k) e = let d = l.apart a h y k q e (λ same. omega arith) in let s = (l.fit y k e).some in absurd (grind arith)

  -- a block's size is not cut
  uncut : (a h : ℕ) → m a ≡ Some h → size_at a h ≡ h
  uncut a h q = let f = (l.fit a h q).inside in grind arith

  -- what is found from an address on, where no block starts before the end of what was found: nothing below, and there and above the living blocks
  lists_from : (k a from : ℕ) → a + 8 * k ≡ 4096 → a % 8 ≡ 0 → ((y : ℕ) → a ≤ y → y < from → m y ≡ None) → (x : ℕ) → a ≤ x → block_at (stretches_from m k a from) x ≡ m x
  unfolding stretches_from
  lists_from zero a from e even clear x low = ap (λ l. block_at l x) (sym (append-nil (gap_to from 4096))) ∙ gap_lists from 4096 x [] ∙ sym (beyond x (omega arith))
  lists_from (suc k) a from e even clear x low = go (λ end free. lists_from k (a + 8) end (omega arith) (omega arith) free x) (starts_at m a from) refl
    where
      near : (end : ℕ) → a < x → x < a + 8 → block_at (stretches_from m k (a + 8) end) x ≡ m x
      near end some high = lists_below m k (a + 8) end x high ∙ sym (off a x even some high)

      here : starts_at m a from ≡ None → m a ≡ None
      here none = ⊎_elim (λ (h : a < from). clear a (omega arith) h) (λ (h : from ≤ a). starts_none m a from none h) (cases_lt a from)

      go : ((end : ℕ) → ((y : ℕ) → a + 8 ≤ y → y < end → m y ≡ None) → a + 8 ≤ x → block_at (stretches_from m k (a + 8) end) x ≡ m x) → (o : Option ℕ) → starts_at m a from ≡ o → block_at (found_at o a from ++ stretches_from m k (a + 8) (end_after o a from)) x ≡ m x
      go ih None q =
          ⊎_elim
          (λ (high : x < a + 8).
          ⊎_elim
          (λ (some : a < x). near from some high)
          (λ (same : x ≤ a). let is : a ≡ x = omega arith in lists_below m k (a + 8) from x high ∙ sym (here q) ∙ ap m is)
          (cases_lt a x))
          (λ (far : a + 8 ≤ x). ih from (λ y high. clear y (omega arith)) far)
          (cases_lt x (a + 8))
      go ih (Some h) q =
          let lives = starts_some m a from h q in
          let whole = uncut a h lives in
          found_lists h a from x _
          ∙ ⊎_elim
          (λ (some : a < x).
          cond-false _ (Some (size_at a h)) _ (ne_eqb a x (λ is. omega arith))
          ∙ ⊎_elim
          (λ (high : x < a + 8). near (a + size_at a h) some high)
          (λ (far : a + 8 ≤ x). ih (a + size_at a h) (λ y high end. within a h y lives (omega arith) (omega arith)) far)
          (cases_lt x (a + 8)))
          (λ (same : x ≤ a). let is : a ≡ x = omega arith in cond-true _ (Some (size_at a h)) _ (eq-eqb a x is) ∙ ap Some whole ∙ sym lives ∙ ap m is)
          (cases_lt a x)

pub stretches_show : (m : ℕ → Option ℕ) → Shows m (stretches_of m)
stretches_show m = record { tiles = tiles_from m 512 0 0 refl (omega arith); blocks = λ l x. lists_from m l 512 0 0 refl refl (λ y low high. absurd (omega arith)) x (omega arith) }
