-- The walk over a heap's addresses finds its stretches. Assumes nothing.
use Rattle.std.proofs.Common.{◌≡◌, ℕ, suc, ◌+◌, ◌-◌, ◌/◌, ◌%◌, ◌<◌, ◌≤◌, Bool, true, false, cond, ltb, List, [], ◌∷◌, ◌++◌, Some, None, Option, sym, refl, ap, ◌∙◌, append_assoc, add_assoc, zero-add, arith}
use Rattle.std.proofs.lemmas.Bool.Decides.{nat_tests}
use Rattle.sheets.specs.declared.stretch.Kind.TheVariants.{Block, Gap}
use Rattle.sheets.specs.declared.stretch.Stretch.{Stretch}
use Rattle.sheets.specs.Sheets.{is_block, starts_at, gap_to, size_at, found_at, end_after, stretches_from, stretches_of, blocks_in, held_in}

-- the counts of two lists together
blocks_append : (xs ys : List Stretch) → blocks_in (xs ++ ys) ≡ blocks_in xs + blocks_in ys
blocks_append [] ys = sym (zero-add (blocks_in ys))
blocks_append (x ∷ xs) ys = ap (λ n. cond (is_block x.kind) 1 0 + n) (blocks_append xs ys) ∙ sym (add_assoc (cond (is_block x.kind) 1 0) (blocks_in xs) (blocks_in ys))

held_append : (xs ys : List Stretch) → held_in (xs ++ ys) ≡ held_in xs + held_in ys
held_append [] ys = sym (zero-add (held_in ys))
held_append (x ∷ xs) ys = ap (λ n. cond (is_block x.kind) x.size 0 + n) (held_append xs ys) ∙ sym (add_assoc (cond (is_block x.kind) x.size 0) (held_in xs) (held_in ys))

-- a gap counts nothing, and a block itself
gap_counts : (from to : ℕ) → (blocks_in (gap_to from to) ≡ 0) × (held_in (gap_to from to) ≡ 0)
gap_counts from to = go (ltb from to)
  where
    go : (t : Bool) → (blocks_in (cond t (record { start = from; size = to - from; kind = Gap } ∷ []) []) ≡ 0) × (held_in (cond t (record { start = from; size = to - from; kind = Gap } ∷ []) []) ≡ 0)
    go true = (refl, refl)
    go false = (refl, refl)

found_blocks : (h a from : ℕ) → blocks_in (found_at (Some h) a from) ≡ 1
found_blocks h a from = let e = blocks_append (gap_to from a) (record { start = a; size = size_at a h; kind = Block } ∷ []) in let g = (gap_counts from a).0 in omega arith

found_held : (h a from : ℕ) → held_in (found_at (Some h) a from) ≡ size_at a h
found_held h a from = let e = held_append (gap_to from a) (record { start = a; size = size_at a h; kind = Block } ∷ []) in let g = (gap_counts from a).1 in omega arith

pub size_fits : (h a : ℕ) → a ≤ 4096 → a + size_at a h ≤ 4096
size_fits h a fits = grind arith

-- how many addresses are still to be looked at
abbrev left_from : ℕ → ℕ
left_from a = (4096 - a) / 8

-- one address more
walk_more : (m : ℕ → Option ℕ) (a from : ℕ) → a % 8 ≡ 0 → a < 4096 → stretches_from m (left_from a) a from ≡ found_at (starts_at m a from) a from ++ stretches_from m (left_from (a + 8)) (a + 8) (end_after (starts_at m a from) a from)
unfolding stretches_from
walk_more m a from even h =
    let e : left_from a ≡ suc (left_from (a + 8)) = omega arith in
    ap (λ k. stretches_from m k a from) e

-- what holds before each address: what is found, with what is left, is the whole; and the counts are right
pub record Walked (m : ℕ → Option ℕ) (list : List Stretch) (a from blocks held : ℕ) : Type 0 where
  pub even : a % 8 ≡ 0
  pub within : a ≤ 4096
  pub inside : from ≤ 4096
  pub whole : list ++ stretches_from m (left_from a) a from ≡ stretches_of m
  pub count : blocks ≡ blocks_in list
  pub few : blocks ≤ a
  pub bytes : held ≡ held_in list
  pub most : held ≤ from

pub walk_starts : (m : ℕ → Option ℕ) → Walked m [] 0 0 0 0
walk_starts m = record { even = refl; within = omega arith; inside = omega arith; whole = refl; count = refl; few = omega arith; bytes = refl; most = omega arith }

module _ (m : ℕ → Option ℕ) (list : List Stretch) (a from blocks held : ℕ) (w : Walked m list a from blocks held) (h : a < 4096) where
  pub walk_past : None ≡ starts_at m a from → Walked m list (a + 8) from blocks held
  walk_past none = record {
    even = omega (arith, w.even);
    within = omega (arith, w.even);
    inside = w.inside;
    whole = sym (ap (λ l. list ++ l) (walk_more m a from w.even h ∙ ap (λ o. found_at o a from ++ stretches_from m (left_from (a + 8)) (a + 8) (end_after o a from)) (sym none))) ∙ w.whole;
    count = w.count;
    few = omega (arith, w.few);
    bytes = w.bytes;
    most = w.most;
  }

  pub walk_adds : (bytes end : ℕ) (after : List Stretch) → Some bytes ≡ starts_at m a from → end ≡ end_after (Some bytes) a from → after ≡ list ++ found_at (Some bytes) a from → Walked m after (a + 8) end (blocks + 1) (held + (end - a))
  walk_adds bytes end after some is found =
      let low : from ≤ a = grind (arith, nat_tests) in
      let size = size_fits bytes a (omega arith) in
      let more = ap blocks_in found ∙ blocks_append list (found_at (Some bytes) a from) in
      let one = found_blocks bytes a from in
      let larger = ap held_in found ∙ held_append list (found_at (Some bytes) a from) in
      let its = found_held bytes a from in
      record {
        even = omega (arith, w.even);
        within = omega (arith, w.even);
        inside = omega arith;
        whole =
            ap (λ l. l ++ stretches_from m (left_from (a + 8)) (a + 8) end) found
            ∙ append_assoc list (found_at (Some bytes) a from) _
            ∙ ap (λ e. list ++ (found_at (Some bytes) a from ++ stretches_from m (left_from (a + 8)) (a + 8) e)) is
            ∙ sym (ap (λ l. list ++ l) (walk_more m a from w.even h ∙ ap (λ o. found_at o a from ++ stretches_from m (left_from (a + 8)) (a + 8) (end_after o a from)) (sym some)))
            ∙ w.whole;
        count = omega (arith, w.count);
        few = omega (arith, w.few);
        bytes = omega (arith, w.bytes);
        most = omega (arith, w.most);
      }

-- after the last address comes the last gap
pub walk_ends : (m : ℕ → Option ℕ) (list : List Stretch) (a from blocks held : ℕ) → Walked m list a from blocks held → 4096 ≤ a → (after : List Stretch) → after ≡ list ++ gap_to from 4096 → (after ≡ stretches_of m) × (blocks ≡ blocks_in (stretches_of m)) × (held ≡ held_in (stretches_of m))
unfolding stretches_from
walk_ends m list a from blocks held w last after e =
    let none : 0 ≡ left_from a = omega arith in
    let all : after ≡ stretches_of m = e ∙ ap (λ k. list ++ stretches_from m k a from) none ∙ w.whole in
    let b = sym (ap blocks_in all) ∙ ap blocks_in e ∙ blocks_append list (gap_to from 4096) in
    let h = sym (ap held_in all) ∙ ap held_in e ∙ held_append list (gap_to from 4096) in
    let g = gap_counts from 4096 in
    (all, omega (arith, w.count), omega (arith, w.bytes))
