-- The rule of the best-fit heap. Assumes nothing.
-- Its state is 512 cells, one for each eight bytes: how many eights the block that starts there holds, or 0.
use Rattle.std.specs.Prelude.{ℕ, zero, suc, ◌+◌, ◌-◌, ◌*◌, ◌/◌, ◌%◌, Bool, true, false, cond, ◌&&◌, ◌||◌, List, [], ◌∷◌, replicate, Some, None, Option, ◌==◌, nat_le, nat_lt, slice_index, slice_set}
use Rattle.heaps.specs.Rule.{HeapRule, Taken, Given}
use Rattle.best_fit.specs.declared.gap.Gap.{Gap}

-- whether the gap g is used before the gap h: the smaller one, of equal gaps the lower
abbrev pub before : Gap → Gap → Bool
before g h = nat_lt g.size h.size || (g.size == h.size && nat_lt g.start h.start)

-- the cells from low up to at
abbrev pub gap : ℕ → ℕ → Gap
gap low at = record { start = low; size = at - low }

-- whether the gap g is used before the best one so far, if one is found yet
abbrev pub improves : Gap → Option Gap → Bool
improves g None = true
improves g (Some h) = before g h

-- the better of the best gap so far and the stretch from low up to at, if that suffices
abbrev pub better : ℕ → Option Gap → ℕ → ℕ → Option Gap
better need best low at = cond (nat_le need (at - low) && improves (gap low at) best) (Some (gap low at)) best

-- the best gap, where the cells from at on are still to be seen, the first of them inside the last block, which ends at low
unfoldable pub best_of : ℕ → Option Gap → ℕ → ℕ → ℕ → List ℕ → Option Gap
best_of need best low at inner [] = better need best low 512
best_of need best low at (suc inner) (c ∷ cs) = best_of need best low (at + 1) inner cs
best_of need best low at zero (zero ∷ cs) = best_of need best low (at + 1) zero cs
best_of need best low at zero (suc c ∷ cs) = best_of need (better need best low at) (at + suc c) (at + 1) c cs

-- how many cells n bytes need
abbrev pub cells_for : ℕ → ℕ
cells_for n = (n + 7) / 8

-- whether a living block starts at x
abbrev pub starts : List ℕ → ℕ → Bool
starts s x = x % 8 == 0 && nat_lt 0 (slice_index s (x / 8))

-- the cell of the living block that starts at x
abbrev pub cell_at : List ℕ → ℕ → Option ℕ
cell_at s x = cond (starts s x) (Some (x / 8)) None

abbrev pub best_fit_held : List ℕ → ℕ → Option ℕ
best_fit_held s x = cond (starts s x) (Some (8 * slice_index s (x / 8))) None

abbrev pub refused : List ℕ → Taken (List ℕ)
refused s = record { answer = None; after = s }

-- a block of so many cells at the low end of the gap found, if one was
abbrev pub placed : List ℕ → ℕ → Option Gap → Taken (List ℕ)
placed s need (Some g) = record { answer = Some (record { start = 8 * g.start; held = 8 * need }); after = slice_set s g.start need }
placed s need None = refused s

abbrev pub best_fit_take : List ℕ → ℕ → Taken (List ℕ)
best_fit_take s n = cond (nat_le 1 n && nat_le n 4096) (placed s (cells_for n) (best_of (cells_for n) None 0 0 0 s)) (refused s)

abbrev pub given : List ℕ → ℕ → Bool → Given (List ℕ)
given s x true = record { answer = true; after = slice_set s (x / 8) 0 }
given s x false = record { answer = false; after = s }

abbrev pub best_fit_give : List ℕ → ℕ → Given (List ℕ)
best_fit_give s x = given s x (starts s x)

abbrev pub cleared : List ℕ
cleared = replicate 512 0

abbrev pub best_fit_rule : HeapRule
best_fit_rule = record {
  State = List ℕ;
  held = best_fit_held;
  take = best_fit_take;
  give = best_fit_give;
  clear = λ _. cleared;
}
