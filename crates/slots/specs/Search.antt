-- The search for a free slot: its turns, what it finds, and what it has passed. Assumes nothing.
use Rattle.std.specs.Prelude.{◌≡◌, ℕ, zero, suc, ◌+◌, ◌-◌, ◌%◌, ◌<◌, Bool, true, false, cond, List, get_or, Some, None, slice_index_or, refl}
use Rattle.std.proofs.Common.{sym, subst, arith}
use Rattle.heaps.proofs.Laying.{some_none}
use Rattle.slots.specs.Rule.{first_free}

-- one turn of the search, and its end
pub first_more : (t : List Bool) (k i : ℕ) → 0 < k → first_free t k i ≡ cond (slice_index_or t i false) (first_free t (k - 1) ((i + 1) % 16)) (Some i)
unfolding first_free
first_more t zero i h = absurd (omega arith)
first_more t (suc k) i h = let e : suc k - 1 ≡ k = omega arith in rw e

pub first_none : (t : List Bool) (k i : ℕ) → k ≡ 0 → first_free t k i ≡ None
unfolding first_free
first_none t zero i h = refl
first_none t (suc k) i h = absurd (omega arith)

-- the slot j is found d turns after the slot i
pub record Found (t : List Bool) (k i j : ℕ) : Type 0 where
  pub turns : ℕ
  pub few : turns < k
  pub is : j ≡ (i + turns) % 16
  pub free : get_or t j false ≡ false
  pub passed : (e : ℕ) → e < turns → slice_index_or t ((i + e) % 16) false ≡ true

pub found : (t : List Bool) (k i j : ℕ) → i < 16 → first_free t k i ≡ Some j → Found t k i j
unfolding first_free
found t zero i j h e = some_none (sym e)
found t (suc k) i j h e = go (slice_index_or t i false) refl e (found t k ((i + 1) % 16) j (omega arith))
  where
    go : (b : Bool) → slice_index_or t i false ≡ b → cond b (first_free t k ((i + 1) % 16)) (Some i) ≡ Some j → (first_free t k ((i + 1) % 16) ≡ Some j → Found t k ((i + 1) % 16) j) → Found t (suc k) i j
    go true p e more =
        let m = more e in
        record {
          turns = suc m.turns;
          few = let f = m.few in omega arith;
          is = let f = m.is in omega arith;
          free = m.free;
          passed = λ d lt. earlier m.turns m.passed d lt;
        }
      where
        earlier : (n : ℕ) → ((e : ℕ) → e < n → slice_index_or t (((i + 1) % 16 + e) % 16) false ≡ true) → (d : ℕ) → d < suc n → slice_index_or t ((i + d) % 16) false ≡ true
        earlier n all zero lt = let same : (i + 0) % 16 ≡ i = omega arith in rw same p
        earlier n all (suc d) lt = let same : (i + suc d) % 16 ≡ ((i + 1) % 16 + d) % 16 = omega arith in rw same (all d (omega arith))
    go false p e more =
        let same : i ≡ j = cc in
        record { turns = 0; few = omega arith; is = omega arith; free = subst (λ (x : ℕ). slice_index_or t x false ≡ false) same p; passed = λ d lt. absurd (omega arith) }

full : (t : List Bool) (k i : ℕ) → i < 16 → first_free t k i ≡ None → (d : ℕ) → d < k → slice_index_or t ((i + d) % 16) false ≡ true
unfolding first_free
full t zero i h e d lt = absurd (omega arith)
full t (suc k) i h e d lt = go (slice_index_or t i false) refl e d lt (full t k ((i + 1) % 16) (omega arith))
  where
    go : (b : Bool) → slice_index_or t i false ≡ b → cond b (first_free t k ((i + 1) % 16)) (Some i) ≡ None → (d : ℕ) → d < suc k → (first_free t k ((i + 1) % 16) ≡ None → (d : ℕ) → d < k → slice_index_or t (((i + 1) % 16 + d) % 16) false ≡ true) → slice_index_or t ((i + d) % 16) false ≡ true
    go true p e zero lt more = let same : (i + 0) % 16 ≡ i = omega arith in rw same p
    go true p e (suc d) lt more = let same : (i + suc d) % 16 ≡ ((i + 1) % 16 + d) % 16 = omega arith in rw same (more e d (omega arith))
    go false p e d lt more = some_none e

-- where the search finds nothing, every slot is taken
pub all_taken : (t : List Bool) (i j : ℕ) → i < 16 → j < 16 → first_free t 16 i ≡ None → slice_index_or t j false ≡ true
all_taken t i j h lt e =
    let at : (i + (j + 16 - i) % 16) % 16 ≡ j = omega arith in
    subst (λ (x : ℕ). slice_index_or t x false ≡ true) at (full t 16 i h e ((j + 16 - i) % 16) (omega arith))
