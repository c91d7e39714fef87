-- The search in turn, as one over the slots that come after a number of turns. Assumes nothing.
use Rattle.std.proofs.Common.{◌≡◌, ℕ, zero, suc, ◌+◌, ◌-◌, ◌%◌, ◌<◌, Bool, true, false, cond, not, List, map, get_or, Some, refl, sym, ap, ◌∙◌, arith}
use Rattle.std.specs.List.{find, range_with_len}
use Rattle.slots.specs.Rule.{first_free}
use Rattle.slots.specs.Search.{first_more, first_none}

turned : {A : Type 0} (b : Bool) (x y : A) → cond b x y ≡ cond (not b) y x
turned true x y = refl
turned false x y = refl

module _ (t : List Bool) where
  abbrev pub is_free : ℕ → Bool
  is_free s = not (get_or t s false)

  -- k turns, after those that lead from the slot i on
  turns_on : (i k turns : ℕ) → first_free t k ((i + turns) % 16) ≡ find is_free (map (λ d. (i + d) % 16) (range_with_len turns k))
  turns_on i zero turns = first_none t 0 _ refl
  turns_on i (suc k) turns =
      let slot = (i + turns) % 16 in
      let less : suc k - 1 ≡ k = omega arith in
      let on : (slot + 1) % 16 ≡ (i + (turns + 1)) % 16 = omega arith in
      rw (less, on) at (first_more t (suc k) slot (omega arith)) ∙ turned (get_or t slot false) _ _ ∙ ap (cond (is_free slot) (Some slot)) (turns_on i k (turns + 1))

  pub found_in_turn : (i : ℕ) → i < 16 → first_free t 16 i ≡ find is_free (map (λ d. (i + d) % 16) (range_with_len 0 16))
  found_in_turn i h = let here : (i + 0) % 16 ≡ i = omega arith in ap (first_free t 16) (sym here) ∙ turns_on i 16 0
