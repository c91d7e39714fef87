-- The row after a clear has each place once, and none is out. Assumes nothing.
use Rattle.std.specs.Prelude.{◌≡◌, ℕ, zero, suc, ◌+◌, ◌-◌, ◌<◌, ◌≤◌, true, false, ◌&&◌, List, length, replicate, nat_le, slice_index, slice_index_or, refl}
use Rattle.std.proofs.Common.{sym, ap, ◌∙◌, arith}
use Rattle.std.proofs.lemmas.Bool.Decides.{nat_tests}
use Rattle.std.proofs.lemmas.List.{ext_get_or}
use Rattle.racks.specs.Row.{last_places, fresh_row}
use Rattle.racks.specs.Accounted.{is_in, once, Accounted}

pub is_in_last : (k x : ℕ) → k ≤ 255 → is_in x (last_places k) ≡ (nat_le (256 - k) x && nat_le x 255)
unfolding last_places
is_in_last zero x h = grind (arith, nat_tests)
is_in_last (suc k) x h = let r = is_in_last k x (omega arith) in grind (arith, nat_tests)

once_last : (k : ℕ) → k ≤ 255 → once (last_places k) ≡ true
unfolding last_places
once_last zero h = refl
once_last (suc k) h = let r = is_in_last k (255 - k) (omega arith) in let o = once_last k (omega arith) in grind (arith, nat_tests)

pub get_or_falses : (n i : ℕ) → slice_index_or (replicate n false) i false ≡ false
get_or_falses zero i = refl
get_or_falses (suc n) zero = refl
get_or_falses (suc n) (suc i) = get_or_falses n i

pub fresh_accounted : Accounted fresh_row
fresh_accounted = (
  refl,
  once_last 255 (omega arith),
  λ x i. let r = is_in_last 255 x (omega arith) in (grind (arith, nat_tests), grind (arith, nat_tests)),
  λ x. let r = is_in_last 255 x (omega arith) in let f = get_or_falses 256 x in grind (arith, nat_tests),
)

length_last : (k : ℕ) → length (last_places k) ≡ k
unfolding last_places
length_last zero = refl
length_last (suc k) = ap suc (length_last k)

get_or_last : (k i : ℕ) → k ≤ 255 → i < k → slice_index (last_places k) i ≡ 256 - k + i
unfolding last_places
get_or_last zero i h lt = absurd (omega arith)
get_or_last (suc k) zero h lt = omega arith
get_or_last (suc k) (suc i) h lt = let r = get_or_last k i (omega arith) (omega arith) in omega arith

-- cells that count from 1 on are the fresh row
pub is_fresh : (cells : List ℕ) → length cells ≡ 255 → ((k : ℕ) → k < 255 → slice_index cells k ≡ k + 1) → cells ≡ last_places 255
is_fresh cells l f = ext_get_or 0 cells (last_places 255) (l ∙ sym (length_last 255)) (λ i h. let u = get_or_last 255 i (omega arith) (omega arith) in let v = f i (omega arith) in omega arith)
