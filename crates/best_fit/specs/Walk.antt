-- The steps of the walk over the cells. Assumes nothing.
use Rattle.std.specs.Prelude.{◌≡◌, ℕ, zero, suc, ◌+◌, ◌-◌, ◌<◌, ◌≤◌, List, [], ◌∷◌, length, drop, Option, replicate, slice_index, refl}
use Rattle.std.proofs.Common.{ap, ◌∙◌, arith}
use Rattle.std.proofs.lemmas.List.{drop_more, drop-drop, get_or-drop}
use Rattle.best_fit.specs.Rule.{best_of, better}
use Rattle.best_fit.specs.declared.gap.Gap.{Gap}

pub get_or_zeros : (n i : ℕ) → ◌≡◌ {A = ℕ} (slice_index (replicate n 0) i) 0
get_or_zeros zero i = refl
get_or_zeros (suc n) zero = refl
get_or_zeros (suc n) (suc i) = get_or_zeros n i

-- the cells inside a block are passed over
inside : (need : ℕ) (best : Option Gap) (low at inner : ℕ) (cs : List ℕ) → best_of need best low at inner cs ≡ best_of need best low (at + inner) 0 (drop inner cs)
unfolding best_of
inside need best low at zero [] = refl
inside need best low at (suc inner) [] = refl
inside need best low at zero (c ∷ cs) = let e : at + 0 ≡ at = omega arith in rw e
inside need best low at (suc inner) (c ∷ cs) = let e : at + suc inner ≡ at + 1 + inner = omega arith in rw e (inside need best low (at + 1) inner cs)

block : (need : ℕ) (best : Option Gap) (low at c : ℕ) (cs : List ℕ) → 0 < c → best_of need best low at 0 (c ∷ cs) ≡ best_of need (better need best low at) (at + c) (at + c) 0 (drop (c - 1) cs)
unfolding best_of
block need best low at zero cs p = absurd (omega arith)
block need best low at (suc c) cs p =
    let e : at + 1 + c ≡ at + suc c = omega arith in
    let d : suc c - 1 ≡ c = omega arith in
    inside need (better need best low at) (at + suc c) (at + 1) c cs ∙ rw (e, d)

free : (need : ℕ) (best : Option Gap) (low at c : ℕ) (cs : List ℕ) → c ≡ 0 → best_of need best low at 0 (c ∷ cs) ≡ best_of need best low (at + 1) 0 cs
unfolding best_of
free need best low at zero cs p = refl
free need best low at (suc c) cs p = absurd (omega arith)

-- a turn of the walk at the cell i
pub at_free : (need : ℕ) (best : Option Gap) (low : ℕ) (s : List ℕ) (i : ℕ) → i < length s → slice_index s i ≡ 0 → best_of need best low i 0 (drop i s) ≡ best_of need best low (i + 1) 0 (drop (i + 1) s)
at_free need best low s i h p = ap (best_of need best low i 0) (drop_more s i 0 h) ∙ free need best low i (slice_index s i) (drop (i + 1) s) p

pub at_block : (need : ℕ) (best : Option Gap) (low : ℕ) (s : List ℕ) (i c : ℕ) → i < length s → slice_index s i ≡ c → 0 < c → best_of need best low i 0 (drop i s) ≡ best_of need (better need best low i) (i + c) (i + c) 0 (drop (i + c) s)
at_block need best low s i c h e p =
    let sum : i + 1 + (c - 1) ≡ i + c = omega arith in
    ap (best_of need best low i 0) (drop_more s i 0 h ∙ ap (λ (x : ℕ). x ∷ drop (i + 1) s) e)
    ∙ block need best low i c (drop (i + 1) s) p
    ∙ ap (best_of need (better need best low i) (i + c) (i + c) 0) (drop-drop (c - 1) (i + 1) s ∙ ap (λ (n : ℕ). drop n s) sum)

-- where no block is ahead, the walk ends with the last stretch
zeros : (need : ℕ) (best : Option Gap) (low at : ℕ) (cs : List ℕ) → ((k : ℕ) → slice_index cs k ≡ 0) → best_of need best low at 0 cs ≡ better need best low 512
unfolding best_of
zeros need best low at [] z = refl
zeros need best low at (zero ∷ cs) z = zeros need best low (at + 1) cs (λ k. z (suc k))
zeros need best low at (suc c ∷ cs) z = absurd (let e = z 0 in omega arith)

pub at_end : (need : ℕ) (best : Option Gap) (low : ℕ) (s : List ℕ) (i : ℕ) → ((k : ℕ) → i ≤ k → slice_index s k ≡ 0) → best_of need best low i 0 (drop i s) ≡ better need best low 512
at_end need best low s i z = zeros need best low i (drop i s) (λ k. get_or-drop i s k 0 ∙ z (i + k) (omega arith))
