-- The definition of reading, step by step: pieces, one line, the next line. Assumes nothing.
use Rattle.std.proofs.Common.{◌≡◌, ℕ, ◌+◌, ◌<◌, ◌≤◌, min, eqb, List, [], ◌∷◌, ◌++◌, length, Ok, Err, ⊎_elim, arith}
use Rattle.std.proofs.lemmas.Bool.{le-leb, lt-leb, le-ltb, lt-ltb, eq-eqb, ne_eqb, cases_lt, cond_both}
use Rattle.faults.specs.declared.cause.Cause.{Cause}
use Rattle.faults.specs.declared.cause.Cause.TheVariants.{LineEnd, NoRoom}
use Rattle.operations.specs.declared.operation.Operation.{Operation}
use Rattle.form.specs.declared.order.Order.{Order}
use Rattle.form.specs.Pieces.{before, pieces}
use Rattle.form.specs.Reading.{entry, operation, onward, stopped}

before_some : (b : ℕ) (ps : List (List ℕ)) → 1 ≤ length (before b ps)
before_some b [] = omega arith
before_some b (p ∷ ps) = omega arith

-- there is a piece
pub pieces_some : (sep : ℕ) (bs : List ℕ) → 1 ≤ length (pieces sep bs)
pieces_some sep [] = omega arith
pieces_some sep (b ∷ bs) = cond_both (eqb b sep) _ _ (λ ps. 1 ≤ length ps) (λ e. omega arith) (λ e. before_some b (pieces sep bs))

module _ (o : Order) (room k : ℕ) (l : List ℕ) where
  pub entry_long : 80 < length l → entry o room k l ≡ Err LineEnd
  entry_long h = rw (lt-ltb 80 (length l) h)

  pub entry_full : length l ≤ 80 → min 512 room ≤ k → entry o room k l ≡ Err NoRoom
  entry_full short h = rw (le-ltb 80 (length l) short, le-leb (min 512 room) k h)

  pub entry_made : length l ≤ 80 → k < min 512 room → length (pieces 44 l) ≡ 5 → entry o room k l ≡ operation o (k + 2) (pieces 44 l)
  entry_made short h five = rw (le-ltb 80 (length l) short, lt-leb (min 512 room) k h, eq-eqb (length (pieces 44 l)) 5 five)

-- an operation finds room
pub entry_fits : (o : Order) (room k : ℕ) (l : List ℕ) (op : Operation) → entry o room k l ≡ Ok op → k < min 512 room
entry_fits o room k l op e =
    ⊎_elim
    (λ (long : 80 < length l). let bad = entry_long o room k l long in let z : ◌≡◌ {A = ℕ} 0 1 = cc in absurd (omega arith))
    (λ (short : length l ≤ 80).
    ⊎_elim
    (λ (h : k < min 512 room). h)
    (λ (h : min 512 room ≤ k). let full = entry_full o room k l short h in let z : ◌≡◌ {A = ℕ} 0 1 = cc in absurd (omega arith))
    (cases_lt k (min 512 room)))
    (cases_lt 80 (length l))

-- the lines after the first
module _ (o : Order) (room : ℕ) (done : List Operation) where
  pub onward_more : (l : List ℕ) (ls : List (List ℕ)) (op : Operation) → 1 ≤ length ls → entry o room (length done) l ≡ Ok op → onward o room done (l ∷ ls) ≡ onward o room (done ++ op ∷ []) ls
  onward_more l ls op h e = rw (ne_eqb (length ls) 0 (λ z. omega arith), e)

  pub onward_stop : (l : List ℕ) (ls : List (List ℕ)) (c : Cause) → 1 ≤ length ls → entry o room (length done) l ≡ Err c → onward o room done (l ∷ ls) ≡ stopped done c (length done + 2)
  onward_stop l ls c h e = rw (ne_eqb (length ls) 0 (λ z. omega arith), e)

  pub onward_last : (l : List ℕ) → 0 < length l → onward o room done (l ∷ []) ≡ stopped done LineEnd (length done + 2)
  onward_last l h = rw (ne_eqb (length l) 0 (λ z. omega arith))
