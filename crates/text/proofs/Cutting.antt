-- A text in pieces: where the first one ends, and what is left. Assumes nothing.
use Rattle.std.proofs.Common.{◌≡◌, ℕ, zero, suc, ◌+◌, ◌-◌, ◌<◌, ◌≤◌, List, [], ◌∷◌, length, get_or, take, drop, sym, refl, ap, ◌∙◌, add-one, arith}
use Rattle.std.specs.List.{between}
use Rattle.std.proofs.lemmas.List.Edits.{length-between, get_or-between}
use Rattle.std.proofs.lemmas.List.{take-take, drop-take, drop-drop, get_or-drop, length-drop}
use Rattle.std.proofs.lemmas.Bool.{eq-eqb, ne_eqb}
use Rattle.text.specs.Lines.{Free, Ended, Endless}
use Rattle.form.specs.Pieces.{pieces}

-- a text with a cut is its first piece, and the pieces of what follows the cut
pub piece_first : (sep : ℕ) (xs : List ℕ) (n : ℕ) → ((k : ℕ) → k < n → get_or xs k 0 ≡ sep → ⊥) → n < length xs → get_or xs n 0 ≡ sep → pieces sep xs ≡ take n xs ∷ pieces sep (drop (n + 1) xs)
piece_first sep [] n free h is = absurd (omega arith)
piece_first sep (b ∷ bs) zero free h is = rw (eq-eqb b sep is)
piece_first sep (b ∷ bs) (suc n) free h is =
    let rest = piece_first sep bs n (λ k lt. free (suc k) (omega arith)) (omega arith) is in
    rw (ne_eqb b sep (free 0 (omega arith)), rest, add-one, add-one)

-- a text with no cut is one piece
pub piece_only : (sep : ℕ) (xs : List ℕ) → ((k : ℕ) → k < length xs → get_or xs k 0 ≡ sep → ⊥) → pieces sep xs ≡ xs ∷ []
piece_only sep [] free = refl
piece_only sep (b ∷ bs) free = rw (ne_eqb b sep (free 0 (omega arith)), piece_only sep bs (λ k lt. free (suc k) (omega arith)))

-- a front and a rest of what stands between two places
pub front_between : (xs : List ℕ) (from to n : ℕ) → n ≤ to - from → take n (between from to xs) ≡ between from (from + n) xs
front_between xs from to n h = take-take n (to - from) (drop from xs) h ∙ ap (λ k. take k (drop from xs)) (omega arith)

pub rest_between : (xs : List ℕ) (from to n : ℕ) → n ≤ to - from → drop n (between from to xs) ≡ between (from + n) to xs
rest_between xs from to n h =
    ap (λ k. drop n (take k (drop from xs))) (omega arith) ∙ drop-take n (to - (from + n)) (drop from xs) ∙ ap (take (to - (from + n))) (drop-drop n from xs)

-- a line that ends, and the lines after it
pub ended_split : (text : List ℕ) (from m : ℕ) → Ended text from m → pieces 10 (drop from text) ≡ between from m text ∷ pieces 10 (drop (m + 1) text)
ended_split text from m e =
    let long = length-drop from text in
    let first = piece_first 10 (drop from text) (m - from)
    (λ k lt is. e.first (from + k) (omega arith) (omega arith) (sym (get_or-drop from text k 0) ∙ is))
    (omega (arith, e.low, e.high))
    (get_or-drop from text (m - from) 0 ∙ ap (λ k. get_or text k 0) (omega (arith, e.low)) ∙ e.is) in
    let rest = drop-drop (m - from + 1) from text ∙ ap (λ k. drop k text) (omega (arith, e.low)) in
    first ∙ ap (λ bs. between from m text ∷ pieces 10 bs) rest

-- what has no line end is the last piece
pub endless_split : (text : List ℕ) (from : ℕ) → Endless text from → pieces 10 (drop from text) ≡ drop from text ∷ []
endless_split text from e =
    let long = length-drop from text in
    piece_only 10 (drop from text) (λ k lt is. e (from + k) (omega arith) (omega arith) (sym (get_or-drop from text k 0) ∙ is))

-- a value before a comma, and the values after it
pub comma_split : (text : List ℕ) (from m to : ℕ) → from ≤ m → m < to → to ≤ length text → Free 44 text from m → get_or text m 0 ≡ 44 → pieces 44 (between from to text) ≡ between from m text ∷ pieces 44 (between (m + 1) to text)
comma_split text from m to low high inside free is =
    let long = length-between text from to inside in
    let one = piece_first 44 (between from to text) (m - from)
    (λ k lt same. free (from + k) (omega arith) (omega arith) (sym (get_or-between text from to k 0 (omega arith)) ∙ same))
    (omega arith)
    (get_or-between text from to (m - from) 0 (omega arith) ∙ ap (λ k. get_or text k 0) (omega arith) ∙ is) in
    let two = front_between text from to (m - from) (omega arith) in
    let three = rest_between text from to (m - from + 1) (omega arith) in
    let four : from + (m - from) ≡ m = omega arith in
    let five : from + (m - from + 1) ≡ m + 1 = omega arith in
    cc

-- a value with no comma after it
pub comma_none : (text : List ℕ) (from to : ℕ) → to ≤ length text → Free 44 text from to → pieces 44 (between from to text) ≡ between from to text ∷ []
comma_none text from to inside free =
    let long = length-between text from to inside in
    piece_only 44 (between from to text) (λ k lt same. free (from + k) (omega arith) (omega arith) (sym (get_or-between text from to k 0 (omega arith)) ∙ same))
