-- What joins and leaves a window at either end. Assumes nothing.
use Rattle.std.proofs.Common.{◌≡◌, ℕ, zero, suc, ◌+◌, ◌-◌, ◌<◌, ◌≤◌, max, false, ◌==◌, List, [], ◌∷◌, ◌++◌, length, get_or, take, drop, set, sym, ap, ◌∙◌, ap₂, inl, inr, arith, length-append, length-drop, length-set, length-take-le, get_or-drop, get_or-take, get_or-set_same, get_or-set_other}
use Rattle.std.proofs.lemmas.List.{same_lists, drop_more, get_or_append_left, get_or-append_right}
use Rattle.std.proofs.lemmas.Bool.{cases_lt}
use Rattle.std.proofs.lemmas.Bool.Decides.{nat_tests}
use Rattle.std.proofs.lemmas.Grind.{common_steps}
use Rattle.std.proofs.Math.Seq.{take-append-add}
use Rattle.rings.specs.Window.{cell, window}

-- the cell before k comes last round from k, and from it k is the next
before_here : (N k : ℕ) → k < N → cell N (cell N k (N - 1)) 0 ≡ cell N k (N - 1)
before_here N k start = grind (arith, nat_tests)

before_next : (N k i : ℕ) → k < N → i + 1 < N → cell N (cell N k (N - 1)) (1 + i) ≡ cell N k i
before_next N k i start within = grind (arith, nat_tests)

before_other : (N k i : ℕ) → k < N → i + 1 < N → cell N k i ≡ cell N k (N - 1) → ⊥
before_other N k i start within e = grind (arith, nat_tests)

module _ {T : Type 0} (N k n : ℕ) (xs : List T) (start : k < N) (fits : n ≤ N) (long : length xs ≡ N) where
  pub length-window : length (window k n xs) ≡ n
  length-window = length-take-le n _ (simp (length-append, length-drop) (omega (arith, length-take-le k xs (omega arith))))

  pub get_or-window : (i : ℕ) (d : T) → i < n → get_or (window k n xs) i d ≡ get_or xs (cell N k i) d
  get_or-window i d within =
      let tail = length-drop k xs in
      get_or-take n _ i d within ∙ elim (cases_lt i (N - k)) [
        | inl low ↦ get_or_append_left _ _ d i (omega arith) ∙ get_or-drop k xs i d ∙ ap (λ j. get_or xs j d) (grind (arith, nat_tests))
        | inr high ↦ get_or-append_right _ _ (N - k) i d (omega arith) (omega arith) ∙ get_or-take k xs _ d (omega arith) ∙ ap (λ j. get_or xs j d) (grind (arith, nat_tests))
      ]

module _ {T : Type 0} (N k n : ℕ) (xs : List T) (start : k < N) (fits : n ≤ N) (long : length xs ≡ N) where
  -- an item written behind the last
  pub window_after_push : (x : T) → n < N → window k (n + 1) (set xs (cell N k n) x) ≡ window k n xs ++ x ∷ []
  window_after_push x room =
      let ys = set xs (cell N k n) x in
      let length_ys = length-set xs (cell N k n) x ∙ long in
      let length_old = length-window N k n xs start fits long in
      let length_new = length-window N k (n + 1) ys start (omega arith) length_ys in
      same_lists _ _ (grind (arith, common_steps)) (λ i d within. grind (
        arith,
        common_steps,
        nat_tests,
        get_or-window N k n xs start fits long i d,
        get_or-window N k (n + 1) ys start (omega arith) length_ys i d,
      ))

  -- an item written before the first
  pub window_after_push_front : (x : T) → n < N → window (cell N k (N - 1)) (n + 1) (set xs (cell N k (N - 1)) x) ≡ x ∷ window k n xs
  window_after_push_front x room =
      let j = cell N k (N - 1) in
      let ys = set xs j x in
      let below : j < N = grind (arith, nat_tests) in
      let length_ys = length-set xs j x ∙ long in
      let length_old = length-window N k n xs start fits long in
      let length_new = length-window N j (n + 1) ys below (omega arith) length_ys in
      let new_item = get_or-window N j (n + 1) ys below (omega arith) length_ys in
      let front : get_or (window j (n + 1) ys) 0 x ≡ x = new_item 0 x (omega arith) ∙ ap (λ i. get_or ys i x) (before_here N k start) ∙ get_or-set_same xs j x x (omega arith) in
      drop_more _ 0 x (omega arith) ∙ ap₂ ◌∷◌ front (same_lists _ _ (simp length-drop (omega arith)) (λ i d within.
      let inside : i < n = omega (arith, length-drop 1 (window j (n + 1) ys)) in
      get_or-drop 1 (window j (n + 1) ys) i d
      ∙ new_item (1 + i) d (omega arith)
      ∙ ap (λ c. get_or ys c d) (before_next N k i start (omega arith))
      ∙ get_or-set_other xs j (cell N k i) x d (before_other N k i start (omega arith))
      ∙ sym (get_or-window N k n xs start fits long i d inside)))

  -- the first item and those after it
  pub window_first : (d : T) → 0 < n → window k n xs ≡ get_or xs k d ∷ window (cell N k 1) (n - 1) xs
  window_first d some =
      let next : cell N k 1 < N = grind (arith, nat_tests) in
      let length_old = length-window N k n xs start fits long in
      let length_new = length-window N (cell N k 1) (n - 1) xs next (omega arith) long in
      let old_item = get_or-window N k n xs start fits long in
      drop_more _ 0 d (omega arith) ∙ ap₂ ◌∷◌ (grind (arith, nat_tests, old_item 0 d)) (same_lists _ _ (simp length-drop (omega arith)) (λ i e within. grind (
        arith,
        nat_tests,
        length-drop 1 (window k n xs),
        get_or-drop 1 (window k n xs) i e,
        old_item (1 + i) e,
        get_or-window N (cell N k 1) (n - 1) xs next (omega arith) long i e,
      )))

  -- those before the last item, and the last
  pub window_last : (d : T) → 0 < n → window k n xs ≡ window k (n - 1) xs ++ get_or xs (cell N k (n - 1)) d ∷ []
  window_last d some =
      let length_old = length-window N k n xs start fits long in
      let length_new = length-window N k (n - 1) xs start (omega arith) long in
      same_lists _ _ (grind (arith, common_steps)) (λ i e within. grind (
        arith,
        common_steps,
        nat_tests,
        get_or-window N k n xs start fits long i e,
        get_or-window N k (n - 1) xs start (omega arith) long i e,
      ))

-- what the tests of a ring tell of its count
pub some_items : {T : Type 0} (k n : ℕ) (xs items : List T) → window k n xs ≡ items → (length items == 0) ≡ false → 0 < n
some_items k zero xs items is e = let none : length items ≡ 0 = ap length (sym is) in grind (arith, nat_tests)
some_items k (suc n) xs items is e = omega arith

pub room_left : {T : Type 0} (N k n : ℕ) (xs items : List T) → k < max 1 N → n ≤ N → length xs ≡ N → window k n xs ≡ items → (length items == N) ≡ false → n < N
room_left zero k zero xs items start fits long is e = let none : length items ≡ 0 = ap length (sym is) in grind (arith, nat_tests)
room_left zero k (suc n) xs items start fits long is e = absurd (omega arith)
room_left (suc N) k n xs items start fits long is e =
    let count : length items ≡ n = ap length (sym is) ∙ length-window (suc N) k n xs (omega arith) fits long in
    grind (arith, nat_tests)

-- the items that stand up to the end, and those that go on at the start
pub two_runs : {T : Type 0} (k n : ℕ) (xs : List T) → length (drop k xs) ≤ n → drop k xs ++ take (n - length (drop k xs)) (take k xs) ≡ window k n xs
two_runs k n xs fits =
    let e : length (drop k xs) + (n - length (drop k xs)) ≡ n = omega arith in
    sym (rw e at (take-append-add (drop k xs) (take k xs) (n - length (drop k xs))))
