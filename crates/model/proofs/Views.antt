-- Lists as functions of the place, and writes as updates of those functions. Assumes nothing.
use Rattle.std.proofs.Common.{◌≡◌, ℕ, zero, suc, ◌+◌, ◌<◌, ◌≤◌, Bool, true, false, cond, eqb, ◌⊎◌, List, [], ◌∷◌, ◌++◌, length, get_or, set, replicate, sym, refl, ◌∙◌, inl, inr, add-suc, arith}
use Rattle.std.proofs.lemmas.List.{length-set, get_or-set_same, get_or-set_other, get_or_append_left, get_or_push, get_or_past, length_push, get_or-replicate, length-replicate}
use Rattle.std.proofs.lemmas.Bool.{cases_eq, eq-eqb, ne_eqb, cases_lt}
use Rattle.model.specs.Parts.{put, part}
use Rattle.model.proofs.Sheeting.{Rows}

-- a function changed at one place
abbrev pub upd : {X : Type 0} → (ℕ → X) → ℕ → X → ℕ → X
upd f i x j = cond (eqb j i) x (f j)

pub upd_same : {X : Type 0} (f : ℕ → X) (i : ℕ) (x : X) (j : ℕ) → j ≡ i → upd f i x j ≡ x
upd_same f i x j e = rw (eq-eqb j i e)

pub upd_other : {X : Type 0} (f : ℕ → X) (i : ℕ) (x : X) (j : ℕ) → (j ≡ i → ⊥) → upd f i x j ≡ f j
upd_other f i x j e = rw (ne_eqb j i e)

-- what holds of the new value, and of what else stands there, holds
pub upd_by : {X : Type 0} (P : X → Type 0) (f : ℕ → X) (i : ℕ) (x : X) (j : ℕ) → (j ≡ i → P x) → ((j ≡ i → ⊥) → P (f j)) → P (upd f i x j)
upd_by P f i x j new old = go (cases_eq j i)
  where
    go : (j ≡ i) ⊎ (j ≡ i → ⊥) → P (upd f i x j)
    go (inl e) = rw (upd_same f i x j e) (new e)
    go (inr e) = rw (upd_other f i x j e) (old e)

pub upd_map : {X Y : Type 0} (f : X → Y) (u : ℕ → X) (i : ℕ) (x : X) (j : ℕ) → f (upd u i x j) ≡ upd (λ k. f (u k)) i (f x) j
upd_map f u i x j = go (eqb j i)
  where
    go : (b : Bool) → f (cond b x (u j)) ≡ cond b (f x) (f (u j))
    go true = refl
    go false = refl

pub get_set : {X : Type 0} (l : List X) (i : ℕ) (a d : X) (j : ℕ) → i < length l → get_or (set l i a) j d ≡ upd (λ k. get_or l k d) i a j
get_set l i a d j h = upd_by (λ z. get_or (set l i a) j d ≡ z) (λ k. get_or l k d) i a j (λ e. rw e (get_or-set_same l i a d h)) (λ e. get_or-set_other l i j a d e)

pub get_push : {X : Type 0} (l : List X) (x d : X) (j : ℕ) → get_or (l ++ (x ∷ [])) j d ≡ upd (λ k. get_or l k d) (length l) x j
get_push l x d j = go (cases_eq j (length l)) (cases_lt j (length l))
  where
    go : (j ≡ length l) ⊎ (j ≡ length l → ⊥) → (j < length l) ⊎ (length l ≤ j) → get_or (l ++ (x ∷ [])) j d ≡ upd (λ k. get_or l k d) (length l) x j
    go (inl e) k = rw (upd_same (λ k. get_or l k d) (length l) x j e) (get_or_push l x d j (sym e))
    go (inr e) (inl k) = rw (upd_other (λ k. get_or l k d) (length l) x j e) (get_or_append_left l (x ∷ []) d j k)
    go (inr e) (inr k) =
        let a : length (l ++ (x ∷ [])) ≤ j = rw (length_push l x) (omega arith) in
        rw (upd_other (λ k. get_or l k d) (length l) x j e) (get_or_past (l ++ (x ∷ [])) j d a ∙ sym (get_or_past l j d k))

pub length_put : {X : Type 0} (m : List X) (i : ℕ) (xs : List X) → length (put m i xs) ≡ length m
length_put m i [] = refl
length_put m i (x ∷ xs) = length_put (set m i x) (suc i) xs ∙ length-set m i x

pub put_out : {X : Type 0} (m : List X) (i : ℕ) (xs : List X) (d : X) (j : ℕ) → (j < i) ⊎ (i + length xs ≤ j) → get_or (put m i xs) j d ≡ get_or m j d
put_out m i [] d j h = refl
put_out m i (x ∷ xs) d j h =
    let k : (j < suc i) ⊎ (suc i + length xs ≤ j) = grind arith in
    let e : j ≡ i → ⊥ = λ q. grind arith in
    put_out (set m i x) (suc i) xs d j k ∙ get_or-set_other m i j x d e

pub put_in : {X : Type 0} (m : List X) (i : ℕ) (xs : List X) (d : X) (j : ℕ) → j < length xs → i + length xs ≤ length m → get_or (put m i xs) (i + j) d ≡ get_or xs j d
put_in m i [] d j h k = absurd (omega arith)
put_in m i (x ∷ xs) d zero h k =
    let e : i + 0 ≡ i = omega arith in
    rw e (put_out (set m i x) (suc i) xs d i (inl (omega arith)) ∙ get_or-set_same m i x d (omega arith))
put_in m i (x ∷ xs) d (suc j) h k =
    let e : i + suc j ≡ suc i + j = omega arith in
    let l : suc i + length xs ≤ length (set m i x) = rw (length-set m i x) (omega arith) in
    rw e (put_in (set m i x) (suc i) xs d j (omega arith) l)

-- the n places of ys from 0 on are related to those of xs from s on
module _ {X Y : Type 0} (A : X → Y → Type 0) (d : X) (e : Y) where
  abbrev pub Window : List X → ℕ → List Y → ℕ → Type 0
  Window xs s ys n = (i : ℕ) → i < n → A (get_or xs (s + i) d) (get_or ys i e)

  window_set : (m₁ : List X) (m₂ : List Y) (s n o : ℕ) (x : X) (y : Y) → A x y → s + n ≤ length m₁ → n ≤ length m₂ → o < n → Window m₁ s m₂ n → Window (set m₁ (s + o) x) s (set m₂ o y) n
  window_set m₁ m₂ s n o x y h k l p w i q = go (cases_eq i o)
    where
      go : (i ≡ o) ⊎ (i ≡ o → ⊥) → A (get_or (set m₁ (s + o) x) (s + i) d) (get_or (set m₂ o y) i e)
      go (inl z) = rw (z, get_or-set_same m₁ (s + o) x d (omega arith), get_or-set_same m₂ o y e (omega arith)) h
      go (inr z) = rw (get_or-set_other m₁ (s + o) (s + i) x d (λ v. z (omega arith)), get_or-set_other m₂ o i y e z) (w i q)

  pub window_put : (xs : List X) (ys : List Y) (m₁ : List X) (m₂ : List Y) (s n o : ℕ) → Rows A xs ys → s + n ≤ length m₁ → n ≤ length m₂ → o + length xs ≤ n → Window m₁ s m₂ n → Window (put m₁ (s + o) xs) s (put m₂ o ys) n
  window_put [] [] m₁ m₂ s n o r k l p w = w
  window_put [] (y ∷ ys) m₁ m₂ s n o r k l p w = absurd r
  window_put (x ∷ xs) [] m₁ m₂ s n o r k l p w = absurd r
  window_put (x ∷ xs) (y ∷ ys) m₁ m₂ s n o r k l p w =
      let a : s + n ≤ length (set m₁ (s + o) x) = rw (length-set m₁ (s + o) x) k in
      let b : n ≤ length (set m₂ o y) = rw (length-set m₂ o y) l in
      let z : Window (put (set m₁ (s + o) x) (s + suc o) xs) s (put (set m₂ o y) (suc o) ys) n =
      window_put xs ys (set m₁ (s + o) x) (set m₂ o y) s n (suc o) r.1 a b (omega arith) (window_set m₁ m₂ s n o x y r.0 k l (omega arith) w) in
      rw (← add-suc s o) z

  pub window_out : (xs : List X) (m₁ : List X) (m₂ : List Y) (x s n : ℕ) → (x + length xs ≤ s) ⊎ (s + n ≤ x) → Window m₁ s m₂ n → Window (put m₁ x xs) s m₂ n
  window_out xs m₁ m₂ x s n h w i q = rw (put_out m₁ x xs d (s + i) (grind arith)) (w i q)

  pub window_new : (m : List X) (s k n : ℕ) (x : X) (y : Y) → A x y → n ≤ k → s + k ≤ length m → Window (put m s (replicate k x)) s (replicate n y) n
  window_new m s k n x y h l p i q =
      let a : i < length (replicate k x) = rw (length-replicate k x) (omega arith) in
      let b : s + length (replicate k x) ≤ length m = rw (length-replicate k x) p in
      rw (put_in m s (replicate k x) d i a b, get_or-replicate k i x d (omega arith), get_or-replicate n i y e q) h

pub part_same : {X : Type 0} (d : X) (k : ℕ) (m₁ m₂ : List X) (s n o : ℕ) → o + k ≤ n → Window ◌≡◌ d d m₁ s m₂ n → part d k m₁ (s + o) ≡ part d k m₂ o
part_same d zero m₁ m₂ s n o h w = refl
part_same d (suc k) m₁ m₂ s n o h w =
    let a = w o (omega arith) in
    let b : part d k m₁ (s + suc o) ≡ part d k m₂ (suc o) = part_same d k m₁ m₂ s n (suc o) (omega arith) w in
    rw (a, ← add-suc s o, b)
