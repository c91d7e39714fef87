-- The first line: each name has one place, and the reader finds it. Assumes nothing.
use Rattle.std.proofs.Common.{◌≡◌, ℕ, zero, suc, ◌+◌, ◌<◌, ◌≤◌, Bool, true, false, cond, List, [], ◌∷◌, length, get_or, Some, None, codes, Option, sym, refl, ap, ◌∙◌, subst, ⊎_elim, arith}
use Rattle.std.specs.List.{AllByRecursion}
use Rattle.std.specs.Str.{bytes_eq}
use Rattle.std.proofs.lemmas.Slice.Eq.{bytes_eq-Decides}
use Rattle.std.proofs.lemmas.List.{get_or_past}
use Rattle.std.proofs.lemmas.Bool.{cases_Bool, cases_lt, cases_order, cond-true, cond-false}
use Rattle.form.specs.declared.order.Order.{Order}
use Rattle.form.specs.Columns.{stands_from, then_in, places, order}
use Rattle.form.specs.Form.{Once, Heads, Clean}

-- whether a value is w, as a number
abbrev hit : List ℕ → List ℕ → ℕ
hit w v = cond (bytes_eq w v) 1 0

abbrev hits : List ℕ → List (List ℕ) → ℕ
hits w [] = 0
hits w (v ∷ vs) = hit w v + hits w vs

other_hit : (w v : List ℕ) → bytes_eq w v ≡ false → hit w v ≡ 0
other_hit w v e = cond-false _ 1 0 e

same_hit : (w v : List ℕ) → v ≡ w → hit w v ≡ 1
same_hit w v e = cond-true _ 1 0 ((bytes_eq-Decides w v).1 (sym e))

-- a value is one name at most
one_name : (v : List ℕ) → hit (codes "op") v + hit (codes "d") v + hit (codes "a") v + hit (codes "b") v + hit (codes "n") v ≤ 1
one_name v =
    let at : (w : List ℕ) → bytes_eq w v ≡ true → (P : List ℕ → Type 0) → P w → P v = λ w e P x. subst P ((bytes_eq-Decides w v).0 e) x in
    let P : List ℕ → Type 0 = λ u. hit (codes "op") u + hit (codes "d") u + hit (codes "a") u + hit (codes "b") u + hit (codes "n") u ≤ 1 in
    ⊎_elim (λ (e : bytes_eq (codes "op") v ≡ true). at (codes "op") e P (omega arith)) (λ (p : bytes_eq (codes "op") v ≡ false).
    ⊎_elim (λ (e : bytes_eq (codes "d") v ≡ true). at (codes "d") e P (omega arith)) (λ (q : bytes_eq (codes "d") v ≡ false).
    ⊎_elim (λ (e : bytes_eq (codes "a") v ≡ true). at (codes "a") e P (omega arith)) (λ (r : bytes_eq (codes "a") v ≡ false).
    ⊎_elim (λ (e : bytes_eq (codes "b") v ≡ true). at (codes "b") e P (omega arith)) (λ (s : bytes_eq (codes "b") v ≡ false).
    ⊎_elim (λ (e : bytes_eq (codes "n") v ≡ true). at (codes "n") e P (omega arith)) (λ (t : bytes_eq (codes "n") v ≡ false).
    omega (arith, other_hit (codes "op") v p, other_hit (codes "d") v q, other_hit (codes "a") v r, other_hit (codes "b") v s, other_hit (codes "n") v t))
    (cases_Bool (bytes_eq (codes "n") v)))
    (cases_Bool (bytes_eq (codes "b") v)))
    (cases_Bool (bytes_eq (codes "a") v)))
    (cases_Bool (bytes_eq (codes "d") v)))
    (cases_Bool (bytes_eq (codes "op") v))

all_names : (vs : List (List ℕ)) → hits (codes "op") vs + hits (codes "d") vs + hits (codes "a") vs + hits (codes "b") vs + hits (codes "n") vs ≤ length vs
all_names [] = omega arith
all_names (v ∷ vs) = omega (arith, one_name v, all_names vs)

-- a place of w counts, and two places count twice
one_hit : (w : List ℕ) (vs : List (List ℕ)) (k : ℕ) → k < length vs → get_or vs k [] ≡ w → 1 ≤ hits w vs
one_hit w [] k h e = absurd (omega arith)
one_hit w (v ∷ vs) zero h e = omega (arith, same_hit w v e)
one_hit w (v ∷ vs) (suc k) h e = omega (arith, one_hit w vs k (omega arith) e)

two_hits : (w : List ℕ) (vs : List (List ℕ)) (i k : ℕ) → i < k → k < length vs → get_or vs i [] ≡ w → get_or vs k [] ≡ w → 2 ≤ hits w vs
two_hits w [] i k lt h e f = absurd (omega arith)
two_hits w (v ∷ vs) i zero lt h e f = absurd (omega arith)
two_hits w (v ∷ vs) zero (suc k) lt h e f = omega (arith, same_hit w v e, one_hit w vs k (omega arith) f)
two_hits w (v ∷ vs) (suc i) (suc k) lt h e f = omega (arith, two_hits w vs i k (omega arith) (omega arith) e f)

-- a value that is something stands inside
inside : (w : List ℕ) (vs : List (List ℕ)) (k : ℕ) → 0 < length w → get_or vs k [] ≡ w → k < length vs
inside w vs k some e =
    ⊎_elim
    (λ (lt : k < length vs). lt)
    (λ (past : length vs ≤ k). absurd (omega (arith, ap length (sym e ∙ get_or_past vs k [] past))))
    (cases_lt k (length vs))

once : (w : List ℕ) (vs : List (List ℕ)) (k : ℕ) → 0 < length w → get_or vs k [] ≡ w → hits w vs ≤ 1 → Once vs w k
once w vs k some e few = (
  e,
  λ i f.
      let here = inside w vs k some e in
      let there = inside w vs i some f in
      ⊎_elim
      (λ (same : i ≡ k). same)
      (λ o. ⊎_elim (λ (lt : i < k). absurd (omega (arith, two_hits w vs i k lt here f e))) (λ (gt : k < i). absurd (omega (arith, two_hits w vs k i gt there e f))) o)
      (cases_order i k),
)

-- what the search finds
stands_by : (w v : List ℕ) (vs : List (List ℕ)) (base k : ℕ)
    → (stands_from (base + 1) w vs ≡ Some k → (j : ℕ) × (k ≡ base + 1 + j) × (j < length vs) × (get_or vs j [] ≡ w))
    → (t : Bool) → bytes_eq w v ≡ t → stands_from base w (v ∷ vs) ≡ Some k → (j : ℕ) × (k ≡ base + j) × (j < length (v ∷ vs)) × (get_or (v ∷ vs) j [] ≡ w)
stands_by w v vs base k ih true e h =
    let first = cond-true _ (Some base) (stands_from (base + 1) w vs) e in
    let same : base ≡ k = cc in
    (0, omega arith, omega arith, sym ((bytes_eq-Decides w v).0 e))
stands_by w v vs base k ih false e h =
    let p = ih (sym (cond-false _ (Some base) (stands_from (base + 1) w vs) e) ∙ h) in
    (suc p.0, omega (arith, p.1), omega (arith, p.2), p.3)

stands : (w : List ℕ) (vs : List (List ℕ)) (base k : ℕ) → stands_from base w vs ≡ Some k → (j : ℕ) × (k ≡ base + j) × (j < length vs) × (get_or vs j [] ≡ w)
stands w [] base k h = let z : ◌≡◌ {A = ℕ} 0 1 = cc in absurd (omega arith)
stands w (v ∷ vs) base k h = stands_by w v vs base k (stands w vs (base + 1) k) (bytes_eq w v) refl h

stands_at : (w : List ℕ) (vs : List (List ℕ)) (k : ℕ) → stands_from 0 w vs ≡ Some k → (k < length vs) × (get_or vs k [] ≡ w)
stands_at w vs k h =
    let p = stands w vs 0 k h in
    let same : p.0 ≡ k = omega (arith, p.1) in
    (omega (arith, p.2), ap (λ j. get_or vs j []) (sym same) ∙ p.3)

-- what stands somewhere, and nowhere before, is found there
found_first : (w : List ℕ) (vs : List (List ℕ)) (base k : ℕ) → k < length vs → get_or vs k [] ≡ w → ((i : ℕ) → i < k → get_or vs i [] ≡ w → ⊥) → stands_from base w vs ≡ Some (base + k)
found_first w [] base k h e before = absurd (omega arith)
found_first w (v ∷ vs) base zero h e before =
    cond-true _ (Some base) (stands_from (base + 1) w vs) ((bytes_eq-Decides w v).1 (sym e)) ∙ ap Some (omega arith)
found_first w (v ∷ vs) base (suc k) h e before =
    let differs : bytes_eq w v ≡ false = ⊎_elim (λ (t : bytes_eq w v ≡ true). absurd (before 0 (omega arith) (sym ((bytes_eq-Decides w v).0 t)))) (λ (f : bytes_eq w v ≡ false). f) (cases_Bool (bytes_eq w v)) in
    cond-false _ (Some base) (stands_from (base + 1) w vs) differs
    ∙ found_first w vs (base + 1) k (omega arith) e (λ i lt f. before (suc i) (omega arith) f)
    ∙ ap Some (omega arith)

found_once : (w : List ℕ) (vs : List (List ℕ)) (k : ℕ) → 0 < length w → Once vs w k → stands_from 0 w vs ≡ Some k
found_once w vs k some o =
    found_first w vs 0 k (inside w vs k some o.0) o.0 (λ i lt f. omega (arith, o.1 i f)) ∙ ap Some (omega arith)

then_told : {A B : Type 0} (o : Option A) (f : A → Option B) (y : B) → then_in o f ≡ Some y → (x : A) × (o ≡ Some x) × (f x ≡ Some y)
then_told None f y h = let z : ◌≡◌ {A = ℕ} 0 1 = cc in absurd (omega arith)
then_told (Some x) f y h = (x, refl, h)

-- the first line, when the reader takes it
pub heads_told : (vs : List (List ℕ)) (o : Order) → length vs ≡ 5 → AllByRecursion Clean vs → order vs ≡ Some o → Heads o vs
heads_told vs o five clean h =
    let p = then_told _ _ o h in
    let q = then_told _ _ o p.2 in
    let r = then_told _ _ o q.2 in
    let s = then_told _ _ o r.2 in
    let t = then_told _ _ o s.2 in
    let op = stands_at (codes "op") vs p.0 p.1 in
    let d = stands_at (codes "d") vs q.0 q.1 in
    let a = stands_at (codes "a") vs r.0 r.1 in
    let b = stands_at (codes "b") vs s.0 s.1 in
    let n = stands_at (codes "n") vs t.0 t.1 in
    let all = all_names vs in
    let h-op = one_hit (codes "op") vs p.0 op.0 op.1 in
    let h-d = one_hit (codes "d") vs q.0 d.0 d.1 in
    let h-a = one_hit (codes "a") vs r.0 a.0 a.1 in
    let h-b = one_hit (codes "b") vs s.0 b.0 b.1 in
    let h-n = one_hit (codes "n") vs t.0 n.0 n.1 in
    let heads : Heads (places p.0 q.0 r.0 s.0 t.0) vs = record {
      five = five;
      clean = clean;
      op = once (codes "op") vs p.0 (omega arith) op.1 (omega arith);
      d = once (codes "d") vs q.0 (omega arith) d.1 (omega arith);
      a = once (codes "a") vs r.0 (omega arith) a.1 (omega arith);
      b = once (codes "b") vs s.0 (omega arith) b.1 (omega arith);
      n = once (codes "n") vs t.0 (omega arith) n.1 (omega arith);
    } in
    let same : places p.0 q.0 r.0 s.0 t.0 ≡ o = let e = t.2 in cc in
    subst (λ x. Heads x vs) same heads

-- and that the reader takes it
pub heads_tell : (vs : List (List ℕ)) (o : Order) → Heads o vs → order vs ≡ Some o
heads_tell vs o h =
    let op = found_once (codes "op") vs o.op (omega arith) h.op in
    let d = found_once (codes "d") vs o.d (omega arith) h.d in
    let a = found_once (codes "a") vs o.a (omega arith) h.a in
    let b = found_once (codes "b") vs o.b (omega arith) h.b in
    let n = found_once (codes "n") vs o.n (omega arith) h.n in
    rw (op, d, a, b, n)
