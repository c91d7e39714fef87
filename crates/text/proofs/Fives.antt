-- A line cut value by value: five values and its end, or not. Assumes nothing.
use Rattle.std.proofs.Common.{◌≡◌, ℕ, zero, suc, ◌+◌, ◌-◌, ◌<◌, List, [], ◌∷◌, length, get_or, sym, ap, ◌∙◌, subst, ⊎_elim, arith}
use Rattle.std.specs.List.{between}
use Rattle.std.proofs.lemmas.Bool.{cases_order}
use Rattle.text.specs.Lines.{Free, Ended, Stops, Past, Astray, Five}
use Rattle.form.specs.Pieces.{pieces}
use Rattle.form.proofs.Steps.{pieces_some}
use Rattle.text.proofs.Cutting.{comma_split, comma_none}

-- a comma of a line stands before its end
before_end : (text : List ℕ) (p q m : ℕ) → Stops text 44 p q → Ended text p m → q < m
before_end text p q m s e =
    ⊎_elim
    (λ (same : q ≡ m). absurd (omega (arith, sym s.is ∙ ap (λ k. get_or text k 0) same ∙ e.is)))
    (λ o. ⊎_elim (λ (lt : q < m). lt) (λ (gt : m < q). absurd (s.run.ends m e.low gt e.is)) o)
    (cases_order q m)

-- the line after a comma of it
onward : (text : List ℕ) (p n m : ℕ) → Past text 44 p n → Ended text p m → Ended text n m
onward text p n m s e = record {
  low = omega (arith, before_end text p (n - 1) m s.stops e, s.follows);
  high = e.high;
  is = e.is;
  first = λ k low high. e.first k (omega (arith, s.stops.run.low, s.follows)) high;
}

-- the line before the rest of it
backward : (text : List ℕ) (p n m : ℕ) → Past text 44 p n → Ended text n m → Ended text p m
backward text p n m s e = record {
  low = omega (arith, s.stops.run.low, s.follows, e.low);
  high = e.high;
  is = e.is;
  first = λ k low high is.
      ⊎_elim
      (λ (same : k ≡ n - 1). absurd (omega (arith, sym is ∙ ap (λ j. get_or text j 0) same ∙ s.stops.is)))
      (λ o. ⊎_elim (λ (lt : k < n - 1). s.stops.run.ends k low lt is) (λ (gt : n - 1 < k). e.first k (omega (arith, s.follows)) high is) o)
      (cases_order k (n - 1));
}

-- a line end that the value meets is the line's
pub line_at : (text : List ℕ) (p m : ℕ) → Stops text 10 p m → Ended text p m
line_at text p m s = record { low = s.run.low; high = s.high; is = s.is; first = s.run.ends }

split : (text : List ℕ) (p q m : ℕ) → Stops text 44 p q → Ended text p m → pieces 44 (between p m text) ≡ between p q text ∷ pieces 44 (between (q + 1) m text)
split text p q m s e = comma_split text p q m s.run.low (before_end text p q m s e) (omega (arith, e.high)) s.run.commas s.is

split_past : (text : List ℕ) (p n m : ℕ) → Past text 44 p n → Ended text p m → pieces 44 (between p m text) ≡ between p (n - 1) text ∷ pieces 44 (between n m text)
split_past text p n m s e = split text p (n - 1) m s.stops e ∙ ap (λ k. between p (n - 1) text ∷ pieces 44 (between k m text)) (sym s.follows)

-- the line from p on does not have n values
abbrev pub NotCount : ℕ → List ℕ → ℕ → Type 0
NotCount n text p = (m : ℕ) → Ended text p m → length (pieces 44 (between p m text)) ≡ n → ⊥

pub one_more : (text after : List ℕ) (p q n : ℕ) → (after ≡ text) × Past text 44 p q → NotCount n after q → NotCount (n + 1) text p
one_more text after p q n s not m e is =
    subst (λ t. NotCount n t q) s.0 not m (onward text p q m s.1 e) (omega (arith, ap length (split_past text p q m s.1 e)))

-- where no comma follows, there is one value
pub no_comma : (text : List ℕ) (p n : ℕ) → (n ≡ 1 → ⊥) → Astray text 44 p → NotCount n text p
no_comma text p n many a m e is =
    let out : m < length text = e.high in
    ⊎_elim
    (λ (end : a.to ≡ length text). a.run.ends m e.low (omega arith) e.is)
    (λ o.
    let newline : get_or text a.to 0 ≡ 10 = ⊎_elim (λ (x : get_or text a.to 0 ≡ 10). x) (λ (x : get_or text a.to 0 ≡ 44). absurd (o.2 x)) o.1 in
    ⊎_elim
    (λ (same : a.to ≡ m).
    let free : Free 44 text p m = subst (λ k. Free 44 text p k) same a.run.commas in
    many (sym is ∙ ap length (comma_none text p m (omega arith) free)))
    (λ u. ⊎_elim (λ (lt : a.to < m). e.first a.to a.run.low lt newline) (λ (gt : m < a.to). a.run.ends m e.low gt e.is) u)
    (cases_order a.to m))
    a.why

-- where no line end follows, there is more than one value
pub no_end : (text : List ℕ) (p : ℕ) → Astray text 10 p → NotCount 1 text p
no_end text p a m e is =
    let out : m < length text = e.high in
    ⊎_elim
    (λ (end : a.to ≡ length text). a.run.ends m e.low (omega arith) e.is)
    (λ o.
    let comma : get_or text a.to 0 ≡ 44 = ⊎_elim (λ (x : get_or text a.to 0 ≡ 10). absurd (o.2 x)) (λ (x : get_or text a.to 0 ≡ 44). x) o.1 in
    let s : Stops text 44 p a.to = record { run = a.run; high = o.0; is = comma } in
    omega (arith, is, ap length (split text p a.to m s e), pieces_some 44 (between (a.to + 1) m text)))
    a.why

-- what holds of 0 to 4 holds below five
below_five : (P : ℕ → Type 0) → P 0 → P 1 → P 2 → P 3 → P 4 → (i : ℕ) → i < 5 → P i
below_five P a b c d e zero h = a
below_five P a b c d e (suc zero) h = b
below_five P a b c d e (suc (suc zero)) h = c
below_five P a b c d e (suc (suc (suc zero))) h = d
below_five P a b c d e (suc (suc (suc (suc zero)))) h = e
below_five P a b c d e (suc (suc (suc (suc (suc i))))) h = absurd (omega arith)

module _ (text : List ℕ) (from p q r s t : ℕ) (a : Past text 44 from p) (b : Past text 44 p q) (c : Past text 44 q r) (d : Past text 44 r s) (e : Past text 10 s t) where
  lines : Ended text s (t - 1) × Ended text r (t - 1) × Ended text q (t - 1) × Ended text p (t - 1) × Ended text from (t - 1)
  lines =
      let e4 = line_at text s (t - 1) e.stops in
      let e3 = backward text r s (t - 1) d e4 in
      let e2 = backward text q r (t - 1) c e3 in
      let e1 = backward text p q (t - 1) b e2 in
      (e4, e3, e2, e1, backward text from p (t - 1) a e1)

  values : pieces 44 (between from (t - 1) text) ≡ between from (p - 1) text ∷ between p (q - 1) text ∷ between q (r - 1) text ∷ between r (s - 1) text ∷ between s (t - 1) text ∷ []
  values =
      split_past text from p (t - 1) a lines.4
      ∙ ap (λ vs. between from (p - 1) text ∷ vs)
      (split_past text p q (t - 1) b lines.3
      ∙ ap (λ vs. between p (q - 1) text ∷ vs)
      (split_past text q r (t - 1) c lines.2
      ∙ ap (λ vs. between q (r - 1) text ∷ vs)
      (split_past text r s (t - 1) d lines.1
      ∙ ap (λ vs. between r (s - 1) text ∷ vs) (comma_none text s (t - 1) (omega (arith, e.stops.high)) e.stops.run.commas))))

  five_starts : Five text (from ∷ p ∷ q ∷ r ∷ s ∷ t ∷ [])
  five_starts = record {
    line = lines.4;
    next = e.follows;
    count = ap length values;
    low = below_five _ a.stops.run.low b.stops.run.low c.stops.run.low d.stops.run.low e.stops.run.low;
    some = below_five _ (omega (arith, a.follows)) (omega (arith, b.follows)) (omega (arith, c.follows)) (omega (arith, d.follows)) (omega (arith, e.follows));
    high = below_five _
        (omega (arith, a.stops.high, a.follows))
        (omega (arith, b.stops.high, b.follows))
        (omega (arith, c.stops.high, c.follows))
        (omega (arith, d.stops.high, d.follows))
        (omega (arith, e.stops.high, e.follows));
    value = below_five _
        (ap (λ vs. get_or vs 0 []) values)
        (ap (λ vs. get_or vs 1 []) values)
        (ap (λ vs. get_or vs 2 []) values)
        (ap (λ vs. get_or vs 3 []) values)
        (ap (λ vs. get_or vs 4 []) values);
  }

-- the same where each rest of the text tells the next
pub five : (text b c d e f : List ℕ) (from p q r s t : ℕ) → (b ≡ text) × Past text 44 from p → (c ≡ b) × Past b 44 p q → (d ≡ c) × Past c 44 q r → (e ≡ d) × Past d 44 r s → (f ≡ e) × Past e 10 s t
    → Five text (from ∷ p ∷ q ∷ r ∷ s ∷ t ∷ [])
five text b c d e f from p q r s t first second third fourth fifth =
    let b-is : b ≡ text = first.0 in
    let c-is : c ≡ text = second.0 ∙ b-is in
    let d-is : d ≡ text = third.0 ∙ c-is in
    let e-is : e ≡ text = fourth.0 ∙ d-is in
    five_starts text from p q r s t first.1
    (subst (λ x. Past x 44 p q) b-is second.1)
    (subst (λ x. Past x 44 q r) c-is third.1)
    (subst (λ x. Past x 44 r s) d-is fourth.1)
    (subst (λ x. Past x 10 s t) e-is fifth.1)
