-- A line that was cut into five values: what judges it judges the line of the text. Assumes nothing.
use Rattle.std.proofs.Common.{◌≡◌, ℕ, ◌-◌, ◌<◌, ◌≤◌, min, List, length, get_or, Some, None, Ok, Err, Option, Result, MatchOption, MatchResult, IsErrAnd, sym, ap, ◌∙◌, subst, inl, inr, ⊎_elim, arith}
use Rattle.std.specs.List.{between}
use Rattle.std.specs.Option.{ok_or}
use Rattle.std.proofs.lemmas.Bool.{le-ltb, eq-eqb}
use Rattle.std.proofs.lemmas.List.Edits.{length-between}
use Rattle.std.proofs.lemmas.Result.{err_from_is_err_and}
use Rattle.faults.specs.declared.cause.Cause.{Cause}
use Rattle.faults.specs.declared.cause.Cause.TheVariants.{LineEnd, ColumnNames, NoRoom}
use Rattle.form.specs.declared.order.Order.{Order}
use Rattle.form.specs.Columns.{order}
use Rattle.form.specs.Pieces.{pieces}
use Rattle.form.specs.Reading.{or_else, heading, entry}
use Rattle.form.proofs.Steps.{entry_long, entry_full}
use Rattle.text.specs.Lines.{Ended, Five, line_of, Blamed, Passes, Fails}

module _ (text u starts : List ℕ) (from : ℕ) (five : Five u starts) (same : u ≡ text) (at : get_or starts 0 0 ≡ from) where
  line : Ended text from (get_or starts 5 0 - 1)
  line = subst (λ t. Ended t from (get_or starts 5 0 - 1)) same (subst (λ b. Ended u b (get_or starts 5 0 - 1)) at five.line)

  is_line : between from (get_or starts 5 0 - 1) text ≡ line_of u starts
  is_line = sym (ap (λ b. between b (get_or starts 5 0 - 1) u) at ∙ ap (λ t. between from (get_or starts 5 0 - 1) t) same)

  pub passes : {A : Type 0} (judge : List ℕ → Result A Cause) (x : A) (next : ℕ) → next ≡ get_or starts 5 0 → judge (line_of u starts) ≡ Ok x → Passes judge text from x next
  passes judge x next goes e = record { end = get_or starts 5 0 - 1; line = line; goes = goes ∙ five.next; is = ap judge is_line ∙ e }

  pub fails : {A : Type 0} (judge : List ℕ → Result A Cause) (c : Cause) → judge (line_of u starts) ≡ Err c → Fails judge text from c
  fails judge c e = inl (get_or starts 5 0 - 1, line, ap judge is_line ∙ e)

  pub is_short : get_or starts 5 0 - 1 - from ≤ 80 → length (line_of u starts) ≤ 80
  is_short short = let long = length-between u (get_or starts 0 0) (get_or starts 5 0 - 1) (omega (arith, five.line.high)) in omega arith

-- the first line, cut into five
pub heading_made : (l : List ℕ) → length l ≤ 80 → length (pieces 44 l) ≡ 5 → heading l ≡ or_else (order (pieces 44 l)) ColumnNames
heading_made l short five = rw (le-ltb 80 (length l) short, eq-eqb (length (pieces 44 l)) 5 five)

-- an answer, or else a cause
pub answered : {B C : Type 0} (f : B → C) (o : Option B) (q : Option C) (c : Cause) (r : Result B Cause) → MatchOption o (q ≡ None) (λ x. q ≡ Some (f x)) → r ≡ ok_or o c
    → MatchResult r (λ x. or_else q c ≡ Ok (f x)) (λ e. or_else q c ≡ Err e)
answered f None q c r h e = rw e (ap (λ x. or_else x c) h)
answered f (Some x) q c r h e = rw e (ap (λ x. or_else x c) h)

-- a cause that every line of at most 80 bytes gives, unless the line has no end or is too long
module _ (o : Order) (room k : ℕ) (text : List ℕ) (from : ℕ) where
  line_long : (m : ℕ) → Ended text from m → 80 < m - from → entry o room k (between from m text) ≡ Err LineEnd
  line_long m e h = let long = length-between text from m (omega (arith, e.high)) in entry_long o room k _ (omega arith)

  line_full : (m : ℕ) → Ended text from m → m - from ≤ 80 → min 512 room ≤ k → entry o room k (between from m text) ≡ Err NoRoom
  line_full m e short h = let long = length-between text from m (omega (arith, e.high)) in entry_full o room k _ (omega arith) h

  pub blamed_full : (r : Cause) → min 512 room ≤ k → Blamed text from NoRoom r → Fails (entry o room k) text from r
  blamed_full r h b =
      ⊎_elim
      inr
      (λ b'. inl (⊎_elim
      (λ x. (x.0, x.1, line_long x.0 x.1 x.2 ∙ ap Err (sym x.3)))
      (λ x. (x.0, x.1, line_full x.0 x.1 x.2 h ∙ ap Err (sym x.3)))
      b'))
      b

-- a refusal by its cause, told as a fault
pub as_fault : {T E D : Type 0} (P : T → Type 0) (Q : E → Type 0) (R : E → D → Type 0) (r : Result T E) (s : Result T D) → MatchResult r P Q → MatchResult r (λ x. s ≡ Ok x) (λ e. IsErrAnd s (R e)) → MatchResult s P (λ d. (e : E) × Q e × R e d)
as_fault P Q R (Ok x) s h k = rw k h
as_fault P Q R (Err e) s h k = let p = err_from_is_err_and s k in rw p.1 (e, h, p.2)
