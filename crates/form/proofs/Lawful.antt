-- One line: the reader takes it exactly where it is in the form. Assumes nothing.
use Rattle.std.proofs.Common.{◌≡◌, ℕ, ◌+◌, ◌<◌, min, Bool, true, false, cond, eqb, ltb, leb, List, [], length, get_or, Some, None, Ok, Err, Option, Result, sym, refl, ap, ◌∙◌, subst, arith}
use Rattle.std.specs.List.{AllByRecursion}
use Rattle.std.proofs.lemmas.Bool.{ltb-false, leb-false, eqb-true, le-ltb, eq-eqb}
use Rattle.faults.specs.declared.cause.Cause.{Cause}
use Rattle.faults.specs.declared.cause.Cause.TheVariants.{ColumnNames}
use Rattle.operations.specs.declared.operation.Operation.{Operation}
use Rattle.operations.specs.Table.{row, number_of}
use Rattle.form.specs.declared.order.Order.{Order}
use Rattle.form.specs.Columns.{order}
use Rattle.form.specs.Form.{parted, Lacks, Clean, Heads, Row, Short}
use Rattle.form.specs.Pieces.{pieces}
use Rattle.form.specs.Reading.{chain, or_else, made, operation, heading, entry}
use Rattle.form.proofs.Steps.{entry_made}
use Rattle.form.proofs.Naming.{heads_told, heads_tell}
use Rattle.form.proofs.Operations.{said}
use Rattle.form.proofs.Parting.{cut_clean, pieces_clean}
use Rattle.form.proofs.Saying.{operator_told, operator_tells, register_told, register_tells, offset_told, offset_tells}

-- what came before an answer
chain_told : {A B E : Type 0} (r : Result A E) (f : A → Result B E) (y : B) → chain r f ≡ Ok y → (x : A) × (r ≡ Ok x) × (f x ≡ Ok y)
chain_told (Ok x) f y h = (x, refl, h)
chain_told (Err e) f y h = let z : ◌≡◌ {A = ℕ} 0 1 = cc in absurd (omega arith)

check_told : {A E : Type 0} (t : Bool) (e : E) (r : Result A E) (y : A) → cond t (Err e) r ≡ Ok y → (t ≡ false) × (r ≡ Ok y)
check_told true e r y h = let z : ◌≡◌ {A = ℕ} 0 1 = cc in absurd (omega arith)
check_told false e r y h = (refl, h)

test_told : {A E : Type 0} (t : Bool) (e : E) (r : Result A E) (y : A) → cond t r (Err e) ≡ Ok y → (t ≡ true) × (r ≡ Ok y)
test_told true e r y h = (refl, h)
test_told false e r y h = let z : ◌≡◌ {A = ℕ} 0 1 = cc in absurd (omega arith)

or_told : {A : Type 0} (o : Option A) (c : Cause) (x : A) → or_else o c ≡ Ok x → o ≡ Some x
or_told None c x h = let z : ◌≡◌ {A = ℕ} 0 1 = cc in absurd (omega arith)
or_told (Some y) c x h = let e : y ≡ x = cc in ap Some e

-- five values that say an operation
row_told : (o : Order) (line : ℕ) (vs : List (List ℕ)) (op : Operation) → length vs ≡ 5 → AllByRecursion Clean vs → operation o line vs ≡ Ok op → Row o line vs op
row_told o line vs op five clean h =
    let p = chain_told _ _ op h in
    let q = chain_told _ _ op p.2 in
    let r = chain_told _ _ op q.2 in
    let s = chain_told _ _ op r.2 in
    let t = chain_told _ _ op s.2 in
    let same : made (number_of p.0) q.0 r.0 s.0 t.0 line ≡ op = let e = t.2 in cc in
    subst (λ x. Row o line vs x) same (record {
      five = five;
      clean = clean;
      code = p.0;
      number = refl;
      word = operator_told (get_or vs o.op []) p.0 p.1;
      d = register_told (row p.0).uses.d (get_or vs o.d []) q.0 q.1;
      a = register_told (row p.0).uses.a (get_or vs o.a []) r.0 r.1;
      b = register_told (row p.0).uses.b (get_or vs o.b []) s.0 s.1;
      n = offset_told (row p.0).uses.n (get_or vs o.n []) t.0 t.1;
      at = refl;
    })

row_tells : (o : Order) (line : ℕ) (vs : List (List ℕ)) (op : Operation) → Row o line vs op → operation o line vs ≡ Ok op
row_tells o line vs op w =
    said o line vs w.code (operator_tells (get_or vs o.op []) w.code w.word) op.d op.a op.b op.n
    (register_tells (row w.code).uses.d (get_or vs o.d []) op.d w.d)
    (register_tells (row w.code).uses.a (get_or vs o.a []) op.a w.a)
    (register_tells (row w.code).uses.b (get_or vs o.b []) op.b w.b)
    (offset_tells (row w.code).uses.n (get_or vs o.n []) op.n w.n)
    ∙ ap (λ k. Ok (made k op.d op.a op.b op.n line)) (sym w.number)
    ∙ ap (λ k. Ok (made op.code op.d op.a op.b op.n k)) (sym w.at)

-- a line that the reader takes for an operation
pub entry_told : (o : Order) (room k : ℕ) (l : List ℕ) (op : Operation) → Lacks 10 l → entry o room k l ≡ Ok op → Short l × (k < min 512 room) × Row o (k + 2) (pieces 44 l) op
entry_told o room k l op lacks h =
    let p = check_told (ltb 80 (length l)) _ _ op h in
    let q = check_told (leb (min 512 room) k) _ _ op p.1 in
    let r = test_told (eqb (length (pieces 44 l)) 5) _ _ op q.1 in
    (ltb-false 80 (length l) p.0, leb-false (min 512 room) k q.0, row_told o (k + 2) (pieces 44 l) op (eqb-true _ _ r.0) (pieces_clean l lacks) r.1)

pub entry_tells : (o : Order) (room k : ℕ) (vs : List (List ℕ)) (op : Operation) → Row o (k + 2) vs op → Short (parted vs) → k < min 512 room → entry o room k (parted vs) ≡ Ok op
entry_tells o room k vs op w short fits =
    let cut = cut_clean vs (omega (arith, w.five)) w.clean in
    entry_made o room k (parted vs) short fits (ap length cut ∙ w.five)
    ∙ ap (operation o (k + 2)) cut
    ∙ row_tells o (k + 2) vs op w

-- a first line that the reader takes
pub heading_told : (l : List ℕ) (o : Order) → Lacks 10 l → heading l ≡ Ok o → Short l × Heads o (pieces 44 l)
heading_told l o lacks h =
    let p = check_told (ltb 80 (length l)) _ _ o h in
    let q = test_told (eqb (length (pieces 44 l)) 5) _ _ o p.1 in
    (ltb-false 80 (length l) p.0, heads_told (pieces 44 l) o (eqb-true _ _ q.0) (pieces_clean l lacks) (or_told (order (pieces 44 l)) ColumnNames o q.1))

pub heading_tells : (vs : List (List ℕ)) (o : Order) → Heads o vs → Short (parted vs) → heading (parted vs) ≡ Ok o
heading_tells vs o w short =
    let cut = cut_clean vs (omega (arith, w.five)) w.clean in
    let found = heads_tell vs o w in
    rw (le-ltb 80 (length (parted vs)) short, cut, eq-eqb (length vs) 5 w.five, found)
