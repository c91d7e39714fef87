-- One line: its refusal is that of the first check that fails. Assumes nothing.
use Rattle.std.proofs.Common.{◌≡◌, ℕ, ◌+◌, min, Bool, true, false, cond, not, ◌&&◌, ◌||◌, eqb, ltb, leb, List, [], ◌∷◌, length, get_or, ℤ, is_some, Some, None, Ok, Err, codes, Option, Result, sym, refl, ap, ◌∙◌}
use Rattle.std.specs.Str.{bytes_eq}
use Rattle.faults.specs.declared.cause.Cause.{Cause}
use Rattle.faults.specs.declared.cause.Cause.TheVariants.{LineEnd, ColumnNames, ValueCount, UnknownWord, BadNumber, WrongBlank, NoRoom}
use Rattle.operations.specs.declared.code.Code.{Code}
use Rattle.operations.specs.Table.{row, code_of, number_of}
use Rattle.operations.proofs.Words.{word_found}
use Rattle.form.specs.declared.order.Order.{Order}
use Rattle.form.specs.Checks.{first, wrong_blank, bad_number, bad_register, uses_if, column_checks, checks, has, head_checks}
use Rattle.form.specs.Columns.{stands_from, then_in, places, order}
use Rattle.numerals.specs.Numerals.{number_in}
use Rattle.form.specs.Pieces.{pieces}
use Rattle.form.specs.Reading.{chain, or_else, in_registers, register_of, offset_of, operator_of, made, fields_of, operation, heading, entry}
use Rattle.form.specs.Values.{Says, word, number, blank, number_or, says}
use Rattle.form.proofs.Saying.{operator_tells, word_said}

-- the refusal of an answer
abbrev pub cause_of : {A : Type 0} → Result A Cause → Option Cause
cause_of (Ok x) = None
cause_of (Err c) = Some c

cause_check : {A : Type 0} (t : Bool) (c : Cause) (r : Result A Cause) → cause_of (cond t (Err c) r) ≡ cond t (Some c) (cause_of r)
cause_check true c r = refl
cause_check false c r = refl

cause_test : {A : Type 0} (t : Bool) (c : Cause) (r : Result A Cause) → cause_of (cond t r (Err c)) ≡ cond (not t) (Some c) (cause_of r)
cause_test true c r = refl
cause_test false c r = refl

-- the column n, and then the rest
module _ {A : Type 0} (f : ℤ → Result A Cause) (rest : Option Cause) (same : (z : ℤ) → cause_of (f z) ≡ rest) where
  offset_or : (v : List ℕ) (o : Option ℤ) → cause_of (chain (offset_of true (number_or v o)) f) ≡ cond (true && not (is_some o)) (Some BadNumber) rest
  offset_or v None = refl
  offset_or v (Some z) = same z

  offset_unused : (v : List ℕ) (o : Option ℤ) → cause_of (chain (offset_of false (number_or v o)) f) ≡ Some WrongBlank
  offset_unused v None = refl
  offset_unused v (Some z) = refl

  cause_offset : (u : Bool) (v : List ℕ) → cause_of (chain (offset_of u (says v)) f) ≡ cond (wrong_blank u v) (Some WrongBlank) (cond (bad_number u v) (Some BadNumber) rest)
  cause_offset true [] = refl
  cause_offset true (b ∷ bs) = offset_or (b ∷ bs) (number_in (b ∷ bs))
  cause_offset false [] = same _
  cause_offset false (b ∷ bs) = offset_unused (b ∷ bs) (number_in (b ∷ bs))

-- a register's column, and then the rest
module _ {A : Type 0} (f : ℕ → Result A Cause) (rest : Option Cause) (same : (r : ℕ) → cause_of (f r) ≡ rest) where
  register_in_lem : (o : Option ℕ) → cause_of (chain (or_else o BadNumber) f) ≡ cond (true && not (is_some o)) (Some BadNumber) rest
  register_in_lem None = refl
  register_in_lem (Some r) = same r

  register_or : (v : List ℕ) (o : Option ℤ) → cause_of (chain (register_of true (number_or v o)) f) ≡ cond (true && not (is_some (then_in o in_registers))) (Some BadNumber) rest
  register_or v None = refl
  register_or v (Some z) = register_in_lem (in_registers z)

  register_unused : (v : List ℕ) (o : Option ℤ) → cause_of (chain (register_of false (number_or v o)) f) ≡ Some WrongBlank
  register_unused v None = refl
  register_unused v (Some z) = refl

  cause_register : (u : Bool) (v : List ℕ) → cause_of (chain (register_of u (says v)) f) ≡ cond (wrong_blank u v) (Some WrongBlank) (cond (bad_register u v) (Some BadNumber) rest)
  cause_register true [] = refl
  cause_register true (b ∷ bs) = register_or (b ∷ bs) (number_in (b ∷ bs))
  cause_register false [] = same _
  cause_register false (b ∷ bs) = register_unused (b ∷ bs) (number_in (b ∷ bs))

-- the column op goes by the word alone
operator_none : (v : List ℕ) (s : Says) → says v ≡ s → code_of v ≡ None → operator_of s ≡ Err UnknownWord
operator_none v (word w) e h = ap (λ x. or_else (code_of x) UnknownWord) (sym (word_said v w e)) ∙ ap (λ o. or_else o UnknownWord) h
operator_none v (number z) e h = refl
operator_none v blank e h = refl

operator_is : (v : List ℕ) (o : Option Code) → code_of v ≡ o → operator_of (says v) ≡ or_else o UnknownWord
operator_is v None h = operator_none v (says v) refl h
operator_is v (Some c) h = operator_tells v c (word_found v c h)

-- five values
cause_values : (o : Order) (line : ℕ) (vs : List (List ℕ)) (m : Option Code) → code_of (get_or vs o.op []) ≡ m
    → cause_of (operation o line vs)
    ≡ cond (not (is_some m)) (Some UnknownWord) (first (column_checks (uses_if m) (get_or vs o.d []) (get_or vs o.a []) (get_or vs o.b []) (get_or vs o.n [])))
cause_values o line vs None h = ap (λ r. cause_of (chain r (fields_of o line vs))) (operator_is (get_or vs o.op []) None h)
cause_values o line vs (Some c) h =
    ap (λ r. cause_of (chain r (fields_of o line vs))) (operator_is (get_or vs o.op []) (Some c) h)
    ∙ cause_register _ _ (λ d.
    cause_register _ _ (λ a.
    cause_register _ _ (λ b.
    cause_offset (λ n. Ok (made (number_of c) d a b n line)) None (λ n. refl)
    (row c).uses.n (get_or vs o.n []))
    (row c).uses.b (get_or vs o.b []))
    (row c).uses.a (get_or vs o.a []))
    (row c).uses.d (get_or vs o.d [])

-- a later line
pub cause_entry : (o : Order) (room k : ℕ) (l : List ℕ) → cause_of (entry o room k l) ≡ first (checks o room k l)
cause_entry o room k l =
    cause_check (ltb 80 (length l)) LineEnd _
    ∙ ap (λ x. cond (ltb 80 (length l)) (Some LineEnd) x)
    (cause_check (leb (min 512 room) k) NoRoom _
    ∙ ap (λ x. cond (leb (min 512 room) k) (Some NoRoom) x)
    (cause_test (eqb (length (pieces 44 l)) 5) ValueCount _
    ∙ ap (λ x. cond (not (eqb (length (pieces 44 l)) 5)) (Some ValueCount) x)
    (cause_values o (k + 2) (pieces 44 l) (code_of (get_or (pieces 44 l) o.op [])) refl)))

-- the names of the first line
stands_has_by : (w v : List ℕ) (vs : List (List ℕ)) (k : ℕ) → is_some (stands_from (k + 1) w vs) ≡ has w vs → (t : Bool) → is_some (cond t (Some k) (stands_from (k + 1) w vs)) ≡ (t || has w vs)
stands_has_by w v vs k ih true = refl
stands_has_by w v vs k ih false = ih

stands_has : (w : List ℕ) (vs : List (List ℕ)) (k : ℕ) → is_some (stands_from k w vs) ≡ has w vs
stands_has w [] k = refl
stands_has w (v ∷ vs) k = stands_has_by w v vs k (stands_has w vs (k + 1)) (bytes_eq w v)

then_some : {A B : Type 0} (o : Option A) (f : A → Option B) (t rest : Bool) → is_some o ≡ t → ((x : A) → is_some (f x) ≡ rest) → is_some (then_in o f) ≡ (t && rest)
then_some None f t rest e h = ap (λ x. x && rest) e
then_some (Some x) f t rest e h = h x ∙ ap (λ y. y && rest) e

last_some : (o : Option ℕ) (f : ℕ → Order) (t : Bool) → is_some o ≡ t → is_some (then_in o (λ x. Some (f x))) ≡ t
last_some None f t e = e
last_some (Some x) f t e = e

order_named : (vs : List (List ℕ)) → is_some (order vs) ≡ (has (codes "op") vs && (has (codes "d") vs && (has (codes "a") vs && (has (codes "b") vs && has (codes "n") vs))))
order_named vs =
    then_some _ _ _ _ (stands_has (codes "op") vs 0) (λ op.
    then_some _ _ _ _ (stands_has (codes "d") vs 0) (λ d.
    then_some _ _ _ _ (stands_has (codes "a") vs 0) (λ a.
    then_some _ _ _ _ (stands_has (codes "b") vs 0) (λ b.
    last_some (stands_from 0 (codes "n") vs) (λ n. places op d a b n) (has (codes "n") vs) (stands_has (codes "n") vs 0)))))

cause_or : (t : Bool) (o : Option Order) (h : Bool) → is_some o ≡ h → cause_of (cond t (or_else o ColumnNames) (Err ColumnNames)) ≡ cond (not (t && h)) (Some ColumnNames) None
cause_or false o h e = refl
cause_or true None h e = ap (λ x. cond (not x) (Some ColumnNames) None) e
cause_or true (Some y) h e = ap (λ x. cond (not x) (Some ColumnNames) None) e

-- the first line
pub cause_heading : (l : List ℕ) → cause_of (heading l) ≡ first (head_checks l)
cause_heading l =
    cause_check (ltb 80 (length l)) LineEnd _
    ∙ ap (λ x. cond (ltb 80 (length l)) (Some LineEnd) x) (cause_or (eqb (length (pieces 44 l)) 5) (order (pieces 44 l)) _ (order_named (pieces 44 l)))
