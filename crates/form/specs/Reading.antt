-- What reading a text gives, line by line. Assumes nothing.
use Rattle.std.specs.Prelude.{ℕ, ◌+◌, min, Bool, true, false, cond, ◌||◌, List, [], ◌∷◌, ◌++◌, length, drop, ℤ, pos, negsuc, Some, None, Ok, Err, Option, Result, ◌==◌, nat_le, nat_lt, slice_index_or}
use Rattle.faults.specs.declared.cause.Cause.{Cause}
use Rattle.faults.specs.declared.cause.Cause.TheVariants.{TextSize, LineEnd, ColumnNames, ValueCount, UnknownWord, BadNumber, WrongBlank, NoRoom}
use Rattle.faults.specs.declared.fault.Fault.{Fault}
use Rattle.faults.specs.Faults.{fault_at}
use Rattle.operations.specs.declared.code.Code.{Code}
use Rattle.operations.specs.declared.operation.Operation.{Operation}
use Rattle.operations.specs.Table.{row, number_of, code_of}
use Rattle.form.specs.declared.order.Order.{Order}
use Rattle.form.specs.Columns.{order}
use Rattle.form.specs.Pieces.{pieces}
use Rattle.form.specs.Values.{Says, word, number, blank, says}

-- the first refusal, else the next step
abbrev pub chain : {A B E : Type 0} → Result A E → (A → Result B E) → Result B E
chain (Ok x) f = f x
chain (Err e) f = Err e

abbrev pub or_else : {A : Type 0} → Option A → Cause → Result A Cause
or_else (Some x) c = Ok x
or_else None c = Err c

abbrev pub in_registers : ℤ → Option ℕ
in_registers (pos v) = cond (nat_le v 15) (Some v) None
in_registers (negsuc v) = None

-- a column that is used or not, and what stands there: a number, or nothing where it is not used
abbrev pub column_of : Bool → Says → Result (Option ℤ) Cause
column_of true (word w) = Err BadNumber
column_of true (number z) = Ok (Some z)
column_of true blank = Err WrongBlank
column_of false (word w) = Err WrongBlank
column_of false (number z) = Err WrongBlank
column_of false blank = Ok None

abbrev pub register_in : Option ℤ → Result ℕ Cause
register_in None = Ok 0
register_in (Some z) = or_else (in_registers z) BadNumber

abbrev pub offset_in : Option ℤ → Result ℤ Cause
offset_in None = Ok (pos 0)
offset_in (Some z) = Ok z

-- a register's column, and the column n
abbrev pub register_of : Bool → Says → Result ℕ Cause
register_of used s = chain (column_of used s) register_in

abbrev pub offset_of : Bool → Says → Result ℤ Cause
offset_of used s = chain (column_of used s) offset_in

-- the column op
abbrev pub operator_of : Says → Result Code Cause
operator_of (word w) = or_else (code_of w) UnknownWord
operator_of (number z) = Err UnknownWord
operator_of blank = Err UnknownWord

abbrev pub made : ℕ → ℕ → ℕ → ℕ → ℤ → ℕ → Operation
made code d a b n line = record { code = code; d = d; a = a; b = b; n = n; line = line }

-- the four columns after op, for an operation
abbrev pub fields_of : Order → ℕ → List (List ℕ) → Code → Result Operation Cause
fields_of o line vs c =
    chain (register_of (row c).uses.d (says (slice_index_or vs o.d []))) (λ d.
    chain (register_of (row c).uses.a (says (slice_index_or vs o.a []))) (λ a.
    chain (register_of (row c).uses.b (says (slice_index_or vs o.b []))) (λ b.
    chain (offset_of (row c).uses.n (says (slice_index_or vs o.n []))) (λ n.
    Ok (made (number_of c) d a b n line)))))

-- the operation that five values say under an order of the columns
abbrev pub operation : Order → ℕ → List (List ℕ) → Result Operation Cause
operation o line vs = chain (operator_of (says (slice_index_or vs o.op []))) (fields_of o line vs)

-- a line's values are f's concern where there are five of them
abbrev pub with_five : {A : Type 0} → Cause → (List (List ℕ) → Result A Cause) → List ℕ → Result A Cause
with_five c f l = cond (length (pieces 44 l) == 5) (f (pieces 44 l)) (Err c)

-- the first line: at most 80 bytes, five values, and each name among them
abbrev pub heading : List ℕ → Result Order Cause
heading l = cond (nat_lt 80 (length l)) (Err LineEnd) (with_five ColumnNames (λ vs. or_else (order vs) ColumnNames) l)

-- a later line, after k operations
abbrev pub entry : Order → ℕ → ℕ → List ℕ → Result Operation Cause
entry o room k l =
    cond (nat_lt 80 (length l)) (Err LineEnd)
    (cond (nat_le (min 512 room) k) (Err NoRoom)
    (with_five ValueCount (operation o (k + 2)) l))

-- what reading gives: the records written, and the refusal if there is one
pub record Reading : Type 0 where
  pub done : List Operation
  pub found : Option Fault

abbrev pub finished : List Operation → Reading
finished done = record { done = done; found = None }

abbrev pub stopped : List Operation → Cause → ℕ → Reading
stopped done c line = record { done = done; found = Some (fault_at c line) }

-- the lines after the first, the records of those before them being done; what follows the last end is empty
abbrev pub onward : Order → ℕ → List Operation → List (List ℕ) → Reading
onward o room done [] = finished done
onward o room done (l ∷ ls) =
    cond (length ls == 0)
    (cond (length l == 0) (finished done) (stopped done LineEnd (length done + 2)))
    (elim (entry o room (length done) l) [ Ok op ↦ onward o room (done ++ op ∷ []) ls | Err c ↦ stopped done c (length done + 2) ])

-- the lines after a first line that was judged so
abbrev pub headed : ℕ → List (List ℕ) → Result Order Cause → Reading
headed room ls (Ok o) = onward o room [] ls
headed room ls (Err c) = stopped [] c 1

abbrev pub start : ℕ → List (List ℕ) → Reading
start room [] = stopped [] LineEnd 1
start room (l ∷ ls) = cond (length ls == 0) (stopped [] LineEnd 1) (headed room ls (heading l))

-- the reading of a text into a list of so much room
abbrev pub reading : List ℕ → ℕ → Reading
reading text room = cond (length text == 0 || nat_lt 60000 (length text)) (stopped [] TextSize 0) (start room (pieces 10 text))

-- how many were read, or the refusal
abbrev pub answer_of : List Operation → Option Fault → Result ℕ Fault
answer_of done None = Ok (length done)
answer_of done (Some f) = Err f

abbrev pub answer : Reading → Result ℕ Fault
answer r = answer_of r.done r.found

-- the caller's list then: the records written, and the others as they were
abbrev pub list_after : Reading → List Operation → List Operation
list_after r list = r.done ++ drop (length r.done) list
